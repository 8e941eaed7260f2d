-- The cells of a row, column by column.
use Rattle.std.proofs.Common.{◌≡◌, ℕ, zero, suc, ◌+◌, ◌-◌, ◌^◌, ◌<◌, ◌≤◌, Bool, List, [], ◌∷◌, ◌++◌, length, length-append, map, take, slice_get, Option, Some, refl, sym, ap, subst, ◌∙◌, arith, append_assoc, add-one}
use Rattle.std.proofs.lemmas.List.{length-map, map-append}
use Rattle.std.specs.Prelude.{zip}
use Rattle.std.specs.List.{AllZip}
use Rattle.std.specs.Fmt.{decimal}
use Rattle.std.specs.Io.KnownBytes.{Appends}
use Rattle.csv.specs.Writing.{row_text, text_written}
use Rattle.csv.specs.declared.writer.Writer.{Writer}
use Rattle.measured_values.specs.declared.tick.Tick.{Tick}
use Rattle.sample_tables.specs.Rows.{one_or_zero, rfc_4180}
use Rattle.sample_tables.specs.declared.spot.Spot.{Spot}
use Rattle.copy_plan.specs.Config.{ListPlan}
use Rattle.daq_reader.specs.Recorded.{Recorded}
use Rattle.value_tables.specs.Fields.{HasFieldMore, HasFields}
use Rattle.value_tables.specs.ValueRows.{HasCells, HasNames, IsRow, IsTime, head_of}
use Rattle.value_tables.specs.Values.{IsCell, IsCellAt, IsCellOf, raw_at, sources_for}
use Rattle.value_tables.specs.declared.column.Column.{Column}
use Rattle.value_tables.specs.declared.source.Source.{Source}

-- one pair more
pub all_zip-push : {X Y : Type 0} (R : X → Y → Type 0) (xs : List X) (ys : List Y) (x : X) (y : Y) → AllZip R xs ys → R x y → AllZip R (xs ++ x ∷ []) (ys ++ y ∷ [])
all_zip-push R [] [] x y all here = (here, tt)
all_zip-push R [] (z ∷ ys) x y all here = absurd all
all_zip-push R (w ∷ xs) [] x y all here = absurd all
all_zip-push R (w ∷ xs) (z ∷ ys) x y all here = (all.0, all_zip-push R xs ys x y all.1 here)

-- they are as many
all_zip-length : {X Y : Type 0} (R : X → Y → Type 0) (xs : List X) (ys : List Y) → AllZip R xs ys → length xs ≡ length ys
all_zip-length R [] [] all = refl
all_zip-length R [] (y ∷ ys) all = absurd all
all_zip-length R (x ∷ xs) [] all = absurd all
all_zip-length R (x ∷ xs) (y ∷ ys) all = ap suc (all_zip-length R xs ys all.1)

-- the first elements, and one more
pub take-more : {X : Type 0} (xs : List X) (i : ℕ) (x : X) → slice_get xs i ≡ Some x → take (suc i) xs ≡ take i xs ++ x ∷ []
take-more [] i x h = absurd (cc)
take-more (y ∷ xs) zero x h =
    let is : y ≡ x = cc in
    ap (λ z. z ∷ []) is
take-more (y ∷ xs) (suc i) x h = ap (λ t. y ∷ t) (take-more xs i x h)

zip-more : {X Y : Type 0} (xs : List X) (ys : List Y) (i : ℕ) (x : X) (y : Y) → slice_get xs i ≡ Some x → slice_get ys i ≡ Some y
    → zip (take (suc i) xs) (take (suc i) ys) ≡ zip (take i xs) (take i ys) ++ (x, y) ∷ []
zip-more [] ys i x y h k = absurd (cc)
zip-more (w ∷ xs) [] i x y h k = absurd (cc)
zip-more (w ∷ xs) (z ∷ ys) zero x y h k =
    let is : w ≡ x = cc in
    let its : z ≡ y = cc in
    ap (λ v. (v, z) ∷ []) is ∙ ap (λ v. (x, v) ∷ []) its
zip-more (w ∷ xs) (z ∷ ys) (suc i) x y h k = ap (λ t. (w, z) ∷ t) (zip-more xs ys i x y h k)

length-zip : {X Y : Type 0} (xs : List X) (ys : List Y) → length (zip xs ys) ≤ length xs
length-zip [] ys = omega arith
length-zip (x ∷ xs) [] = omega arith
length-zip (x ∷ xs) (y ∷ ys) = omega (arith, length-zip xs ys)

-- a cell more
pub cells_more : {W : Type 0} (contents : W → Option (List ℕ)) (old mid now : Writer W) (r : Recorded) (columns : List Column) (sources : List (Option Source)) (i : ℕ) (column : Column) (source : Option Source) (text : List ℕ)
    → slice_get columns i ≡ Some column → slice_get sources i ≡ Some source → HasCells contents old mid r (take i columns) (take i sources)
    → IsCellOf column (raw_at r column source) text → HasFieldMore contents mid now text → HasCells contents old now r (take (i + 1) columns) (take (i + 1) sources)
cells_more contents old mid now r columns sources i column source text at of has cell more =
    rw add-one (λ before fields begun few.
    let count : length (take (suc i) columns) ≡ length (take i columns) + 1 = ap length (take-more columns i column at) ∙ length-append (take i columns) (column ∷ []) in
    let so_far = has before fields begun (omega (arith, few, count)) in
    let as_many = all_zip-length (IsCellAt r) (zip (take i columns) (take i sources)) so_far.0 so_far.1 in
    let room : length (fields ++ so_far.0) < 2 ^ 64 - 1 = omega (arith, few, count, as_many, length-append fields so_far.0, length-zip (take i columns) (take i sources)) in (
      so_far.0 ++ text ∷ [],
      subst (λ ps. AllZip (IsCellAt r) ps (so_far.0 ++ text ∷ [])) (sym (zip-more columns sources i column source at of))
          (all_zip-push (IsCellAt r) (zip (take i columns) (take i sources)) so_far.0 (column, source) text so_far.1 cell),
      subst (λ fs. HasFields contents before fs now) (append_assoc fields so_far.0 (text ∷ [])) (more before (fields ++ so_far.0) so_far.2 room),
    ))

-- with the sources of a list, the cells are those of its samples
pub cells_in : (plan : ListPlan) (r : Recorded) (columns : List Column) (cells : List (List ℕ)) → AllZip (IsCellAt r) (zip columns (sources_for columns plan)) cells → AllZip (IsCell plan r) columns cells
cells_in plan r [] [] all = tt
cells_in plan r [] (x ∷ cells) all = absurd all
cells_in plan r (column ∷ columns) [] all = absurd all
cells_in plan r (column ∷ columns) (x ∷ cells) all = (all.0, cells_in plan r columns cells all.1)

-- a name more
pub names_more : {W : Type 0} (contents : W → Option (List ℕ)) (old mid now : Writer W) (columns : List Column) (i : ℕ) (column : Column)
    → slice_get columns i ≡ Some column → HasNames contents old mid (take i columns) → HasFieldMore contents mid now (head_of column) → HasNames contents old now (take (i + 1) columns)
names_more contents old mid now columns i column at has more =
    rw add-one (λ before fields begun few.
    let front = take i columns in
    let is = take-more columns i column at in
    let count : length (take (suc i) columns) ≡ length front + 1 = ap length is ∙ length-append front (column ∷ []) in
    let so_far = has before fields begun (omega (arith, few, count)) in
    let as_many : length (map head_of front) ≡ length front = length-map front head_of in
    let room : length (fields ++ map head_of front) < 2 ^ 64 - 1 = omega (arith, few, count, as_many, length-append fields (map head_of front)) in
    let joined = append_assoc fields (map head_of front) (head_of column ∷ []) in
    let all : map head_of (take (suc i) columns) ≡ map head_of front ++ head_of column ∷ [] = ap (map head_of) is ∙ map-append head_of front (column ∷ []) in
    subst (λ fs. HasFields contents before fs now) (joined ∙ ap (λ ns. fields ++ ns) (sym all)) (more before (fields ++ map head_of front) so_far room))

-- a whole row: its front and its cells; its end is still to be written
pub row_is : {W : Type 0} (contents : W → Option (List ℕ)) (old front behind : Writer W) (tick : Option Tick) (columns : List Column) (plan : ListPlan) (at : Spot) (r : Recorded) (l : ℕ) (mark : Bool) → l ≡ plan.list → mark ≡ r.overload
    → ((time : List ℕ) × IsTime tick at.time time × HasFields contents (text_written contents old) (time ∷ decimal l ∷ one_or_zero mark ∷ []) front)
    → HasCells contents front behind r columns (sources_for columns plan) → length columns < 2 ^ 63
    → (fields : List (List ℕ)) × HasFields contents (text_written contents old) fields behind × (2 ≤ length fields)
    × ((now : Writer W) → Appends (text_written contents old) (text_written contents now) (row_text rfc_4180 fields)
    → (text : List ℕ) × IsRow tick columns plan at r text × Appends (text_written contents old) (text_written contents now) text)
row_is contents old front behind tick columns plan at r l mark its_list its_mark (time, is, head) has few =
    let three = time ∷ decimal plan.list ∷ one_or_zero r.overload ∷ [] in
    let same : time ∷ decimal l ∷ one_or_zero mark ∷ [] ≡ three = ap (λ (n : ℕ). time ∷ decimal n ∷ one_or_zero mark ∷ []) its_list ∙ ap (λ b. time ∷ decimal plan.list ∷ one_or_zero b ∷ []) its_mark in
    let begun = subst (λ fs. HasFields contents (text_written contents old) fs front) same head in
    let cells = has (text_written contents old) three begun (omega (arith, few)) in (
      three ++ cells.0,
      cells.2,
      omega arith,
      λ now end. (
        row_text rfc_4180 (three ++ cells.0),
        record { time = time; cells = cells.0; is_time = is; are_cells = cells_in plan r columns cells.0 cells.1; row = refl },
        end,
      ),
    )
