-- The rows of values, sample by sample.
use Rattle.std.proofs.Common.{◌≡◌, ℕ, List, [], ◌∷◌, ◌++◌, Option, Some, None, Result, Ok, Err, Bor, refl, sym, ap, subst, ◌∙◌, append-nil, append_assoc}
use Rattle.std.proofs.lemmas.Bool.{false≢true}
use Rattle.std.proofs.lemmas.Option.{get_or_from_slice_get, slice_get_within}
use Rattle.std.specs.Option.{option_copied}
use Rattle.std.specs.Prelude.{All, IfSome, IsOk, OnOk, reverse, slice_get}
use Rattle.std.specs.Io.KnownBytes.{Appends, append_known}
use Rattle.std.proofs.KnownBytes.{Appends-trans}
use Rattle.csv.specs.Writing.{row_text, text_written, writer_pending, writer_under}
use Rattle.csv.specs.declared.writer.Writer.{Writer}
use Rattle.copy_plan.specs.Config.{ListPlan}
use Rattle.daq_reader.specs.Recorded.{Recorded}
use Rattle.measured_values.specs.declared.tick.Tick.{Tick}
use Rattle.sample_tables.specs.Rows.{IsBetweenRows, rfc_4180}
use Rattle.sample_tables.specs.Spots.{spot_of}
use Rattle.sample_tables.specs.declared.spot.Spot.{Spot}
use Rattle.sample_tables.proofs.RowLemmas.{begins, reverse-push}
use Rattle.value_tables.specs.Lists.{HasSources}
use Rattle.value_tables.specs.ValueRows.{AreRows, HasCsv, IsCsv, IsRowIn, heads}
use Rattle.value_tables.specs.declared.column.Column.{Column}
use Rattle.value_tables.specs.declared.list_columns.ListColumns.{ListColumns}

-- the names of the columns alone
pub heads_alone : {W : Type 0} (contents : W → Option (List ℕ)) (tick : Option Tick) (columns : List Column) (plans : List ListPlan) (out : W) (first named : Writer W)
    → writer_under first ≡ out → writer_pending first ≡ [] → Appends (text_written contents first) (text_written contents named) (row_text rfc_4180 (heads tick columns))
    → IsBetweenRows named → HasCsv contents tick columns plans (contents out) [] named
heads_alone contents tick columns plans out first named under pending text between =
    let names = row_text rfc_4180 (heads tick columns) in
    let at = subst (λ w. Appends (append_known (contents w) (writer_pending first)) (text_written contents named) names) under text in
    let none = subst (λ bs. Appends (append_known (contents out) bs) (text_written contents named) names) pending at in
    record {
      between = between;
      text = names ++ [];
      is = ([], refl, refl);
      written = subst (λ t. Appends (contents out) (text_written contents named) t) (sym (append-nil names)) (begins (contents out) (text_written contents named) names none);
    }

-- if the sample is of no list, it has no row
same_row : (tick : Option Tick) (columns : List Column) (o : Option ListPlan) (at there : Spot) (r : Recorded) (row : List ℕ)
    → ((plan : ListPlan) → o ≡ Some plan → at ≡ there) → IsRowIn tick columns o at r row → IsRowIn tick columns o there r row
same_row tick columns None at there r row h is = is
same_row tick columns (Some plan) at there r row h is = subst (λ s. IsRowIn tick columns (Some plan) s r row) (h plan refl) is

-- the row of one sample more
pub row_more : {W : Type 0} (contents : W → Option (List ℕ)) (tick : Option Tick) (columns : List Column) (plans : List ListPlan) (start : Option (List ℕ)) (samples : List (ℕ × Recorded)) (place : ℕ) (r : Recorded) (at : Spot) (before now : Writer W)
    → HasCsv contents tick columns plans start samples before
    → ((plan : ListPlan) → slice_get plans place ≡ Some plan → at ≡ spot_of plans (reverse samples) place r)
    → ((row : List ℕ) × IsRowIn tick columns (slice_get plans place) at r row × Appends (text_written contents before) (text_written contents now) row)
    → IsBetweenRows now → HasCsv contents tick columns plans start (samples ++ (place, r) ∷ []) now
row_more contents tick columns plans start samples place r at before now has stands (row, is, text) between =
    let earlier = reverse samples in
    let here = same_row tick columns (slice_get plans place) at (spot_of plans earlier place r) r row stands is in
    let rows = has.is.0 in
    let head = row_text rfc_4180 (heads tick columns) in
    let all : AreRows tick columns plans ((place, r) ∷ earlier) (rows ++ row) = (rows, row, has.is.1, here, refl) in
    let csv : IsCsv tick columns plans (samples ++ (place, r) ∷ []) (has.text ++ row) = (
      rows ++ row,
      subst (λ (ss : List (ℕ × Recorded)). AreRows tick columns plans ss (rows ++ row)) (sym (reverse-push samples (place, r))) all,
      ap (λ t. t ++ row) has.is.2 ∙ append_assoc head rows row,
    ) in
    record {
      between = between;
      text = has.text ++ row;
      is = csv;
      written = Appends-trans start (text_written contents before) (text_written contents now) _ _ has.written text;
    }

-- nothing failed
pub none_left : {X : Type 0} (o : Option X) → ((x : X) → o ≡ Some x → ⊥) → o ≡ None
none_left None h = refl
none_left (Some x) h = absurd (h x refl)

-- what a success promises
pub succeeded : {T E : Type 0} (r : Result T E) (P : Type 0) → IsOk r → OnOk r P → P
succeeded (Ok x) P ok promise = promise
succeeded (Err e) P ok promise = absurd (false≢true ok)

-- the list at a place, if there is one, knows its sources
pub sources_at : (columns : List Column) (lists : List ListColumns) (place : ℕ) (list : Option (Bor ListColumns))
    → option_copied list ≡ slice_get lists place → All (HasSources columns) lists → IfSome list (λ l. HasSources columns l.now)
sources_at columns lists place None at all = tt
sources_at columns lists place (Some l) at all =
    subst (HasSources columns) (get_or_from_slice_get lists place l.now l.now (sym at))
    (all place l.now (slice_get_within lists place l.now (sym at)))
