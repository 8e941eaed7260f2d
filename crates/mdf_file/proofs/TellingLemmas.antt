-- What a file that is ended tells.
use Rattle.std.proofs.Common.{◌≡◌, ◌∙◌, ℕ, ◌+◌, ◌<◌, List, [], ◌∷◌, ◌++◌, All, Option, None, Some}
use Rattle.std.proofs.Common.{IfSome, append-nil, append_assoc, ap, arith, drop, length}
use Rattle.std.proofs.Common.{length-append, map, refl, subst, sym}
use lib.Seq.{drop-append_seam}
use Rattle.std.proofs.lemmas.List.{map_push}
use Rattle.std.proofs.lemmas.List.Elements.{All-head, All-nil, All-pop}
use Rattle.std.specs.Io.KnownBytes.{append_known}
use Rattle.std.specs.List.{concat}
use Rattle.mdf_blocks.specs.Tables.{id_block}
use Rattle.mdf_blocks.specs.Told.{AreListed, TellsFile, ToldFile, ToldGroup}
use Rattle.mdf_file.specs.Adding.{Says}
use Rattle.mdf_file.specs.Ending.{AreOf, HoldRecords, told_group}
use Rattle.mdf_file.specs.Outs.{write_over}
use Rattle.mdf_file.specs.Standing.{AllHold, IsBegun, IsEmpty, IsHandled, IsStanding, in_blocks, seen}
use Rattle.mdf_file.specs.Writing.{IsToldBy, WrittenGroup, told_groups, told_if_any}
use Rattle.mdf_file.specs.Writing.{told_written_group, unfinished}
use Rattle.mdf_file.specs.declared.open_group.OpenGroup.{OpenGroup}
use Rattle.mdf_file.specs.declared.streamed_group.StreamedGroup.{StreamedGroup}

told_groups-push : (gs : List WrittenGroup) (g : WrittenGroup)
    → told_groups (gs ++ g ∷ []) ≡ told_groups gs ++ told_if_any g.records (told_written_group g)
told_groups-push [] g = append-nil (told_if_any g.records (told_written_group g))
told_groups-push (x ∷ gs) g =
    let one : List ToldGroup = told_if_any x.records (told_written_group x) in
    ap (λ (ts : List ToldGroup). one ++ ts) (told_groups-push gs g)
    ∙ sym (append_assoc one (told_groups gs) (told_if_any g.records (told_written_group g)))

are_of-push : (gs : List StreamedGroup) (told : List ToldGroup) (g : StreamedGroup)
    (t : ToldGroup) → AreOf gs told → t ≡ told_group g t.records → length t.records ≡ g.len
    → AreOf (gs ++ g ∷ []) (told ++ t ∷ [])
are_of-push [] [] g t are is long = (is, long, refl)
are_of-push [] (x ∷ told) g t are is long = absurd cc
are_of-push (x ∷ gs) [] g t are is long = absurd are
are_of-push (x ∷ gs) (y ∷ told) g t are is long =
    (are.0, are.1, are_of-push gs told g t are.2 is long)

hold-push : (bytes : List ℕ) (gs : List StreamedGroup) (told : List ToldGroup)
    (g : StreamedGroup) (t : ToldGroup) → AreOf gs told → HoldRecords bytes gs told
    → AreListed bytes 0 g.blocks.items t.records
    → HoldRecords bytes (gs ++ g ∷ []) (told ++ t ∷ [])
hold-push bytes [] [] g t are held listed = (listed, tt)
hold-push bytes [] (x ∷ told) g t are held listed = absurd cc
hold-push bytes (x ∷ gs) [] g t are held listed = absurd held
hold-push bytes (x ∷ gs) (y ∷ told) g t are held listed =
    (held.0, hold-push bytes gs told g t are.2 held.1 listed)

-- those of some groups that have records
pub record AreThose (gs : List OpenGroup) (out : List StreamedGroup) : Type 0 where
  pub are : AreOf out (told_groups (map seen gs))
  pub hold : (bytes : List ℕ) → AllHold gs bytes
      → HoldRecords bytes out (told_groups (map seen gs))

pub none_are : AreThose [] []
none_are = record { are = refl; hold = λ bytes all. tt }

-- all records of a group stand in blocks, if none waits
all_in_blocks : (g : OpenGroup) → IsHandled g → IsEmpty g → concat g.log.records ≡ in_blocks g
all_in_blocks g h none =
    h.joined ∙ ap (λ (bs : List ℕ). in_blocks g ++ bs) none ∙ append-nil (in_blocks g)

no_more : (gs : List OpenGroup) (g : OpenGroup) (out new : List StreamedGroup)
    → [] ≡ g.log.records → AreThose gs out → new ≡ out → AreThose (gs ++ g ∷ []) new
no_more gs g out new none those is =
    let same : told_groups (map seen gs) ≡ told_groups (map seen (gs ++ g ∷ [])) =
    sym (ap told_groups (map_push seen gs g) ∙ told_groups-push (map seen gs) (seen g)
    ∙ ap (λ (rs : List (List ℕ)). told_groups (map seen gs)
    ++ told_if_any rs (told_written_group (seen g))) (sym none)
    ∙ append-nil (told_groups (map seen gs))) in
    record {
      are = subst (λ (os : List StreamedGroup). AreOf os
          (told_groups (map seen (gs ++ g ∷ [])))) (sym is)
          (subst (λ (ts : List ToldGroup). AreOf out ts) same those.are);
      hold = λ bytes all. subst (λ (os : List StreamedGroup). HoldRecords bytes os
          (told_groups (map seen (gs ++ g ∷ [])))) (sym is)
          (subst (λ (ts : List ToldGroup). HoldRecords bytes out ts) same
          (those.hold bytes
          (All-pop (λ (x : OpenGroup). AreListed bytes 0 x.told.blocks.items (in_blocks x))
          (gs ++ g ∷ []) gs (Some g) refl all).0));
    }

one_more : (gs : List OpenGroup) (g : OpenGroup) (out new : List StreamedGroup) (r : List ℕ)
    (rs : List (List ℕ)) → r ∷ rs ≡ g.log.records → IsHandled g → IsEmpty g → AreThose gs out
    → new ≡ out ++ g.told ∷ [] → AreThose (gs ++ g ∷ []) new
one_more gs g out new r rs some h none those is =
    let t : ToldGroup = told_written_group (seen g) in
    let whole : concat g.log.records ≡ in_blocks g = all_in_blocks g h none in
    let same : told_groups (map seen gs) ++ t ∷ [] ≡ told_groups (map seen (gs ++ g ∷ [])) =
    sym (ap told_groups (map_push seen gs g) ∙ told_groups-push (map seen gs) (seen g)
    ∙ ap (λ (xs : List (List ℕ)). told_groups (map seen gs) ++ told_if_any xs t) (sym some)) in
    record {
      are = subst (λ (os : List StreamedGroup). AreOf os
          (told_groups (map seen (gs ++ g ∷ [])))) (sym is)
          (subst (λ (ts : List ToldGroup). AreOf (out ++ g.told ∷ []) ts) same
          (are_of-push out (told_groups (map seen gs)) g.told t those.are refl
          (ap length whole ∙ h.long)));
      hold = λ bytes all.
          let parts = All-pop
          (λ (x : OpenGroup). AreListed bytes 0 x.told.blocks.items (in_blocks x))
          (gs ++ g ∷ []) gs (Some g) refl all in
          subst (λ (os : List StreamedGroup). HoldRecords bytes os
          (told_groups (map seen (gs ++ g ∷ [])))) (sym is)
          (subst (λ (ts : List ToldGroup). HoldRecords bytes (out ++ g.told ∷ []) ts) same
          (hold-push bytes out (told_groups (map seen gs)) g.told t those.are
          (those.hold bytes parts.0)
          (subst (λ (bs : List ℕ). AreListed bytes 0 g.told.blocks.items bs) (sym whole)
          parts.1)));
    }

more : (gs : List OpenGroup) (g : OpenGroup) (out new : List StreamedGroup)
    (rs : List (List ℕ)) → rs ≡ g.log.records → IsHandled g → IsEmpty g → AreThose gs out
    → (g.told.len ≡ 0 → new ≡ out) → (0 < g.told.len → new ≡ out ++ g.told ∷ [])
    → AreThose (gs ++ g ∷ []) new
more gs g out new [] is h none those zero some =
    let nothing : length (in_blocks g) ≡ 0 =
    ap length (sym (all_in_blocks g h none))
    ∙ ap (λ (rs : List (List ℕ)). length (concat rs)) (sym is) in
    no_more gs g out new is those (zero (omega (arith, nothing, h.long)))
more gs g out new (r ∷ rs) is h none those zero some =
    let first : 0 < length r =
    All-head (λ x. 0 < length x) r rs
    (subst (λ (xs : List (List ℕ)). All (λ x. 0 < length x) xs) (sym is) h.none_empty) in
    let long : length (in_blocks g) ≡ length (concat (r ∷ rs)) =
    ap length (sym (all_in_blocks g h none))
    ∙ ap (λ (xs : List (List ℕ)). length (concat xs)) (sym is) in
    let has : 0 < g.told.len =
    omega (arith, first, long, h.long, length-append r (concat rs)) in
    one_more gs g out new r rs is h none those (some has)

-- one group more was looked at
pub those_more : (gs : List OpenGroup) (g : OpenGroup) (out new : List StreamedGroup)
    → (All IsHandled gs → All IsEmpty gs → AreThose gs out) → (g.told.len ≡ 0 → new ≡ out)
    → (0 < g.told.len → new ≡ out ++ g.told ∷ []) → All IsHandled (gs ++ g ∷ [])
    → All IsEmpty (gs ++ g ∷ []) → AreThose (gs ++ g ∷ []) new
those_more gs g out new those zero some handled none =
    let hs = All-pop IsHandled (gs ++ g ∷ []) gs (Some g) refl handled in
    let es = All-pop IsEmpty (gs ++ g ∷ []) gs (Some g) refl none in
    more gs g out new g.log.records refl hs.1 es.1 (those hs.0 es.0) zero some

-- what a file begins with was written
pub begin_stands : (known known2 : Option (List ℕ)) (front program header : List ℕ)
    → IfSome known (λ bytes. bytes ≡ []) → known2 ≡ append_known known front
    → length program ≡ 8 → front ≡ id_block unfinished program ++ header → length front ≡ 168
    → IsStanding known2 168 []
begin_stands known known2 front program header none is program_long front_is long = record {
  far = omega arith;
  aligned = refl;
  handled = All-nil IsHandled;
  begun = subst (λ (k : Option (List ℕ)). IfSome k (λ bytes. IsBegun bytes 168 [])) (sym is)
      (begun known none);
}
  where
    begun : (known : Option (List ℕ)) → IfSome known (λ bytes. bytes ≡ [])
        → IfSome (append_known known front) (λ bytes. IsBegun bytes 168 [])
    begun None none = tt
    begun (Some bytes) none = record {
      program = program;
      header = header;
      before = [];
      is = ap (λ (bs : List ℕ). bs ++ front) none ∙ front_is
          ∙ sym (append-nil (id_block unfinished program ++ header));
      program_long = program_long;
      front_long = ap length (sym front_is) ∙ long;
      reaches = refl;
      held = λ front2 back long2. All-nil _;
    }

-- the end was appended, and the front written over
pub end_tells : (known known1 known2 : Option (List ℕ)) (place : ℕ) (gs : List OpenGroup)
    (front behind : List ℕ) (told : ToldFile) → known1 ≡ append_known known behind
    → known2 ≡ write_over front known1 → length front ≡ 168 → IsStanding known place gs
    → ((before : List ℕ) → 168 + length before ≡ place → Says 168 before (AllHold gs)
    → TellsFile (front ++ before ++ behind) told)
    → IsToldBy known known2 told
end_tells None known1 known2 place gs front behind told one two long s tells = tt
end_tells (Some bytes) known1 known2 place gs front behind told one two long s tells =
    let b : IsBegun bytes place gs = s.begun in
    let begin : List ℕ = id_block unfinished b.program ++ b.header in
    let rest : List ℕ = b.before ++ behind in
    let all : bytes ++ behind ≡ begin ++ rest =
    ap (λ (bs : List ℕ). bs ++ behind) b.is ∙ append_assoc begin b.before behind in
    let over : drop (length front) (bytes ++ behind) ≡ rest =
    ap (λ (bs : List ℕ). drop (length front) bs) all
    ∙ ap (λ (n : ℕ). drop n (begin ++ rest)) (long ∙ sym b.front_long)
    ∙ drop-append_seam begin rest in
    let is : known2 ≡ Some (front ++ rest) =
    two ∙ ap (write_over front) one ∙ ap (λ (bs : List ℕ). Some (front ++ bs)) over in
    subst (λ (k : Option (List ℕ)). IsToldBy (Some bytes) k told) (sym is)
    (subst (λ (bs : List ℕ). TellsFile bs told) (append_assoc front b.before behind)
    (tells b.before b.reaches b.held))
