-- Tallies of the values of columns, sample by sample.
use Rattle.std.proofs.Common.{◌≡◌, ◌≢◌, ℕ, zero, suc, ◌+◌, ◌<◌, ◌⊎◌, ◌==◌, true, false, List, [], ◌∷◌, ◌++◌, length, slice_get, slice_set, get_or, take, drop, Option, Some, None, refl, sym, ap, subst, ◌∙◌, arith, inl, inr}
use Rattle.std.specs.Prelude.{All, IfSome, option_map, reverse}
use Rattle.std.proofs.lemmas.Bool.Decides.{eqb_tells}
use Rattle.std.proofs.lemmas.List.{length-set}
use Rattle.std.proofs.lemmas.Option.{get_or_from_slice_get, slice_get-get_or, slice_get-map, slice_get_within}
use Rattle.std.proofs.Math.Seq.{take-append_seam}
use Rattle.sample_tables.proofs.RowLemmas.{reverse-push}
use Rattle.sample_tables.proofs.TallyLemmas.{get_same}
use Rattle.copy_plan.specs.Config.{ListPlan}
use Rattle.daq_reader.specs.Recorded.{Recorded}
use Rattle.measured_values.specs.Tallies.{IsTally}
use Rattle.measured_values.specs.declared.tally.Tally.{Tally}
use Rattle.value_tables.specs.ValueTallies.{AreTallies, Notes, NotesFirst, NotesIn, numbers_of}
use Rattle.value_tables.specs.Values.{source_for, sources_for}
use Rattle.value_tables.specs.declared.column.Column.{Column}
use Rattle.value_tables.specs.declared.source.Source.{Source}

-- another element stays
set_other : {X : Type 0} (xs : List X) (i j : ℕ) (x : X) → j ≢ i → slice_get (slice_set xs i x) j ≡ slice_get xs j
set_other [] i j x other = refl
set_other (y ∷ xs) zero zero x other = absurd (other refl)
set_other (y ∷ xs) zero (suc j) x other = refl
set_other (y ∷ xs) (suc i) zero x other = refl
set_other (y ∷ xs) (suc i) (suc j) x other = set_other xs i j x (λ e. other (ap suc e))

same_notes : (r : Recorded) (a column : Column) (s source : Option Source) (b before n now : Tally) → a ≡ column → s ≡ source → b ≡ before → n ≡ now → Notes r column source before now → Notes r a s b n
same_notes r a column s source b before n now p q u v notes = rw (p, q, u, v) notes

-- one tally more
pub notes_more : (r : Recorded) (columns : List Column) (sources : List (Option Source)) (old mid : List Tally) (c : ℕ) (column : Column) (source : Option Source) (before now : Tally)
    → c < length mid → slice_get columns c ≡ Some column → slice_get sources c ≡ Some source → slice_get mid c ≡ Some before
    → NotesFirst r columns sources c old mid → Notes r column source before now → NotesFirst r columns sources (c + 1) old (slice_set mid c now)
notes_more r columns sources old mid c column source before now within at of was has notes = record {
  all = length-set mid c now ∙ has.all;
  each = λ i a s b n below its its_source its_old its_new. by_place i a s b n below its its_source its_old its_new (eqb_tells i c);
  others = λ i past. set_other mid c i now (λ (e : i ≡ c). omega (arith, past, e)) ∙ has.others i (omega (arith, past));
}
  where
    by_place : (i : ℕ) (a : Column) (s : Option Source) (b n : Tally) → i < c + 1 → slice_get columns i ≡ Some a → slice_get sources i ≡ Some s → slice_get old i ≡ Some b
        → slice_get (slice_set mid c now) i ≡ Some n → (((i == c) ≡ true) × (i ≡ c)) ⊎ (((i == c) ≡ false) × (i ≢ c)) → Notes r a s b n
    by_place i a s b n below its its_source its_old its_new (inl v) =
        let here : i ≡ c = v.1 in
        let same_column : a ≡ column = cc in
        let same_source : s ≡ source = cc in
        let kept : slice_get mid c ≡ slice_get old c = has.others c (omega arith) in
        let same_old : b ≡ before = cc in
        let put : slice_get (slice_set mid c now) c ≡ Some now = get_same mid c now within in
        let same_new : n ≡ now = cc in
        same_notes r a column s source b before n now same_column same_source same_old same_new notes
    by_place i a s b n below its its_source its_old its_new (inr v) =
        has.each i a s b n (omega (arith, below, v.1)) its its_source its_old (sym (set_other mid c i now v.1) ∙ its_new)

-- with the sources of a list, they have noted its samples
pub notes_in : (r : Recorded) (columns : List Column) (plan : ListPlan) (old now : List Tally) → NotesFirst r columns (sources_for columns plan) (length old) old now → NotesIn r columns (Some plan) old now
notes_in r columns plan old now has i column before after at was is =
    has.each i column (source_for plan column) before after (slice_get_within old i before was) at (slice_get-map (source_for plan) columns i ∙ ap (option_map (source_for plan)) at) was is

-- the numbers of one sample more
pub tallies_more : (plans : List ListPlan) (columns : List Column) (samples : List (ℕ × Recorded)) (place : ℕ) (r : Recorded) (old now : List Tally) → length now ≡ length old
    → AreTallies plans columns (reverse samples) old → NotesIn r columns (slice_get plans place) old now → AreTallies plans columns (reverse (samples ++ (place, r) ∷ [])) now
tallies_more plans columns samples place r old now all are notes =
    subst (λ (ss : List (ℕ × Recorded)). AreTallies plans columns ss now) (sym (reverse-push samples (place, r)))
    (λ i column tally at is.
    let within : i < length old = omega (arith, all, slice_get_within now i tally is) in
    let was = slice_get-get_or old i tally within in
    notes i column (get_or old i tally) tally at was is (numbers_of plans column (reverse samples)) (are i column (get_or old i tally) at was))

-- the tally of a column, if there is one
pub tally_there : (plans : List ListPlan) (columns : List Column) (earlier : List (ℕ × Recorded)) (tallies : List Tally) (c : ℕ) (o : Option Tally) → o ≡ slice_get tallies c → AreTallies plans columns earlier tallies
    → IfSome o (λ tally. (column : Column) → slice_get columns c ≡ Some column → IsTally tally (numbers_of plans column earlier))
tally_there plans columns earlier tallies c None is are = tt
tally_there plans columns earlier tallies c (Some tally) is are = λ column at. are c column tally at (sym is)

-- what was written through a slice is what stands there
pub written_back : {X : Type 0} (n : ℕ) (new old : List X) → length new ≡ n → take n (new ++ drop (length new) old) ≡ new
written_back n new old all = subst (λ k. take k (new ++ drop (length new) old) ≡ new) all (take-append_seam new (drop (length new) old))

-- before the first sample a tally has no values
pub none_tallied : (plans : List ListPlan) (columns : List Column) (tallies : List Tally) → All (λ t. IsTally t []) tallies → AreTallies plans columns [] tallies
none_tallied plans columns tallies none i column tally of its =
    subst (λ t. IsTally t []) (get_or_from_slice_get tallies i tally tally its) (none i tally (slice_get_within tallies i tally its))
