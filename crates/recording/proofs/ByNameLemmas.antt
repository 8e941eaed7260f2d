-- What is shown by name of a recording that was read to its end.
use Rattle.std.proofs.Common.{◌≡◌, ◌⊎◌, inl, inr, ℕ, List, [], ◌∷◌, length, Option, arith, refl, subst, sym}
use Rattle.std.specs.List.{AllZip}
use Rattle.std.specs.Option.{option_copied}
use Rattle.copy_plan.specs.Config.{ListPlan}
use Rattle.daq_reader.specs.Lists.{plans_of}
use Rattle.daq_reader.specs.Reading.{Reading}
use Rattle.value_tables.specs.Columns.{AreColumns, HasChosen}
use Rattle.value_tables.specs.Holders.{lists_hold}
use Rattle.value_tables.specs.declared.column.Column.{Column}
use Rattle.recording.specs.ByName.{IsByName, IsFaultOfValues, ShowsByName}
use Rattle.recording.specs.Shown.{ShowsBy}
use Rattle.recording.specs.Stops.{IsFaultOfSamples}
use Rattle.recording.specs.declared.mode.Mode.{Mode}
use Rattle.recording.specs.declared.piece.Piece.{Piece}
use Rattle.recording.specs.declared.recording_fault.RecordingFault.{RecordingFault}
use Rattle.recording.specs.declared.recording_fault.RecordingFault.TheVariants.{Memory, NoValue}
use Rattle.recording.specs.declared.values.Values.{Values}

-- these columns, for the lists whose shapes they were chosen for, in the way that was asked for
pub by_name : (values : Values) (mode : Mode) (plans : List ListPlan) (lists : List Reading)
    (input rest : Option (List ℕ)) (first last : Piece) (before after : Option (List ℕ))
    (columns : List Column)
    → plans ≡ plans_of lists
    → AreColumns values.description.now (lists_hold plans) (option_copied values.only) columns
    → HasChosen values.description.now (lists_hold plans) (option_copied values.only) → mode ≡ values.mode
    → ShowsBy (IsByName mode values.tick columns before after) lists input rest first last
    → ShowsByName values lists input rest first last before after
by_name values mode plans lists input rest first last before after cs of are chosen asked shows =
    let d = values.description.now in
    let only = option_copied values.only in
    let Is = λ (m : Mode). IsByName m values.tick cs before after in
    let Shows = λ (m : Mode). ShowsBy (Is m) lists input rest first last in
    record {
      columns = cs;
      are = subst (λ (ps : List ListPlan). AreColumns d (lists_hold ps) only cs) of are;
      chosen = subst (λ (ps : List ListPlan). HasChosen d (lists_hold ps) only) of chosen;
      shows = subst Shows asked shows;
    }

-- where what is chosen isn't there, no columns are
pub has_chosen : (values : Values) (plans : List ListPlan) (lists : List Reading) {P : Type 0}
    → plans ≡ plans_of lists
    → HasChosen values.description.now (lists_hold plans) (option_copied values.only)
    → ¬ HasChosen values.description.now (lists_hold (plans_of lists)) (option_copied values.only) → P
has_chosen values plans lists of chosen lacks =
    let d = values.description.now in
    let only = option_copied values.only in
    absurd (lacks (subst (λ (ps : List ListPlan). HasChosen d (lists_hold ps) only) of chosen))

-- without columns, no measurement is shown
pub none_of : {A B : Type 0} (R : A → B → Type 0) (xs : List A) (ys : List B)
    → AllZip R xs ys → length ys ≡ 0 → xs ≡ []
none_of R [] ys all none = refl
none_of R (x ∷ xs) [] all none = absurd all
none_of R (x ∷ xs) (y ∷ ys) all none = absurd (omega (arith, none))

-- without columns, no measurement that is chosen is there
pub no_columns : (values : Values) (plans : List ListPlan) (lists : List Reading)
    (input rest : Option (List ℕ)) (first last : Piece) (fault : RecordingFault)
    → plans ≡ plans_of lists → (fault ≡ NoValue) ⊎ (fault ≡ Memory)
    → (fault ≡ NoValue → ¬ HasChosen values.description.now (lists_hold plans) (option_copied values.only))
    → IsFaultOfValues values lists input rest first last fault
no_columns values plans lists input rest first last fault of one lacks =
    let d = values.description.now in
    let only = option_copied values.only in
    let IsSo = λ (f : RecordingFault). IsFaultOfValues values lists input rest first last f in
    elim one [
      | inl none ↦ subst IsSo (sym none) (subst (λ (ps : List ListPlan). ¬ HasChosen d (lists_hold ps) only) of (lacks none))
      | inr memory ↦ subst IsSo (sym memory) tt
    ]

-- a fault of samples is one of values
pub as_values : (values : Values) (lists : List Reading) (input rest : Option (List ℕ))
    (first last : Piece) (fault : RecordingFault)
    → IsFaultOfSamples lists input rest first last fault
    → IsFaultOfValues values lists input rest first last fault
as_values values lists input rest first last NoValue h = absurd h
as_values values lists input rest first last fault h = h
