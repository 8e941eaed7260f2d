-- The groups of a measurement file, each with the records of its list's samples.
use Rattle.std.proofs.Common.{◌≡◌, ◌∙◌, ◌⊎◌, inl, inr, ℕ, zero, suc, ◌==◌, Bool, true, false, cond, List, [], ◌∷◌, ◌++◌, Option, Some, None, refl, sym, ap, subst, arith, append-nil, length, length-append, length-set, set}
use Rattle.std.specs.Prelude.{slice_get}
use Rattle.std.proofs.lemmas.Bool.Decides.{eqb_tells}
use Rattle.copy_plan.specs.Config.{ListPlan}
use Rattle.daq_reader.specs.Recorded.{Recorded}
use Rattle.measured_values.specs.declared.tick.Tick.{Tick}
use Rattle.mdf_file.specs.Writing.{HasMore, WrittenGroup, with_record}
use Rattle.mdf_groups.specs.Files.{AddsGroup, AddsSample, FileOf, group_name, new_group}
use Rattle.mdf_groups.specs.Records.{FormOf, record_of}
use Rattle.mdf_groups.specs.declared.own_value.OwnValue.{OwnValue}
use Rattle.mdf_groups.specs.declared.record_time.RecordTime.{RecordTime}
use Rattle.recording.specs.Measured.{HasGroup, HaveGroups, IsGroupOf, front_of, mark_of, placed_in, record_behind, records_of, time_of}
use Rattle.sample_tables.specs.Spots.{spot_of}
use Rattle.value_tables.specs.Places.{joined, sample_len}
use Rattle.value_tables.specs.declared.column.Column.{Column}

-- elements of a list with one more
of_front : {X : Type 0} (xs ys : List X) (i : ℕ) (x : X) → slice_get xs i ≡ Some x → slice_get (xs ++ ys) i ≡ Some x
of_front [] ys i x h = absurd (cc)
of_front (z ∷ xs) ys zero x h = h
of_front (z ∷ xs) ys (suc i) x h = of_front xs ys i x h

of_last : {X : Type 0} (xs : List X) (y : X) (i : ℕ) → i ≡ length xs → slice_get (xs ++ y ∷ []) i ≡ Some y
of_last [] y zero h = refl
of_last [] y (suc i) h = absurd (omega (arith, h))
of_last (z ∷ xs) y zero h = absurd (omega (arith, h))
of_last (z ∷ xs) y (suc i) h = of_last xs y i (omega (arith, h))

of_either : {X : Type 0} (xs : List X) (y : X) (i : ℕ) (x : X) → slice_get (xs ++ y ∷ []) i ≡ Some x → (slice_get xs i ≡ Some x) ⊎ ((i ≡ length xs) × (y ≡ x))
of_either [] y zero x h = inr (refl, cc)
of_either [] y (suc i) x h = absurd (cc)
of_either (z ∷ xs) y zero x h = inl h
of_either (z ∷ xs) y (suc i) x h = elim (of_either xs y i x h) [
  | inl e ↦ inl e
  | inr v ↦ inr (ap suc v.0, v.1)
]

-- elements of a list in which one was set
of_set : {X : Type 0} (xs : List X) (i : ℕ) (x y : X) → slice_get xs i ≡ Some x → slice_get (set xs i y) i ≡ Some y
of_set [] i x y h = absurd (cc)
of_set (z ∷ xs) zero x y h = refl
of_set (z ∷ xs) (suc i) x y h = of_set xs i x y h

of_others : {X : Type 0} (xs : List X) (i k : ℕ) (y : X) → (i ≡ k → ⊥) → slice_get (set xs i y) k ≡ slice_get xs k
of_others [] i k y h = refl
of_others (z ∷ xs) zero zero y h = absurd (h refl)
of_others (z ∷ xs) zero (suc k) y h = refl
of_others (z ∷ xs) (suc i) zero y h = refl
of_others (z ∷ xs) (suc i) (suc k) y h = of_others xs i k y (λ e. h (ap suc e))

-- what another list has at a place that one of that length has
of_as_many : {X Y : Type 0} (xs : List X) (ys : List Y) (i : ℕ) (x : X) → length xs ≡ length ys → slice_get xs i ≡ Some x → (y : Y) × (slice_get ys i ≡ Some y)
of_as_many [] ys i x long h = absurd (cc)
of_as_many (z ∷ xs) [] i x long h = absurd (omega (arith, long))
of_as_many (z ∷ xs) (y ∷ ys) zero x long h = (y, refl)
of_as_many (z ∷ xs) (y ∷ ys) (suc i) x long h = of_as_many xs ys i x (omega (arith, long)) h

some_same : {X : Type 0} (o : Option X) (x y : X) → o ≡ Some x → o ≡ Some y → x ≡ y
some_same None x y one two = absurd (cc)
some_same (Some z) x y one two = cc

-- no list has no group
pub no_groups : (tick : Option Tick) (columns : List Column) (forms : List FormOf) (groups : List WrittenGroup) → forms ≡ [] → groups ≡ [] → HaveGroups tick columns [] [] forms groups
no_groups tick columns forms groups no_forms none = record {
  all_forms = ap length no_forms;
  all = ap length none;
  each = λ place plan h. absurd (cc);
}

-- the groups of one list more, before any sample
pub list_more : (tick : Option Tick) (columns : List Column) (plans : List ListPlan) (plan : ListPlan) (old new : FileOf)
    → HaveGroups tick columns plans [] old.forms old.file.groups
    → AddsGroup old new (group_name plan.list plan.channel) (front_of tick plan) (sample_len plan) (placed_in plan columns)
    → HaveGroups tick columns (plans ++ plan ∷ []) [] new.forms new.file.groups
list_more tick columns plans plan old new has adds = record {
  all_forms = ap length adds.adds.forms ∙ omega (arith, has.all_forms, length-append old.forms (adds.form ∷ []), length-append plans (plan ∷ []));
  all = ap length adds.adds.group.groups ∙ omega (arith, has.all, length-append old.file.groups (group ∷ []), length-append plans (plan ∷ []));
  each = λ place q h. elim (of_either plans plan place q h) [
    | inl there ↦ before place q (has.each place q there)
    | inr v ↦ subst (λ (p : ListPlan). HasGroup tick columns (plans ++ plan ∷ []) [] place p new.forms new.file.groups) v.1 (last place v.0)
  ];
}
  where
    group : WrittenGroup
    group = new_group (group_name plan.list plan.channel) adds.channels adds.form

    before : (place : ℕ) (q : ListPlan) → HasGroup tick columns plans [] place q old.forms old.file.groups → HasGroup tick columns (plans ++ plan ∷ []) [] place q new.forms new.file.groups
    before place q g = record {
      form = g.form;
      has_form = ap (λ fs. slice_get fs place) adds.adds.forms ∙ of_front old.forms (adds.form ∷ []) place g.form g.has_form;
      group = g.group;
      there = ap (λ gs. slice_get gs place) adds.adds.group.groups ∙ of_front old.file.groups (group ∷ []) place g.group g.there;
      is = record {
        name = g.is.name;
        is_form = g.is.is_form;
        are_channels = g.is.are_channels;
        size = g.is.size;
        records = g.is.records;
      };
    }

    last : (place : ℕ) → place ≡ length plans → HasGroup tick columns (plans ++ plan ∷ []) [] place plan new.forms new.file.groups
    last place at = record {
      form = adds.form;
      has_form = ap (λ fs. slice_get fs place) adds.adds.forms ∙ of_last old.forms adds.form place (at ∙ sym has.all_forms);
      group = group;
      there = ap (λ gs. slice_get gs place) adds.adds.group.groups ∙ of_last old.file.groups group place (at ∙ sym has.all);
      is = record {
        name = refl;
        is_form = adds.is_form;
        are_channels = adds.are_channels;
        size = refl;
        records = refl;
      };
    }

-- the records of the list at a place, if the next sample is one of it, and if not
one_more : (tick : Option Tick) (columns : List Column) (plans : List ListPlan) (earlier : List (ℕ × Recorded)) (from place : ℕ) (r : Recorded) (plan : ListPlan) (form : FormOf) (group : WrittenGroup) (bytes : List ℕ)
    → (from == place) ≡ true → bytes ≡ record_behind tick plans form.own earlier place r
    → IsGroupOf tick columns plans earlier place plan form group → IsGroupOf tick columns plans ((from, r) ∷ earlier) place plan form (with_record group bytes)
one_more tick columns plans earlier from place r plan form group bytes own is g =
    let had = records_of tick plans form.own place earlier in
    record {
      name = g.name;
      is_form = g.is_form;
      are_channels = g.are_channels;
      size = g.size;
      records = ap (λ (rs : List (List ℕ)). rs ++ bytes ∷ []) g.records
          ∙ ap (λ (b : List ℕ). had ++ b ∷ []) is
          ∙ ap (λ (b : Bool). had ++ cond b (record_behind tick plans form.own earlier place r ∷ []) []) (sym own);
    }

no_more : (tick : Option Tick) (columns : List Column) (plans : List ListPlan) (earlier : List (ℕ × Recorded)) (from place : ℕ) (r : Recorded) (plan : ListPlan) (form : FormOf) (group : WrittenGroup)
    → (from == place) ≡ false → IsGroupOf tick columns plans earlier place plan form group → IsGroupOf tick columns plans ((from, r) ∷ earlier) place plan form group
no_more tick columns plans earlier from place r plan form group other g =
    let had = records_of tick plans form.own place earlier in
    record {
      name = g.name;
      is_form = g.is_form;
      are_channels = g.are_channels;
      size = g.size;
      records = g.records ∙ sym (append-nil had)
          ∙ ap (λ (b : Bool). had ++ cond b (record_behind tick plans form.own earlier place r ∷ []) []) (sym other);
    }

-- the records of one sample more
pub sample_more : (tick : Option Tick) (columns : List Column) (plans : List ListPlan) (earlier : List (ℕ × Recorded)) (from : ℕ) (r : Recorded) (at : RecordTime) (old new : FileOf)
    → HaveGroups tick columns plans earlier old.forms old.file.groups
    → ((plan : ListPlan) → slice_get plans from ≡ Some plan → at ≡ time_of tick (spot_of plans earlier from r).time)
    → AddsSample old new from at (mark_of r.overload) (joined r)
    → HaveGroups tick columns plans ((from, r) ∷ earlier) new.forms new.file.groups
sample_more tick columns plans earlier from r at old new has stands adds = record {
  all_forms = ap length adds.forms ∙ has.all_forms;
  all = ap length more.gains ∙ length-set old.file.groups from (with_record more.to bytes) ∙ has.all;
  each = λ place plan h. elim (eqb_tells from place) [
    | inl v ↦ here place plan v.0 v.1 (has.each place plan h)
    | inr v ↦ there place plan v.0 v.1 (has.each place plan h)
  ];
}
  where
    bytes : List ℕ
    bytes = record_of adds.form.own at (mark_of r.overload) (joined r)

    more : HasMore old.file.groups new.file.groups from bytes
    more = adds.gains.groups

    time : at ≡ time_of tick (spot_of plans earlier from r).time
    time =
        let list = of_as_many old.forms plans from adds.form has.all_forms adds.there in
        stands list.0 list.1

    record_is : (own : List OwnValue) (place : ℕ) → adds.form.own ≡ own → from ≡ place → bytes ≡ record_behind tick plans own earlier place r
    record_is own place is same =
        ap (λ (t : RecordTime). record_of adds.form.own t (mark_of r.overload) (joined r)) time
        ∙ ap (λ (vs : List OwnValue). record_behind tick plans vs earlier from r) is
        ∙ ap (λ (p : ℕ). record_behind tick plans own earlier p r) same

    here : (place : ℕ) (plan : ListPlan) → (from == place) ≡ true → from ≡ place → HasGroup tick columns plans earlier place plan old.forms old.file.groups → HasGroup tick columns plans ((from, r) ∷ earlier) place plan new.forms new.file.groups
    here place plan own same g =
        let form : adds.form ≡ g.form = some_same (slice_get old.forms place) adds.form g.form (subst (λ p. slice_get old.forms p ≡ Some adds.form) same adds.there) g.has_form in
        let to : more.to ≡ g.group = some_same (slice_get old.file.groups place) more.to g.group (subst (λ p. slice_get old.file.groups p ≡ Some more.to) same more.there) g.there in
        record {
          form = g.form;
          has_form = ap (λ fs. slice_get fs place) adds.forms ∙ g.has_form;
          group = with_record g.group bytes;
          there = ap (λ gs. slice_get gs place) more.gains
              ∙ ap (λ p. slice_get (set old.file.groups p (with_record more.to bytes)) place) same
              ∙ of_set old.file.groups place g.group (with_record more.to bytes) g.there
              ∙ ap (λ (w : WrittenGroup). Some (with_record w bytes)) to;
          is = one_more tick columns plans earlier from place r plan g.form g.group bytes own (record_is g.form.own place (ap (λ (f : FormOf). f.own) form) same) g.is;
        }

    there : (place : ℕ) (plan : ListPlan) → (from == place) ≡ false → (from ≡ place → ⊥) → HasGroup tick columns plans earlier place plan old.forms old.file.groups → HasGroup tick columns plans ((from, r) ∷ earlier) place plan new.forms new.file.groups
    there place plan other apart g = record {
      form = g.form;
      has_form = ap (λ fs. slice_get fs place) adds.forms ∙ g.has_form;
      group = g.group;
      there = ap (λ gs. slice_get gs place) more.gains ∙ of_others old.file.groups from place (with_record more.to bytes) apart ∙ g.there;
      is = no_more tick columns plans earlier from place r plan g.form g.group other g.is;
    }
