-- What becomes of a file with the forms of its records, where the file itself takes or refuses.
use Rattle.std.proofs.Common.{◌≡◌, ◌<◌, ◌++◌, ◌∙◌, ℕ, zero, suc, List, [], ◌∷◌, Option, None, Some}
use Rattle.std.proofs.Common.{Result, Ok, Err, IfSome, ap, arith, get_or, inl, inr, length, refl}
use Rattle.std.proofs.Common.{slice_get, subst, sym}
use Rattle.mdf_file.specs.Writing.{GainsRecord, HasFailed, Written, first_fault}
use Rattle.mdf_file.specs.declared.mdf_fault.MdfFault.{MdfFault}
use Rattle.mdf_groups.specs.Files.{FileOf, IsRefused}
use Rattle.mdf_groups.specs.Records.{FormOf}
use Rattle.mdf_groups.specs.declared.group_fault.GroupFault.{GroupFault}
use Rattle.mdf_groups.specs.declared.group_fault.GroupFault.TheVariants.{File, Record}
use Rattle.mdf_groups.specs.declared.record_fault.RecordFault.{RecordFault}

-- who refuses nothing has not failed
pub unfailed : (failed later : Option MdfFault) → first_fault failed later ≡ None → failed ≡ None
unfailed None later is = refl
unfailed (Some fault) later is = is

form_at : (forms : List FormOf) (group : ℕ) (form : FormOf) → group < length forms
    → form ≡ get_or forms group form → slice_get forms group ≡ Some form
form_at [] group form within is = absurd (omega arith)
form_at (f ∷ fs) zero form within is = ap Some (sym is)
form_at (f ∷ fs) (suc i) form within is = form_at fs i form (omega arith) is

-- the form of a group that is there
pub form_there : (forms seen : List FormOf) (group : ℕ) (form : FormOf) → seen ≡ forms
    → group < length seen → form ≡ get_or seen group form → slice_get forms group ≡ Some form
form_there forms seen group form same within is =
    subst (λ (fs : List FormOf). slice_get fs group ≡ Some form) same
    (form_at seen group form within is)

pub not_there : (forms : List FormOf) (group : ℕ) (form : FormOf)
    → slice_get forms group ≡ Some form → slice_get forms group ≡ None → ⊥
not_there forms group form there none = absurd cc

-- the record of a sample, by way of a buffer that was empty
pub record_gained : (file file' : Written) (group : ℕ) (empty buffer bytes one : List ℕ)
    → empty ≡ [] → buffer ≡ empty ++ one → bytes ≡ buffer → GainsRecord file file' group bytes
    → GainsRecord file file' group one
record_gained file file' group empty buffer bytes one none filled same gains =
    subst (GainsRecord file file' group)
    (same ∙ filled ∙ ap (λ (zs : List ℕ). zs ++ one) none) gains

-- kinds of results that differ
pub ok_is_no_fault : {T : Type 0} (x : T) (fault : GroupFault)
    → ◌≡◌ {A = Result T GroupFault} (Ok x) (Err fault) → ⊥
ok_is_no_fault x fault is = absurd cc

pub file_is_no_record : (T : Type 0) (a : MdfFault) (b : RecordFault)
    → ◌≡◌ {A = Result T GroupFault} (Err (File a)) (Err (Record b)) → ⊥
file_is_no_record T a b is = absurd cc

pub same_fault : (T : Type 0) (a b : RecordFault)
    → ◌≡◌ {A = Result T GroupFault} (Err (Record a)) (Err (Record b))
    → ◌≡◌ {A = Result T RecordFault} (Err a) (Err b)
same_fault T a b is = cc

-- the same file with the same forms
pub same_file : (file file' : Written) (forms forms' : List FormOf) → file' ≡ file
    → forms' ≡ forms
    → ◌≡◌ {A = FileOf} (record { file = file'; forms = forms' })
    (record { file = file; forms = forms })
same_file file file' forms forms' is are = rw (is, are) refl

-- a fault of the file: it refused, or failed by it
pub refused_or_failed : (T : Type 0) (file file' : Written) (forms forms' : List FormOf)
    (refusal : Option MdfFault) (fault : MdfFault) → forms' ≡ forms
    → IfSome refusal (λ f. (◌≡◌ {A = Result T MdfFault} (Err fault) (Err f)) × (file' ≡ file))
    → (refusal ≡ None → HasFailed file file' fault)
    → IsRefused (record { file = file; forms = forms }) (record { file = file'; forms = forms' })
    (File fault)
refused_or_failed T file file' forms forms' None fault same refused failed =
    inr (record { reason = fault; is_reason = refl; fails = failed refl; forms = same })
refused_or_failed T file file' forms forms' (Some f) fault same refused failed =
    inl (same_file file file' forms forms' refused.1 same)
