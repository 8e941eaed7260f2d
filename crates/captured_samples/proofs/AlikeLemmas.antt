-- A test that tells lists that are read alike from others.
use Rattle.std.proofs.Common.{◌≡◌, ℕ, List, refl, ap, Bool, true, false, Option, Some, None}
use Rattle.std.proofs.Common.{◌&&◌, ◌==◌}
use Rattle.std.specs.Bool.{Decides}
use Rattle.std.specs.Cmp.{booleans_Decides}
use Rattle.std.specs.Cmp.Lexicographic.{pointwise}
use Rattle.std.proofs.lemmas.Bool.Decides.{Decides-and, Decides-eqb, Decides-like}
use Rattle.std.proofs.lemmas.Slice.Eq.{slice_eq-Decides}
use Rattle.captured_session.proofs.SameForms.{has_same, is_same, same_field, same_order}
use Rattle.captured_session.specs.Alike.{ReadsAlike, SamePids}
use Rattle.captured_session.specs.Lists.{ListOf}
use Rattle.captured_session.specs.declared.element.Element.{Element}
use Rattle.captured_session.specs.declared.form.Form.{Form}
use Rattle.captured_session.specs.declared.id_field.IdField.{IdField}
use Rattle.captured_session.specs.declared.id_field.IdField.TheVariants.{Absolute, RelativeByte, RelativeWord, RelativeWordAligned}
use Rattle.captured_session.specs.declared.list_mode.ListMode.{ListMode}
use Rattle.captured_samples.specs.Stream.{AlwaysStarts}

-- a test of two values
record Test {A : Type 0} (a b : A) : Type 0 where
  is : Bool
  tells : Decides is (a ≡ b)

-- how packets look
form_test : (a b : Form) → Test a b
form_test a b = record {
  is = _;
  tells = Decides-like _ (is_same a b) (has_same a b)
      (Decides-and _ _ (booleans_Decides a.has_order b.has_order) (Decides-and _ _ (same_order a.order b.order)
      (Decides-and _ _ (Decides-eqb a.granularity b.granularity) (Decides-and _ _ (booleans_Decides a.has_field b.has_field)
      (Decides-and _ _ (same_field a.field b.field) (Decides-and _ _ (booleans_Decides a.has_overload b.has_overload)
      (Decides-and _ _ (booleans_Decides a.has_stamp b.has_stamp)
      (Decides-and _ _ (Decides-eqb a.stamp b.stamp) (Decides-eqb a.ticks b.ticks)))))))));
}

-- the mode of a list
mode_test : (a b : ListMode) → Test a b
mode_test a b = record {
  is = _;
  tells = Decides-like _
      (λ (h : (a.bits ≡ b.bits) × ((a.channel ≡ b.channel) × (a.prescaler ≡ b.prescaler))).
      λ i. record { bits = h.0 i; channel = h.1.0 i; prescaler = h.1.1 i })
      (λ (e : a ≡ b). (ap (λ (m : ListMode). m.bits) e, (ap (λ (m : ListMode). m.channel) e, ap (λ (m : ListMode). m.prescaler) e)))
      (Decides-and _ _ (Decides-eqb a.bits b.bits)
      (Decides-and _ _ (Decides-eqb a.channel b.channel) (Decides-eqb a.prescaler b.prescaler)));
}

-- its entries
abbrev element_is : Element → Element → Bool
element_is a b = (a.bit == b.bit) && ((a.size == b.size) && ((a.extension == b.extension) && (a.address == b.address)))

element_tells : (a b : Element) → Decides (element_is a b) (a ≡ b)
element_tells a b = Decides-like _
    (λ (h : (a.bit ≡ b.bit) × ((a.size ≡ b.size) × ((a.extension ≡ b.extension) × (a.address ≡ b.address)))).
    λ i. record { bit = h.0 i; size = h.1.0 i; extension = h.1.1.0 i; address = h.1.1.1 i })
    (λ (e : a ≡ b). (
      ap (λ (x : Element). x.bit) e,
      (
        ap (λ (x : Element). x.size) e,
        (ap (λ (x : Element). x.extension) e, ap (λ (x : Element). x.address) e),
      ),
    ))
    (Decides-and _ _ (Decides-eqb a.bit b.bit) (Decides-and _ _ (Decides-eqb a.size b.size)
    (Decides-and _ _ (Decides-eqb a.extension b.extension) (Decides-eqb a.address b.address))))

abbrev entries_are : List Element → List Element → Bool
entries_are = pointwise element_is

entries_tell : (a b : List Element) → Decides (entries_are a b) (a ≡ b)
entries_tell a b = slice_eq-Decides element_tells a b (entries_are a b) refl

abbrev odts_are : List (List Element) → List (List Element) → Bool
odts_are = pointwise entries_are

odts_tell : (a b : List (List Element)) → Decides (odts_are a b) (a ≡ b)
odts_tell a b = slice_eq-Decides entries_tell a b (odts_are a b) refl

-- its PIDs
abbrev pid_is : Option ℕ → Option ℕ → Bool
pid_is None None = true
pid_is (Some a) (Some b) = a == b
pid_is _ _ = false

some-same : (a b : ℕ) → ◌≡◌ {A = Option ℕ} (Some a) (Some b) → a ≡ b
some-same a b e = cc

pid_tells : (a b : Option ℕ) → Decides (pid_is a b) (a ≡ b)
pid_tells None None = (λ e. refl, λ e. refl)
pid_tells (Some a) (Some b) = Decides-like _ (λ (e : a ≡ b). ap (λ (n : ℕ). Some n) e) (some-same a b) (Decides-eqb a b)
pid_tells None (Some b) = (λ e. absurd cc, λ e. absurd cc)
pid_tells (Some a) None = (λ e. absurd cc, λ e. absurd cc)

abbrev pids_are : IdField → Option ℕ → Option ℕ → Bool
pids_are Absolute a b = pid_is a b
pids_are _ a b = true

pids_tell : (field : IdField) (a b : Option ℕ) → Decides (pids_are field a b) (SamePids field a b)
pids_tell Absolute a b = pid_tells a b
pids_tell RelativeByte a b = (λ e. tt, λ e. refl)
pids_tell RelativeWord a b = (λ e. tt, λ e. refl)
pids_tell RelativeWordAligned a b = (λ e. tt, λ e. refl)

-- the whole list
abbrev lists_are : ListOf → ListOf → Bool
lists_are a b =
    (a.list == b.list) && ((form_test a.form b.form).is && ((mode_test a.mode b.mode).is
    && (pids_are a.form.field a.first_pid b.first_pid && odts_are a.odts b.odts)))

lists_tell : (a b : ListOf) → Decides (lists_are a b) (ReadsAlike a b)
lists_tell a b = Decides-like _
    (λ (h : (a.list ≡ b.list) × ((a.form ≡ b.form) × ((a.mode ≡ b.mode)
    × (SamePids a.form.field a.first_pid b.first_pid × (a.odts ≡ b.odts))))).
    record { list = h.0; form = h.1.0; mode = h.1.1.0; pids = h.1.1.1.0; odts = h.1.1.1.1 })
    (λ (r : ReadsAlike a b). (r.list, (r.form, (r.mode, (r.pids, r.odts)))))
    (Decides-and _ _ (Decides-eqb a.list b.list) (Decides-and _ _ (form_test a.form b.form).tells
    (Decides-and _ _ (mode_test a.mode b.mode).tells
    (Decides-and _ _ (pids_tell a.form.field a.first_pid b.first_pid) (odts_tell a.odts b.odts)))))

pub always_starts : AlwaysStarts
always_starts form = (record { given = form; alike = lists_are; tells = lists_tell }, refl)
