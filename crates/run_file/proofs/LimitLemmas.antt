-- A run that a text is keeps all limits.
use Rattle.std.proofs.Common.{◌≡◌, ◌≤◌, ◌==◌, ◌&&◌, nat_le, ℕ, ℤ, pos, negsuc, List, [], ◌∷◌, length, All, Option, Some, None, codes, sym, ap, ◌∙◌, subst, arith}
use Rattle.std.proofs.lemmas.Bool.{and_parts, leb-true, eqb-true}
use Rattle.std.proofs.lemmas.List.Elements.{All-cons, All-nil, All-same}
use Rattle.toml.specs.Data.{Data, Items, no_items, item, Members, as_array, as_integer, as_str, get_member}
use Rattle.xcp_base.specs.declared.limits.TheConstants.{RUN_CHANNELS, MAX_DTO, MAX_IMAGE_LEN}
use Rattle.run_file.specs.declared.limits.TheConstants.{MAX_COMMAND_LEN, MAX_PACKETS, MAX_STEPS}
use Rattle.run_file.specs.Keys.{all_of, at_key, bounded, cap_in, caps_in, caps_of, form_with, id_of, if_length, number_in, stamp_of, texts_at, texts_in}
use Rattle.xcp_base.specs.declared.id_kind.IdKind.{IdKind}
use Rattle.xcp_base.specs.declared.packet_form.PacketForm.{PacketForm}
use Rattle.xcp_base.specs.declared.stamp_size.StampSize.{StampSize}
use Rattle.xcp_base.specs.Rings.{least_cap, most_cap}
use Rattle.xcp_base.specs.declared.ring_kind.RingKind.{RingKind}
use Rattle.run_file.specs.Limits.{HasLimits, IsCap, IsStepWithin}
use Rattle.run_file.specs.RunFile.{IsPacketText, IsRunText, RunData}
use Rattle.run_file.specs.Steps.{IsStepText, StepData, trigger, start, stop, pump}
use Rattle.run_file.proofs.KeyLemmas.{onto-some}
use Rattle.run_file.proofs.ReadLemmas.{All-AreTextsOf, length-AreTextsOf}
use Rattle.run_file.proofs.StepLaw.{and_then-some, if_some}

bounded_within : (least most n : ℕ) (z : ℤ) → bounded least most z ≡ Some n → (least ≤ n) × (n ≤ most)
bounded_within least most n (pos m) h =
    let read = if_some (nat_le least m && nat_le m most) m n h in
    let tested = and_parts (nat_le least m) (nat_le m most) read.0 in (
      omega (arith, leb-true least m tested.0, read.1),
      omega (arith, leb-true m most tested.1, read.1),
    )
bounded_within least most n (negsuc m) h = cc h

number_within : (least most n : ℕ) (d : Data) → number_in least most d ≡ Some n → (least ≤ n) × (n ≤ most)
number_within least most n d h =
    let read = and_then-some (bounded least most) (as_integer d) n h in
    bounded_within least most n read.0 read.2

-- the number of a key is within its bounds
key_within : (least most n : ℕ) (key : List ℕ) (ms : Members) → at_key (number_in least most) key ms ≡ Some n
    → (least ≤ n) × (n ≤ most)
key_within least most n key ms h =
    let read = and_then-some (number_in least most) (get_member key ms) n h in
    number_within least most n read.0 read.2

-- what each item of an array has
all_of-All : {X : Type 0} (f : Data → Option X) (P : X → Type 0) → ((d : Data) (x : X) → f d ≡ Some x → P x) → (ds : Items) (xs : List X)
    → all_of f ds ≡ Some xs → All P xs
all_of-All f P each no_items [] h = All-nil P
all_of-All f P each no_items (x ∷ xs) h = cc h
all_of-All f P each (item d ds) xs h =
    let parts = onto-some (f d) (all_of f ds) xs h in
    All-same P xs (parts.0 ∷ parts.1) parts.4
    (All-cons P parts.0 parts.1 (each d parts.0 parts.2) (all_of-All f P each ds parts.1 parts.3))

-- capacities: one for each event channel, each that of a ring
caps_within : (kind : RingKind) (channels : ℕ) (caps : List ℕ) (ms : Members) → caps_of kind channels ms ≡ Some caps → (length caps ≡ channels) × All (IsCap kind) caps
caps_within kind channels caps ms h =
    let found = and_then-some (caps_in kind channels) (at_key as_array (codes "caps") ms) caps h in
    let read = and_then-some (if_length (λ n. n == channels)) (all_of (cap_in kind) found.0) caps found.2 in
    let long = if_some (length read.0 == channels) read.0 caps read.2 in
    let size : length read.0 ≡ channels = eqb-true (length read.0) channels long.0 in (
      ap length (sym long.1) ∙ size,
      All-same (IsCap kind) caps read.0 (sym long.1)
          (all_of-All (cap_in kind) (IsCap kind) (λ d n e. number_within (least_cap kind) (most_cap kind) n d e) found.0 read.0 read.1),
    )

-- strings: no more than so many
texts_within : (most : ℕ) (key : List ℕ) (texts : List (List ℕ)) (ms : Members) → texts_at most key ms ≡ Some texts → length texts ≤ most
texts_within most key texts ms h =
    let found = and_then-some (texts_in most) (at_key as_array key ms) texts h in
    let read = and_then-some (if_length (λ n. nat_le n most)) (all_of as_str found.0) texts found.2 in
    let long = if_some (nat_le (length read.0) most) read.0 texts read.2 in
    let low : length read.0 ≤ most = leb-true (length read.0) most long.0 in
    subst (λ ts. length ts ≤ most) long.1 low

-- packets have MAX_DTO of a run
form_within : (id : Option IdKind) (stamp : Option StampSize) (form : PacketForm) → form_with id stamp ≡ Some form → form.max_dto ≡ MAX_DTO
form_within (Some id) (Some stamp) form h =
    let is : record { id = id; stamp = stamp; max_dto = MAX_DTO } ≡ form = cc in ap (λ (f : PacketForm). f.max_dto) (sym is)
form_within (Some id) None form h = cc h
form_within None stamp form h = cc h

step_within : (channels : ℕ) (text : List ℕ) (step : StepData) → IsStepText channels text step → IsStepWithin channels step
step_within channels text (trigger c s image) is = (is.below, is.fits, is.image_word.some)
step_within channels text (start c l) is = (is.below, is.fits)
step_within channels text (stop c l) is = (is.below, is.fits)
step_within channels text pump is = tt

pub run_limits : (text : List ℕ) (run : RunData) → IsRunText text run → HasLimits run
run_limits text run is =
    let keys = is.document.keys_are in
    let ms = is.document.document in
    let channels = key_within 1 RUN_CHANNELS is.values.channels (codes "channels") ms keys.channels_is in
    let image_len = key_within 1 MAX_IMAGE_LEN is.values.image_len (codes "image_len") ms keys.image_len_is in
    let caps = caps_within is.values.ring is.values.channels is.values.caps ms keys.caps_are in
    let setup = texts_within MAX_PACKETS (codes "setup") is.values.setup ms keys.setup_is in
    let steps = texts_within MAX_STEPS (codes "steps") is.values.steps ms keys.steps_are in
    record {
      some_channel = omega (arith, channels.0, is.channels_is);
      channels = omega (arith, channels.1, is.channels_is);
      some_byte = omega (arith, image_len.0, is.image_len_is);
      image_len = omega (arith, image_len.1, is.image_len_is);
      form = ap (λ (f : PacketForm). f.max_dto) is.form_is ∙ form_within (id_of ms) (stamp_of ms) is.values.form keys.form_is;
      one_cap_each = ap length is.caps_are ∙ caps.0 ∙ sym is.channels_is;
      caps = subst (λ kind. All (IsCap kind) run.caps) (sym is.ring_is) (All-same (IsCap is.values.ring) run.caps is.values.caps is.caps_are caps.1);
      packets = omega (arith, setup, length-AreTextsOf IsPacketText is.values.setup run.setup is.setup_is);
      each_packet = All-AreTextsOf IsPacketText (λ p. length p ≤ MAX_COMMAND_LEN) (λ t p e. e.fits) is.values.setup run.setup is.setup_is;
      steps = omega (arith, steps, length-AreTextsOf (IsStepText is.values.channels) is.values.steps run.steps is.steps_are);
      each_step =
          subst (λ n. All (IsStepWithin n) run.steps) (sym is.channels_is)
          (All-AreTextsOf (IsStepText is.values.channels) (IsStepWithin is.values.channels) (step_within is.values.channels)
          is.values.steps run.steps is.steps_are);
    }
