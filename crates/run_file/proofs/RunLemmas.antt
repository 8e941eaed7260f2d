-- What is read of a text: one step, and the whole run.
use Rattle.std.proofs.Common.{◌≡◌, ◌≤◌, ◌+◌, ◌*◌, ℕ, nat_le, true, List, length, Option, Some, None, Result, Ok, Err, OnOk, ◌⊎◌, inl, inr, refl, sym, ap, ◌∙◌, subst, arith}
use Rattle.std.specs.Prelude.{option_and_then}
use Rattle.std.specs.Result.{IsErrAnd}
use Rattle.hex.specs.Hex.{decode_of}
use Rattle.std.proofs.lemmas.Bool.{le-leb, leb-true}
use Rattle.hex.proofs.HexLemmas.{decode_of-ok}
use Rattle.toml.specs.Data.{Members}
use Rattle.toml.specs.Parse.{parse_document}
use Rattle.run_file.specs.declared.limits.TheConstants.{MAX_COMMAND_LEN}
use Rattle.run_file.specs.declared.run_fault.RunFault.{RunFault}
use Rattle.run_file.specs.declared.run_fault.RunFault.TheVariants.{BadSetup, BadStep, Memory}
use Rattle.run_file.specs.Keys.{AreKeyValues, KeyValues}
use Rattle.run_file.specs.Inner.{Gains}
use Rattle.run_file.specs.Reading.{AreTextsOf, HasNone, IsFirstBad}
use Rattle.run_file.specs.RunFile.{HasBadStep, IsPacketText, IsRunText}
use Rattle.run_file.specs.StepOf.{bytes_of, packet_of, step_of, with_image, wording_of}
use Rattle.run_file.specs.Steps.{IsStepText, StepData}
use Rattle.run_file.proofs.StepLaw.{IsStepText-step_of, decoded-some, if_then}
use Rattle.run_file.proofs.StepWhole.{step_of-IsStepText}

pub some_is_none : {X : Type 0} (o : Option X) (x : X) → o ≡ Some x → o ≡ None → ⊥
some_is_none None x h e = cc h
some_is_none (Some y) x h e = cc e

-- a text of which the function gives none is the text of no step
pub no_step : (last : ℕ) (text : List ℕ) → step_of last text ≡ None → HasNone (IsStepText (last + 1) text)
no_step last text none step is = some_is_none (step_of last text) step (step_of-IsStepText last text step is) none

pub no_wording : (last : ℕ) (text : List ℕ) → None ≡ wording_of last text → HasNone (IsStepText (last + 1) text)
no_wording last text none = no_step last text (ap (option_and_then with_image) (sym none))

pub no_image : (last : ℕ) (text : List ℕ) (step : StepData) → Some step ≡ wording_of last text → with_image step ≡ None
    → HasNone (IsStepText (last + 1) text)
no_image last text step is none = no_step last text (ap (option_and_then with_image) (sym is) ∙ none)

-- the step of a text is one of the grammar
pub step_gained : (last : ℕ) (text : List ℕ) (step : StepData) (old new : List StepData) → Some step ≡ wording_of last text
    → Gains (λ s. with_image step ≡ Some s) old new → Gains (IsStepText (last + 1) text) old new
step_gained last text step old new is gains = record {
  value = gains.value;
  is = IsStepText-step_of last text gains.value (ap (option_and_then with_image) (sym is) ∙ gains.is);
  at_end = gains.at_end;
}

pub on_ok-map : {A E : Type 0} (r : Result A E) {P Q : Type 0} → (P → Q) → OnOk r P → OnOk r Q
on_ok-map (Ok a) f p = f p
on_ok-map (Err e) f p = tt

-- a text of which the function gives a packet is the text of that one
pub packet_read : (text packet : List ℕ) → packet_of text ≡ Some packet → IsPacketText text packet
packet_read text packet h =
    let read = if_then (nat_le (length text) (2 * MAX_COMMAND_LEN)) (bytes_of text) packet h in
    let digits = decoded-some (decode_of text) packet read.1 in
    let short : length text ≤ 2 * MAX_COMMAND_LEN = leb-true (length text) (2 * MAX_COMMAND_LEN) read.0 in
    let twice : length text ≡ 2 * length packet = (decode_of-ok text packet digits).2 in
    record { digits = digits; fits = omega (arith, short, twice) }

-- and each text of a packet is one of which the function gives it
pub packet_of-IsPacketText : (text packet : List ℕ) → IsPacketText text packet → packet_of text ≡ Some packet
packet_of-IsPacketText text packet is =
    let twice : length text ≡ 2 * length packet = (decode_of-ok text packet is.digits).2 in
    let short : nat_le (length text) (2 * MAX_COMMAND_LEN) ≡ true =
    le-leb (length text) (2 * MAX_COMMAND_LEN) (omega (arith, twice, is.fits)) in
    rw (short, is.digits) refl

pub no_packet : (text : List ℕ) → packet_of text ≡ None → HasNone (IsPacketText text)
no_packet text none packet is = some_is_none (packet_of text) packet (packet_of-IsPacketText text packet is) none

module _ (text : List ℕ) (ms : Members) (v : KeyValues) (last : ℕ) (packets : List (List ℕ)) (toml : parse_document text ≡ Some ms)
    (keys : AreKeyValues ms v) (one_more : last + 1 ≡ v.channels) (setup : AreTextsOf IsPacketText v.setup packets) where
  -- a text whose packets and steps were read
  pub run_read : (steps : List StepData) → AreTextsOf (IsStepText (last + 1)) v.steps steps
      → IsRunText text (record {
        channels = v.channels;
        image_len = v.image_len;
        form = v.form;
        ring = v.ring;
        caps = v.caps;
        setup = packets;
        steps = steps;
        drain = v.drain;
      })
  run_read steps are = record {
    values = v;
    document = record { document = ms; toml = toml; keys_are = keys };
    channels_is = refl;
    image_len_is = refl;
    form_is = refl;
    ring_is = refl;
    caps_are = refl;
    drain_is = refl;
    setup_is = setup;
    steps_are = subst (λ n. AreTextsOf (IsStepText n) v.steps steps) one_more are;
  }

  -- and one whose packets were read, with a text that is no step
  pub step_refused : (place : ℕ) → IsFirstBad (IsStepText (last + 1)) v.steps place → HasBadStep text place
  step_refused place first = record {
    values = v;
    document = record { document = ms; toml = toml; keys_are = keys };
    packets = packets;
    packets_are = setup;
    first = subst (λ n. IsFirstBad (IsStepText n) v.steps place) one_more first;
  }

-- a fault that is want of memory, or the first bad text at some place, is at the place that it names
abbrev pub IsFault : (ℕ → RunFault) → (ℕ → Type 0) → RunFault → Type 0
IsFault fault P e = (e ≡ Memory) ⊎ ((i : ℕ) × (e ≡ fault i) × P i)

pub setup_at : (P : ℕ → Type 0) (i : ℕ) (e : RunFault) → IsFault BadSetup P e → e ≡ BadSetup i → P i
setup_at P i e (inl memory) is = cc
setup_at P i e (inr found) is =
    let same : found.0 ≡ i = let both : BadSetup found.0 ≡ BadSetup i = sym found.1 ∙ is in cc in
    subst P same found.2

pub step_at : (P : ℕ → Type 0) (i : ℕ) (e : RunFault) → IsFault BadStep P e → e ≡ BadStep i → P i
step_at P i e (inl memory) is = cc
step_at P i e (inr found) is =
    let same : found.0 ≡ i = let both : BadStep found.0 ≡ BadStep i = sym found.1 ∙ is in cc in
    subst P same found.2

-- a fault that was handed on is the one that is answered
pub fault_is : {T : Type 0} (r : Result T RunFault) (e f : RunFault) → IsErrAnd r (λ x. x ≡ e) → r ≡ Err f → e ≡ f
fault_is (Ok t) e f handed is = cc
fault_is (Err x) e f handed is = let same : x ≡ f = cc in sym handed ∙ same
