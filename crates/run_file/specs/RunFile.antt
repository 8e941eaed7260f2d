-- A run file: which text is which run, and what its first fault is.
use Rattle.std.specs.Prelude.{◌≡◌, ◌≤◌, ℕ, Bool, List, length, Some, Ok}
use Rattle.hex.specs.Hex.{decode_of}
use Rattle.toml.specs.Data.{Members}
use Rattle.toml.specs.Parse.{parse_document}
use Rattle.xcp_base.specs.declared.packet_form.PacketForm.{PacketForm}
use Rattle.run_file.specs.declared.limits.TheConstants.{MAX_COMMAND_LEN}
use Rattle.xcp_base.specs.declared.ring_kind.RingKind.{RingKind}
use Rattle.run_file.specs.Keys.{AreKeyValues, HasBadKey, KeyValues}
use Rattle.run_file.specs.Reading.{AreTextsOf, IsFirstBad}
use Rattle.run_file.specs.Steps.{IsStepText, StepData}

-- the text is the command packet in hexadecimal digits of either case, and it isn't too long
pub record IsPacketText (text packet : List ℕ) : Type 0 where
  pub digits : decode_of text ≡ Ok packet
  pub fits : length packet ≤ MAX_COMMAND_LEN

-- what a run is
pub record RunData : Type 0 where
  pub channels : ℕ
  pub image_len : ℕ
  pub form : PacketForm
  pub ring : RingKind
  pub caps : List ℕ
  pub setup : List (List ℕ)
  pub steps : List StepData
  pub drain : Bool

abbrev pub run_of :
    ℕ → ℕ → PacketForm → RingKind → List ℕ → List (List ℕ) → List StepData → Bool → RunData
run_of channels image_len form ring caps setup steps drain = record {
  channels = channels;
  image_len = image_len;
  form = form;
  ring = ring;
  caps = caps;
  setup = setup;
  steps = steps;
  drain = drain;
}

-- the text is a document with these values of the keys
pub record IsDocumentOf (text : List ℕ) (values : KeyValues) : Type 0 where
  pub document : Members
  pub toml : parse_document text ≡ Some document
  pub keys_are : AreKeyValues document values

-- the text is this run
pub record IsRunText (text : List ℕ) (run : RunData) : Type 0 where
  pub values : KeyValues
  pub document : IsDocumentOf text values
  pub channels_is : run.channels ≡ values.channels
  pub image_len_is : run.image_len ≡ values.image_len
  pub form_is : run.form ≡ values.form
  pub ring_is : run.ring ≡ values.ring
  pub caps_are : run.caps ≡ values.caps
  pub drain_is : run.drain ≡ values.drain
  pub setup_is : AreTextsOf IsPacketText values.setup run.setup
  pub steps_are : AreTextsOf (IsStepText values.channels) values.steps run.steps

-- the text is a document whose keys aren't those of a run
pub record HasBadKeyText (text : List ℕ) : Type 0 where
  pub document : Members
  pub toml : parse_document text ≡ Some document
  pub fault : HasBadKey document

-- its keys are right, and this is the first text of `setup` that is no command packet
pub record HasBadSetup (text : List ℕ) (place : ℕ) : Type 0 where
  pub values : KeyValues
  pub document : IsDocumentOf text values
  pub first : IsFirstBad IsPacketText values.setup place

-- its keys and its command packets are right, and this is the first text of `steps` that is no step
pub record HasBadStep (text : List ℕ) (place : ℕ) : Type 0 where
  pub values : KeyValues
  pub document : IsDocumentOf text values
  pub packets : List (List ℕ)
  pub packets_are : AreTextsOf IsPacketText values.setup packets
  pub first : IsFirstBad (IsStepText values.channels) values.steps place
