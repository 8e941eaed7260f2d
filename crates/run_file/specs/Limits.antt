-- The limits that every run keeps.
use Rattle.std.specs.Prelude.{◌≡◌, ◌<◌, ◌≤◌, ◌^◌, ℕ, All, length, ⊤}
use Rattle.xcp_base.specs.declared.limits.TheConstants.{MAX_DTO, MAX_IMAGE_LEN, RUN_CHANNELS}
use Rattle.run_file.specs.declared.limits.TheConstants.{MAX_COMMAND_LEN, MAX_PACKETS, MAX_STEPS}
use Rattle.xcp_base.specs.declared.ring_kind.RingKind.{RingKind}
use Rattle.xcp_base.specs.Rings.{least_cap, most_cap}
use Rattle.run_file.specs.RunFile.{RunData}
use Rattle.run_file.specs.Steps.{StepData, trigger, start, stop, pump}

-- a capacity that such a ring can have
abbrev pub IsCap : RingKind → ℕ → Type 0
IsCap kind cap = (least_cap kind ≤ cap) × (cap ≤ most_cap kind)

-- the step is of one of these event channels; its stamp has 32 bits, its image a byte, its list 8
-- bits
abbrev pub IsStepWithin : ℕ → StepData → Type 0
IsStepWithin channels (trigger c stamp image) =
    (c < channels) × (stamp < 2 ^ 32) × (0 < length image)
IsStepWithin channels (start c list) = (c < channels) × (list < 256)
IsStepWithin channels (stop c list) = (c < channels) × (list < 256)
IsStepWithin channels pump = ⊤

pub record HasLimits (run : RunData) : Type 0 where
  pub some_channel : 1 ≤ run.channels
  pub channels : run.channels ≤ RUN_CHANNELS
  pub some_byte : 1 ≤ run.image_len
  pub image_len : run.image_len ≤ MAX_IMAGE_LEN
  pub form : run.form.max_dto ≡ MAX_DTO
  pub one_cap_each : length run.caps ≡ run.channels
  pub caps : All (IsCap run.ring) run.caps
  pub packets : length run.setup ≤ MAX_PACKETS
  pub each_packet : All (λ packet. length packet ≤ MAX_COMMAND_LEN) run.setup
  pub steps : length run.steps ≤ MAX_STEPS
  pub each_step : All (IsStepWithin run.channels) run.steps
