-- Why a trigger, a start or a stop is refused, by the past.
use Rattle.std.specs.Prelude.{ℕ, ◌≡◌, ◌⊎◌, Bool, true, false, List, length, count_by, nat_eq}
use Rattle.std.specs.Prelude.{Option, None, Some, if◌then◌else◌}
use Rattle.xcp_base.specs.declared.limits.TheConstants.{MAX_TRIGGERS}
use Rattle.segments.specs.declared.segment.Segment.{Segment}
use Rattle.segments.specs.Memory.{fits}
use Rattle.sampler.specs.History.{is_list_of, is_trigger, runs_after}
use Rattle.sampler.specs.Past.{Past}
use Rattle.sampler.specs.declared.faults.MemoryFault.{MemoryFault}
use Rattle.sampler.specs.declared.faults.MemoryFault.TheVariants.{Spent as NoMore, WrongMemory}
use Rattle.sampler.specs.declared.faults.StartFault.{StartFault}
use Rattle.sampler.specs.declared.faults.StartFault.TheVariants.{NotOfChannel as NoSuchStart}
use Rattle.sampler.specs.declared.faults.StartFault.TheVariants.{Running}
use Rattle.sampler.specs.declared.faults.StopFault.{StopFault}
use Rattle.sampler.specs.declared.faults.StopFault.TheVariants.{NotOfChannel as NoSuchStop}
use Rattle.sampler.specs.declared.faults.StopFault.TheVariants.{NoRoom, NotRunning}
use Rattle.sampler.specs.declared.faults.TriggerFault.{TriggerFault}
use Rattle.sampler.specs.declared.faults.TriggerFault.TheVariants.{Spent, WrongImage}

-- whether list l runs: its last start or stop was a start, or there was none and it ran at the
-- opening; none if it isn't of the channel
abbrev pub running_at : Past → ℕ → Option Bool
running_at past l =
    if is_list_of past.opening l then Some (runs_after past.opening past.history l) else None

-- a trigger is refused for an image of another length, or else once MAX_TRIGGERS were accepted
abbrev pub trigger_refusal : ℕ → Past → List ℕ → Option TriggerFault
trigger_refusal image_len past image =
    if nat_eq (length image) image_len then
    (if nat_eq (count_by is_trigger past.history) MAX_TRIGGERS then Some Spent else None)
    else Some WrongImage

-- a trigger over memory is refused where memory doesn't fit the segments, or else once MAX_TRIGGERS
-- were accepted
abbrev pub memory_refusal :
    ℕ → List Segment → Past → List (List ℕ) → Option MemoryFault
memory_refusal channel segments past memory =
    if fits channel segments memory then
    (if nat_eq (count_by is_trigger past.history) MAX_TRIGGERS then Some NoMore else None)
    else Some WrongMemory

-- a start is refused if the list isn't of the channel, or runs
abbrev pub start_refusal : Option Bool → Option StartFault
start_refusal None = Some NoSuchStart
start_refusal (Some true) = Some Running
start_refusal (Some false) = None

-- a stop is refused if the list isn't of the channel, or doesn't run
abbrev pub stop_refusal : Option Bool → Option StopFault
stop_refusal None = Some NoSuchStop
stop_refusal (Some true) = None
stop_refusal (Some false) = Some NotRunning

-- what a stop answers if it is refused so; if it isn't, its marker may find no room
abbrev pub AnswersStop : Option StopFault → Option StopFault → Type 0
AnswersStop (Some fault) answer = answer ≡ Some fault
AnswersStop None answer = (answer ≡ None) ⊎ (answer ≡ Some NoRoom)
