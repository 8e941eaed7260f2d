-- Which DAQ lists find no room in their rings.
use Rattle.std.specs.Prelude.{ℕ, ◌+◌, ◌*◌, ◌&&◌, Bool, nat_lt, get_or}
use Rattle.copy_plan.specs.Config.{ListPlan}
use Rattle.copy_plan.specs.Frames.{frames_len}
use Rattle.daq_store.specs.Configuration.{channel_of}
use Rattle.daq_store.specs.Modes.{mode_of}
use Rattle.frame_ring.specs.Records.{blocks_for}
use Rattle.session.specs.Past.{Past}
use Rattle.session.specs.Profiles.{lists_of}
use Rattle.session.specs.Starts.{is_startable}
use Rattle.session.specs.declared.profile.Profile.{Profile}
use Rattle.slave.specs.Openings.{capacities_of, plan_after}

-- the bytes of the record of a sample: a head of two blocks, and the frames, in blocks of eight
abbrev pub record_len : ListPlan → ℕ
record_len plan = 8 * (2 + blocks_for (frames_len plan))

-- the capacity of the ring of event channel c
abbrev pub capacity_at : Profile → ℕ → ℕ
capacity_at d c = get_or (capacities_of d) c 0

-- list l is there and ready, and the record of a sample of it is longer than the ring of the event
-- channel that its mode names
abbrev pub is_too_long : Profile → Past → ℕ → Bool
is_too_long d past l =
    is_startable (lists_of d) past.calls l
    && nat_lt (capacity_at d (channel_of (mode_of past.calls l))) (record_len (plan_after d past l))
