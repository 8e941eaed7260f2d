-- Up to how many bytes a slave lays samples out.
use Rattle.std.specs.Prelude.{ℕ, List, [], ◌∷◌, length, map, max, if◌then◌else◌}
use Rattle.copy_plan.specs.Frames.{frames_len}
use Rattle.daq_engine.specs.Openings.{list_plan}
use Rattle.daq_store.specs.Calls.{numbers_below}
use Rattle.daq_store.specs.Configuration.{is_ready, list_is_ready}
use Rattle.daq_store.specs.Shape.{list_count}
use Rattle.daq_store.specs.Standing.{StoreState, conf_of}
use Rattle.session.specs.Past.{Past}
use Rattle.session.specs.Profiles.{lists_of}
use Rattle.session.specs.declared.profile.Profile.{Profile}
use Rattle.slave_outbox.specs.declared.limits.TheConstants.{PAGE}
use Rattle.slave.specs.Log.{Act, CameBack, Discarded, Heard, HungUp, Opened, Refused, Sent, Took}
use Rattle.slave.specs.Log.{past_of}
use Rattle.slave.specs.Openings.{plan_after}

-- the greatest of these, and of n
abbrev pub greatest : ℕ → List ℕ → ℕ
greatest n [] = n
greatest n (x ∷ xs) = greatest (max n x) xs

-- the bytes of the frames of a sample of list l, if the list is ready; else none
abbrev pub ready_frames : Profile → Past → ℕ → ℕ
ready_frames d past l =
    if list_is_ready (lists_of d) past.calls l then frames_len (plan_after d past l) else 0

-- in a measurement that is opened there samples are laid out up to so many bytes: those of the
-- frames of the longest sample of the lists that are ready, and PAGE at least
abbrev pub page_after : Profile → Past → ℕ
page_after d past =
    greatest PAGE (map (ready_frames d past) (numbers_below (list_count past.calls)))

-- the same in the newest measurement; before the first no sample is laid out
abbrev pub page_at : Profile → List Act → ℕ
page_at d [] = 0
page_at d (Heard x ∷ log) = page_at d log
page_at d (Refused packet code ∷ log) = page_at d log
page_at d (Opened at ∷ log) = page_after d (past_of d log)
page_at d (Took m c x ∷ log) = page_at d log
page_at d (CameBack m c past ∷ log) = page_at d log
page_at d (Sent n ∷ log) = page_at d log
page_at d (HungUp ∷ log) = page_at d log
page_at d (Discarded ∷ log) = page_at d log

-- the same of a store over which a measurement is opened
abbrev pub ready_frames_of : StoreState → ℕ → ℕ
ready_frames_of s l =
    if is_ready s.profile.segments (conf_of s l) then frames_len (list_plan s l) else 0

abbrev pub page_over : StoreState → ℕ
page_over s = greatest PAGE (map (ready_frames_of s) (numbers_below (length s.lists)))
