-- The tasks of a slave that was just opened are in their slots.
use Rattle.std.proofs.Common.{◌≡◌, ◌∙◌, List, [], ◌∷◌, ◌++◌, length, map, refl, sym, ap, arith}
use Rattle.std.specs.Prelude.{false}
use Rattle.std.proofs.lemmas.List.{length-map, map-append}
use Rattle.channel_ring.specs.Ends.{RingName}
use Rattle.slave_channels.specs.Channels.{ChannelState}
use Rattle.frame_ring.specs.declared.frame_send.FrameSend.{FrameSend}
use Rattle.frame_writer.specs.Reading.{ReaderStandsAfter, ReaderState}
use Rattle.session.specs.declared.profile.Profile.{Profile}
use Rattle.slave.specs.Standing.{SlaveStandsAfter, SlaveState}
use Rattle.slave_channels.specs.Calls.{rings_of}
use Rattle.tasks.specs.Tasks.{TaskState, just_begun}
use Rattle.slave_lending.specs.Lends.{IsOpenedWith}
use Rattle.slave_lending.specs.Slots.{SlotState, with_task}
use Rattle.slave_lending.proofs.TaskLemmas.{with_slots}

pub nothing-left : {X : Type 0} (l : List X) → length l ≡ 0 → l ≡ []
nothing-left [] h = refl
nothing-left (x ∷ xs) h = absurd (omega arith)

pub one-slot-more : (xs ys : List SlotState) (ts : List (TaskState FrameSend)) (t : TaskState FrameSend)
    → ys ≡ xs ++ with_task t ∷ [] → xs ≡ map with_task ts → ys ≡ map with_task (ts ++ t ∷ [])
one-slot-more xs ys ts t is same =
    is ∙ (ap (λ (zs : List SlotState). zs ++ with_task t ∷ []) same ∙ sym (map-append with_task ts (t ∷ [])))

map-twice : (rings : List RingName) → map with_task (map just_begun rings) ≡ map (λ ring. with_task (just_begun ring)) rings
map-twice [] = refl
map-twice (r ∷ rings) = ap (λ xs. with_task (just_begun r) ∷ xs) (map-twice rings)

begun-lines : (rings : List RingName) → map (λ (s : SlotState). s.ring) (map with_task (map just_begun rings)) ≡ rings
begun-lines [] = refl
begun-lines (r ∷ rings) = ap (λ rs. r ∷ rs) (begun-lines rings)

-- the slots are on the lines of the event channels
pub opened-lines : (slave : SlaveState) (tasks : List (TaskState FrameSend)) (slots : List SlotState) → tasks ≡ map just_begun (rings_of slave.channels)
    → slots ≡ map with_task tasks → map (λ (s : SlotState). s.ring) slots ≡ rings_of slave.channels
opened-lines slave tasks slots fresh here =
    let line = λ (s : SlotState). s.ring in
    ap (map line) (here ∙ ap (λ (ts : List (TaskState FrameSend)). map with_task ts) fresh) ∙ begun-lines (rings_of slave.channels)

pub opened-with : (d : Profile) (slave : SlaveState) (stream : ReaderState) (tasks : List (TaskState FrameSend)) (slots : List SlotState)
    → slave.session.profile ≡ d → SlaveStandsAfter d slave [] → length slave.channels ≡ length d.events.items → tasks ≡ map just_begun (rings_of slave.channels)
    → ReaderStandsAfter stream [] [] → stream.closed ≡ false → stream.max_cto ≡ slave.session.profile.max_cto → slots ≡ map with_task tasks → IsOpenedWith d (with_slots slave stream slots)
opened-with d slave stream tasks slots profile stands many fresh none open_still by_profile here =
    let all : slots ≡ map (λ ring. with_task (just_begun ring)) (rings_of slave.channels)
    = here ∙ ap (λ (ts : List (TaskState FrameSend)). map with_task ts) fresh ∙ map-twice (rings_of slave.channels) in
    record {
      profile = profile;
      stands = stands;
      fresh = none;
      is_open = open_still;
      max_cto = by_profile ∙ ap (λ (p : Profile). p.max_cto) profile;
      many = ap length all ∙ length-map (rings_of slave.channels) (λ ring. with_task (just_begun ring)) ∙ length-map slave.channels (λ (ch : ChannelState). ch.link.ring) ∙ many;
      all_here = all;
    }
