-- What contracts see of a slave, and what it stands after.
use Rattle.std.specs.Prelude.{◌≡◌, ℕ, ◌+◌, ◌-◌, ◌*◌, ◌<◌, ◌≤◌, ◌⊎◌, ◌↔◌, Bool, true, false}
use Rattle.std.specs.Prelude.{List, [], ◌∷◌}
use Rattle.std.specs.Prelude.{length, slice_get, Some}
use mathlib.Core.List.{IsPrefix}
use Rattle.xcp_base.specs.declared.err_code.ErrCode.{ErrCode}
use Rattle.xcp_base.specs.declared.err_code.ErrCode.TheVariants.{Sequence}
use Rattle.xcp_base.specs.declared.item.Item.{Item}
use Rattle.xcp_base.specs.declared.item.Item.TheVariants.{Marker, Sample}
use Rattle.xcp_base.specs.declared.limits.TheConstants.{MAX_LISTS, MAX_TAKEN}
use Rattle.channel_ring.specs.Making.{ArePackets}
use Rattle.daq_store.specs.Configuration.{Configuration}
use Rattle.session.specs.Past.{Past}
use Rattle.session.specs.Standing.{SessionStandsAfter, SessionState}
use Rattle.session.specs.Exchanges.{MayBeOut}
use Rattle.session.specs.Starts.{is_on, runs, starts}
use Rattle.session.specs.declared.profile.Profile.{Profile}
use Rattle.slave_outbox.specs.Deeds.{Deed}
use Rattle.slave_outbox.specs.Deeds.{runs as runs_there}
use Rattle.slave_outbox.specs.Intakes.{StandsAfter as IntakeStandsAfter}
use Rattle.slave_outbox.specs.Outboxes.{OutboxState}
use Rattle.slave_outbox.specs.Outboxes.{StandsAfter as OutboxStandsAfter}
use Rattle.tasks.specs.Links.{is_running, takes_orders}
use Rattle.slave_channels.specs.Channels.{ChannelState, ShareState}
pub use Rattle.slave_channels.specs.Channels.{number_of}
use Rattle.sampler.specs.History.{due}
use Rattle.sampler.specs.Past.{Past as SamplerPast}
use Rattle.slave_outbox.specs.Accounts.{HasPlans}
use Rattle.slave_outbox.specs.Deeds.{passes, taken}
use Rattle.daq_engine.specs.Order.{items_of}
use Rattle.daq_engine.specs.Overload.{HasMarks}
use Rattle.transmitter.specs.Items.{samples}
use Rattle.slave.specs.Pages.{page_at}
use Rattle.slave.specs.Log.{Act, CameBack, Discarded, Heard, HungUp, Opened, Refused, Sent, Took}
use Rattle.slave.specs.Log.{deeds_of, entries_of, has_part, is_back, is_out, late_in, opened}
use Rattle.slave.specs.Log.{past_of, sent_laid, waits, weight}
use Rattle.slave_channels.specs.Accounts.{AccountStandsAfter, AccountState}
use Rattle.slave.specs.Plans.{IsAsOpened, plan_at}
use Rattle.slave.specs.Openings.{IsOpenedAfter, IsOpeningAfter, past_at}
use Rattle.slave.specs.Rings.{is_too_long}
use Rattle.slave.specs.Returns.{AreReturns, ends_in, returns_at}

-- the session with the master, the packets that were laid out, the event channels, how the DAQ
-- lists were set up where the newest measurement was opened, how many measurements were opened, the
-- account of what came back, how much it counted of what it did, and the event channel at whose
-- ring the next look begins
pub record SlaveState : Type 0 where
  pub session : SessionState
  pub outbox : OutboxState
  pub channels : List ChannelState
  pub plan : List Configuration
  pub number : ℕ
  pub account : AccountState
  pub acts : ℕ
  pub next : ℕ

-- no list runs
abbrev pub NoneRuns : Past → Type 0
NoneRuns past = (l : ℕ) → l < MAX_LISTS → runs past l ≡ false

-- of a session: no list runs; and some list runs
abbrev pub Idle : SessionState → Type 0
Idle s = (past : Past) → SessionStandsAfter s past → NoneRuns past

abbrev pub Busy : SessionState → Type 0
Busy s = (past : Past) → SessionStandsAfter s past → ¬ NoneRuns past

-- a packet that would start a list
abbrev pub IsStart : Profile → Past → List ℕ → Type 0
IsStart d past packet = (l : ℕ) × (l < MAX_LISTS) × (starts d past packet l ≡ true)

-- a list is ready whose mode names event channel c
pub record HasReady (d : Profile) (past : Past) (c : ℕ) : Type 0 where
  pub channel : c < length d.events.items
  pub list : ℕ
  pub below : list < MAX_LISTS
  pub ready : is_on d past c list ≡ true

-- there is a part exactly at the event channels of which a list is ready
abbrev pub AreParts : Profile → Past → (ℕ → Bool) → Type 0
AreParts d past at = (c : ℕ) → (at c ≡ true) ↔ HasReady d past c

-- the newest act opened a measurement, with a part exactly at the event channels of which a list is
-- ready
abbrev pub JustOpened : Profile → List Act → Type 0
JustOpened d [] = ⊥
JustOpened d (Heard x ∷ log) = ⊥
JustOpened d (Refused packet code ∷ log) = ⊥
JustOpened d (Opened at ∷ log) = AreParts d (past_of d log) at
JustOpened d (Took m c x ∷ log) = ⊥
JustOpened d (CameBack m c past ∷ log) = ⊥
JustOpened d (Sent n ∷ log) = ⊥
JustOpened d (HungUp ∷ log) = ⊥
JustOpened d (Discarded ∷ log) = ⊥

-- a list that the packet starts stands as it did where the newest measurement was opened, which has
-- a part at the list's event channel; its samples find room in its ring; and where no list runs,
-- the measurement was opened just before
pub record StartsWell (d : Profile) (log : List Act) (packet : List ℕ) : Type 0 where
  pub as_opened :
      (l : ℕ) → l < MAX_LISTS → starts d (past_of d log) packet l ≡ true → IsAsOpened d log l
  pub has_parts :
      (c l : ℕ) → c < length d.events.items → l < MAX_LISTS
      → starts d (past_of d log) packet l ≡ true → is_on d (past_of d log) c l ≡ true
      → has_part (opened log - 1) c log ≡ true
  pub in_rings :
      (l : ℕ) → l < MAX_LISTS → starts d (past_of d log) packet l ≡ true
      → is_too_long d (past_of d log) l ≡ false
  pub in_one : IsStart d (past_of d log) packet → NoneRuns (past_of d log) → JustOpened d log

-- where lists run, the packet would start one that doesn't stand as it did where the newest
-- measurement was opened
pub record StartsOther (d : Profile) (log : List Act) (packet : List ℕ) : Type 0 where
  pub list : ℕ
  pub below : list < MAX_LISTS
  pub starts_it : starts d (past_of d log) packet list ≡ true
  pub other : ¬ IsAsOpened d log list
  pub some : ¬ NoneRuns (past_of d log)

-- ERR_SEQUENCE is the answer to such a packet, and to no other start
abbrev pub IsSequenceIfOther : Profile → List Act → List ℕ → ErrCode → Type 0
IsSequenceIfOther d log packet code = (code ≡ Sequence) ↔ StartsOther d log packet

-- what is left of the sampler that event channel c had in measurement m comes back once, of the
-- newest measurement only where no list runs; it was opened as the lists were set up where the
-- measurement was opened; of each due sample it was decided whether it is accepted; what was taken
-- of its ring are the first of the items that the sampler sent, and the samples among these are
-- marked exactly behind drops
pub record ComesBack (d : Profile) (log : List Act) (m c : ℕ) (past : SamplerPast) : Type 0 where
  pub there : m < opened log
  pub once : is_back m c log ≡ false
  pub over : m + 1 ≡ opened log → NoneRuns (past_of d log)
  pub opens : IsOpeningAfter d (past_at d m log) c past.opening
  pub plans : HasPlans past
  pub decided : length past.decisions ≡ length (due past.opening past.history)
  pub front : IsPrefix (taken (deeds_of d m c log)) (items_of past)
  pub marks : HasMarks past (samples (taken (deeds_of d m c log)))

-- a sample that passes has 1 to 124 packets of 1 to MAX_PACKET bytes each
abbrev pub HasPacketsIfPasses : List Deed → Item → Type 0
HasPacketsIfPasses deeds (Sample s) = passes deeds s.list ≡ true → ArePackets s.packets
HasPacketsIfPasses deeds (Marker k) = Unit {0}

-- an item is taken of the ring of a part that did not come back
pub record IsTaken (d : Profile) (log : List Act) (m c : ℕ) (x : Item) : Type 0 where
  pub within : c < length d.events.items
  pub out : is_out m c log ≡ true
  pub packets : HasPacketsIfPasses (deeds_of d m c log) x

-- in a slave's log there may be no memory only for an allocation that else is accepted; starts
-- alone are refused; a measurement is opened only where no list runs; items are those of
-- parts of measurements that were opened, and that did not come back; and only what waits is sent
abbrev pub IsLog : Profile → List Act → Type 0
IsLog d [] = Unit {0}
IsLog d (Heard x ∷ log) =
    (x.out_of_memory ≡ true → MayBeOut d (past_of d log) x.packet)
    × StartsWell d log x.packet × IsLog d log
IsLog d (Refused packet code ∷ log) =
    IsStart d (past_of d log) packet × IsSequenceIfOther d log packet code × IsLog d log
IsLog d (Opened at ∷ log) = NoneRuns (past_of d log) × IsLog d log
IsLog d (Took m c x ∷ log) = (m < opened log) × IsTaken d log m c x × IsLog d log
IsLog d (CameBack m c past ∷ log) = ComesBack d log m c past × IsLog d log
IsLog d (Sent n ∷ log) = (n ≤ length (waits d log)) × IsLog d log
IsLog d (HungUp ∷ log) = IsLog d log
IsLog d (Discarded ∷ log) = IsLog d log

-- of a log: the session's past where each measurement was opened, and the pasts that came back of
-- each event channel, the newest first
pub record Logged : Type 0 where
  pub opened_at : ℕ → Past
  pub returns : ℕ → List SamplerPast

abbrev pub logged : Profile → List Act → Logged
logged d log = record { opened_at = λ m. past_at d m log; returns = λ c. returns_at c log }

-- what is kept of an event channel are its parts of the measurements that are out
pub record IsOut (out : ℕ → Bool) (ch : ChannelState) : Type 0 where
  pub newer : (m : ℕ) → number_of ch.newer ≡ Some m → out m ≡ true
  pub older : (m : ℕ) → number_of ch.older ≡ Some m → out m ≡ true
  pub kept : (m : ℕ) → out m ≡ true → (number_of ch.newer ≡ Some m) ⊎ (number_of ch.older ≡ Some m)

-- the parts that are kept of event channel c were opened as the log says, and what came back
-- there is what came over the line with the task
pub record IsAsLogged (d : Profile) (l : Logged) (c : ℕ) (ch : ChannelState) : Type 0 where
  pub newer :
      (p : ShareState) → ch.newer ≡ Some p → IsOpenedAfter d (l.opened_at p.number) c p.opened
  pub older :
      (p : ShareState) → ch.older ≡ Some p → IsOpenedAfter d (l.opened_at p.number) c p.opened
  pub came : AreReturns (l.returns c) (ends_in ch.link.came)

-- where no list runs, each measurement has ended
abbrev pub HasEnded : SlaveState → Past → Type 0
HasEnded s past =
    NoneRuns past
    → (c : ℕ) (ch : ChannelState) → slice_get s.channels c ≡ Some ch
    → takes_orders ch.link.newer ≡ false

-- a part of measurement m was opened, and it stands after what was done there
pub record PartHas (n : ℕ) (deeds : ℕ → List Deed) (p : ShareState) : Type 0 where
  pub there : p.number < n
  pub stands : IntakeStandsAfter p.intake (deeds p.number)

-- an event channel, where n measurements were opened and so much was done there in each: its
-- parts stand after that, only that of the newest takes orders, and of its lists run those that
-- run by the orders
pub record ChannelHas (n : ℕ) (deeds : ℕ → List Deed) (ch : ChannelState) : Type 0 where
  pub newer : (p : ShareState) → ch.newer ≡ Some p → PartHas n deeds p
  pub older : (p : ShareState) → ch.older ≡ Some p → PartHas n deeds p × (p.number + 1 < n)
  pub order : (p q : ShareState) → ch.older ≡ Some p → ch.newer ≡ Some q → p.number < q.number
  pub newest :
      takes_orders ch.link.newer ≡ true
      → (p : ShareState) → ch.newer ≡ Some p → p.number + 1 ≡ n
  pub running : (l : ℕ) → l < MAX_LISTS → is_running ch.link.newer l ≡ runs_there (deeds (n - 1)) l

-- the parts of a slave stand after a log of no more than 2^57 acts; at its event channels so much
-- was done in each measurement, and of each list so many samples of it were thrown away late
pub record StandsBy (deeds : ℕ → ℕ → List Deed) (late : ℕ → ℕ → ℕ) (d : Profile) (s : SlaveState)
    (log : List Act)
    : Type 0 where
  pub few : 32 * length log ≤ MAX_TAKEN
  pub is_log : IsLog d log
  pub profile : s.session.profile ≡ d
  pub session : SessionStandsAfter s.session (past_of d log)
  pub outbox : OutboxStandsAfter s.outbox (page_at d log) (sent_laid d log) (waits d log)
  pub channels :
      (c : ℕ) (ch : ChannelState) → slice_get s.channels c ≡ Some ch
      → ChannelHas (opened log) (deeds c) ch
  pub out :
      (c : ℕ) (ch : ChannelState) → slice_get s.channels c ≡ Some ch
      → IsOut (λ m. is_out m c log) ch
  pub as_logged :
      (c : ℕ) (ch : ChannelState) → slice_get s.channels c ≡ Some ch
      → IsAsLogged d (logged d log) c ch
  pub many : length s.channels ≡ length d.events.items
  pub plan : s.plan ≡ plan_at d log
  pub number : s.number ≡ opened log
  pub account : AccountStandsAfter s.account (entries_of d log) late

abbrev pub SlaveHas : Profile → SlaveState → List Act → Type 0
SlaveHas d s log = StandsBy (λ c m. deeds_of d m c log) (late_in d log) d s log

-- all parts of a slave stand after a log
pub record PartsStandAfter (d : Profile) (s : SlaveState) (log : List Act) : Type 0 where
  pub has : SlaveHas d s log
  pub ended : HasEnded s (past_of d log)

-- a slave stands after a log: its parts do, and it counted no less than the log weighs
pub record SlaveStandsAfter (d : Profile) (s : SlaveState) (log : List Act) : Type 0 where
  pub parts : PartsStandAfter d s log
  pub counted : weight d log ≤ s.acts
