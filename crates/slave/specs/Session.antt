-- What a slave laid out and sent, and what a log says of it.
use Rattle.std.specs.Prelude.{◌≡◌, ◌≢◌, ℕ, ◌+◌, ◌-◌, ◌<◌, ◌%◌, ◌==◌, ◌&&◌, Bool, true}
use Rattle.std.specs.Prelude.{false, Option, Some, Err, Ok, ◌⊎◌}
use Rattle.std.specs.Prelude.{All, List, [], ◌∷◌, ◌++◌, count_by, filter, flat_map, length}
use Rattle.std.specs.Prelude.{option_to_list}
use Rattle.std.specs.List.{list_any, sum_by}
use mathlib.Core.List.{IsPrefix}
use Rattle.xcp_base.specs.Samples.{SampleParts}
use Rattle.xcp_base.specs.declared.item.Item.TheVariants.{Sample}
use Rattle.xcp_base.specs.declared.limits.TheConstants.{MAX_LISTS}
use Rattle.daq_store.specs.declared.command.Command.{Command}
use Rattle.daq_store.specs.declared.command.Command.TheVariants.{ClearDaqList, FreeDaq}
use Rattle.daq_store.specs.declared.command.Command.TheVariants.{StartStopDaqList, StartStopSynch}
use Rattle.daq_store.specs.Running.{is_selected}
use Rattle.frame_writer.specs.Frame.{text}
use Rattle.frame_writer.specs.Split.{IsSplit, numbered}
use Rattle.session.specs.Exchanges.{Exchange, reply_in}
use Rattle.session.specs.Fields.{begins_reply, packet_of}
use Rattle.session.specs.Past.{Past}
use Rattle.session.specs.Profiles.{IsProfile}
use Rattle.session.specs.Requests.{request}
use Rattle.session.specs.declared.request.Request.{Request}
use Rattle.session.specs.declared.request.Request.TheVariants.{Disconnect, Lists}
use Rattle.session.specs.Starts.{runs}
use Rattle.session.specs.declared.profile.Profile.{Profile}
use Rattle.sampler.specs.Past.{Past as SamplerPast}
use Rattle.transmitter.specs.Items.{samples}
use Rattle.daq_engine.specs.Order.{items_of}
use Rattle.daq_engine.specs.Overload.{HasMarks}
use Rattle.slave_outbox.specs.Deeds.{passed, passes, taken, unsent_of, written_by}
use Rattle.slave_outbox.specs.Origins.{is_reply}
use Rattle.slave_outbox.specs.Outboxes.{Laid, packets_in, together}
use Rattle.slave_outbox.specs.declared.origin.Origin.{Origin}
use Rattle.slave_outbox.specs.declared.origin.Origin.TheVariants as origin
use Rattle.slave_channels.specs.Accounts.{Agree, Entry, accepted_in, accepted_of}
use Rattle.slave_channels.specs.Accounts.{dropped_in, dropped_of, due_in, due_of}
use Rattle.slave_channels.specs.Accounts.{written_in, written_of}
use Rattle.slave.specs.Log.{AllBack, Act, CameBack, Discarded, Heard, HungUp, Opened, Refused}
use Rattle.slave.specs.Log.{Sent, Took, deeds_of, entries_of, is_back, is_of_ring, is_out}
use Rattle.slave.specs.Log.{is_sample_of, laid, late_of, opened, past_of, sent_laid, thrown}
use Rattle.slave.specs.Log.{waits}
use Rattle.slave.specs.Plans.{plan_at}
use Rattle.slave.specs.Standing.{NoneRuns}
use Rattle.slave.specs.Thinned.{IsWithout}

-- In each definition below the log has the acts so far, the newest first.

-- those of these packets that are replies
abbrev pub answers_in : List Laid → List Laid
answers_in xs = filter (λ (x : Laid). is_reply x.origin) xs

-- those of these that are from the ring that event channel c has in measurement m
abbrev pub from_ring : ℕ → ℕ → List Laid → List Laid
from_ring m c xs = filter (λ (x : Laid). is_of_ring m c x.origin) xs

-- those of these that are of samples of list l, of whichever measurement
abbrev pub from_list : ℕ → List Laid → List Laid
from_list l xs = filter (λ (x : Laid). is_sample_of l x.origin) xs

-- the packets of a sample that event channel c has in measurement m, as they are laid out
abbrev pub sample_of : ℕ → ℕ → SampleParts → List Laid
sample_of m c s = together (origin.Sample m c s.list) s.packets

-- a packet is the last one of a sample of list l, from the ring that event channel c has in
-- measurement m
abbrev pub ends : ℕ → ℕ → ℕ → Laid → Bool
ends m c l x = x.last && (is_of_ring m c x.origin && is_sample_of l x.origin)

-- the packets that were sent, and their bytes
abbrev pub packets_sent : Profile → List Act → List (List ℕ)
packets_sent d log = packets_in (sent_laid d log)

abbrev pub sent_text : Profile → List Act → List ℕ
sent_text d log = text 0 (packets_sent d log)

-- the reply to the packet of an act, if there is one
abbrev pub replies_by : Profile → Act → List Act → List (List ℕ)
replies_by d (Heard x) log = option_to_list (reply_in d (past_of d log) x)
replies_by d (Refused packet code) log = packet_of (Err code) ∷ []
replies_by d (Opened at) log = []
replies_by d (Took m c x) log = []
replies_by d (CameBack m c past) log = []
replies_by d (Sent n) log = []
replies_by d HungUp log = []
replies_by d Discarded log = []

-- the replies to the packets that were heard, oldest first
abbrev pub replies_of : Profile → List Act → List (List ℕ)
replies_of d [] = []
replies_of d (act ∷ log) = replies_of d log ++ replies_by d act log

-- what is from a ring is known once what was left of its sampler came back: it says what was sent
abbrev pub IsKnown : List Act → Origin → Type 0
IsKnown log origin.Reply = Unit {0}
IsKnown log (origin.Sample m c l) = is_back m c log ≡ true

abbrev pub AreKnown : List Act → List Laid → Type 0
AreKnown log xs = All (λ (x : Laid). IsKnown log x.origin) xs

-- a positive reply, RES
abbrev pub is_positive : List ℕ → Bool
is_positive [] = false
is_positive (head ∷ more) = head == 0xFF

abbrev pub HasPositive : Option (List ℕ) → Type 0
HasPositive reply = (packet : List ℕ) × (reply ≡ Some packet) × (is_positive packet ≡ true)

-- the act is a packet with a positive reply, or the loss of the master
abbrev pub IsAccepted : Profile → Act → List Act → Type 0
IsAccepted d (Heard x) log = HasPositive (reply_in d (past_of d log) x)
IsAccepted d (Refused packet code) log = ⊥
IsAccepted d (Opened at) log = ⊥
IsAccepted d (Took m c x) log = ⊥
IsAccepted d (CameBack m c past) log = ⊥
IsAccepted d (Sent n) log = ⊥
IsAccepted d HungUp log = Unit {0}
IsAccepted d Discarded log = ⊥

-- a request that stops list l, where these calls were accepted: DISCONNECT, FREE_DAQ, a stop or
-- CLEAR_DAQ_LIST of the list, a stop of all lists, or of the selected ones if it is selected
abbrev pub IsStopOf : List Command → ℕ → Request → Type 0
IsStopOf calls l Disconnect = Unit {0}
IsStopOf calls l (Lists FreeDaq) = Unit {0}
IsStopOf calls l (Lists (StartStopDaqList mode k)) = (mode ≡ 0) × (k ≡ l)
IsStopOf calls l (Lists (StartStopSynch mode)) =
    (mode ≡ 0) ⊎ ((mode ≡ 2) × (is_selected calls l ≡ true))
IsStopOf calls l (Lists (ClearDaqList k)) = k ≡ l
IsStopOf calls l _ = ⊥

abbrev pub AsksToStop : Profile → Past → ℕ → List ℕ → Type 0
AsksToStop d past l packet =
    (asked : Request) × (request d.max_cto packet ≡ Ok asked) × IsStopOf past.calls l asked

-- the packet doesn't begin as a reply does
abbrev pub IsNoReply : List ℕ → Type 0
IsNoReply q = begins_reply q ≡ false

-- so it is with a packet that was laid out, if it is from a ring and known
abbrev pub BeginsOtherwise : List Act → Laid → Type 0
BeginsOtherwise log x = is_reply x.origin ≡ false → IsKnown log x.origin → IsNoReply x.packet

-- the act threw what waited away
abbrev pub throws : Act → Bool
throws (Heard x) = false
throws (Refused packet code) = false
throws (Opened at) = false
throws (Took m c x) = false
throws (CameBack m c past) = false
throws (Sent n) = false
throws HungUp = false
throws Discarded = true

-- none of these acts did
abbrev pub NoneThrows : List Act → Type 0
NoneThrows acts = list_any throws acts ≡ false

-- what was laid out since the acts `earlier`: what had been sent by then, what waited then and what
-- was laid out since are, in order, what was sent and what waits
pub record IsSince (d : Profile) (log earlier : List Act) : Type 0 where
  pub since : List Laid
  pub laid_is : laid d log ≡ laid d earlier ++ since
  pub sent_is :
      sent_laid d log ++ waits d log ≡ sent_laid d earlier ++ (waits d earlier ++ since)

-- the replies since the acts `earlier`, if nothing waited then: the answers that were sent since
-- are the first of these
pub record IsAnswered (d : Profile) (log earlier : List Act) : Type 0 where
  pub since : List (List ℕ)
  pub replies_are : replies_of d log ≡ replies_of d earlier ++ since
  pub first_are :
      IsPrefix (packets_in (answers_in (sent_laid d log)))
      (packets_in (answers_in (sent_laid d earlier)) ++ since)

-- measurement m is the newest, and list l runs. The measurement was opened just before the start
-- that it was opened for, with no list running, and the start has a positive reply; since then some
-- list ran all the time, so that no packet ended the measurement
pub record IsWithin (d : Profile) (m l : ℕ) (log : List Act) : Type 0 where
  pub newest : m + 1 ≡ opened log
  pub running : runs (past_of d log) l ≡ true
  pub since : List Act
  pub start : Exchange
  pub at : ℕ → Bool
  pub before : List Act
  pub log_is : log ≡ since ++ Heard start ∷ Opened at ∷ before
  pub number : m ≡ opened before
  pub none_before : NoneRuns (past_of d before)
  pub accepted : HasPositive (reply_in d (past_of d before) start)
  pub never_ended :
      (later sooner : List Act) → since ≡ later ++ sooner
      → NoneRuns (past_of d (sooner ++ Heard start ∷ Opened at ∷ before)) → ⊥

-- list l runs before none of the acts since
abbrev pub Rests : Profile → ℕ → List Act → List Act → Type 0
Rests d l since before =
    (later sooner : List Act) (act : Act) → since ≡ later ++ act ∷ sooner
    → runs (past_of d (sooner ++ before)) l ≡ false

-- how many samples of list l were accepted in a part and not written: not laid out, or thrown away
-- before their last packet was sent
abbrev pub left_of : Entry → ℕ → ℕ
left_of e l = accepted_of e l - written_of e l

-- each sample of list l that was due in a part was written, dropped, or is left, and each that was
-- accepted was written or is left
pub record AddsUp (e : Entry) (l : ℕ) : Type 0 where
  pub all_due : due_of e l ≡ written_of e l + dropped_of e l + left_of e l
  pub accepted : accepted_of e l ≡ written_of e l + left_of e l

-- the same in all parts
abbrev pub left_in : List Entry → ℕ → ℕ
left_in entries l = sum_by (λ e. left_of e l) entries

pub record AddsUpIn (entries : List Entry) (l : ℕ) : Type 0 where
  pub all_due : due_in entries l ≡ written_in entries l + dropped_in entries l + left_in entries l
  pub accepted : accepted_in entries l ≡ written_in entries l + left_in entries l

-- what is left of the sampler that event channel c had in measurement m came back behind the acts
-- `earlier`, with this past. It had not come back before. What had been taken of its ring are the
-- first of the items that the sampler sent; the packets of those of the samples among these that
-- passed where they were taken are what was laid out of the ring, in order and each once, then and
-- ever after; the samples among these are marked exactly behind drops; and the numbers of each list
-- add up, where what had been thrown away by then is left
pub record IsTold (d : Profile) (log : List Act) (m c : ℕ) (past : SamplerPast)
    (earlier : List Act)
    : Type 0 where
  pub once : is_back m c earlier ≡ false
  pub front : IsPrefix (taken (deeds_of d m c earlier)) (items_of past)
  pub written :
      from_ring m c (laid d log) ≡ flat_map (sample_of m c) (passed (deeds_of d m c earlier))
  pub marks : HasMarks past (samples (taken (deeds_of d m c earlier)))
  pub adds_up :
      (l : ℕ) → AddsUp (record { number = m; past = past; deeds = deeds_of d m c earlier }) l

-- the law of a log
pub record SessionLaw (d : Profile) (log : List Act) : Type 0 where
  -- what was laid out stands in the order of the acts: what is laid out later stands behind; and so
  -- does what was sent
  pub in_order :
      (later earlier : List Act) → log ≡ later ++ earlier → IsPrefix (laid d earlier) (laid d log)
  pub sent_in_order :
      (later earlier : List Act) → log ≡ later ++ earlier
      → IsPrefix (sent_laid d earlier) (sent_laid d log)
  -- what was sent is what was laid out, in order, without what was thrown away and what waits
  pub sent_are :
      IsWithout (length (thrown d log) + length (waits d log)) (laid d log) (sent_laid d log)
  -- each packet that was laid out was sent or thrown away, or waits, once
  pub each :
      (test : Laid → Bool)
      → count_by test (laid d log)
      ≡ count_by test (sent_laid d log) + count_by test (thrown d log)
      + count_by test (waits d log)
  -- and as long as nothing was thrown away, all that is laid out is sent or waits, in order
  pub since :
      (later earlier : List Act) → log ≡ later ++ earlier → NoneThrows later
      → IsSince d log earlier
  -- each sample of a ring whose last packet was thrown away is noted there once, also one of which
  -- some packets had been sent
  pub unsent :
      (m c l : ℕ) → unsent_of (deeds_of d m c log) l ≡ count_by (ends m c l) (thrown d log)
  -- so of the samples of a list that were laid out of a ring those count as written whose last
  -- packet was sent, or waits
  pub written :
      (m c l : ℕ)
      → written_by (deeds_of d m c log) l
      ≡ count_by (ends m c l) (sent_laid d log) + count_by (ends m c l) (waits d log)
  -- once all parts came back, all that was sent is known
  pub known : AllBack d log → AreKnown log (sent_laid d log)
  -- the bytes sent split into frames with the packets that were sent, whose counters are 0, 1, ..
  -- modulo 65536
  pub frames : IsProfile d → IsSplit (sent_text d log) (numbered 0 (packets_sent d log))
  -- the answers that were laid out are the replies to the packets heard, in order and each once;
  -- those that were sent are these, without some; and as long as nothing was thrown away, they are
  -- the first of them
  pub answers : packets_in (answers_in (laid d log)) ≡ replies_of d log
  pub answers_sent :
      (n : ℕ) × IsWithout n (replies_of d log) (packets_in (answers_in (sent_laid d log)))
  pub answered :
      (later earlier : List Act) → log ≡ later ++ earlier → NoneThrows later
      → waits d earlier ≡ [] → IsAnswered d log earlier
  -- each reply begins with FF or FE, and no packet of a sample does so, if the part that it is of
  -- came back
  pub begins : All (λ q. begins_reply q ≡ true) (replies_of d log)
  pub no_disguise : All (BeginsOtherwise log) (laid d log)
  -- so the packets that begin so among those that were sent are the answers that were sent, if the
  -- parts came back of which samples were sent
  pub told_apart :
      AreKnown log (sent_laid d log)
      → filter begins_reply (packets_sent d log) ≡ packets_in (answers_in (sent_laid d log))
  -- which lists run changes only at packets with a positive reply, and where the master is lost
  pub changes :
      (act : Act) (l : ℕ) (later earlier : List Act) → log ≡ later ++ act ∷ earlier
      → runs (past_of d (act ∷ earlier)) l ≢ runs (past_of d earlier) l
      → IsAccepted d act earlier
  -- and behind a stop of a list with a positive reply the list doesn't run
  pub stops :
      (x : Exchange) (l : ℕ) (later earlier : List Act) → log ≡ later ++ Heard x ∷ earlier
      → AsksToStop d (past_of d earlier) l x.packet
      → HasPositive (reply_in d (past_of d earlier) x)
      → runs (past_of d (Heard x ∷ earlier)) l ≡ false
  -- a sample is laid out only within its measurement, where its list runs
  pub within :
      (m c : ℕ) (s : SampleParts) (later earlier : List Act)
      → log ≡ later ++ Took m c (Sample s) ∷ earlier
      → passes (deeds_of d m c earlier) s.list ≡ true → IsWithin d m s.list earlier
  -- while a list doesn't run no sample of it is laid out
  pub silent :
      (l : ℕ) (later since before : List Act) → log ≡ later ++ (since ++ before)
      → Rests d l since before
      → from_list l (laid d (since ++ before)) ≡ from_list l (laid d before)
  -- what was laid out of a ring are, in order and each once, the packets of those of the samples
  -- taken from it that passed where they were taken
  pub rings :
      (m c : ℕ)
      → from_ring m c (laid d log) ≡ flat_map (sample_of m c) (passed (deeds_of d m c log))
  -- what came back of each part
  pub parts :
      (m c : ℕ) (past : SamplerPast) (later earlier : List Act)
      → log ≡ later ++ CameBack m c past ∷ earlier → IsTold d log m c past earlier
  -- and in sum
  pub adds_up : (l : ℕ) → AddsUpIn (entries_of d log) l

-- what two logs have in common after which one slave stands: the bytes sent, and those that wait;
-- the packets that were sent; the counter of the next frame that is sent; the packets that wait,
-- and where they are from; the sums of all parts that came back, as far as 64 bits tell them, those
-- of the samples written less what was thrown away behind the return of its part; how many
-- measurements were opened, how the lists were set up where the newest was, and which parts did not
-- come back, with the items that were taken of these
pub record SameStory (d : Profile) (a b : List Act) : Type 0 where
  pub sent : sent_text d a ≡ sent_text d b
  pub waits_are :
      text (length (packets_sent d a)) (packets_in (waits d a))
      ≡ text (length (packets_sent d b)) (packets_in (waits d b))
  pub packets : IsProfile d → packets_sent d a ≡ packets_sent d b
  pub counter : length (packets_sent d a) % 65536 ≡ length (packets_sent d b) % 65536
  pub waits_are_same : waits d a ≡ waits d b
  pub due :
      (l : ℕ) → l < MAX_LISTS → Agree (due_in (entries_of d a) l) (due_in (entries_of d b) l)
  pub dropped :
      (l : ℕ) → l < MAX_LISTS
      → Agree (dropped_in (entries_of d a) l) (dropped_in (entries_of d b) l)
  pub written :
      (l : ℕ) → l < MAX_LISTS
      → Agree (written_in (entries_of d a) l + late_of d b l)
      (written_in (entries_of d b) l + late_of d a l)
  pub accepted :
      (l : ℕ) → l < MAX_LISTS
      → Agree (accepted_in (entries_of d a) l) (accepted_in (entries_of d b) l)
  pub measurements : opened a ≡ opened b
  pub plan : plan_at d a ≡ plan_at d b
  pub out : (m c : ℕ) → c < length d.events.items → is_out m c a ≡ is_out m c b
  pub items :
      (m c : ℕ) → c < length d.events.items → is_out m c a ≡ true
      → taken (deeds_of d m c a) ≡ taken (deeds_of d m c b)
