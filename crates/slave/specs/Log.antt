-- What a slave did, and what follows of it: the past of its session, what was done at each event
-- channel, and the packets that were laid out, and what became of them.
use Rattle.std.specs.Prelude.{◌≡◌, ℕ, ◌+◌, ◌<◌, ◌≤◌, zero, suc}
use Rattle.std.specs.Prelude.{Bool, true, false, ◌&&◌, ◌||◌, not, nat_eq, if◌then◌else◌}
use Rattle.std.specs.Prelude.{List, [], ◌∷◌, ◌++◌, length, count_by, drop}
use Rattle.std.specs.Prelude.{take as first}
use Rattle.std.specs.Prelude.{Option, Some, None, Err}
use Rattle.xcp_base.specs.Counts.{one_if}
use Rattle.xcp_base.specs.Samples.{SampleParts}
use Rattle.xcp_base.specs.declared.err_code.ErrCode.{ErrCode}
use Rattle.xcp_base.specs.declared.item.Item.{Item}
use Rattle.xcp_base.specs.declared.item.Item.TheVariants.{Marker, Sample}
use Rattle.xcp_base.specs.declared.limits.TheConstants.{MAX_LISTS}
use Rattle.session.specs.Exchanges.{Exchange, past_behind, reply_in}
use Rattle.session.specs.Fields.{packet_of}
use Rattle.session.specs.Past.{Past, new_past}
use Rattle.session.specs.Starts.{is_on, runs}
use Rattle.session.specs.declared.profile.Profile.{Profile}
use Rattle.sampler.specs.Past.{Past as SamplerPast}
use Rattle.slave_outbox.specs.Deeds.{Deed, Unsent, passes}
use Rattle.slave_outbox.specs.Deeds.{Took as TookItem}
use Rattle.slave_outbox.specs.Deeds.{runs as runs_there}
use Rattle.slave_outbox.specs.Outboxes.{Laid, origins_in, together}
use Rattle.slave_outbox.specs.declared.origin.Origin.{Origin}
use Rattle.slave_outbox.specs.declared.origin.Origin.TheVariants as origin
use Rattle.slave_channels.specs.Ordering.{starts_noted, stops_noted}
use Rattle.slave_channels.specs.Accounts.{Entry, end_of, sum_before}

-- a packet was answered by the session; a start was refused by the slave, with an error code, and
-- changed nothing; a measurement was opened, with a part at these event channels; an item was taken
-- off the ring that event channel c has in measurement m; what was left of the sampler that event
-- channel c had in measurement m came back, and this is the sampler's past; so many of the packets
-- that waited were sent, the oldest first; the master was lost, as behind DISCONNECT; or all that
-- waited was thrown away
pub data Act : Type 0 where
  Heard : (x : Exchange) → Act
  Refused : (packet : List ℕ) (code : ErrCode) → Act
  Opened : (at : ℕ → Bool) → Act
  Took : (m c : ℕ) (x : Item) → Act
  CameBack : (m c : ℕ) (past : SamplerPast) → Act
  Sent : (n : ℕ) → Act
  HungUp : Act
  Discarded : Act

-- so many were sent, if these are any
abbrev pub sending : ℕ → List Act
sending zero = []
sending (suc n) = Sent (suc n) ∷ []

-- the master was lost, if one was connected
abbrev pub losing : Bool → List Act
losing false = []
losing true = HungUp ∷ []

-- what waited was thrown away, if something did
abbrev pub discarding : Bool → List Act
discarding false = []
discarding true = Discarded ∷ []

-- In each definition below the log has the acts so far, the newest first.

abbrev pub is_opening : Act → Bool
is_opening (Heard x) = false
is_opening (Refused packet code) = false
is_opening (Opened at) = true
is_opening (Took m c x) = false
is_opening (CameBack m c past) = false
is_opening (Sent n) = false
is_opening HungUp = false
is_opening Discarded = false

-- something came back
abbrev pub is_return : Act → Bool
is_return (Heard x) = false
is_return (Refused packet code) = false
is_return (Opened at) = false
is_return (Took m c x) = false
is_return (CameBack m c past) = true
is_return (Sent n) = false
is_return HungUp = false
is_return Discarded = false

-- how many measurements were opened: the newest has the number before this one
abbrev pub opened : List Act → ℕ
opened log = count_by is_opening log

-- the session's past behind an act
abbrev pub past_by : Profile → Act → Past → Past
past_by d (Heard x) past = past_behind d past x
past_by d (Refused packet code) past = past
past_by d (Opened at) past = past
past_by d (Took m c x) past = past
past_by d (CameBack m c p) past = past
past_by d (Sent n) past = past
past_by d HungUp past = new_past
past_by d Discarded past = past

abbrev pub past_of : Profile → List Act → Past
past_of d [] = new_past
past_of d (act ∷ log) = past_by d act (past_of d log)

-- list l runs behind the act and not before it; and the other way round
abbrev pub starts_at : Profile → Act → List Act → ℕ → Bool
starts_at d act log l = not (runs (past_of d log) l) && runs (past_of d (act ∷ log)) l

abbrev pub stops_at : Profile → Act → List Act → ℕ → Bool
stops_at d act log l = runs (past_of d log) l && not (runs (past_of d (act ∷ log)) l)

-- the lists that an act starts whose mode names event channel c
abbrev pub starts_on : Profile → ℕ → Act → List Act → ℕ → Bool
starts_on d c act log l = starts_at d act log l && is_on d (past_of d log) c l

-- of an event channel's part of the newest measurement, where these are its deeds so far: they and
-- the starts of its lists; and the stops of those that then run
abbrev pub with_starts : Profile → ℕ → Act → List Act → List Deed → List Deed
with_starts d c act log deeds = starts_noted (starts_on d c act log) MAX_LISTS ++ deeds

abbrev pub with_stops : Profile → Act → List Act → List Deed → List Deed
with_stops d act log deeds =
    stops_noted (λ l. stops_at d act log l && runs_there deeds l) MAX_LISTS ++ deeds

abbrev pub ordered_by : Profile → ℕ → Act → List Act → List Deed → List Deed
ordered_by d c act log deeds = with_stops d act log (with_starts d c act log deeds)

-- measurement m is the newest
abbrev pub is_newest : ℕ → List Act → Bool
is_newest m log = nat_eq (m + 1) (opened log)

-- the packet of a reply, if there is one
abbrev pub reply_laid : Option (List ℕ) → List Laid
reply_laid None = []
reply_laid (Some packet) = together origin.Reply (packet ∷ [])

-- the packets of a sample that event channel c has in measurement m, if it passes
abbrev pub sample_laid : Bool → ℕ → ℕ → SampleParts → List Laid
sample_laid false m c s = []
sample_laid true m c s = together (origin.Sample m c s.list) s.packets

-- it is a sample from the ring that event channel c has in measurement m
abbrev pub is_of_ring : ℕ → ℕ → Origin → Bool
is_of_ring m c origin.Reply = false
is_of_ring m c (origin.Sample n k l) = nat_eq n m && nat_eq k c

-- it isn't sent, or not whole: what that is to the ring, if it is from there
abbrev pub unsent_one : ℕ → ℕ → Origin → List Deed
unsent_one m c origin.Reply = []
unsent_one m c (origin.Sample n k l) = if nat_eq n m && nat_eq k c then Unsent l ∷ [] else []

-- so of each of these, the oldest first
abbrev pub unsent_by : ℕ → ℕ → List Origin → List Deed
unsent_by m c [] = []
unsent_by m c (x ∷ xs) = unsent_by m c xs ++ unsent_one m c x

abbrev mutual
  -- what was done with the ring that event channel c has in measurement m: the orders of the acts
  -- while the measurement was the newest, the items that were taken, and those of the samples laid
  -- out whose last packet was thrown away: of such a sample some packets may have been sent
  pub deeds_of : Profile → ℕ → ℕ → List Act → List Deed
  deeds_of d m c [] = []
  deeds_of d m c (Heard x ∷ log) =
      if is_newest m log then ordered_by d c (Heard x) log (deeds_of d m c log)
      else deeds_of d m c log
  deeds_of d m c (Refused packet code ∷ log) = deeds_of d m c log
  deeds_of d m c (Opened at ∷ log) = deeds_of d m c log
  deeds_of d m c (Took n k x ∷ log) =
      if nat_eq n m && nat_eq k c then TookItem x ∷ deeds_of d m c log else deeds_of d m c log
  deeds_of d m c (CameBack n k past ∷ log) = deeds_of d m c log
  deeds_of d m c (Sent n ∷ log) = deeds_of d m c log
  deeds_of d m c (HungUp ∷ log) =
      if is_newest m log then ordered_by d c HungUp log (deeds_of d m c log)
      else deeds_of d m c log
  deeds_of d m c (Discarded ∷ log) =
      unsent_by m c (origins_in (waits d log)) ++ deeds_of d m c log

  -- the packets of replies and samples that wait, the oldest first: what was laid out, and neither
  -- sent nor thrown away
  pub waits : Profile → List Act → List Laid
  waits d [] = []
  waits d (Heard x ∷ log) = waits d log ++ reply_laid (reply_in d (past_of d log) x)
  waits d (Refused packet code ∷ log) = waits d log ++ reply_laid (Some (packet_of (Err code)))
  waits d (Opened at ∷ log) = waits d log
  waits d (Took m c (Sample s) ∷ log) =
      waits d log ++ sample_laid (passes (deeds_of d m c log) s.list) m c s
  waits d (Took m c (Marker k) ∷ log) = waits d log
  waits d (CameBack m c past ∷ log) = waits d log
  waits d (Sent n ∷ log) = drop n (waits d log)
  waits d (HungUp ∷ log) = waits d log
  waits d (Discarded ∷ log) = []

-- what an act lays out: the packet of a reply, or those of a sample whose list runs there and that
-- is not from before a stop of it
abbrev pub laid_by : Profile → Act → List Act → List Laid
laid_by d (Heard x) log = reply_laid (reply_in d (past_of d log) x)
laid_by d (Refused packet code) log = reply_laid (Some (packet_of (Err code)))
laid_by d (Opened at) log = []
laid_by d (Took m c (Sample s)) log = sample_laid (passes (deeds_of d m c log) s.list) m c s
laid_by d (Took m c (Marker k)) log = []
laid_by d (CameBack m c past) log = []
laid_by d (Sent n) log = []
laid_by d HungUp log = []
laid_by d Discarded log = []

-- the packets that were laid out, oldest first
abbrev pub laid : Profile → List Act → List Laid
laid d [] = []
laid d (act ∷ log) = laid d log ++ laid_by d act log

-- the packets that were sent, oldest first: each time the first so many of those that waited
abbrev pub sent_laid : Profile → List Act → List Laid
sent_laid d [] = []
sent_laid d (Heard x ∷ log) = sent_laid d log
sent_laid d (Refused packet code ∷ log) = sent_laid d log
sent_laid d (Opened at ∷ log) = sent_laid d log
sent_laid d (Took m c x ∷ log) = sent_laid d log
sent_laid d (CameBack m c past ∷ log) = sent_laid d log
sent_laid d (Sent n ∷ log) = sent_laid d log ++ first n (waits d log)
sent_laid d (HungUp ∷ log) = sent_laid d log
sent_laid d (Discarded ∷ log) = sent_laid d log

-- the packets that were thrown away, oldest first: each time all that waited
abbrev pub thrown : Profile → List Act → List Laid
thrown d [] = []
thrown d (Heard x ∷ log) = thrown d log
thrown d (Refused packet code ∷ log) = thrown d log
thrown d (Opened at ∷ log) = thrown d log
thrown d (Took m c x ∷ log) = thrown d log
thrown d (CameBack m c past ∷ log) = thrown d log
thrown d (Sent n ∷ log) = thrown d log
thrown d (HungUp ∷ log) = thrown d log
thrown d (Discarded ∷ log) = thrown d log ++ waits d log

-- what a log weighs: its acts, the packets that wait, and one more while a master is connected. So
-- what waits is sent or thrown away, and a master lost, at no more weight
abbrev pub weight : Profile → List Act → ℕ
weight d log = length log + length (waits d log) + one_if (past_of d log).connected

-- whether what was left of the sampler that event channel c had in measurement m came back
abbrev pub is_back : ℕ → ℕ → List Act → Bool
is_back m c [] = false
is_back m c (Heard x ∷ log) = is_back m c log
is_back m c (Refused packet code ∷ log) = is_back m c log
is_back m c (Opened at ∷ log) = is_back m c log
is_back m c (Took n k x ∷ log) = is_back m c log
is_back m c (CameBack n k past ∷ log) = (nat_eq n m && nat_eq k c) || is_back m c log
is_back m c (Sent n ∷ log) = is_back m c log
is_back m c (HungUp ∷ log) = is_back m c log
is_back m c (Discarded ∷ log) = is_back m c log

-- whether event channel c has a part of measurement m
abbrev pub has_part : ℕ → ℕ → List Act → Bool
has_part m c [] = false
has_part m c (Heard x ∷ log) = has_part m c log
has_part m c (Refused packet code ∷ log) = has_part m c log
has_part m c (Opened at ∷ log) = if nat_eq m (opened log) then at c else has_part m c log
has_part m c (Took n k x ∷ log) = has_part m c log
has_part m c (CameBack n k past ∷ log) = has_part m c log
has_part m c (Sent n ∷ log) = has_part m c log
has_part m c (HungUp ∷ log) = has_part m c log
has_part m c (Discarded ∷ log) = has_part m c log

-- whether it has one that did not come back
abbrev pub is_out : ℕ → ℕ → List Act → Bool
is_out m c log = has_part m c log && not (is_back m c log)

-- all parts came back
abbrev pub AllBack : Profile → List Act → Type 0
AllBack d log =
    (m c : ℕ) → c < length d.events.items → has_part m c log ≡ true → is_back m c log ≡ true

-- and all of the measurements from the one to below the other
abbrev pub AllBackWithin : ℕ → ℕ → Profile → List Act → Type 0
AllBackWithin from to d log =
    (m c : ℕ) → from ≤ m → m < to → c < length d.events.items → has_part m c log ≡ true
    → is_back m c log ≡ true

-- the parts of measurements that came back, with what had been done with their rings, the newest
-- first
abbrev pub entries_of : Profile → List Act → List Entry
entries_of d [] = []
entries_of d (Heard x ∷ log) = entries_of d log
entries_of d (Refused packet code ∷ log) = entries_of d log
entries_of d (Opened at ∷ log) = entries_of d log
entries_of d (Took m c x ∷ log) = entries_of d log
entries_of d (CameBack m c past ∷ log) =
    record { number = m; past = past; deeds = deeds_of d m c log } ∷ entries_of d log
entries_of d (Sent n ∷ log) = entries_of d log
entries_of d (HungUp ∷ log) = entries_of d log
entries_of d (Discarded ∷ log) = entries_of d log

-- it is a sample of list l
abbrev pub is_sample_of : ℕ → Origin → Bool
is_sample_of l origin.Reply = false
is_sample_of l (origin.Sample m c k) = nat_eq k l

-- it is one of measurement m whose part isn't out any more
abbrev pub is_late : List Act → ℕ → ℕ → Origin → Bool
is_late log m l origin.Reply = false
is_late log m l (origin.Sample n c k) = nat_eq n m && (nat_eq k l && not (is_out n c log))

-- how many samples of list l in measurement m were thrown away, at least their last packet, behind
-- the return of their part, which had counted them as written
abbrev pub late_in : Profile → List Act → ℕ → ℕ → ℕ
late_in d [] m l = 0
late_in d (Heard x ∷ log) m l = late_in d log m l
late_in d (Refused packet code ∷ log) m l = late_in d log m l
late_in d (Opened at ∷ log) m l = late_in d log m l
late_in d (Took n c x ∷ log) m l = late_in d log m l
late_in d (CameBack n c past ∷ log) m l = late_in d log m l
late_in d (Sent n ∷ log) m l = late_in d log m l
late_in d (HungUp ∷ log) m l = late_in d log m l
late_in d (Discarded ∷ log) m l =
    late_in d log m l + count_by (is_late log m l) (origins_in (waits d log))

-- and in all measurements
abbrev pub late_of : Profile → List Act → ℕ → ℕ
late_of d log l = sum_before (end_of (entries_of d log)) (late_in d log) l
