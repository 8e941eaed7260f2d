-- What a slave stands after once a packet was answered.
use Rattle.std.proofs.Common.{◌≡◌, ℕ, ◌+◌, ◌-◌, ◌*◌, ◌<◌, ◌≤◌, Bool, true, false, ◌&&◌, not, if◌then◌else◌, List, ◌∷◌, ◌++◌, length, length-append, get_or, slice_get, refl, sym, ap, ◌∙◌, arith, ◌⊎◌, inl, inr}
use Rattle.std.specs.Prelude.{Option, Some, None}
use Rattle.std.proofs.lemmas.Bool.{false≢true}
use Rattle.std.proofs.lemmas.Bool.Decides.{eqb_tells}
use Rattle.xcp_base.specs.Lists.{has_list}
use Rattle.xcp_base.specs.declared.limits.TheConstants.{MAX_LISTS, MAX_TAKEN}
use Rattle.frame_ring.specs.declared.frame_send.FrameSend.{FrameSend}
use Rattle.session.specs.Starts.{is_on, runs}
use Rattle.session.specs.declared.profile.Profile.{Profile}
use Rattle.slave_outbox.specs.Deeds.{Deed}
use Rattle.slave_outbox.specs.Deeds.{runs as runs_there}
use Rattle.tasks.specs.Links.{AwayState, is_running, runs_of, takes_orders}
use Rattle.slave_channels.specs.Channels.{ChannelState}
use Rattle.slave_channels.specs.Ordering.{starts_noted, stops_noted, stops_sent}
use Rattle.slave_channels.proofs.OrderingLemmas.{stops_noted-same}
use Rattle.slave_channels.specs.Calls.{Ends, StopsAll}
use Rattle.slave.specs.Inner.{Settles, started}
use Rattle.slave.specs.Log.{Act, deeds_of, is_newest, opened, ordered_by, past_of, starts_on, stops_at, with_starts}
use Rattle.slave.specs.Standing.{IsAsLogged, ChannelHas, IsLog, IsOut, Logged, NoneRuns}
use Rattle.slave.proofs.ChannelLemmas.{channel-ends, channel-ordered, channel-same, newest_with, takes-ended}
use Rattle.slave.proofs.DeedLemmas.{deeds-few, starts-few, stops-few}
use Rattle.slave.proofs.LogLemmas.{ties}
use Rattle.slave.proofs.OrderLemmas.{starts-same, stops-none, stops-set}
use Rattle.slave_channels.specs.Calls.{rings_of}
use Rattle.slave.proofs.KeepingLemmas.{lines-each}
use Rattle.slave.proofs.OutLemmas.{keeps-ends, keeps-orders, opened-each, out-each, was-there}

-- an act by which lists are ordered
pub record Orders (d : Profile) (act : Act) (log : List Act) : Type 0 where
  pub deeds :
      (m c : ℕ) → deeds_of d m c (act ∷ log) ≡ (if is_newest m log then ordered_by d c act log (deeds_of d m c log) else deeds_of d m c log)
  pub none_opened : opened (act ∷ log) ≡ opened log

is-false : (b : Bool) → (b ≡ true → ⊥) → b ≡ false
is-false true never = absurd (never refl)
is-false false never = refl

is-bool : (b : Bool) → (b ≡ true) ⊎ (b ≡ false)
is-bool true = inl refl
is-bool false = inr refl

if-same : (b : Bool) (xs ys zs : List Deed) → (b ≡ true → xs ≡ ys) → (if b then xs else zs) ≡ (if b then ys else zs)
if-same true xs ys zs same = same refl
if-same false xs ys zs same = refl

if-few : (b : Bool) (xs ys : List Deed) (k : ℕ) → length xs ≤ k → length ys ≤ k → length (if b then xs else ys) ≤ k
if-few true xs ys k x y = x
if-few false xs ys k x y = y

started-few : (d : Profile) (log : List Act) (lists c m : ℕ) → length (started d log lists c m) ≤ 16 + 32 * length log
started-few d log lists c m =
    let set = λ (l : ℕ). has_list lists l && is_on d (past_of d log) c l in
    if-few (is_newest m log) (starts_noted set MAX_LISTS ++ deeds_of d m c log) (deeds_of d m c log) _
    (omega (arith, length-append (starts_noted set MAX_LISTS) (deeds_of d m c log), starts-few set MAX_LISTS, deeds-few d m c log)) (omega (arith, deeds-few d m c log))

-- of the newest measurement, these are the deeds so far, with the starts
started-here : (d : Profile) (act : Act) (log : List Act) (lists c m : ℕ) → ((l : ℕ) → l < MAX_LISTS → starts_on d c act log l ≡ (has_list lists l && is_on d (past_of d log) c l))
    → is_newest m log ≡ true → started d log lists c m ≡ with_starts d c act log (deeds_of d m c log)
started-here d act log lists c m tie newest =
    ap (λ b. if b then starts_noted (λ l. has_list lists l && is_on d (past_of d log) c l) MAX_LISTS ++ deeds_of d m c log else deeds_of d m c log) newest
    ∙ ap (λ xs. xs ++ deeds_of d m c log) (sym (starts-same MAX_LISTS (starts_on d c act log) (λ l. has_list lists l && is_on d (past_of d log) c l) tie))

quiet : (o : Option (AwayState FrameSend)) (l : ℕ) → takes_orders o ≡ false → is_running o l ≡ false
quiet None l off = refl
quiet (Some x) l off = ap (λ b. b && runs_of x l) off

and_false : (b : Bool) → (b && false) ≡ false
and_false true = refl
and_false false = refl

-- the deeds of a measurement behind the stops of an act
stopped-deeds : (d : Profile) (act : Act) (log : List Act) (lists stops c m : ℕ) (running : ℕ → Bool) → Orders d act log
    → ((l : ℕ) → l < MAX_LISTS → starts_on d c act log l ≡ (has_list lists l && is_on d (past_of d log) c l))
    → ((l : ℕ) → l < MAX_LISTS → has_list stops l ≡ stops_at d act log l)
    → ((l : ℕ) → l < MAX_LISTS → running l ≡ runs_there (started d log lists c (opened log - 1)) l)
    → (b : Bool) → is_newest m log ≡ b
    → newest_with (opened log) (stops_noted (λ l. has_list stops l && running l) MAX_LISTS) (started d log lists c) m
    ≡ deeds_of d m c (act ∷ log)
stopped-deeds d act log lists stops c m running orders tie are runs_so true newest =
    let set = λ (l : ℕ). has_list stops l && running l in
    let all = with_starts d c act log (deeds_of d m c log) in
    let there = started-here d act log lists c m tie newest in
    let wanted = λ (l : ℕ). stops_at d act log l && runs_there all l in
    let at : opened log - 1 ≡ m = back in
    let same : (l : ℕ) → l < MAX_LISTS → set l ≡ wanted l =
    λ l below. ap (λ b. b && running l) (are l below) ∙ ap (λ b. stops_at d act log l && b) (runs_so l below ∙ ap (λ k. runs_there (started d log lists c k) l) at ∙ ap (λ ds. runs_there ds l) there) in
    ap (λ b. if b then stops_noted set MAX_LISTS ++ started d log lists c m else started d log lists c m) newest
    ∙ ap (λ xs. xs ++ started d log lists c m) (stops_noted-same MAX_LISTS set wanted same)
    ∙ ap (λ xs. stops_noted wanted MAX_LISTS ++ xs) there
    ∙ sym (orders.deeds m c ∙ ap (λ b. if b then ordered_by d c act log (deeds_of d m c log) else deeds_of d m c log) newest) where
      back : opened log - 1 ≡ m
      back =
          elim (eqb_tells (m + 1) (opened log)) [
            | inl w ↦ omega (arith, w.1)
            | inr w ↦ absurd (false≢true (sym w.0 ∙ newest))
          ]
stopped-deeds d act log lists stops c m running orders tie are runs_so false newest =
    let set = λ (l : ℕ). has_list stops l && running l in
    ap (λ b. if b then stops_noted set MAX_LISTS ++ started d log lists c m else started d log lists c m) newest
    ∙ ap (λ b. if b then starts_noted (λ l. has_list lists l && is_on d (past_of d log) c l) MAX_LISTS ++ deeds_of d m c log else deeds_of d m c log) newest
    ∙ sym (orders.deeds m c ∙ ap (λ b. if b then ordered_by d c act log (deeds_of d m c log) else deeds_of d m c log) newest)

-- the lists that an act stops are stopped at an event channel
pub channel-stops : (d : Profile) (act : Act) (log : List Act) (lists stops c : ℕ) (a b : ChannelState) → 32 * (1 + length log) ≤ MAX_TAKEN → Orders d act log
    → ((l : ℕ) → l < MAX_LISTS → starts_on d c act log l ≡ (has_list lists l && is_on d (past_of d log) c l))
    → ((l : ℕ) → l < MAX_LISTS → has_list stops l ≡ stops_at d act log l)
    → StopsAll stops a b → ChannelHas (opened log) (started d log lists c) a
    → ChannelHas (opened log) (λ m. deeds_of d m c (act ∷ log)) b
channel-stops d act log lists stops c a b few orders tie are stopped has =
    let n = opened log in
    let f = started d log lists c in
    let set = λ (l : ℕ). has_list stops l && is_running a.link.newer l in
    channel-same n (newest_with n (stops_noted set MAX_LISTS) f) (λ m. deeds_of d m c (act ∷ log))
    (λ m. stopped-deeds d act log lists stops c m (λ l. is_running a.link.newer l) orders tie are has.running (is_newest m log) refl) b
    (channel-ordered n f a b (stops_sent set MAX_LISTS) (stops_noted set MAX_LISTS) set false (stops-set set)
    (λ off. stops-none MAX_LISTS set (λ l below. ap (λ r. has_list stops l && r) (quiet a.link.newer l off) ∙ and_false (has_list stops l)))
    (λ l below is. inr refl)
    (λ m. omega (arith, started-few d log lists c m, stops-few set MAX_LISTS, few))
    stopped has)

-- behind an act what runs at the event channels runs in the session; where none does, all have ended
pub settled : (d : Profile) (act : Act) (log : List Act) (lists before now : ℕ) (xs ys : List ChannelState) → 32 * (1 + length log) ≤ MAX_TAKEN → Orders d act log
    → IsLog d (act ∷ log)
    → ((c l : ℕ) → l < MAX_LISTS → starts_on d c act log l ≡ (has_list lists l && is_on d (past_of d log) c l))
    → ((l : ℕ) → l < MAX_LISTS → has_list before l ≡ runs (past_of d log) l)
    → ((l : ℕ) → l < MAX_LISTS → has_list now l ≡ runs (past_of d (act ∷ log)) l)
    → Settles xs ys before now
    → ((c : ℕ) (ch : ChannelState) → slice_get xs c ≡ Some ch → ChannelHas (opened log) (started d log lists c) ch)
    → (c : ℕ) (ch : ChannelState) → slice_get ys c ≡ Some ch
    → ChannelHas (opened log) (λ m. deeds_of d m c (act ∷ log)) ch × (NoneRuns (past_of d (act ∷ log)) → takes_orders ch.link.newer ≡ false)
settled d act log lists before now xs ys few orders is_log tie was is settles has c ch at =
    let are : (l : ℕ) → l < MAX_LISTS → has_list settles.lists l ≡ stops_at d act log l =
    λ l below. settles.are l below ∙ ap (λ b. b && not (has_list now l)) (was l below) ∙ ap (λ b. runs (past_of d log) l && not b) (is l below) in
    let stopped : (ch : ChannelState) → slice_get settles.stopped c ≡ Some ch → ChannelHas (opened log) (λ m. deeds_of d m c (act ∷ log)) ch =
    λ ch at.
    let old = get_or xs c ch in
    let there = was-there xs settles.stopped c ch settles.stops.as_many at in
    channel-stops d act log lists settles.lists c old ch few orders (tie c) are (settles.stops.each c old ch there at) (has c old there) in
    elim (is-bool settles.ends) [
      | inl on ↦
          let none : NoneRuns (past_of d (act ∷ log)) = λ l below. sym (is l below) ∙ settles.yes on l below in
          let each = settles.ends_all on in
          let old = get_or settles.stopped c ch in
          let there = was-there settles.stopped ys c ch each.as_many at in (
            channel-ends (opened log) (λ m. deeds_of d m c (act ∷ log)) old ch (each.each c old ch there at)
                (λ l below. is-false _ (λ runs_so. false≢true (sym (none l below) ∙ (ties d (act ∷ log) is_log (opened log - 1) c l below runs_so).1)))
                (stopped old there),
            λ quiet_now. takes-ended old ch (each.each c old ch there at),
          )
      | inr off ↦ (
        stopped ch (ap (λ zs. slice_get zs c) (sym (settles.goes_on off)) ∙ at),
        λ quiet_now. absurd (false≢true (sym off ∙ settles.always (λ l below. is l below ∙ quiet_now l below))),
      )
    ]

-- and there are as many event channels
pub settled-many : (xs ys : List ChannelState) (before now : ℕ) → Settles xs ys before now → length ys ≡ length xs
settled-many xs ys before now settles =
    elim (is-bool settles.ends) [
      | inl on ↦ (settles.ends_all on).as_many ∙ settles.stops.as_many
      | inr off ↦ ap length (settles.goes_on off) ∙ settles.stops.as_many
    ]

-- each on its line
pub settled-lines : (xs ys : List ChannelState) (before now : ℕ) → Settles xs ys before now → rings_of ys ≡ rings_of xs
settled-lines xs ys before now settles =
    let stopped = lines-each (λ k. StopsAll settles.lists) xs settles.stopped settles.stops (λ k x y orders. (keeps-orders x y _ _ orders).ring) in
    elim (is-bool settles.ends) [
      | inl on ↦ lines-each (λ k. Ends) settles.stopped ys (settles.ends_all on) (λ k x y ends. (keeps-ends x y ends).ring) ∙ stopped
      | inr off ↦ ap rings_of (settles.goes_on off) ∙ stopped
    ]

-- and was opened as it was
pub settled-opens : (xs ys : List ChannelState) (before now : ℕ) (d : Profile) (pasts : Logged) → Settles xs ys before now
    → ((c : ℕ) (ch : ChannelState) → slice_get xs c ≡ Some ch → IsAsLogged d pasts c ch)
    → (c : ℕ) (ch : ChannelState) → slice_get ys c ≡ Some ch → IsAsLogged d pasts c ch
settled-opens xs ys before now d pasts settles is c ch at =
    let stopped = opened-each (λ k. StopsAll settles.lists) xs settles.stopped d pasts settles.stops (λ k x y orders. keeps-orders x y _ _ orders) is in
    elim (is-bool settles.ends) [
      | inl on ↦ opened-each (λ k. Ends) settles.stopped ys d pasts (settles.ends_all on) (λ k x y ends. keeps-ends x y ends) stopped c ch at
      | inr off ↦ stopped c ch (ap (λ zs. slice_get zs c) (sym (settles.goes_on off)) ∙ at)
    ]

-- what is kept is the same
pub settled-out : (xs ys : List ChannelState) (before now : ℕ) (out : ℕ → ℕ → Bool) → Settles xs ys before now
    → ((c : ℕ) (ch : ChannelState) → slice_get xs c ≡ Some ch → IsOut (out c) ch)
    → (c : ℕ) (ch : ChannelState) → slice_get ys c ≡ Some ch → IsOut (out c) ch
settled-out xs ys before now out settles is c ch at =
    let stopped = out-each (λ k. StopsAll settles.lists) xs settles.stopped out settles.stops (λ k x y orders. keeps-orders x y _ _ orders) is in
    elim (is-bool settles.ends) [
      | inl on ↦ out-each (λ k. Ends) settles.stopped ys out (settles.ends_all on) (λ k x y ends. keeps-ends x y ends) stopped c ch at
      | inr off ↦ stopped c ch (ap (λ zs. slice_get zs c) (sym (settles.goes_on off)) ∙ at)
    ]
