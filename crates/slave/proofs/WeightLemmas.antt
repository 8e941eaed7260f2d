-- How much a log weighs, and what a slave that counts its acts stands after.
use Rattle.std.proofs.Common.{◌≡◌, ℕ, zero, suc, ◌+◌, ◌*◌, ◌<◌, ◌≤◌, Bool, true, false, ◌&&◌, List, [], ◌∷◌, ◌++◌, length, length-append, refl, sym, ap, ◌∙◌, subst, arith}
use Rattle.std.specs.Prelude.{nat_lt, Option, Some, None, Err}
use Rattle.std.specs.List.{list_all}
use Rattle.std.proofs.lemmas.Bool.{false≢true}
use Rattle.std.proofs.lemmas.List.{length-drop}
use Rattle.xcp_base.specs.Samples.{SampleParts}
use Rattle.xcp_base.specs.declared.item.Item.TheVariants.{Marker, Sample}
use Rattle.channel_ring.specs.Making.{ArePackets}
use Rattle.xcp_base.specs.Counts.{one_if}
use Rattle.session.specs.Exchanges.{reply_in}
use Rattle.session.specs.declared.profile.Profile.{Profile}
use Rattle.slave_outbox.specs.Deeds.{passes}
use Rattle.slave_outbox.specs.Outboxes.{has_waiting}
use Rattle.slave_outbox.specs.declared.origin.Origin.TheVariants as origin
use Rattle.session.specs.Fields.{packet_of}
use Rattle.slave.specs.Hearing.{GoesBy, is_before}
use Rattle.slave.specs.Inner.{PartsGoBy, counting}
use Rattle.slave.specs.Log.{Act, CameBack, Discarded, Heard, HungUp, Opened, Refused, Sent, Took, deeds_of, discarding, losing, past_of, reply_laid, sample_laid, sending, waits, weight}
use Rattle.slave.specs.Standing.{IsLog, PartsStandAfter, SlaveStandsAfter, SlaveState}
use Rattle.slave.specs.declared.limits.TheConstants.{MOST_ACTS, PER_ACT, PER_PACKET}
use Rattle.slave.proofs.LaidLemmas.{log-behind}
use Rattle.slave.proofs.TogetherLemmas.{length-together}
use Rattle.xcp_base.specs.declared.limits.TheConstants.{MAX_CHANNELS}

one-at-most : (b : Bool) → one_if b ≤ 1
one-at-most true = omega arith
one-at-most false = omega arith

one-reply : (reply : Option (List ℕ)) → length (reply_laid reply) ≤ 1
one-reply None = omega arith
one-reply (Some packet) = omega arith

-- a sample has 124 packets at most
few-packets : (b : Bool) (m c : ℕ) (s : SampleParts) → (b ≡ true → ArePackets s.packets) → length (sample_laid b m c s) ≤ 124
few-packets false m c s are = omega arith
few-packets true m c s are = let few = (are refl).few in omega (arith, few, length-together (origin.Sample m c s.list) s.packets)

-- what an act costs: itself, what it lays out at most, and a master who connects; and some acts
abbrev pub cost : Act → ℕ
cost (Heard x) = 3
cost (Refused packet code) = 3
cost (Opened at) = 3
cost (Took m c x) = PER_ACT
cost (CameBack m c past) = 3
cost (Sent n) = 3
cost HungUp = 3
cost Discarded = 3

abbrev pub costs : List Act → ℕ
costs [] = 0
costs (act ∷ acts) = cost act + costs acts

-- behind an act no more waits than that
few-wait : (d : Profile) (act : Act) (log : List Act) → IsLog d (act ∷ log) → length (waits d (act ∷ log)) + 2 ≤ length (waits d log) + cost act
few-wait d (Heard x) log is =
    let reply = reply_in d (past_of d log) x in
    omega (arith, length-append (waits d log) (reply_laid reply), one-reply reply)
few-wait d (Refused packet code) log is = omega (arith, length-append (waits d log) (reply_laid (Some (packet_of (Err code)))))
few-wait d (Opened at) log is = omega arith
few-wait d (Took m c (Sample s)) log is =
    let passed = passes (deeds_of d m c log) s.list in
    omega (arith, length-append (waits d log) (sample_laid passed m c s), few-packets passed m c s is.1.packets)
few-wait d (Took m c (Marker k)) log is = omega arith
few-wait d (CameBack m c past) log is = omega arith
few-wait d (Sent n) log is = omega (arith, length-drop n (waits d log))
few-wait d HungUp log is = omega arith
few-wait d Discarded log is = omega arith

-- what holds of a slave as it stood inside a call
pub fits-of : (v w : SlaveState) → w ≡ v → w.acts < MOST_ACTS + PER_PACKET → v.acts < MOST_ACTS + PER_PACKET
fits-of v w same fits = subst (λ (s : SlaveState). s.acts < MOST_ACTS + PER_PACKET) same fits

-- so one act more weighs no more than it costs
weight-act : (d : Profile) (act : Act) (log : List Act) → IsLog d (act ∷ log) → weight d (act ∷ log) ≤ weight d log + cost act
weight-act d act log is =
    omega (
      arith,
      few-wait d act log is,
      one-at-most (past_of d (act ∷ log)).connected,
    )

weight-acts : (d : Profile) (acts log : List Act) → IsLog d (acts ++ log) → weight d (acts ++ log) ≤ weight d log + costs acts
weight-acts d [] log is = omega arith
weight-acts d (act ∷ acts) log is = omega (arith, weight-act d act (acts ++ log) is, weight-acts d acts log (log-behind d (act ∷ []) (acts ++ log) is))

-- before a start no item is taken
cost-before : (act : Act) → is_before act ≡ true → cost act ≤ 3
cost-before (Heard x) is = omega arith
cost-before (Refused packet code) is = omega arith
cost-before (Opened at) is = omega arith
cost-before (Took m c x) is = absurd (false≢true is)
cost-before (CameBack m c past) is = omega arith
cost-before (Sent n) is = omega arith
cost-before HungUp is = omega arith
cost-before Discarded is = omega arith

pub costs-before : (acts : List Act) → list_all is_before acts ≡ true → costs acts ≤ 3 * length acts
costs-before [] are = omega arith
costs-before (act ∷ acts) are =
    let both = and-both (is_before act) (list_all is_before acts) are in
    omega (arith, cost-before act both.0, costs-before acts both.1) where
      and-both : (a b : Bool) → (a && b) ≡ true → (a ≡ true) × (b ≡ true)
      and-both true b is = (refl, is)
      and-both false b is = absurd (false≢true is)

-- what waits is sent at no more weight
weight-sent : (d : Profile) (n : ℕ) (log : List Act) → suc n ≤ length (waits d log) → weight d (Sent (suc n) ∷ log) ≤ weight d log
weight-sent d n log there = omega (arith, there, length-drop (suc n) (waits d log))

-- or thrown away
weight-thrown : (d : Profile) (log : List Act) → 0 < length (waits d log) → weight d (Discarded ∷ log) ≤ weight d log
weight-thrown d log some = omega (arith, some)

-- and a master that is connected is lost at no more
weight-hung : (d : Profile) (log : List Act) → (past_of d log).connected ≡ true → weight d (HungUp ∷ log) ≤ weight d log
weight-hung d log on =
    let one : one_if (past_of d log).connected ≡ 1 = ap one_if on in
    omega (arith, one)

-- a log of a slave that isn't spent is short
pub short : (d : Profile) (s : SlaveState) (log : List Act) → s.acts < MOST_ACTS + PER_PACKET → SlaveStandsAfter d s log → length log < MOST_ACTS + PER_PACKET
short d s log fits stands = omega (arith, fits, stands.counted)

-- how much was counted, and where the next look begins, are no parts of this
pub beside : (d : Profile) (s : SlaveState) (n k : ℕ) (log : List Act) → PartsStandAfter d s log → PartsStandAfter d (record s { acts = n; next = k }) log
beside d s n k log stands =
    let has = stands.has in
    record {
      has = record {
        few = has.few;
        is_log = has.is_log;
        profile = has.profile;
        session = has.session;
        outbox = has.outbox;
        channels = has.channels;
        out = has.out;
        as_logged = has.as_logged;
        many = has.many;
        plan = has.plan;
        number = has.number;
        account = has.account;
      };
      ended = stands.ended;
    }

-- what is counted changes nothing of this
pub recounted : (a b : SlaveState) (acts : List Act) (n : ℕ) → PartsGoBy a b acts → PartsGoBy a (counting b n) acts
recounted a b acts n goes = (goes.0, λ log few stands. beside a.session.profile b (b.acts + n) b.next (acts ++ log) (goes.1 log few stands))

-- nor where the next look begins
pub goes-next : (a b : SlaveState) (acts : List Act) (k : ℕ) → GoesBy a b acts → GoesBy a (record b { next = k }) acts
goes-next a b acts k goes = (
  goes.0,
  λ log stands.
      let now = goes.1 log stands in
      record { parts = beside a.session.profile b b.acts k (acts ++ log) now.parts; counted = now.counted },
)

-- a slave goes on as its parts do, if it counts what the acts cost
pub counted : (a b : SlaveState) (acts : List Act) → a.acts < MOST_ACTS + PER_PACKET → length acts ≤ 2 + 2 * MAX_CHANNELS → a.acts + costs acts ≤ b.acts → PartsGoBy a b acts → GoesBy a b acts
counted a b acts fits few more goes = (
  goes.0,
  λ log stands.
      let d = a.session.profile in
      let parts = goes.1 log (omega (arith, few, short d a log fits stands)) stands.parts in
      record { parts = parts; counted = omega (arith, more, stands.counted, weight-acts d acts log parts.has.is_log) },
)

-- and where it counts nothing: what waited was sent, or nothing was
pub counted-sent : (a b : SlaveState) (n : ℕ) → a.acts < MOST_ACTS + PER_PACKET → b.acts ≡ a.acts → PartsGoBy a b (Sent n ∷ []) → (n ≡ 0 → PartsGoBy a b []) → GoesBy a b (sending n)
counted-sent a b zero fits same goes none = counted a b [] fits (omega arith) (omega (arith, same)) (none refl)
counted-sent a b (suc n) fits same goes none = (
  goes.0,
  λ log stands.
      let d = a.session.profile in
      let parts = goes.1 log (omega (arith, short d a log fits stands)) stands.parts in
      record { parts = parts; counted = omega (arith, same, stands.counted, weight-sent d n log parts.has.is_log.0) },
)

-- or all that waited was thrown away
counted-thrown : (a b : SlaveState) → a.acts < MOST_ACTS + PER_PACKET → b.acts ≡ a.acts → 0 < length a.outbox.waits → PartsGoBy a b (Discarded ∷ []) → GoesBy a b (Discarded ∷ [])
counted-thrown a b fits same some goes = (
  goes.0,
  λ log stands.
      let d = a.session.profile in
      let many : length a.outbox.waits ≡ length (waits d log) = ap length stands.parts.has.outbox.waiting in
      record {
        parts = goes.1 log (omega (arith, short d a log fits stands)) stands.parts;
        counted = omega (arith, same, stands.counted, weight-thrown d log (omega (arith, some, many)));
      },
)

-- by whether something waited
pub thrown : (a b : SlaveState) → a.acts < MOST_ACTS + PER_PACKET → b.acts ≡ a.acts → has_waiting a.outbox ≡ true → PartsGoBy a b (Discarded ∷ []) → GoesBy a b (discarding (has_waiting a.outbox))
thrown a b fits same some goes =
    subst (λ x. GoesBy a b (discarding x)) (sym some) (counted-thrown a b fits same (waiting-some (length a.outbox.waits) some) goes) where
      waiting-some : (n : ℕ) → nat_lt 0 n ≡ true → 0 < n
      waiting-some zero is = absurd (false≢true is)
      waiting-some (suc n) is = omega arith

pub not-thrown : (a : SlaveState) → has_waiting a.outbox ≡ false → GoesBy a a (discarding (has_waiting a.outbox))
not-thrown a none = subst (λ x. GoesBy a a (discarding x)) (sym none) (refl, λ log stands. stands)

-- or a master that was connected hung up
counted-hung : (a b : SlaveState) → a.acts < MOST_ACTS + PER_PACKET → b.acts ≡ a.acts → a.session.connected ≡ true → PartsGoBy a b (HungUp ∷ []) → GoesBy a b (HungUp ∷ [])
counted-hung a b fits same on goes = (
  goes.0,
  λ log stands.
      let d = a.session.profile in
      record {
        parts = goes.1 log (omega (arith, short d a log fits stands)) stands.parts;
        counted = omega (arith, same, stands.counted, weight-hung d log (sym stands.parts.has.session.connected ∙ on));
      },
)

-- by whether one was connected
pub hung : (a b : SlaveState) → a.acts < MOST_ACTS + PER_PACKET → b.acts ≡ a.acts → a.session.connected ≡ true → PartsGoBy a b (HungUp ∷ []) → GoesBy a b (losing a.session.connected)
hung a b fits same on goes = subst (λ x. GoesBy a b (losing x)) (sym on) (counted-hung a b fits same on goes)

pub not-hung : (a : SlaveState) → a.session.connected ≡ false → GoesBy a a (losing a.session.connected)
not-hung a off = subst (λ x. GoesBy a a (losing x)) (sym off) (refl, λ log stands. stands)
