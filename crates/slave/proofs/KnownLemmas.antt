-- Once all parts came back, all that was laid out is known.
use Rattle.std.proofs.Common.{◌≡◌, ℕ, zero, suc, ◌<◌, Bool, true, false, ◌&&◌, ◌||◌, nat_eq, if◌then◌else◌, List, [], ◌∷◌, drop, length, slice_get, sym, ap, ◌∙◌, subst, arith, inl, inr}
use Rattle.std.proofs.lemmas.Bool.{false≢true}
use Rattle.std.proofs.lemmas.Bool.Decides.{eqb_tells}
use Rattle.slave_channels.specs.Accounts.{end_of}
use Rattle.std.specs.Prelude.{Option, Some, None}
use Rattle.std.specs.List.{AllByRecursion}
use Rattle.std.proofs.lemmas.List.Elements.{All-from_recursion}
use Rattle.xcp_base.specs.Samples.{SampleParts}
use Rattle.xcp_base.specs.declared.item.Item.TheVariants.{Marker, Sample}
use Rattle.session.specs.Exchanges.{reply_in}
use Rattle.session.specs.declared.profile.Profile.{Profile}
use Rattle.daq_engine.proofs.PidLemmas.{all-append, all-mono}
use Rattle.slave_outbox.specs.Deeds.{passes}
use Rattle.slave_outbox.specs.Outboxes.{Laid, origins_in}
use Rattle.slave_outbox.specs.declared.origin.Origin.{Origin}
use Rattle.slave_outbox.specs.declared.origin.Origin.TheVariants as origin
use Rattle.slave.specs.Log.{AllBack, Act, CameBack, Discarded, Heard, HungUp, Opened, Refused, Sent, Took, deeds_of, entries_of, has_part, is_back, laid, laid_by, opened, past_of, reply_laid, sample_laid, sent_laid, waits}
use Rattle.slave.specs.Session.{AreKnown, IsKnown}
use Rattle.slave.specs.Standing.{IsLog}
use Rattle.slave.proofs.DeedLemmas.{opened-more, out-part}
use Rattle.slave.proofs.LaidLemmas.{all-parts}
use Rattle.slave.proofs.RunLemmas.{apart}
use Rattle.slave.proofs.TogetherLemmas.{all-from}

-- what is from a ring is from that of a part
abbrev pub IsOfPart : Profile → List Act → Origin → Type 0
IsOfPart d log origin.Reply = Unit {0}
IsOfPart d log (origin.Sample m c l) = (c < length d.events.items) × (m < opened log) × (has_part m c log ≡ true)

abbrev OfPart : Profile → List Act → Laid → Type 0
OfPart d log x = IsOfPart d log x.origin

-- a part stays one
part-stays : (d : Profile) (act : Act) (log : List Act) (o : Origin) → IsOfPart d log o → IsOfPart d (act ∷ log) o
part-stays d act log origin.Reply is = tt
part-stays d (Heard x) log (origin.Sample m c l) is = is
part-stays d (Refused packet code) log (origin.Sample m c l) is = is
part-stays d (Opened at) log (origin.Sample m c l) is =
    (is.0, omega (arith, is.1, opened-more at log), ap (λ b. if b then at c else has_part m c log) (apart m (opened log) (λ same. omega (arith, same, is.1))) ∙ is.2)
part-stays d (Took n k x) log (origin.Sample m c l) is = is
part-stays d (CameBack n k past) log (origin.Sample m c l) is = is
part-stays d (Sent n) log (origin.Sample m c l) is = is
part-stays d HungUp log (origin.Sample m c l) is = is
part-stays d Discarded log (origin.Sample m c l) is = is

reply-of-part : (d : Profile) (log : List Act) (reply : Option (List ℕ)) → AllByRecursion (OfPart d log) (reply_laid reply)
reply-of-part d log None = tt
reply-of-part d log (Some packet) = (tt, tt)

sample-of-part : (d : Profile) (log : List Act) (m c : ℕ) (b : Bool) (s : SampleParts) → IsOfPart d log (origin.Sample m c s.list) → AllByRecursion (OfPart d log) (sample_laid b m c s)
sample-of-part d log m c false s is = tt
sample-of-part d log m c true s is = all-from (IsOfPart d log) (origin.Sample m c s.list) s.packets is

by-part : (d : Profile) (act : Act) (log : List Act) → IsLog d (act ∷ log) → AllByRecursion (OfPart d (act ∷ log)) (laid_by d act log)
by-part d (Heard x) log is = reply-of-part d (Heard x ∷ log) (reply_in d (past_of d log) x)
by-part d (Refused packet code) log is = (tt, tt)
by-part d (Opened at) log is = tt
by-part d (Took m c (Sample s)) log is =
    sample-of-part d (Took m c (Sample s) ∷ log) m c (passes (deeds_of d m c log) s.list) s (is.1.within, is.0, out-part m c log is.1.out)
by-part d (Took m c (Marker k)) log is = tt
by-part d (CameBack m c past) log is = tt
by-part d (Sent n) log is = tt
by-part d HungUp log is = tt
by-part d Discarded log is = tt

log-before : (d : Profile) (act : Act) (log : List Act) → IsLog d (act ∷ log) → IsLog d log
log-before d (Heard x) log is = is.2
log-before d (Refused packet code) log is = is.2
log-before d (Opened at) log is = is.1
log-before d (Took m c x) log is = is.2
log-before d (CameBack m c past) log is = is.1
log-before d (Sent n) log is = is.1
log-before d HungUp log is = is
log-before d Discarded log is = is

parts-laid : (d : Profile) (log : List Act) → IsLog d log → AllByRecursion (OfPart d log) (laid d log)
parts-laid d [] is = tt
parts-laid d (act ∷ log) is =
    all-append (OfPart d (act ∷ log)) (laid d log) (laid_by d act log)
    (all-mono (OfPart d log) (OfPart d (act ∷ log)) (laid d log) (λ x. part-stays d act log x.origin) (parts-laid d log (log-before d act log is)))
    (by-part d act log is)

parts-dropped : (d : Profile) (log : List Act) (n : ℕ) (xs : List Laid) → AllByRecursion (OfPart d log) xs → AllByRecursion (OfPart d log) (drop n xs)
parts-dropped d log zero xs are = are
parts-dropped d log (suc n) [] are = tt
parts-dropped d log (suc n) (x ∷ xs) are = parts-dropped d log n xs are.1

-- and so is what waits
pub parts-wait : (d : Profile) (log : List Act) → IsLog d log → AllByRecursion (λ (x : Laid). IsOfPart d log x.origin) (waits d log)
parts-wait d [] is = tt
parts-wait d (act ∷ log) is = by act is (all-mono (OfPart d log) (OfPart d (act ∷ log)) (waits d log) (λ x. part-stays d act log x.origin) (parts-wait d log (log-before d act log is))) where
  by : (act : Act) → IsLog d (act ∷ log) → AllByRecursion (OfPart d (act ∷ log)) (waits d log) → AllByRecursion (OfPart d (act ∷ log)) (waits d (act ∷ log))
  by (Heard x) is before = all-append (OfPart d (Heard x ∷ log)) (waits d log) _ before (by-part d (Heard x) log is)
  by (Refused packet code) is before = all-append (OfPart d (Refused packet code ∷ log)) (waits d log) _ before (by-part d (Refused packet code) log is)
  by (Opened at) is before = before
  by (Took m c (Sample s)) is before = all-append (OfPart d (Took m c (Sample s) ∷ log)) (waits d log) _ before (by-part d (Took m c (Sample s)) log is)
  by (Took m c (Marker k)) is before = before
  by (CameBack m c past) is before = before
  by (Sent n) is before = parts-dropped d (Sent n ∷ log) n (waits d log) before
  by HungUp is before = before
  by Discarded is before = tt

-- so the one at a place is
pub part-at : (d : Profile) (log : List Act) (xs : List Laid) (n : ℕ) (x : Origin) → AllByRecursion (λ (y : Laid). IsOfPart d log y.origin) xs → slice_get (origins_in xs) n ≡ Some x → IsOfPart d log x
part-at d log xs n x are at = among (origins_in xs) n (origins-are xs are) at where
  none : {y : Origin} → None ≡ Some y → ⊥
  none e = cc

  some-inj : (u v : Origin) → Some u ≡ Some v → u ≡ v
  some-inj u v e = cc

  among : (os : List Origin) (k : ℕ) → AllByRecursion (IsOfPart d log) os → slice_get os k ≡ Some x → IsOfPart d log x
  among [] k all there = absurd (none there)
  among (o ∷ os) zero all there = subst (IsOfPart d log) (some-inj o x there) all.0
  among (o ∷ os) (suc k) all there = among os k all.1 there

  origins-are : (ys : List Laid) → AllByRecursion (λ (y : Laid). IsOfPart d log y.origin) ys → AllByRecursion (IsOfPart d log) (origins_in ys)
  origins-are [] all = tt
  origins-are (y ∷ ys) all =
      let more = origins-are ys all.1 in
      elim y.last as (λ b. AllByRecursion (IsOfPart d log) (if b then y.origin ∷ origins_in ys else origins_in ys)) [
        | true ↦ (all.0, more)
        | false ↦ more
      ]

-- what came back is among the entries
pub back-end : (d : Profile) (log : List Act) (m c : ℕ) → is_back m c log ≡ true → m < end_of (entries_of d log)
back-end d [] m c back = absurd (false≢true back)
back-end d (Heard x ∷ log) m c back = back-end d log m c back
back-end d (Refused packet code ∷ log) m c back = back-end d log m c back
back-end d (Opened at ∷ log) m c back = back-end d log m c back
back-end d (Took n k x ∷ log) m c back = back-end d log m c back
back-end d (CameBack n k past ∷ log) m c back =
    elim (eqb_tells n m) [
      | inl w ↦ omega (arith, w.1)
      | inr w ↦
          let before = back-end d log m c (sym (ap (λ b. (b && nat_eq k c) || is_back m c log) w.0) ∙ back) in
          omega (arith, before)
    ]
back-end d (Sent n ∷ log) m c back = back-end d log m c back
back-end d (HungUp ∷ log) m c back = back-end d log m c back
back-end d (Discarded ∷ log) m c back = back-end d log m c back

part-known : (d : Profile) (log : List Act) → AllBack d log → (o : Origin) → IsOfPart d log o → IsKnown log o
part-known d log back origin.Reply is = tt
part-known d log back (origin.Sample m c l) is = back m c is.0 is.2

pub all-known : (d : Profile) (log : List Act) → IsLog d log → AllBack d log → AreKnown log (sent_laid d log)
all-known d log is back =
    let Known : Laid → Type 0 = λ x. IsKnown log x.origin in
    let laid_known = all-mono (OfPart d log) Known (laid d log) (λ x. part-known d log back x.origin) (parts-laid d log is) in
    All-from_recursion Known (sent_laid d log) (all-parts Known d log laid_known).0
