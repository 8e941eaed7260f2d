-- What a slave stands after once all that came back was taken back.
use Rattle.std.proofs.Common.{◌≡◌, ℕ, ◌+◌, ◌*◌, ◌≤◌, ◌↔◌, true, ◌&&◌, if◌then◌else◌, List, [], ◌∷◌, ◌++◌, length, length-append, refl, sym, ap, ◌∙◌, subst, arith, inr}
use Rattle.std.specs.Prelude.{Option, Some, None, IfSome}
use Rattle.std.specs.List.{list_all}
use Rattle.std.proofs.lemmas.Bool.{false≢true}
use Rattle.std.proofs.lemmas.List.Folds.{list_all-append}
use Rattle.std.proofs.lemmas.List.Sums.{sum_by-append, sum_by-cons}
use Rattle.xcp_base.specs.declared.err_code.ErrCode.{ErrCode}
use Rattle.xcp_base.specs.declared.err_code.ErrCode.TheVariants.{Sequence}
use Rattle.xcp_base.specs.declared.limits.TheConstants.{MAX_CHANNELS, MAX_TAKEN}
use Rattle.session.specs.declared.profile.Profile.{Profile}
use Rattle.session.specs.Past.{Past}
use Rattle.session.specs.Standing.{SessionStandsAfter, SessionState}
use Rattle.slave_channels.specs.Channels.{FinishedState, IsFinished}
use Rattle.slave.specs.Finishing.{GivesBackBy}
use Rattle.slave.specs.Hearing.{MayOpen, is_before, most_before, IsIdleRefusal}
use Rattle.slave.specs.Inner.{PartsGoBy, AreAsOpened, AreInRings, Collects, HasOther, HasParts, HasTooLong, IsOfOne, IsRefusedAt, Prepares, SlaveStarted, StartsInVain}
use Rattle.slave_channels.specs.Calls.{HasSome}
use Rattle.slave.specs.Log.{Act, CameBack, Discarded, Heard, HungUp, Opened, Refused, Sent, Took, is_opening, is_return, opened, past_of}
use Rattle.slave.specs.Standing.{PartsStandAfter, SlaveState}
use Rattle.slave.proofs.HearingLemmas.{assoc}

-- what comes back opens nothing
before-return : (acts : List Act) → list_all is_return acts ≡ true → list_all is_before acts ≡ true
before-return [] are = refl
before-return (CameBack m c past ∷ acts) are = before-return acts are
before-return (Heard x ∷ acts) are = absurd (false≢true are)
before-return (Refused packet code ∷ acts) are = absurd (false≢true are)
before-return (Opened at ∷ acts) are = absurd (false≢true are)
before-return (Took m c x ∷ acts) are = absurd (false≢true are)
before-return (Sent n ∷ acts) are = absurd (false≢true are)
before-return (HungUp ∷ acts) are = absurd (false≢true are)
before-return (Discarded ∷ acts) are = absurd (false≢true are)

none-opened : (acts : List Act) → list_all is_return acts ≡ true → opened acts ≡ 0
none-opened [] are = refl
none-opened (CameBack m c past ∷ acts) are = omega (arith, sum_by-cons (λ a. if is_opening a then 1 else 0) (CameBack m c past) acts, none-opened acts are)
none-opened (Heard x ∷ acts) are = absurd (false≢true are)
none-opened (Refused packet code ∷ acts) are = absurd (false≢true are)
none-opened (Opened at ∷ acts) are = absurd (false≢true are)
none-opened (Took m c x ∷ acts) are = absurd (false≢true are)
none-opened (Sent n ∷ acts) are = absurd (false≢true are)
none-opened (HungUp ∷ acts) are = absurd (false≢true are)
none-opened (Discarded ∷ acts) are = absurd (false≢true are)

may-open-behind : (opening acts : List Act) → MayOpen 1 opening → list_all is_return acts ≡ true → length acts ≤ 2 * MAX_CHANNELS → MayOpen most_before (opening ++ acts)
may-open-behind opening acts may are few = record {
  are = list_all-append is_before opening acts ∙ ap (λ b. b && list_all is_before acts) may.are ∙ before-return acts are;
  one = omega (arith, sum_by-append (λ a. if is_opening a then 1 else 0) opening acts, may.one, none-opened acts are);
  few = omega (arith, length-append opening acts, may.few, few);
}

-- what comes back changes nothing of a refusal
idle-behind : (d : Profile) (past : Past) (number : ℕ) (b : SlaveState) (code : ErrCode) (opening acts : List Act) → list_all is_return acts ≡ true
    → IsIdleRefusal d past number b code opening → IsIdleRefusal d past number b code (opening ++ acts)
idle-behind d past number b code opening acts are is =
    let same : opened (opening ++ acts) ≡ opened opening = omega (arith, sum_by-append (λ a. if is_opening a then 1 else 0) opening acts, none-opened acts are) in
    record {
      all_came = λ none. is.all_came (sym same ∙ none);
      unopened = λ none. is.unopened (sym same ∙ none);
      ended = λ some two. is.ended (λ none. some (same ∙ none)) two;
    }

pub collects-nothing : (a : SlaveState) → Collects 0 a a
collects-nothing a = record { session = refl; outbox = refl; as_many = refl; number = refl; counted = refl; next = refl; acts = []; are = refl; few = omega arith; goes = (refl, λ log few stands. stands) }

-- what came back at one event channel, if something did
collects-some : (a b : SlaveState) (c : ℕ) (answer : Option FinishedState) → GivesBackBy PartsGoBy a b c answer → b.acts ≡ a.acts → b.next ≡ a.next → IfSome answer IsFinished → Collects 1 a b
collects-some a b c None gives counted next whole = record { session = gives.session; outbox = gives.outbox; as_many = gives.as_many; number = gives.number; counted = counted; next = next; acts = []; are = refl; few = omega arith; goes = gives.none refl }
collects-some a b c (Some f) gives counted next whole = record {
  session = gives.session;
  outbox = gives.outbox;
  as_many = gives.as_many;
  number = gives.number;
  counted = counted;
  next = next;
  acts = CameBack f.number c whole.0 ∷ [];
  are = refl;
  few = omega arith;
  goes = gives.some whole.0 whole.1;
}

pub collects-more : (n k : ℕ) (a m b : SlaveState) → Collects n a m → Collects k m b → Collects (n + k) a b
collects-more n k a m b one two = record {
  session = two.session ∙ one.session;
  outbox = two.outbox ∙ one.outbox;
  as_many = two.as_many ∙ one.as_many;
  number = two.number ∙ one.number;
  counted = two.counted ∙ one.counted;
  next = two.next ∙ one.next;
  acts = two.acts ++ one.acts;
  are = list_all-append is_return two.acts one.acts ∙ ap (λ z. z && list_all is_return one.acts) two.are ∙ one.are;
  few = omega (arith, length-append two.acts one.acts, one.few, two.few);
  goes = (
    two.goes.0 ∙ one.goes.0,
    λ log few stands.
        let split = length-append two.acts one.acts in
        let profile = ap (λ (s : SessionState). s.profile) one.session in
        let between = one.goes.1 log (omega (arith, few, split)) stands in
        subst (λ xs. PartsStandAfter a.session.profile b xs) (sym (assoc two.acts one.acts log))
        (subst (λ p. PartsStandAfter p b (two.acts ++ (one.acts ++ log))) profile
        (two.goes.1 (one.acts ++ log) (omega (arith, few, split, length-append one.acts log)) (subst (λ p. PartsStandAfter p m (one.acts ++ log)) (sym profile) between))),
  );
}

-- no more than so many are no more than more
pub collects-within : (n k : ℕ) (a b : SlaveState) → n ≤ k → Collects n a b → Collects k a b
collects-within n k a b below one = record {
  session = one.session;
  outbox = one.outbox;
  as_many = one.as_many;
  number = one.number;
  counted = one.counted;
  next = one.next;
  acts = one.acts;
  are = one.are;
  few = omega (arith, below, one.few);
  goes = one.goes;
}

pub collects-one : (a b : SlaveState) (c : ℕ) (answer : Option FinishedState) → GivesBackBy PartsGoBy a b c answer → b.acts ≡ a.acts → b.next ≡ a.next → IfSome answer IsFinished → Collects 1 a b
collects-one a b c answer gives counted next whole = collects-some a b c answer gives counted next whole

-- a log in which what came back stands behind a measurement that was opened
pub record Between (a m : SlaveState) (acts opening : List Act) (log : List Act) : Type 1 where
  pub stands : PartsStandAfter m.session.profile m (acts ++ log)
  pub few : 32 * (1 + length opening + length (acts ++ log)) ≤ MAX_TAKEN
  pub lead : (P : Profile → List Act → Type 0) → P m.session.profile (opening ++ (acts ++ log)) → P a.session.profile ((opening ++ acts) ++ log)

between : (a m : SlaveState) (opening : List Act) (log : List Act) {most : ℕ} (collects : Collects most a m) → 32 * (1 + length (opening ++ collects.acts) + length log) ≤ MAX_TAKEN
    → PartsStandAfter a.session.profile a log → Between a m collects.acts opening log
between a m opening log {most} collects few stands =
    let acts = collects.acts in
    let split = length-append opening acts in
    let same : m.session.profile ≡ a.session.profile = ap (λ (s : SessionState). s.profile) collects.session in
    record {
      stands = subst (λ p. PartsStandAfter p m (acts ++ log)) (sym same) (collects.goes.1 log (omega (arith, few, split)) stands);
      few = omega (arith, few, split, length-append acts log);
      lead = λ P p. subst (λ xs. P a.session.profile xs) (sym (assoc opening acts log)) (subst (λ q. P q (opening ++ (acts ++ log))) same p);
    }

-- lists are started once what came back was taken back
pub collected-prepare : (a m b : SlaveState) (lists : ℕ) → Collects (2 * MAX_CHANNELS) a m → HasSome lists → Prepares 1 m b lists → Prepares most_before a b lists
collected-prepare a m b lists collects some p = record {
  opening = p.opening ++ collects.acts;
  may_open = may-open-behind p.opening collects.acts p.may_open collects.are collects.few;
  for_some = inr some;
  lines = p.lines ∙ collects.goes.0;
  in_one = λ log few stands.
      let way = between a m p.opening log collects few stands in
      way.lead (λ q xs. IsOfOne q xs lists) (p.in_one (collects.acts ++ log) way.few way.stands);
  as_opened = λ log few stands.
      let way = between a m p.opening log collects few stands in
      way.lead (λ q xs. AreAsOpened q xs lists) (p.as_opened (collects.acts ++ log) way.few way.stands);
  has_parts = λ log few stands.
      let way = between a m p.opening log collects few stands in
      way.lead (λ q xs. HasParts q xs lists) (p.has_parts (collects.acts ++ log) way.few way.stands);
  in_rings = λ log few stands.
      let way = between a m p.opening log collects few stands in
      way.lead (λ q xs. AreInRings q (past_of q xs) lists) (p.in_rings (collects.acts ++ log) way.few way.stands);
  goes = λ log few stands.
      let way = between a m p.opening log collects few stands in
      way.lead (λ q xs. SlaveStarted q b xs lists) (p.goes (collects.acts ++ log) way.few way.stands);
}

pub collected-in-vain : (a m b : SlaveState) (lists : ℕ) (code : ErrCode) → Collects (2 * MAX_CHANNELS) a m → StartsInVain 1 m b lists code → StartsInVain most_before a b lists code
collected-in-vain a m b lists code collects v = record {
  is = v.is;
  some = v.some;
  opening = v.opening ++ collects.acts;
  may_open = may-open-behind v.opening collects.acts v.may_open collects.are collects.few;
  places = λ past stands run other.
      let same = collects.session in
      subst (λ s. IsRefusedAt s b.channels lists code) same
      (v.places past (subst (λ s. SessionStandsAfter s past) (sym same) stands) run other);
  when_idle = λ past stands none.
      idle-behind a.session.profile past a.number b code v.opening collects.acts collects.are
      (subst (λ n. IsIdleRefusal a.session.profile past n b code v.opening) collects.number
      (subst (λ (s : SessionState). IsIdleRefusal s.profile past m.number b code v.opening) collects.session
      (v.when_idle past (subst (λ s. SessionStandsAfter s past) (sym collects.session) stands) none)));
  unopened = λ past stands none long.
      let unopened = v.unopened past (subst (λ s. SessionStandsAfter s past) (sym collects.session) stands) none (subst (λ (s : SessionState). HasTooLong s.profile past lists) (sym collects.session) long) in
      omega (arith, sum_by-append (λ a. if is_opening a then 1 else 0) v.opening collects.acts, none-opened collects.acts collects.are, unopened);
  sequence = λ log few stands.
      let way = between a m v.opening log collects few stands in
      way.lead (λ q xs. (code ≡ Sequence) ↔ HasOther q xs lists) (v.sequence (collects.acts ++ log) way.few way.stands);
  goes = (
    v.goes.0 ∙ collects.goes.0,
    λ log few stands.
        let acts = collects.acts in
        let split = length-append v.opening acts in
        let same : m.session.profile ≡ a.session.profile = ap (λ (s : SessionState). s.profile) collects.session in
        subst (λ xs. PartsStandAfter a.session.profile b xs) (sym (assoc v.opening acts log))
        (subst (λ q. PartsStandAfter q b (v.opening ++ (acts ++ log))) same
        (v.goes.1 (acts ++ log) (omega (arith, few, split, length-append acts log))
        (subst (λ p. PartsStandAfter p m (acts ++ log)) (sym same) (collects.goes.1 log (omega (arith, few, split)) stands)))),
  );
}
