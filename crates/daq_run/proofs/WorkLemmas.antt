-- What a sampler does in its thread, and what the transmitter takes meanwhile.
use Rattle.std.proofs.Common.{◌≡◌, ℕ, ◌+◌, All, List, [], ◌∷◌, ◌++◌, length, map, true, false, cond, IfSome, refl, sym, ap, ap₂, subst, ◌∙◌, arith, le_refl, append-nil, append_assoc}
use Rattle.std.specs.Prelude.{Option, Some, None, count_by}
use Rattle.std.specs.Option.{is_some}
use Rattle.std.proofs.lemmas.List.{map-append}
use Rattle.std.proofs.lemmas.List.Elements.{All-cons, All-head, All-nil, All-push, All-tail}
use Rattle.std.proofs.lemmas.List.Sums.{sum_by-append}
use Rattle.segments.specs.Image.{image_len}
use Rattle.channel_ring.specs.declared.ends.SendEnd.{Ghosts as SendGhosts}
use Rattle.channel_ring.specs.declared.ends.RingEnd.{Ghosts as EndGhosts}
use Rattle.sampler.specs.History.{Event, Opening}
use Rattle.sampler.specs.Past.{Past, first_past, one_more}
use Rattle.sampler.specs.Standing.{EndStandsAfter, StandsAfter}
use Rattle.sampler.specs.State.{SamplerEndState, SamplerState, joined}
use Rattle.sampler.specs.Stays.{KeepsSetUp}
use Rattle.transmitter.specs.Pumps.{TakesMore}
use Rattle.transmitter.specs.Written.{HasTaken, TransmitterState}
use Rattle.daq_run.specs.declared.cause.Cause.{Cause}
use Rattle.daq_run.specs.Answers.{Answered, AreAnswered, Setting}
use Rattle.daq_run.specs.Samplings.{Answers, AnswersStep, HasAnswered, HasAnsweredMore, setting_of_sampler, was_refused}
use Rattle.daq_run.specs.Steps.{Ask, Pump, RunStep, asked_at, asked_of}
use Rattle.daq_run.proofs.DoneLemmas.{answered_more}
use Rattle.daq_run.specs.Inner.Workers.{HasWorked, HaveWorked, IsLeftAfterSteps, is_of}

-- nothing more was taken
pub takes_none : (a : TransmitterState) → TakesMore a a
takes_none a start ps taken = ([], subst (HasTaken start a) (sym (append-nil ps)) taken)

-- what takes some more, and then some more, takes more
pub takes_on : (a b c : TransmitterState) → TakesMore a b → TakesMore b c → TakesMore a c
takes_on a b c more again start ps taken =
    let first = more start ps taken in
    let second = again start (ps ++ first.0) first.1 in
    (first.0 ++ second.0, subst (HasTaken start c) (append_assoc ps first.0 second.0) second.1)

-- one answer more is counted
counted-more : (told : List Answered) (x : Answered) (refused : ℕ) → refused ≡ count_by was_refused told → refused + cond (was_refused x) 1 0 ≡ count_by was_refused (told ++ x ∷ [])
counted-more told x refused e =
    let all = sum_by-append (λ (y : Answered). cond (was_refused y) 1 0) told (x ∷ []) in
    omega (arith, all, e)

-- what is shown of one more, and what holds of it
pub shown-more : {H R : Type 0} (f : H → R) (xs zs : List H) (ys : List R) (h : H) (r : R) → zs ≡ xs ++ h ∷ [] → map f xs ≡ ys → f h ≡ r → map f zs ≡ ys ++ r ∷ []
shown-more f xs zs ys h r more same here = ap (map f) more ∙ (map-append f xs (h ∷ []) ∙ (ap (λ t. t ++ f h ∷ []) same ∙ ap (λ t. ys ++ t ∷ []) here))

pub all-more : {H R : Type 0} (f : H → R) (x : R) (xs zs : List H) (h : H) → zs ≡ xs ++ h ∷ [] → All (λ k. f k ≡ x) xs → f h ≡ x → All (λ k. f k ≡ x) zs
all-more f x xs zs h more all here = subst (All (λ k. f k ≡ x)) (sym more) (All-push (λ k. f k ≡ x) xs h all here)

-- of none nothing is shown, and anything holds
pub shown-none : {H R : Type 0} (f : H → R) (xs : List H) → length xs ≡ 0 → map f xs ≡ []
shown-none f [] none = refl
shown-none f (x ∷ xs) none = absurd (omega (arith, none))

pub all-none : {H : Type 0} (P : H → Type 0) (xs : List H) → length xs ≡ 0 → All P xs
all-none P [] none = All-nil P
all-none P (x ∷ xs) none = absurd (omega (arith, none))

-- what holds of all of some and of one more holds of those and of that one
pub all-before : {H : Type 0} (P : H → Type 0) (xs : List H) (h : H) → All P (xs ++ h ∷ []) → All P xs × P h
all-before P [] h all = (All-nil P, All-head P h [] all)
all-before P (x ∷ xs) h all =
    let rest = all-before P xs h (All-tail P x (xs ++ h ∷ []) all) in
    (All-cons P x xs (All-head P x (xs ++ h ∷ []) all) rest.0, rest.1)

module _ {S E : Type 0} (send : SendGhosts S E) (ring : EndGhosts E) where
  -- what a sampler goes by stays
  pub setting_stays : (a b : SamplerState S) → KeepsSetUp send a b → setting_of_sampler send ring b ≡ setting_of_sampler send ring a
  setting_stays a b stays =
      ap₂ (λ (i n : ℕ). record { image_len = i; capacity = n; cost = ring.cost }) (ap image_len stays.segments) stays.capacity

  pub stays_still : (a : SamplerState S) → KeepsSetUp send a a
  stays_still a = record { channel = refl; segments = refl; plans = refl; capacity = refl; held = le_refl (send.held a.end); ring = refl }

  pub stays_on : (a b c : SamplerState S) → KeepsSetUp send a b → KeepsSetUp send b c → KeepsSetUp send a c
  stays_on a b c first then = record {
    channel = then.channel ∙ first.channel;
    segments = then.segments ∙ first.segments;
    plans = then.plans ∙ first.plans;
    capacity = then.capacity ∙ first.capacity;
    held = omega (arith, first.held, then.held);
    ring = then.ring ∙ first.ring;
  }

  -- one question more, of a sampler
  pub asked_once : (a b : SamplerState S) (e : Event) (answer : Option Cause) → KeepsSetUp send a b → Answers send ring a b e answer → HasAnsweredMore send ring a b (e ∷ []) (cond (is_some answer) 1 0)
  asked_once a b e None stays answers opening asked refused h =
      let one = answers h.past h.stands in
      let ds = one.1.0 in
      let next = one_more h.past e ds in
      let more = answered_more (setting_of_sampler send ring a) asked h.told h.past next e None ds h.answered h.stands.decisions refl refl refl one.0 in
      record {
        past = next;
        opened = h.opened;
        told = h.told ++ (e, None) ∷ [];
        answered = subst (λ (s : Setting). AreAnswered s (asked ++ e ∷ []) (h.told ++ (e, None) ∷ []) next) (sym (setting_stays a b stays)) more;
        counted = counted-more h.told (e, None) refused h.counted;
        stands = one.1.1;
      }
  asked_once a b e (Some cause) stays answers opening asked refused h =
      let one = answers h.past h.stands in
      let more = answered_more (setting_of_sampler send ring a) asked h.told h.past h.past e (Some cause) [] h.answered h.stands.decisions refl (sym (append-nil h.past.history)) (sym (append-nil h.past.decisions)) one.0 in
      record {
        past = h.past;
        opened = h.opened;
        told = h.told ++ (e, Some cause) ∷ [];
        answered = subst (λ (s : Setting). AreAnswered s (asked ++ e ∷ []) (h.told ++ (e, Some cause) ∷ []) h.past) (sym (setting_stays a b stays)) more;
        counted = counted-more h.told (e, Some cause) refused h.counted;
        stands = one.1.1;
      }

  -- and none more
  pub asked_nothing : (a : SamplerState S) → HasAnsweredMore send ring a a [] 0
  asked_nothing a opening asked refused h =
      let same : refused + 0 ≡ refused = omega arith in
      subst (λ es. HasAnswered send ring a opening es (refused + 0)) (sym (append-nil asked)) (subst (λ n. HasAnswered send ring a opening asked n) (sym same) h)

  -- some questions, and then some more
  pub asked_both : (a b c : SamplerState S) (es fs : List Event) (n m : ℕ) → HasAnsweredMore send ring a b es n → HasAnsweredMore send ring b c fs m → HasAnsweredMore send ring a c (es ++ fs) (n + m)
  asked_both a b c es fs n m first then opening asked refused h =
      let same : (refused + n) + m ≡ refused + (n + m) = omega arith in
      subst (λ gs. HasAnswered send ring c opening gs (refused + (n + m))) (append_assoc asked es fs)
      (subst (λ k. HasAnswered send ring c opening ((asked ++ es) ++ fs) k) same (then opening (asked ++ es) (refused + n) (first opening asked refused h)))

  -- a step of the sampler's channel
  pub asked_own : (a b : SamplerState S) (c : ℕ) (step : RunStep) (answer : Option Cause) (n : ℕ) → KeepsSetUp send a b → AnswersStep send ring a b step answer
      → is_of c step ≡ true → ◌≡◌ {A = ℕ} n (cond (is_some answer) 1 0) → HasAnsweredMore send ring a b (asked_at c step) n
  asked_own a b c (Ask k e) answer n stays answers own counts =
      let asks : asked_at c (Ask k e) ≡ e ∷ [] = ap (λ b. cond b (e ∷ []) []) own in
      subst (λ es. HasAnsweredMore send ring a b es n) (sym asks) (subst (λ m. HasAnsweredMore send ring a b (e ∷ []) m) (sym counts) (asked_once a b e answer stays answers))
  asked_own a b c Pump answer n stays answers own counts = absurd cc

  -- and one of another channel, or of none
  pub asked_other : (a : SamplerState S) (c : ℕ) (step : RunStep) → is_of c step ≡ false → HasAnsweredMore send ring a a (asked_at c step) 0
  asked_other a c (Ask k e) other =
      let asks : asked_at c (Ask k e) ≡ [] = ap (λ b. cond b (e ∷ []) []) other in
      subst (λ es. HasAnsweredMore send ring a a es 0) (sym asks) (asked_nothing a)
  asked_other a c Pump other = asked_nothing a

  -- nothing was asked yet
  nothing_yet : (a : SamplerState S) (opening : Opening) → StandsAfter send ring a (first_past opening) → HasAnswered send ring a opening [] 0
  nothing_yet a opening stands = record {
    past = first_past opening;
    opened = refl;
    told = [];
    answered = record { asks = refl; history = refl; each = λ i f answer at. absurd cc };
    counted = refl;
    stands = stands;
  }

  -- a sampler that was asked for the steps of its channel is finished
  pub worked : (a b : SamplerState S) (steps : List RunStep) (refused : ℕ) (end : Option (SamplerEndState E)) → KeepsSetUp send a b → HasAnsweredMore send ring a b (asked_of a.channel steps) refused
      → IfSome end (λ left. (past : Past) → StandsAfter send ring b past → EndStandsAfter (joined ring left) past)
      → IfSome end (λ left. left.channel ≡ b.channel) → IfSome end (λ left. ring.ring left.end ≡ send.ring b.end)
      → IfSome end (λ left. left.capacity ≡ send.capacity b.end) → HasWorked send ring a steps end refused
  worked a b steps refused None stays answers stands channel one_ring capacity = tt
  worked a b steps refused (Some left) stays answers stands channel one_ring capacity = record {
    channel = channel ∙ stays.channel;
    one_ring = one_ring ∙ stays.ring;
    capacity = capacity ∙ stays.capacity;
    answers = λ opening first.
        let h = answers opening [] 0 (nothing_yet a opening first) in
        let all : 0 + refused ≡ refused = omega arith in
        record {
          past = h.past;
          opened = h.opened;
          told = h.told;
          answered = subst (λ (s : Setting). AreAnswered s (asked_of a.channel steps) h.told h.past) (setting_stays a b stays) h.answered;
          counted = sym all ∙ h.counted;
          stands = stands h.past h.stands;
        };
  }

  -- none of the samplers
  pub worked-none : (steps : List RunStep) (es : List (SamplerEndState E)) → length es ≡ 0 → HaveWorked send ring [] steps es 0
  worked-none steps [] none = refl
  worked-none steps (e ∷ es) none = absurd (omega (arith, none))

  -- one more of the samplers
  pub worked-more : (ss : List (SamplerState S)) (s : SamplerState S) (steps : List RunStep) (es : List (SamplerEndState E)) (e : SamplerEndState E) (n m : ℕ)
      → HaveWorked send ring ss steps es n → IsLeftAfterSteps send ring s steps e m → HaveWorked send ring (ss ++ s ∷ []) steps (es ++ e ∷ []) (n + m)
  worked-more [] s steps [] e n m before left = let all : n + m ≡ m + 0 = omega (arith, before) in (m, left, (0, refl, all))
  worked-more [] s steps (f ∷ es) e n m before left = absurd before
  worked-more (x ∷ ss) s steps [] e n m before left = absurd before
  worked-more (x ∷ ss) s steps (f ∷ es) e n m (own, first, (others, rest, sums)) left =
      let all : n + m ≡ own + (others + m) = omega (arith, sums) in
      (own, first, (others + m, worked-more ss s steps es e others m rest left, all))
