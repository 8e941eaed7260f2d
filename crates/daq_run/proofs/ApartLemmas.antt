-- What samplers that did their steps apart stand after, one beside another.
use Rattle.std.proofs.Common.{◌≡◌, ℕ, zero, suc, ◌+◌, List, [], ◌∷◌, length, map, refl, ap, ap₂, subst, arith}
use Rattle.std.specs.Prelude.{Some, count_by, slice_get, sum_by}
use Rattle.std.proofs.lemmas.Option.{same_Some}
use Rattle.std.proofs.lemmas.List.Sums.{sum_by-append}
use Rattle.channel_ring.specs.declared.ends.SendEnd.{Ghosts as SendGhosts}
use Rattle.channel_ring.specs.declared.ends.RingEnd.{Ghosts as EndGhosts}
use Rattle.sampler.specs.History.{Opening}
use Rattle.sampler.specs.Past.{Past, first_past}
use Rattle.sampler.specs.Standing.{EndStandsAfter}
use Rattle.sampler.specs.State.{JoinedEnd, SamplerEndState, SamplerState, joined}
use Rattle.daq_engine.specs.Configuration.{upto}
use Rattle.daq_engine.specs.Standings.{EndsStandInOrder, StandInOrder}
use Rattle.daq_run.specs.Answers.{Answered, AreAnswered}
use Rattle.daq_run.specs.Samplings.{setting_of_sampler, was_refused}
use Rattle.daq_run.specs.Steps.{RunStep, asked_of}
use Rattle.daq_run.specs.Threads.{refused_in}
use Rattle.daq_run.specs.Inner.Workers.{HaveWorked}

-- the first, and those behind it
abbrev pub cons_at : {X : Type 0} → X → (ℕ → X) → ℕ → X
cons_at x f zero = x
cons_at x f (suc c) = f c

shift : (f : ℕ → ℕ) (m k n : ℕ) → m ≡ suc k → sum_by f (upto m n) ≡ sum_by (λ c. f (suc c)) (upto k n)
shift f m k zero e = refl
shift f m k (suc n) e =
    let rest = shift f (m + 1) (k + 1) n (omega (arith, e)) in
    let left = sum_by-append f (m ∷ []) (upto (m + 1) n) in
    let right = sum_by-append (λ c. f (suc c)) (k ∷ []) (upto (k + 1) n) in
    omega (arith, rest, left, right, ap f e)

-- what the first was refused, and the others
refused-cons : (n : ℕ) (first : List Answered) (told : ℕ → List Answered) → refused_in (suc n) (cons_at first told) ≡ count_by was_refused first + refused_in n told
refused-cons n first told =
    let all = sum_by-append (λ c. count_by was_refused (cons_at first told c)) (0 ∷ []) (upto 1 n) in
    omega (arith, all, shift (λ c. count_by was_refused (cons_at first told c)) 1 0 n refl)

module _ {S E : Type 0} (send : SendGhosts S E) (ring : EndGhosts E) where
  -- the ends are those of the samplers, in their order; and what became of what each was asked for
  pub record Apart (ss : List (SamplerState S)) (steps : List RunStep) (es : List (SamplerEndState E)) (openings : ℕ → Opening) (refused : ℕ) : Type 0 where
    pub channels : map (λ (e : SamplerEndState E). e.channel) es ≡ map (λ (s : SamplerState S). s.channel) ss
    pub rings : map (λ (e : SamplerEndState E). ring.ring e.end) es ≡ map (λ (s : SamplerState S). send.ring s.end) ss
    pub capacities : map (λ (e : SamplerEndState E). e.capacity) es ≡ map (λ (s : SamplerState S). send.capacity s.end) ss
    pub past : ℕ → Past
    pub told : ℕ → List Answered
    pub opened : (c : ℕ) → (past c).opening ≡ openings c
    pub answered : (c : ℕ) (s : SamplerState S) → slice_get ss c ≡ Some s → AreAnswered (setting_of_sampler send ring s) (asked_of s.channel steps) (told c) (past c)
    pub stand : EndsStandInOrder (map (joined ring) es) past
    pub counted : refused ≡ refused_in (length ss) told

  pub apart : (ss : List (SamplerState S)) (steps : List RunStep) (es : List (SamplerEndState E)) (openings : ℕ → Opening) (refused : ℕ)
      → HaveWorked send ring ss steps es refused → StandInOrder send ring ss (λ c. first_past (openings c)) → Apart ss steps es openings refused
  apart [] steps [] openings refused worked stands = record {
    channels = refl;
    rings = refl;
    capacities = refl;
    past = λ c. first_past (openings c);
    told = λ c. [];
    opened = λ c. refl;
    answered = λ c s at. absurd cc;
    stand = λ c e at. absurd cc;
    counted = worked;
  }
  apart [] steps (e ∷ es) openings refused worked stands = absurd worked
  apart (s ∷ ss) steps [] openings refused worked stands = absurd worked
  apart (s ∷ ss) steps (e ∷ es) openings refused (own, left, (others, rest, sums)) stands =
      let h = left.answers (openings 0) (stands 0 s refl) in
      let later = apart ss steps es (λ c. openings (suc c)) others rest (λ c x at. stands (suc c) x at) in
      record {
        channels = ap₂ (λ n ns. n ∷ ns) left.channel later.channels;
        rings = ap₂ (λ n ns. n ∷ ns) left.one_ring later.rings;
        capacities = ap₂ (λ n ns. n ∷ ns) left.capacity later.capacities;
        past = cons_at h.past later.past;
        told = cons_at h.told later.told;
        opened = opened_at h.past later.past openings h.opened later.opened;
        answered = answered_at s ss steps h.told later.told h.past later.past h.answered later.answered;
        stand = stand_at (joined ring e) (map (joined ring) es) h.past later.past h.stands later.stand;
        counted = omega (arith, sums, h.counted, later.counted, refused-cons (length ss) h.told later.told);
      }
    where
      opened_at : (p : Past) (past : ℕ → Past) (openings : ℕ → Opening) → p.opening ≡ openings 0 → ((c : ℕ) → (past c).opening ≡ openings (suc c)) → (c : ℕ) → (cons_at p past c).opening ≡ openings c
      opened_at p past openings first later zero = first
      opened_at p past openings first later (suc c) = later c

      answered_at : (s : SamplerState S) (ss : List (SamplerState S)) (steps : List RunStep) (t : List Answered) (told : ℕ → List Answered) (p : Past) (past : ℕ → Past)
          → AreAnswered (setting_of_sampler send ring s) (asked_of s.channel steps) t p
          → ((c : ℕ) (x : SamplerState S) → slice_get ss c ≡ Some x → AreAnswered (setting_of_sampler send ring x) (asked_of x.channel steps) (told c) (past c))
          → (c : ℕ) (x : SamplerState S) → slice_get (s ∷ ss) c ≡ Some x → AreAnswered (setting_of_sampler send ring x) (asked_of x.channel steps) (cons_at t told c) (cons_at p past c)
      answered_at s ss steps t told p past first later zero x at = subst (λ (y : SamplerState S). AreAnswered (setting_of_sampler send ring y) (asked_of y.channel steps) t p) (same_Some s x at) first
      answered_at s ss steps t told p past first later (suc c) x at = later c x at

      stand_at : (j : JoinedEnd) (js : List JoinedEnd) (p : Past) (past : ℕ → Past) → EndStandsAfter j p → EndsStandInOrder js past → EndsStandInOrder (j ∷ js) (cons_at p past)
      stand_at j js p past first later zero e at = subst (λ (x : JoinedEnd). EndStandsAfter x p) (same_Some j e at) first
      stand_at j js p past first later (suc c) e at = later c e at
