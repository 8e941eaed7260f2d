-- What a hand-out answers.
use Rattle.std.proofs.Common.{◌≡◌, Bool, true, false, true≢false, [], Option, Some, None, Result, Ok, Err, refl, sym, ap, ◌∙◌, subst}
use Rattle.std.specs.Prelude.{IfErr}
use Rattle.sampler.specs.State.{SamplerState}
use Rattle.hand_over.specs.Newest.{one_before}
use Rattle.tasks.specs.Links.{AnswersHandOut, AwayState, HandsOut, LinkState, first_refusal, just_out}
use Rattle.tasks.specs.Tasks.{HeldState}
use Rattle.tasks.specs.declared.fault.HandFault.{HandFault}
use Rattle.tasks.specs.declared.fault.HandFault.TheVariants.{Busy, Memory, NotEnded}

-- where it is refused, with something weaker known of that
pub err-with : {A B : Type 0} {P Q : B → Type 0} → ((e : B) → P e → Q e) → (r : Result A B) → IfErr r P → IfErr r Q
err-with f (Ok x) is = is
err-with f (Err e) is = f e is

pub refused-none : (a b : Bool) → a ≡ false → b ≡ false → first_refusal a b ≡ None
refused-none true b x y = absurd (true≢false x)
refused-none false true x y = absurd (true≢false y)
refused-none false false x y = refl

is_busy : HandFault → Bool
is_busy NotEnded = false
is_busy Busy = true
is_busy Memory = false

-- refused by the place alone
pub answers-busy : {S : Type 0} (first : Option HandFault) (r : Result Unit (HandFault × SamplerState S))
    → first ≡ None → IfErr r (λ e. e.0 ≡ Busy) → AnswersHandOut first r
unfolding is_busy
answers-busy (Some fault) r none busy = absurd (true≢false (ap (λ (o : Option HandFault). is_there o) none)) where
  is_there : Option HandFault → Bool
  is_there None = false
  is_there (Some f) = true
answers-busy None (Ok x) none busy = tt
answers-busy None (Err e) none busy = λ is. true≢false (sym (ap is_busy busy) ∙ ap is_busy is)

-- a sampler went out, and is the newest
pub put-in : {S : Type 0} (v a b : LinkState S) (h : HeldState S) (n : AwayState S) → v ≡ a
    → h.orders.received ≡ [] → b.newer ≡ Some n → n ≡ just_out h.sampler h.orders
    → b.older ≡ one_before v.older v.newer → b ≡ record v { older = b.older; newer = b.newer } → HandsOut a b h.sampler
put-in v a b h n same none newer is older rest =
    subst (λ (x : LinkState _). HandsOut x b h.sampler) same (record {
      went = h.orders;
      no_order = none;
      newer = newer ∙ ap (λ (x : AwayState _). Some x) is;
      older = older;
      rest = rest;
    })
