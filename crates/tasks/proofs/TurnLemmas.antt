-- What a trigger of a sampler is to its task, and what its orders are.
use Rattle.std.proofs.Common.{◌≡◌, ◌↔◌, ℕ, List, [], ◌∷◌, ◌++◌, ◌∙◌, true, false, refl, sym, subst, Result, Ok, Err, Option, Some, None}
use Rattle.std.specs.Prelude.{IfOk, IfSome, IsNone, OnErr}
use Rattle.xcp_base.specs.declared.limits.TheConstants.{MAX_TRIGGERS}
use Rattle.segments.specs.Image.{image_of}
use Rattle.segments.specs.Memory.{fits}
use Rattle.channel_ring.specs.declared.ends.SendEnd.{Ghosts as SendGhosts}
use Rattle.channel_ring.specs.declared.ends.RingEnd.{Ghosts as EndGhosts}
use Rattle.sampler.specs.Control.{answered}
use Rattle.sampler.specs.Past.{Past}
use Rattle.sampler.specs.Standing.{StandsAfter, TakesTrigger}
use Rattle.sampler.specs.State.{SamplerState}
use Rattle.sampler.specs.Stays.{KeepsSetUp}
use Rattle.sampler.specs.declared.polled.Polled.TheVariants.{Done, Nothing, Refused, Waiting}
use Rattle.sampler.specs.declared.polled.Polled.{Polled}
use Rattle.sampler.specs.declared.taken.Taken.{Taken}
use Rattle.sampler.specs.declared.faults.MemoryFault.{MemoryFault}
use Rattle.sampler.specs.declared.faults.MemoryFault.TheVariants.{Spent, WrongMemory}
use Rattle.channel_ring.specs.declared.order.Order.{Order}
use Rattle.channel_ring.specs.declared.order.Order.TheVariants as order
use Rattle.tasks.specs.Deeds.{is_end}
use Rattle.tasks.specs.Inner.{ObeysAs, ObeysHeldAs}
use Rattle.tasks.specs.Tasks.{GivesBack, GivesBackHeld, GivesBackIfAny, HeldState, Obeys, ObeysHeld, Rests, RestsHeld, Steps, StepsBy, StepsThrough, TaskState, TriggersSampler}

-- what there is, with something weaker known of it
pub some-with : {A : Type 0} {P Q : A → Type 0} → ((x : A) → P x → Q x) → (o : Option A) → IfSome o P → IfSome o Q
some-with f None is = is
some-with f (Some x) is = f x is

same-head : (x o : Order) → ◌≡◌ {A = List Order} (x ∷ []) (o ∷ []) → x ≡ o
same-head x o is = cc

one-none : (x : Order) → ◌≡◌ {A = List Order} (x ∷ []) [] → ⊥
one-none x is = absurd cc

module _ {S E : Type 0} (send : SendGhosts S E) (ring : EndGhosts E) where
  -- a trigger of the sampler
  pub triggers : (s t : SamplerState S) (memory : List (List ℕ)) (stamp : ℕ) (answer : Result Taken MemoryFault)
      → IfOk answer (λ taken. (past : Past) → StandsAfter send ring s past → TakesTrigger send ring s t taken past (image_of s.channel s.segments memory) stamp)
      → ((answer ≡ Err WrongMemory) ↔ (fits s.channel s.segments memory ≡ false))
      → ((answer ≡ Err Spent) ↔ ((fits s.channel s.segments memory ≡ true) × (s.triggers ≡ MAX_TRIGGERS)))
      → OnErr answer (t ≡ s) → KeepsSetUp send s t → TriggersSampler send ring s t memory stamp answer
  triggers s t memory stamp (Ok taken) ok wrong spent err keeps = (keeps, ok)
  triggers s t memory stamp (Err WrongMemory) ok wrong spent err keeps = (wrong.0 refl, err)
  triggers s t memory stamp (Err Spent) ok wrong spent err keeps = ((spent.0 refl).0, (spent.0 refl).1, err)

  -- what was answered, as an order or none
  pub obeys-as : (a b : Option (HeldState S)) (p : Polled) (answer : Option Order)
      → IfSome answer (λ o. answered p ≡ o ∷ []) → (IsNone answer → answered p ≡ [])
      → ObeysHeld send ring a b p → ObeysHeldAs send ring a b answer
  obeys-as None None Nothing None some none does = tt
  obeys-as None None Nothing (Some o) some none does = absurd cc
  obeys-as None None (Done x) answer some none does = elim does [ ]
  obeys-as None None (Refused x) answer some none does = elim does [ ]
  obeys-as None None (Waiting x) answer some none does = elim does [ ]
  obeys-as None (Some k) p answer some none does = elim does [ ]
  obeys-as (Some h) None p answer some none does = elim does [ ]
  obeys-as (Some h) (Some k) Nothing None some none does = does
  obeys-as (Some h) (Some k) (Waiting x) None some none does = does
  obeys-as (Some h) (Some k) (Done x) None some none does = absurd (one-none x (none refl))
  obeys-as (Some h) (Some k) (Refused x) None some none does = absurd (one-none x (none refl))
  obeys-as (Some h) (Some k) Nothing (Some o) some none does = absurd cc
  obeys-as (Some h) (Some k) (Waiting x) (Some o) some none does = absurd cc
  obeys-as (Some h) (Some k) (Done x) (Some o) some none does =
      subst (λ (y : Order). Obeys send ring h.sampler k.sampler h.orders k.orders y)
      (same-head x o some) does
  obeys-as (Some h) (Some k) (Refused x) (Some o) some none does =
      subst (λ (y : Order). Obeys send ring h.sampler k.sampler h.orders k.orders y)
      (same-head x o some) does

  -- an order that isn't one to end was carried out
  pub obeyed-steps : (a b : TaskState S) (o : Order) → is_end o ≡ false
      → ObeysAs send ring a b (Some o) → Steps send ring a b
  obeyed-steps a b o not does = steps a.held b.held does.held where
    steps : (x y : Option (HeldState S)) → ObeysHeldAs send ring x y (Some o)
        → StepsBy send ring x y a b
    steps None None is = elim is [ ]
    steps None (Some k) is = elim is [ ]
    steps (Some h) None is = elim is [ ]
    steps (Some h) (Some k) is = (does.came, does.gave, (o, not, is))

  -- an order to end was carried out, and then what is left was given back
  pub ended-steps : (a b c : TaskState S) → ObeysAs send ring a b (Some order.End)
      → GivesBackHeld send ring b c → Steps send ring a c
  ended-steps a b c does gives =
      subst (λ (z : Option (HeldState S)). StepsBy send ring a.held z a c) (sym gives.held)
      (steps a.held b.held does.held gives.gives) where
        steps : (x y : Option (HeldState S)) → ObeysHeldAs send ring x y (Some order.End)
            → GivesBackIfAny send ring y b.gave c.gave → StepsBy send ring x None a c
        steps None None is back = elim is [ ]
        steps None (Some k) is back = elim is [ ]
        steps (Some h) None is back = elim is [ ]
        steps (Some h) (Some k) is back = (
          gives.came ∙ does.came,
          (
            k,
            is,
            subst (λ gave. GivesBack send ring k gave c.gave) does.gave back,
          ),
        )

  pub rests : (a b : TaskState S) → ObeysAs send ring a b None → Rests send ring a b
  rests a b does =
      record { came = does.came; gave = does.gave; held = still a.held b.held does.held } where
        still : (x y : Option (HeldState S)) → ObeysHeldAs send ring x y None → RestsHeld send ring x y
        still None None is = is
        still None (Some k) is = is
        still (Some h) None is = is
        still (Some h) (Some k) is = is

  -- a step more
  pub steps-more : (a : TaskState S) (states : List (TaskState S)) (b c : TaskState S)
      → StepsThrough send ring a states b → Steps send ring b c
      → StepsThrough send ring a (states ++ c ∷ []) c
  steps-more a [] b c same step =
      (subst (λ (x : TaskState S). Steps send ring x c) same step, refl)
  steps-more a (x ∷ xs) b c steps step = (steps.0, steps-more x xs b c steps.1 step)
