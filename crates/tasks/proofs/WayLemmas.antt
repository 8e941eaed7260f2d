-- A sampler that went with its orders, and what came of it.
use Rattle.std.proofs.Common.{◌≡◌, ℕ, List, [], ◌∷◌, ◌++◌, append-nil, append_assoc, arith, le_refl, refl, sym, ap, ◌∙◌, subst, inl, inr, Result, Ok, Err, Option, Some, None, true, false}
use Rattle.std.specs.Prelude.{IfOk, OnErr}
use Rattle.segments.specs.Image.{image_of}
use Rattle.channel_ring.specs.declared.ends.SendEnd.{Ghosts as SendGhosts}
use Rattle.channel_ring.specs.declared.ends.RingEnd.{Ghosts as EndGhosts}
use Rattle.channel_ring.specs.Orders.{TakeState}
use Rattle.channel_ring.specs.declared.order.Order.{Order}
use Rattle.channel_ring.specs.declared.order.Order.TheVariants as order
use Rattle.sampler.specs.Control.{CarriesOut, Polls, Refuses, answered}
use Rattle.sampler.specs.History.{Start, Stop}
use Rattle.sampler.specs.Past.{Past}
use Rattle.sampler.specs.Standing.{StandsAfter, TakesTrigger}
use Rattle.sampler.specs.State.{SamplerEndState, SamplerState}
use Rattle.sampler.specs.Stays.{KeepsSetUp, OnlyLooked}
use Rattle.sampler.specs.declared.polled.Polled.{Polled}
use Rattle.sampler.specs.declared.polled.Polled.TheVariants.{Done, Nothing, Refused, Waiting}
use Rattle.sampler.specs.declared.taken.Taken.{Taken}
use Rattle.sampler.specs.declared.faults.MemoryFault.{MemoryFault}
use Rattle.sampler.specs.declared.faults.MemoryFault.TheVariants.{Spent, WrongMemory}
use Rattle.tasks.specs.Deeds.{Obeyed, Took, orders_in, past_after, past_after_order, unless_refused}
use Rattle.tasks.specs.Inner.{HoldsLast, HoldsOne}
use Rattle.tasks.specs.Tasks.{HeldState, Idles, Obeys, ObeysHeld, ObeysNext, TriggersHeld, TriggersSampler}
use Rattle.tasks.specs.Ways.{HasCome, IsLeftOf, LeavesBy}
use Rattle.tasks.specs.declared.lost.Lost.{Lost}
use Rattle.tasks.proofs.DeedLemmas.{orders-obeyed, orders-took, past-more}

module _ {S E : Type 0} (send : SendGhosts S E) (ring : EndGhosts E) where
  keeps-more : (s t u : SamplerState S) → KeepsSetUp send s t → KeepsSetUp send t u → KeepsSetUp send s u
  keeps-more s t u a b = record {
    channel = b.channel ∙ a.channel;
    segments = b.segments ∙ a.segments;
    plans = b.plans ∙ a.plans;
    capacity = b.capacity ∙ a.capacity;
    held = omega (arith, a.held, b.held);
    ring = b.ring ∙ a.ring;
  }

  -- an order more
  come-obeyed : (s : SamplerState S) (r : TakeState) (t u : SamplerState S) (o p : TakeState) (x : Order)
      → Obeys send ring t u o p x → HasCome send ring s r t o → HasCome send ring s r u p
  come-obeyed s r t u o p x does come = record {
    one_ring = does.one_ring ∙ come.one_ring;
    set_up = keeps-more s t u come.set_up does.set_up;
    deeds = come.deeds ++ Obeyed x ∷ [];
    obeyed = does.taken ∙ ap (λ (os : List Order). os ++ x ∷ []) come.obeyed
        ∙ append_assoc r.received (orders_in come.deeds) (x ∷ [])
        ∙ ap (λ (os : List Order). r.received ++ os) (sym (orders-obeyed come.deeds x));
    stands = λ past st.
        subst (λ (q : Past). StandsAfter send ring u q) (sym (past-more past come.deeds (Obeyed x)))
        (does.stands (past_after past come.deeds) (come.stands past st));
  }

  come-idle : (s : SamplerState S) (r : TakeState) (t u : SamplerState S) (o p : TakeState)
      → Idles send ring t u o p → HasCome send ring s r t o → HasCome send ring s r u p
  come-idle s r t u o p does come = record {
    one_ring = does.one_ring ∙ come.one_ring;
    set_up = keeps-more s t u come.set_up (record {
      channel = ap (λ (v : SamplerState S). v.channel) does.looked.rest;
      segments = ap (λ (v : SamplerState S). v.segments) does.looked.rest;
      plans = ap (λ (v : SamplerState S). v.plans) does.looked.rest;
      capacity = does.looked.capacity;
      held = does.looked.held;
      ring = does.looked.ring;
    });
    deeds = come.deeds;
    obeyed = does.none_taken ∙ come.obeyed;
    stands = λ past st. does.looked.stands (past_after past come.deeds) (come.stands past st);
  }

  pub come-next : (s : SamplerState S) (r : TakeState) (t u : SamplerState S) (o p : TakeState) (answer : Polled)
      → ObeysNext send ring t u o p answer → HasCome send ring s r t o → HasCome send ring s r u p
  come-next s r t u o p Nothing does come = come-idle s r t u o p does come
  come-next s r t u o p (Waiting x) does come = come-idle s r t u o p does come
  come-next s r t u o p (Refused x) does come = come-obeyed s r t u o p x does come
  come-next s r t u o p (Done x) does come = come-obeyed s r t u o p x does come

  -- a trigger more
  pub come-trigger : (s : SamplerState S) (r : TakeState) (t u : SamplerState S) (o : TakeState) (image : List ℕ) (stamp : ℕ)
      (answer : Result Taken MemoryFault)
      → IfOk answer (λ taken. (past : Past) → StandsAfter send ring t past → TakesTrigger send ring t u taken past image stamp)
      → OnErr answer (u ≡ t) → KeepsSetUp send t u → HasCome send ring s r t o → HasCome send ring s r u o
  come-trigger s r t u o image stamp (Err fault) takes same keeps come =
      subst (λ (v : SamplerState S). HasCome send ring s r v o) (sym same) come
  come-trigger s r t u o image stamp (Ok taken) takes same keeps come = record {
    one_ring = come.one_ring;
    set_up = keeps-more s t u come.set_up keeps;
    deeds = come.deeds ++ Took taken image stamp ∷ [];
    obeyed = come.obeyed
        ∙ ap (λ (os : List Order). r.received ++ os) (sym (orders-took come.deeds taken image stamp));
    stands = λ past st.
        subst (λ (q : Past). StandsAfter send ring u q) (sym (past-more past come.deeds (Took taken image stamp)))
        (takes (past_after past come.deeds) (come.stands past st)).stands;
  }

  -- a look at the ring of orders is what it is to the task
  look-here : (s : SamplerState S) → OnlyLooked send ring s s
  look-here s = record {
    rest = refl;
    sent = refl;
    free = le_refl (send.free s.end);
    capacity = refl;
    held = le_refl (send.held s.end);
    ring = refl;
    stands = λ past st. st;
  }

  stands-carried : (s t : SamplerState S) (o : Order) → Refuses send ring s o false → CarriesOut send ring s t o
      → (past : Past) → StandsAfter send ring s past → StandsAfter send ring t (past_after_order past o)
  stands-carried s t (order.Start l) not goes past st =
      subst (λ b. StandsAfter send ring t (unless_refused b past (Start l))) (sym (not past st)) (goes.0 past st)
  stands-carried s t (order.Stop l) not goes past st =
      subst (λ b. StandsAfter send ring t (unless_refused b past (Stop l))) (sym (not past st)) (goes past st)
  stands-carried s t order.End not same past st = subst (λ (u : SamplerState S). StandsAfter send ring u past) (sym same) st

  stands-refused : (s t : SamplerState S) (o : Order) → Refuses send ring s o true → t ≡ s
      → (past : Past) → StandsAfter send ring s past → StandsAfter send ring t (past_after_order past o)
  stands-refused s t (order.Start l) is same past st =
      subst (λ b. StandsAfter send ring t (unless_refused b past (Start l))) (sym (is past st)) (subst (λ (u : SamplerState S). StandsAfter send ring u past) (sym same) st)
  stands-refused s t (order.Stop l) is same past st =
      subst (λ b. StandsAfter send ring t (unless_refused b past (Stop l))) (sym (is past st)) (subst (λ (u : SamplerState S). StandsAfter send ring u past) (sym same) st)
  stands-refused s t order.End is same past st = subst (λ (u : SamplerState S). StandsAfter send ring u past) (sym same) st

  pub polled-obeys : (s t : SamplerState S) (a b : TakeState) (p : Polled) → Polls send ring s t a b p
      → b.received ≡ a.received ++ answered p → KeepsSetUp send s t → b.ring ≡ a.ring → ObeysNext send ring s t a b p
  polled-obeys s t a b Nothing polls off keeps one = record {
    none_taken = off ∙ append-nil a.received;
    grows = (b.known, ap (λ (os : List Order). os ++ b.known) polls.was_none);
    one_ring = one;
    looked = subst (λ (u : SamplerState S). OnlyLooked send ring s u) (sym polls.sampler) (look-here s);
    cause = inl polls.none;
  }
  polled-obeys s t a b (Waiting (order.Start l)) polls off keeps one = elim polls [ ]
  polled-obeys s t a b (Waiting order.End) polls off keeps one = elim polls [ ]
  polled-obeys s t a b (Waiting (order.Stop l)) polls off keeps one = record {
    none_taken = off ∙ append-nil a.received;
    grows = polls.grows;
    one_ring = one;
    looked = polls.looked;
    cause = inr (l, polls.front, polls.no_room);
  }
  polled-obeys s t a b (Done o) polls off keeps one = record {
    taken = polls.off.taken;
    first = polls.off.first;
    one_ring = one;
    set_up = keeps;
    stands = λ past st. stands-carried s t o polls.not_refused polls.carried_out past st;
  }
  polled-obeys s t a b (Refused o) polls off keeps one = record {
    taken = polls.off.taken;
    first = polls.off.first;
    one_ring = one;
    set_up = keeps;
    stands = λ past st. stands-refused s t o polls.refused polls.stays past st;
  }

  -- nothing was done yet
  pub come-here : (s : SamplerState S) (o : TakeState) → HasCome send ring s o s o
  come-here s o = record {
    one_ring = refl;
    set_up = record { channel = refl; segments = refl; plans = refl; capacity = refl; held = le_refl (send.held s.end); ring = refl };
    deeds = [];
    obeyed = sym (append-nil o.received);
    stands = λ past st. st;
  }

  -- what is left of a sampler that came so far
  pub come-left : (s : SamplerState S) (r : TakeState) (t : SamplerState S) (o : TakeState)
      (left : Result (SamplerEndState E) Lost × TakeState) → HasCome send ring s r t o
      → IfOk left.0 (IsLeftOf send ring t) → left.1 ≡ o → LeavesBy send ring s r left
  come-left s r t o (Ok e, back) come of same = record {
    one_ring = ap (λ (k : TakeState). k.ring) same ∙ come.one_ring;
    after = record {
      channel = of.channel ∙ come.set_up.channel;
      plans = of.plans ∙ come.set_up.plans;
      capacity = of.capacity ∙ come.set_up.capacity;
      same_ring = of.same_ring ∙ come.set_up.ring;
      deeds = come.deeds;
      obeyed = ap (λ (k : TakeState). k.received) same ∙ come.obeyed;
      stands = λ past st. of.stands (past_after past come.deeds) (come.stands past st);
    };
  }
  come-left s r t o (Err lost, back) come of same = record {
    one_ring = ap (λ (k : TakeState). k.ring) same ∙ come.one_ring;
    after = tt;
  }

  -- a trigger, or its refusal
  pub come-triggers : (s : SamplerState S) (r : TakeState) (t u : SamplerState S) (o : TakeState)
      (memory : List (List ℕ)) (stamp : ℕ) (answer : Result Taken MemoryFault)
      → TriggersSampler send ring t u memory stamp answer → HasCome send ring s r t o
      → HasCome send ring s r u o
  come-triggers s r t u o memory stamp (Ok taken) takes come =
      come-trigger s r t u o (image_of t.channel t.segments memory) stamp (Ok taken)
      (λ past st. takes.1 past st) tt takes.0 come
  come-triggers s r t u o memory stamp (Err WrongMemory) takes come =
      subst (λ (v : SamplerState S). HasCome send ring s r v o) (sym takes.1) come
  come-triggers s r t u o memory stamp (Err Spent) takes come =
      subst (λ (v : SamplerState S). HasCome send ring s r v o) (sym takes.2) come

  -- what a task holds goes on, as it came from what was fetched last
  module _ (fetched : List (HeldState S)) (gave : List (Result (SamplerEndState E) Lost × TakeState)) where
    holds-next : (h k : HeldState S) → HoldsOne send ring fetched gave h
        → ((s : SamplerState S) (r : TakeState) → HasCome send ring s r h.sampler h.orders
        → HasCome send ring s r k.sampler k.orders)
        → HoldsOne send ring fetched gave k
    holds-next h k holds on = record {
      before = holds.before;
      went = holds.went;
      last = holds.last;
      many = holds.many;
      come = on holds.went.sampler holds.went.orders holds.come;
    }

    pub holds-obeyed : (a b : Option (HeldState S)) (answer : Polled)
        → ObeysHeld send ring a b answer → HoldsLast send ring fetched gave a
        → HoldsLast send ring fetched gave b
    holds-obeyed None None Nothing does holds = holds
    holds-obeyed None None (Done x) does holds = elim does [ ]
    holds-obeyed None None (Refused x) does holds = elim does [ ]
    holds-obeyed None None (Waiting x) does holds = elim does [ ]
    holds-obeyed (Some h) (Some k) answer does holds =
        holds-next h k holds
        (λ s r come. come-next s r h.sampler k.sampler h.orders k.orders answer does come)
    holds-obeyed None (Some k) answer does holds = elim does [ ]
    holds-obeyed (Some h) None answer does holds = elim does [ ]

    pub holds-triggered : (none : Taken) (a b : Option (HeldState S)) (memory : List (List ℕ)) (stamp : ℕ)
        (answer : Result Taken MemoryFault)
        → TriggersHeld send ring none a b memory stamp answer → HoldsLast send ring fetched gave a
        → HoldsLast send ring fetched gave b
    holds-triggered none None None memory stamp answer does holds = holds
    holds-triggered none (Some h) (Some k) memory stamp answer does holds =
        holds-next h k holds
        (λ s r come. subst (λ (o : TakeState). HasCome send ring s r k.sampler o) (sym does.0)
        (come-triggers s r h.sampler k.sampler h.orders memory stamp answer does.1 come))
    holds-triggered none None (Some k) memory stamp answer does holds = elim does [ ]
    holds-triggered none (Some h) None memory stamp answer does holds = elim does [ ]
