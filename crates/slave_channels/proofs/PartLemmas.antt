-- Parts of measurements that go out, change and come back.
use Rattle.std.proofs.Common.{◌≡◌, ◌/◌, ℕ, List, [], ◌∷◌, ◌++◌, All, refl, sym, ap, ◌∙◌, subst, Bool, true, false, ◌&&◌, ◌⊎◌, inl, inr}
use Rattle.std.specs.Prelude.{slice_get, Option, Some, None, Result, Ok, Err, IsOk}
use Rattle.std.proofs.lemmas.Bool.{false≢true}
use Rattle.tasks.specs.declared.fault.HandFault.{HandFault}
use Rattle.tasks.specs.declared.fault.HandFault.TheVariants.{Memory, NotEnded}
use Rattle.std.specs.Option.{is_some}
use mathlib.Core.List.{IsPrefix}
use Rattle.std.proofs.lemmas.Option.{get_or_from_slice_get, none-some, slice_get_within}
use Rattle.copy_plan.specs.Config.{IsPlan, ListPlan}
use Rattle.frame_ring.specs.contracts.frame_send.FrameSendSendEnd.TheImpl.{ghosts as send}
use Rattle.frame_ring.specs.contracts.frame_left.FrameLeftRingEnd.TheImpl.{ghosts as ring}
use Rattle.frame_ring.specs.declared.frame_send.FrameSend.{FrameSend}
use Rattle.frame_ring.specs.declared.frame_left.FrameLeft.{FrameLeft}
use Rattle.frame_ring.specs.Ends.{TakeState}
use Rattle.sampler.specs.History.{Event, Start, Stop}
use Rattle.sampler.specs.Past.{Past, first_past}
use Rattle.sampler.specs.Refusals.{running_at, start_refusal, stop_refusal}
use Rattle.sampler.specs.Standing.{EndStandsAfter}
use Rattle.sampler.specs.State.{JoinedEnd, SamplerEndState, SamplerState}
use Rattle.daq_engine.specs.Order.{items_of}
use Rattle.daq_engine.proofs.OverloadLemmas.{marks-stand}
use Rattle.daq_engine.proofs.PidLemmas.{all-indexed}
use Rattle.slave_outbox.specs.Accounts.{HasPlans}
use Rattle.slave_outbox.specs.Deeds.{Deed as IntakeDeed, taken}
use Rattle.slave_outbox.specs.Ends.{left_state}
use Rattle.slave_outbox.specs.Intakes.{IntakeState, StandsAfter}
use Rattle.tasks.specs.Deeds.{Deed, Obeyed, Took, past_after, past_after_deed, unless_refused}
use Rattle.tasks.specs.Links.{AwayState, CameBack, CameNext, IsBackBy, IsFinishedHere}
use Rattle.channel_ring.specs.declared.order.Order.TheVariants as order
use Rattle.daq_store.specs.Standing.{StoreState}
use Rattle.sampler.specs.History.{Opening}
use Rattle.tasks.specs.Links.{AnswersHandOut, HandsOut, LinkState, SendsToNewest, first_refusal, hand_refusal, takes_orders}
use Rattle.channel_ring.specs.declared.order.Order.{Order}
use Rattle.hand_over.specs.Newest.{one_before}
use Rattle.slave_channels.specs.Channels.{AnswersOpen, ChannelState, FinishedState, Fits, IsBack, IsBackOf, IsFinished, IsOpeningBy, IsPartAt, IsShareOf, IsUnused, OpenedState, Opens, ShareState}
use Rattle.slave_channels.specs.PartInner.{ComesOf, EndStays, FinishesAs}

-- no deed changes what a channel was opened with
keeps-opening : (refused : Bool) (past : Past) (event : Event) → (unless_refused refused past event).opening ≡ past.opening
keeps-opening true past event = refl
keeps-opening false past event = refl

deed-opening : (past : Past) (d : Deed) → (past_after_deed past d).opening ≡ past.opening
deed-opening past (Took taken image stamp) = refl
deed-opening past (Obeyed (order.Start l)) = keeps-opening (is_some (start_refusal (running_at past l))) past (Start l)
deed-opening past (Obeyed (order.Stop l)) = keeps-opening (is_some (stop_refusal (running_at past l))) past (Stop l)
deed-opening past (Obeyed order.End) = refl

pub opening-after : (past : Past) (ds : List Deed) → (past_after past ds).opening ≡ past.opening
opening-after past [] = refl
opening-after past (d ∷ ds) = opening-after (past_after_deed past d) ds ∙ deed-opening past d

-- the plans of an opening are plans, each at its place
pub plans-at : (plans : List ListPlan) → All IsPlan plans → (i : ℕ) (plan : ListPlan) → slice_get plans i ≡ Some plan → IsPlan plan
plans-at plans all i plan there = subst IsPlan (get_or_from_slice_get plans i plan plan there) (all i plan (slice_get_within plans i plan there))

-- the part stays the sampler's while its ring stays, and what it was opened with
pub share-stays : (sampler : SamplerState FrameSend) (s t : ShareState) → IsShareOf sampler s → (t.intake.end ≡ s.intake.end) × (t.opened ≡ s.opened) → IsShareOf sampler t
share-stays sampler s t is (end, opened) = record {
  one_ring = ap (λ (t : TakeState). t.ring) end ∙ is.one_ring;
  capacity = is.capacity ∙ ap (λ (o : OpenedState). o.capacity / 8) (sym opened);
  opening = is.opening;
  opens = subst (λ o. IsOpeningBy o is.opening) (sym opened) is.opens;
  plans = is.plans;
  stands = is.stands;
}

pub fits-changed : (o : Option (AwayState FrameSend)) (a b : Option ShareState) → Fits o a → EndStays a b → Fits o b
fits-changed None None None fits stays = fits
fits-changed None None (Some t) fits stays = elim stays [ ]
fits-changed None (Some s) b fits stays = elim fits [ ]
fits-changed (Some x) None b fits stays = elim fits [ ]
fits-changed (Some x) (Some s) None fits stays = elim stays [ ]
fits-changed (Some x) (Some s) (Some t) fits stays = share-stays x.sampler s t fits stays

-- and while orders are sent to it
pub fits-ordered : (ordered : Order) (o p : Option (AwayState FrameSend)) (a b : Option ShareState)
    → Fits o a → SendsToNewest o p ordered → EndStays a b → Fits p b
fits-ordered ordered None p a b fits sends stays = elim sends [ ]
fits-ordered ordered (Some x) None a b fits sends stays = elim sends [ ]
fits-ordered ordered (Some x) (Some y) None b fits sends stays = elim fits [ ]
fits-ordered ordered (Some x) (Some y) (Some s) None fits sends stays = elim stays [ ]
fits-ordered ordered (Some x) (Some y) (Some s) (Some t) fits sends stays =
    subst (λ sampler. IsShareOf sampler t) (sym sends.sampler) (share-stays x.sampler s t fits stays)

-- what is left of a sampler is that of its part
pub comes-of : (a : AwayState FrameSend) (o : Option (AwayState FrameSend)) (part : Option ShareState) (end : SamplerEndState FrameLeft) (left : ℕ)
    → o ≡ Some a → Fits o part → CameBack send ring a end left → ComesOf part end
comes-of a None part end left is fits came = absurd (none-some a is)
comes-of a (Some x) None end left is fits came = elim fits [ ]
comes-of a (Some x) (Some s) end left is fits came =
    let mine : IsShareOf a.sampler s = subst (λ (y : AwayState FrameSend). IsShareOf y.sampler s) (inner a x is) fits in
    let past = past_after (first_past mine.opening) came.deeds in
    let opened = opening-after (first_past mine.opening) came.deeds in (
      came.same_ring ∙ sym mine.one_ring,
      came.capacity ∙ mine.capacity,
      (
        past,
        came.stands (first_past mine.opening) mine.stands,
        λ i plan there. plans-at mine.opening.plans mine.plans i plan (ap (λ op. slice_get op.plans i) (sym opened) ∙ there),
        subst (IsOpeningBy s.opened) (sym opened) mine.opens,
      ),
    ) where
      inner : {X : Type 0} (y x : X) → Some x ≡ Some y → x ≡ y
      inner y x e = cc

-- finished, with all that was sent known
pub finished : (before end : SamplerEndState FrameLeft) (f : FinishedState)
    → f.end ≡ end → left_state end ≡ left_state before → f.intake.end.received ++ f.intake.end.known ≡ ring.all_sent end.end
    → before.capacity ≡ f.opened.capacity / 8 → ((past : Past) × EndStandsAfter (left_state before) past × HasPlans past × IsOpeningBy f.opened past.opening) → IsFinished f
finished before end f is same all capacity (past, stands, plans, opens) =
    let joins : left_state f.end ≡ left_state before = ap left_state is ∙ same in
    let now : EndStandsAfter (left_state f.end) past = subst (λ j. EndStandsAfter j past) (sym joins) stands in
    let front : (deeds : List IntakeDeed) → StandsAfter f.intake deeds → IsPrefix (taken deeds) (items_of past) =
    λ deeds there. (f.intake.end.known, ap (λ xs. xs ++ f.intake.end.known) (sym there.received) ∙ all ∙ ap (λ (e : SamplerEndState FrameLeft). ring.all_sent e.end) (sym is) ∙ now.sent) in (
      past,
      record {
        stands = now;
        opens = opens;
        capacity = ap (λ (j : JoinedEnd). j.capacity) joins ∙ capacity;
        plans = plans;
        front = front;
        marks = λ deeds there. marks-stand past (taken deeds) (all-indexed IsPlan past.opening.plans plans) (front deeds there);
      },
    )

-- what is back is of the part: it came next over the line, or the task never fetched it
way-of : (x y : LinkState FrameSend) (a : AwayState FrameSend) (s : ShareState) (end : SamplerEndState FrameLeft)
    → IsShareOf a.sampler s → CameNext send ring x y a end ⊎ IsFinishedHere send ring x y a end → CameNext send ring x y a end ⊎ IsUnused x y end
way-of x y a s end mine (inl n) = inl n
way-of x y a s end mine (inr f) = inr (record {
  nothing = f.nothing;
  opening = mine.opening;
  stands = f.of.stands (first_past mine.opening) mine.stands;
})

pub is-back : (x y : LinkState FrameSend) (a : AwayState FrameSend) (o : Option (AwayState FrameSend)) (part : Option ShareState) (end : SamplerEndState FrameLeft) (left : ℕ)
    (f : FinishedState) → o ≡ Some a → Fits o part → IsBackBy send ring x y a end left → FinishesAs part end f → IsBackOf x y o part f
is-back x y a None part end left f is fits came done = absurd (none-some a is)
is-back x y a (Some w) None end left f is fits came done = elim done [ ]
is-back x y a (Some w) (Some s) end left f is fits came done =
    let mine : IsShareOf a.sampler s = subst (λ (z : AwayState FrameSend). IsShareOf z.sampler s) (sym (inner a w is)) fits in
    subst (λ (z : AwayState FrameSend). IsBack x y z s f) (inner a w is)
    (record { number = done.0; opened = done.3; follows = done.1; end = end; left = left; same = done.2; came = came.came; way = way-of x y a s end mine came.way }) where
      inner : {X : Type 0} (y x : X) → Some x ≡ Some y → y ≡ x
      inner y x e = cc

-- a hand-out that is done was not refused
handed : (o : Option HandFault) (r : Result Unit (HandFault × SamplerState FrameSend)) → IsOk r → AnswersHandOut o r → o ≡ None
handed None r done answers = refl
handed (Some fault) (Ok u) done answers = elim answers [ ]
handed (Some fault) (Err e) done answers = absurd (false≢true done)

memory-other : ◌≡◌ {A = HandFault} Memory NotEnded → ⊥
memory-other e = cc

-- what an opening answers: out of memory, as the hand-out, or that it is done
pub answers-memory : (o : Option HandFault) → AnswersOpen o (Err Memory)
answers-memory None = memory-other
answers-memory (Some fault) = inr refl

pub answers-refused : (o : Option HandFault) (e : HandFault × SamplerState FrameSend) → AnswersHandOut o (Err e) → AnswersOpen o (Err e.0)
answers-refused None e other = other
answers-refused (Some fault) e same = inl same

pub answers-done : (o : Option HandFault) (r : Result Unit (HandFault × SamplerState FrameSend)) → IsOk r → AnswersHandOut o r → AnswersOpen o (Ok tt)
answers-done o r done answers = subst (λ x. AnswersOpen x (Ok tt)) (sym (handed o r done answers)) tt

refuses-two : (b : Bool) → first_refusal b true ≡ None → ⊥
refuses-two true e = cc
refuses-two false e = cc

two-kept : (x y : Option (AwayState FrameSend)) (s t : ShareState)
    → Fits x (Some s) → Fits y (Some t) → first_refusal (takes_orders y) (is_some x && is_some y) ≡ None → ⊥
two-kept None y s t old new none = elim old [ ]
two-kept (Some a) None s t old new none = elim new [ ]
two-kept (Some a) (Some b) s t old new none = refuses-two (takes_orders (Some b)) none

-- where a sampler can be handed out, not two parts are kept
pub room-of : (l : LinkState FrameSend) (older newer : Option ShareState) (r : Result Unit (HandFault × SamplerState FrameSend)) → IsOk r
    → Fits l.older older → Fits l.newer newer → AnswersHandOut (hand_refusal l) r → (older ≡ None) ⊎ (newer ≡ None)
room-of l None newer r done old new answers = inl refl
room-of l (Some s) None r done old new answers = inr refl
room-of l (Some s) (Some t) r done old new answers = absurd (two-kept l.older l.newer s t old new (handed (hand_refusal l) r done answers))

-- a part was opened
pub opens : (a : ChannelState) (was now : LinkState FrameSend) (older newer older_now newer_now : Option ShareState) (s : StoreState) (c cap number : ℕ)
    (sampler : SamplerState FrameSend) (end : TakeState) (intake : IntakeState) (o : OpenedState) → record { link = was; older = older; newer = newer } ≡ a → ((opening : Opening) × IsPartAt s c cap sampler end opening)
    → HandsOut was now sampler → newer_now ≡ Some (record { number = number; opened = o; intake = intake }) → older_now ≡ one_before older newer → StandsAfter intake [] → intake.end ≡ end → o ≡ record { store = s; channel = c; capacity = cap } → (older ≡ None) ⊎ (newer ≡ None)
    → Opens a (record { link = now; older = older_now; newer = newer_now }) s c cap number
opens a was now older newer older_now newer_now s c cap number sampler end intake o is opened handed one before stands same with room =
    subst (λ x. Opens x (record { link = now; older = older_now; newer = newer_now }) s c cap number) is
    (record {
      sampler = sampler;
      share = record { number = number; opened = o; intake = intake };
      opening = opened.0;
      opened = subst (λ e. IsPartAt s c cap sampler e opened.0) (sym same) opened.1;
      handed = handed;
      newer = one;
      number_is = refl;
      opened_is = with;
      stands = stands;
      older = before;
      room = room;
    })
