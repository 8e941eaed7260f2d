-- What came back, beside what came over the line.
use Rattle.std.proofs.Common.{◌≡◌, ◌≢◌, ℕ, if◌then◌else◌, Bool, List, [], ◌∷◌, ◌++◌, map, refl, sym, ap, ◌∙◌, subst, inl, inr, append_assoc, append-nil}
use Rattle.std.specs.Prelude.{Option, Some, None, option_to_list}
use Rattle.std.proofs.lemmas.Bool.Decides.{eqb_tells}
use Rattle.frame_ring.specs.contracts.frame_left.FrameLeftRingEnd.TheImpl.{ghosts as ring}
use Rattle.frame_ring.specs.contracts.frame_send.FrameSendSendEnd.TheImpl.{ghosts as send}
use Rattle.frame_ring.specs.declared.frame_left.FrameLeft.{FrameLeft}
use Rattle.frame_ring.specs.declared.frame_send.FrameSend.{FrameSend}
use Rattle.copy_plan.specs.Config.{ListPlan}
use Rattle.sampler.specs.Decisions.{decided, pairs_of}
use Rattle.sampler.specs.History.{Opening, due, with_past}
use Rattle.sampler.specs.Items.{items}
use Rattle.sampler.specs.Past.{Past, first_past}
use Rattle.sampler.specs.Standing.{EndStandsAfter}
use Rattle.sampler.specs.State.{JoinedEnd, SamplerEndState, joined}
use Rattle.sampler.specs.Tracks.{counts_of}
use Rattle.slave_channels.specs.Channels.{FinishedState, IsBack, IsBackOf, IsPastOf, ShareState}
use Rattle.tasks.specs.Links.{AwayState, LinkState, NoneIsBack}
use Rattle.tasks.specs.Ways.{LeftState, SeenEnd, seen_of}
use Rattle.slave.specs.Log.{Act, CameBack}
use Rattle.slave.specs.Returns.{AreReturns, IsEndOf, IsUntouched, ends_in, returns_at}

ends-append : (xs ys : List LeftState) → ends_in (xs ++ ys) ≡ ends_in xs ++ ends_in ys
ends-append [] ys = refl
ends-append (x ∷ xs) ys =
    ap (λ zs. option_to_list x.end ++ zs) (ends-append xs ys) ∙ sym (append_assoc (option_to_list x.end) (ends_in xs) (ends_in ys))

pub ends-some : (xs ys : List LeftState) (l : LeftState) (e : SeenEnd) → ys ≡ xs ++ l ∷ [] → l.end ≡ Some e → ends_in ys ≡ ends_in xs ++ e ∷ []
ends-some xs ys l e more is =
    ap ends_in more ∙ ends-append xs (l ∷ []) ∙ ap (λ o. ends_in xs ++ (option_to_list o ++ [])) is

ends-lost : (xs ys : List LeftState) (l : LeftState) → ys ≡ xs ++ l ∷ [] → l.end ≡ None → ends_in ys ≡ ends_in xs
ends-lost xs ys l more lost =
    ap ends_in more ∙ ends-append xs (l ∷ []) ∙ ap (λ o. ends_in xs ++ (option_to_list o ++ [])) lost ∙ append-nil (ends_in xs)

-- nothing came back, or what came is that it was lost
pub none-ends : (x y : LinkState FrameSend) (waits : Bool) (a b : Option (AwayState FrameSend)) → NoneIsBack send x y waits a b → ends_in y.came ≡ ends_in x.came
none-ends x y waits a b none =
    elim none.way [
      | inl s ↦ ap ends_in s.nothing.came
      | inr (inl (free, l)) ↦ ends-lost x.came y.came l.left l.came l.lost
      | inr (inr h) ↦ ap ends_in h.nothing.came
    ]

none-sent : (opening : Opening) → items opening [] [] ≡ []
unfolding items with_past
none-sent opening = refl

none-due : (opening : Opening) → decided opening [] [] ≡ []
unfolding due with_past
none-due opening = refl

is-end : (e : SamplerEndState FrameLeft) (past : Past) → EndStandsAfter (joined ring e) past → IsEndOf (seen_of ring e) past
is-end e past st = record { channel = st.channel; plans = st.plans; decisions = st.decisions; sent = st.sent; counts = st.counts }

untouched : (e : SamplerEndState FrameLeft) (past : Past) (opening : Opening) → EndStandsAfter (joined ring e) past → EndStandsAfter (joined ring e) (first_past opening) → IsUntouched past
untouched e past opening st first = record {
  sent = sym st.sent ∙ first.sent ∙ none-sent opening;
  counts =
      sym st.counts ∙ first.counts
      ∙ ap (λ ds. map (λ (plan : ListPlan). counts_of (pairs_of plan.list ds)) opening.plans) (none-due opening)
      ∙ ap (map (λ (plan : ListPlan). counts_of [])) (sym first.plans ∙ st.plans);
}

returned-one : (x y : LinkState FrameSend) (a : AwayState FrameSend) (s : ShareState) (f : FinishedState) (past : Past) (pasts : List Past)
    → IsBack x y a s f → IsPastOf f past → AreReturns pasts (ends_in x.came) → AreReturns (past ∷ pasts) (ends_in y.came)
returned-one x y a s f past pasts back is so_far =
    let st : EndStandsAfter (joined ring back.end) past = subst (λ (j : JoinedEnd). EndStandsAfter j past) back.same is.stands in
    elim back.way [
      | inl n ↦ inr (ends_in x.came, (seen_of ring back.end, ends-some x.came y.came n.left (seen_of ring back.end) n.next.came n.is, is-end back.end past st, so_far))
      | inr u ↦ inl (untouched back.end past u.opening st u.stands, subst (λ ends. AreReturns pasts (ends_in ends)) (sym u.nothing.came) so_far)
    ]

-- one more came back
pub returned : (x y : LinkState FrameSend) (o : Option (AwayState FrameSend)) (p : Option ShareState) (f : FinishedState) (past : Past) (pasts : List Past)
    → IsBackOf x y o p f → IsPastOf f past → AreReturns pasts (ends_in x.came) → AreReturns (past ∷ pasts) (ends_in y.came)
returned x y None p f past pasts back is so_far = elim back [ ]
returned x y (Some a) None f past pasts back is so_far = elim back [ ]
returned x y (Some a) (Some s) f past pasts back is so_far = returned-one x y a s f past pasts back is so_far

-- by the log
pub returns-here : (m c : ℕ) (past : Past) (log : List Act) → returns_at c (CameBack m c past ∷ log) ≡ past ∷ returns_at c log
returns-here m c past log =
    elim (eqb_tells c c) [
      | inl w ↦ ap (λ b. if b then past ∷ returns_at c log else returns_at c log) w.0
      | inr w ↦ absurd (w.1 refl)
    ]

pub returns-other : (m c k : ℕ) (past : Past) (log : List Act) → k ≢ c → returns_at k (CameBack m c past ∷ log) ≡ returns_at k log
returns-other m c k past log other =
    elim (eqb_tells c k) [
      | inl w ↦ absurd (other (sym w.1))
      | inr w ↦ ap (λ b. if b then past ∷ returns_at k log else returns_at k log) w.0
    ]
