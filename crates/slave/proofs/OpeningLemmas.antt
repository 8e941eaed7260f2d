-- A measurement is opened at an event channel.
use Rattle.std.proofs.Common.{◌≡◌, ◌≢◌, ℕ, ◌+◌, ◌-◌, ◌<◌, Bool, true, false, ◌&&◌, List, [], refl, sym, ap, ◌∙◌, subst, arith, ◌⊎◌, inl, inr}
use Rattle.std.specs.Prelude.{Option, Some, None}
use Rattle.std.proofs.lemmas.Bool.Decides.{eqb_tells}
use Rattle.xcp_base.specs.declared.limits.TheConstants.{MAX_LISTS}
use Rattle.frame_ring.specs.contracts.frame_send.FrameSendSendEnd.TheImpl.{ghosts as send}
use Rattle.frame_ring.specs.contracts.frame_left.FrameLeftRingEnd.TheImpl.{ghosts as ring}
use Rattle.frame_ring.specs.declared.frame_send.FrameSend.{FrameSend}
use Rattle.slave_outbox.specs.Deeds.{Deed}
use Rattle.slave_outbox.specs.Deeds.{runs as runs_there}
use Rattle.slave_outbox.specs.Intakes.{StandsAfter as IntakeStandsAfter}
use Rattle.daq_store.specs.Standing.{StoreState, shows_running}
use Rattle.sampler.specs.History.{Opening, is_list_of, runs_after}
use Rattle.sampler.specs.Past.{first_past}
use Rattle.sampler.specs.Standing.{StandsAfter}
use Rattle.sampler.specs.State.{SamplerState, runs_in}
use Rattle.sampler.proofs.Readers.{sampler-runs}
use Rattle.daq_engine.specs.Openings.{IsOpeningOf}
use Rattle.tasks.specs.Links.{LinkState, is_running, takes_orders}
use Rattle.hand_over.specs.Newest.{one_before}
use Rattle.slave_channels.specs.Channels.{ChannelState, Opens, ShareState}
use Rattle.slave_channels.specs.Calls.{Ends, OpensIfAny}
use Rattle.session.specs.declared.profile.Profile.{Profile}
use Rattle.slave.specs.Openings.{IsOpenedAfter}
use Rattle.slave.specs.Returns.{AreReturns, ends_in}
use Rattle.slave.specs.Standing.{IsAsLogged, ChannelHas, Logged}
use Rattle.slave.proofs.OutLemmas.{keeps-ends, opened-kept}
use Rattle.slave.proofs.ChannelLemmas.{channel-ends, channel-more, takes-ended}

and_false : (b : Bool) → (b && false) ≡ false
and_false true = refl
and_false false = refl

part-before : (older newer : Option ShareState) (p : ShareState) → one_before older newer ≡ Some p → (older ≡ Some p) ⊎ (newer ≡ Some p)
part-before older None p is = inl is
part-before older (Some q) p is = inr is

-- of a sampler that was just opened no list runs, where none runs in the store
opened-runs : (s : StoreState) (c : ℕ) (sampler : SamplerState FrameSend) (opening : Opening) → IsOpeningOf s c opening → StandsAfter send ring sampler (first_past opening)
    → (l : ℕ) → shows_running s l ≡ false → runs_in sampler l ≡ false
unfolding runs_after
opened-runs s c sampler opening is stands l none =
    sampler-runs send ring sampler (first_past opening) l stands
    ∙ ap (λ b. is_list_of opening l && b) (is.running l ∙ ap (λ b. is_list_of opening l && b) none ∙ and_false (is_list_of opening l))
    ∙ and_false (is_list_of opening l)

-- a part of measurement n is opened, of which nothing was done so far, where no list runs
pub channel-opens : (n : ℕ) (f : ℕ → List Deed) (a b : ChannelState) (s : StoreState) (c cap : ℕ) → Opens a b s c cap n → f n ≡ []
    → ((l : ℕ) → l < MAX_LISTS → shows_running s l ≡ false) → ChannelHas n f a → ChannelHas (n + 1) f b
channel-opens n f a b s c cap opens none quiet has =
    let share = opens.share in
    let is-share : (p : ShareState) → b.newer ≡ Some p → p ≡ share = λ p is. some_inj p share (sym is ∙ opens.newer) in
    record {
      newer = λ p is.
          let same = is-share p is in
          record {
            there = omega (arith, ap (λ (x : ShareState). x.number) same, opens.number_is);
            stands =
                subst (λ (x : ShareState). IntakeStandsAfter x.intake (f x.number)) (sym same)
                (subst (IntakeStandsAfter share.intake) (sym (ap f opens.number_is ∙ none)) opens.stands);
          };
      older = λ p is.
          elim (part-before a.older a.newer p (sym opens.older ∙ is)) [
            | inl was ↦
                let (part, less) = has.older p was in
                (record { there = omega (arith, part.there); stands = part.stands }, omega (arith, less))
            | inr was ↦
                let part = has.newer p was in
                (record { there = omega (arith, part.there); stands = part.stands }, omega (arith, part.there))
          ];
      order = λ p q is at.
          let last = ap (λ (x : ShareState). x.number) (is-share q at) ∙ opens.number_is in
          elim (part-before a.older a.newer p (sym opens.older ∙ is)) [
            | inl was ↦ omega (arith, (has.older p was).1, last)
            | inr was ↦ omega (arith, (has.newer p was).there, last)
          ];
      newest = λ takes p is. ap (λ k. k + 1) (ap (λ (x : ShareState). x.number) (is-share p is) ∙ opens.number_is);
      running = λ l below.
          ap (λ o. is_running o l) opens.handed.newer ∙ opened-runs s c opens.sampler opens.opening opens.opened.of_store opens.opened.stands l (quiet l below)
          ∙ sym (ap (λ ds. runs_there ds l) (ap f (back n) ∙ none));
    } where
      some_inj : {X : Type 0} (x y : X) → Some x ≡ Some y → x ≡ y
      some_inj x y e = cc

      back : (n : ℕ) → n + 1 - 1 ≡ n
      back n = omega arith

-- the parts that were kept, of measurements before it, were opened as they were
pub opened-before : (d : Profile) (past now : Logged) (n c : ℕ) (f : ℕ → List Deed) (a : ChannelState) → ((m : ℕ) → m < n → now.opened_at m ≡ past.opened_at m) → now.returns c ≡ past.returns c → ChannelHas n f a
    → IsAsLogged d past c a → IsAsLogged d now c a
opened-before d past now n c f a same back has is = record {
  newer = λ p at. subst (λ z. IsOpenedAfter d z c p.opened) (sym (same p.number (has.newer p at).there)) (is.newer p at);
  older = λ p at. subst (λ z. IsOpenedAfter d z c p.opened) (sym (same p.number (has.older p at).0.there)) (is.older p at);
  came = subst (λ pasts. AreReturns pasts (ends_in a.link.came)) (sym back) is.came;
}

-- and the new one as the store stands
pub opened-now : (d : Profile) (past now : Logged) (n : ℕ) (f : ℕ → List Deed) (a b : ChannelState) (s : StoreState) (c cap : ℕ) → Opens a b s c cap n
    → ((m : ℕ) → m < n → now.opened_at m ≡ past.opened_at m) → now.returns c ≡ past.returns c → IsOpenedAfter d (now.opened_at n) c (record { store = s; channel = c; capacity = cap }) → ChannelHas n f a
    → IsAsLogged d past c a → IsAsLogged d now c b
opened-now d past now n f a b s c cap opens same back new has is =
    let before = opened-before d past now n c f a same back has is in
    record {
      newer = λ p at.
          subst (λ (z : ShareState). IsOpenedAfter d (now.opened_at z.number) c z.opened) (some_same opens.share p (sym opens.newer ∙ at))
          (subst (λ k. IsOpenedAfter d (now.opened_at k) c opens.share.opened) (sym opens.number_is) (subst (IsOpenedAfter d (now.opened_at n) c) (sym opens.opened_is) new));
      older = λ p at.
          elim (part-before a.older a.newer p (sym opens.older ∙ at)) [
            | inl was ↦ before.older p was
            | inr was ↦ before.newer p was
          ];
      came = subst (AreReturns (now.returns c)) (sym (ap (λ (l : LinkState FrameSend). ends_in l.came) opens.handed.rest)) before.came;
    } where
      some_same : {X : Type 0} (x y : X) → Some x ≡ Some y → x ≡ y
      some_same x y e = cc

-- the same, if there are lists of it; and where it ends at once
pub opened-if : (d : Profile) (past now : Logged) (n : ℕ) (f : ℕ → List Deed) (a b : ChannelState) (s : StoreState) (c cap set : ℕ) → OpensIfAny s n c cap set a b
    → ((m : ℕ) → m < n → now.opened_at m ≡ past.opened_at m) → now.returns c ≡ past.returns c → IsOpenedAfter d (now.opened_at n) c (record { store = s; channel = c; capacity = cap }) → ChannelHas n f a
    → IsAsLogged d past c a → IsAsLogged d now c b
opened-if d past now n f a b s c cap set opens same back new has is =
    elim (eqb_tells set 0) [
      | inl w ↦ subst (IsAsLogged d now c) (sym (opens.0 w.1)) (opened-before d past now n c f a same back has is)
      | inr w ↦ opened-now d past now n f a b s c cap (opens.1 w.1) same back new has is
    ]

pub opened-in-vain : (d : Profile) (past now : Logged) (n : ℕ) (f : ℕ → List Deed) (a b : ChannelState) (s : StoreState) (c cap set : ℕ)
    → ((b ≡ a) ⊎ ((set ≢ 0) × ((m : ChannelState) × Opens a m s c cap n × Ends m b)))
    → ((m : ℕ) → m < n → now.opened_at m ≡ past.opened_at m) → now.returns c ≡ past.returns c → IsOpenedAfter d (now.opened_at n) c (record { store = s; channel = c; capacity = cap }) → ChannelHas n f a
    → IsAsLogged d past c a → IsAsLogged d now c b
opened-in-vain d past now n f a b s c cap set was same back new has is =
    elim was [
      | inl e ↦ subst (IsAsLogged d now c) (sym e) (opened-before d past now n c f a same back has is)
      | inr w ↦ opened-kept d now c w.1.0 b (keeps-ends w.1.0 b w.1.2) (opened-now d past now n f a w.1.0 s c cap w.1.1 same back new has is)
    ]

-- the same, if there are lists of it
pub channel-opens-if : (n : ℕ) (f : ℕ → List Deed) (a b : ChannelState) (s : StoreState) (c cap set : ℕ) → OpensIfAny s n c cap set a b → f n ≡ []
    → takes_orders a.link.newer ≡ false → ((l : ℕ) → l < MAX_LISTS → shows_running s l ≡ false) → ChannelHas n f a → ChannelHas (n + 1) f b
channel-opens-if n f a b s c cap set opens none off quiet has =
    elim (eqb_tells set 0) [
      | inl w ↦ subst (ChannelHas (n + 1) f) (sym (opens.0 w.1)) (channel-more n f a off none has)
      | inr w ↦ channel-opens n f a b s c cap (opens.1 w.1) none quiet has
    ]

-- the same, where it ends at once
pub channel-in-vain : (n : ℕ) (f : ℕ → List Deed) (a b : ChannelState) (s : StoreState) (c cap set : ℕ)
    → ((b ≡ a) ⊎ ((set ≢ 0) × ((m : ChannelState) × Opens a m s c cap n × Ends m b)))
    → f n ≡ [] → takes_orders a.link.newer ≡ false → ((l : ℕ) → l < MAX_LISTS → shows_running s l ≡ false) → ChannelHas n f a
    → ChannelHas (n + 1) f b × (takes_orders b.link.newer ≡ false)
channel-in-vain n f a b s c cap set was none off quiet has =
    elim was [
      | inl same ↦ (
        subst (ChannelHas (n + 1) f) (sym same) (channel-more n f a off none has),
        ap (λ (x : ChannelState). takes_orders x.link.newer) same ∙ off,
      )
      | inr w ↦ (
        channel-ends (n + 1) f w.1.0 b w.1.2 (λ l below. ap (λ ds. runs_there ds l) (ap f (back n) ∙ none)) (channel-opens n f a w.1.0 s c cap w.1.1 none quiet has),
        takes-ended w.1.0 b w.1.2,
      )
    ] where
      back : (n : ℕ) → n + 1 - 1 ≡ n
      back n = omega arith
