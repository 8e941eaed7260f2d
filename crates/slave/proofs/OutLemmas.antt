-- What is kept of an event channel, by the numbers of its parts.
use Rattle.std.proofs.Common.{◌≡◌, ◌≢◌, ℕ, zero, suc, ◌<◌, ◌≤◌, Bool, true, false, List, [], ◌∷◌, length, get_or, slice_get, refl, sym, ap, ◌∙◌, subst, arith, ◌⊎◌, inl, inr}
use Rattle.std.specs.Prelude.{Option, Some, None}
use Rattle.std.proofs.lemmas.Bool.Decides.{eqb_tells}
use Rattle.std.proofs.lemmas.Option.{slice_get-get_or, slice_get_within}
use Rattle.frame_ring.specs.declared.frame_send.FrameSend.{FrameSend}
use Rattle.slave_outbox.specs.Deeds.{Deed}
use Rattle.daq_store.specs.Standing.{StoreState}
use Rattle.channel_ring.specs.declared.order.Order.{Order}
use Rattle.hand_over.specs.Newest.{one_before}
use Rattle.slave_channels.specs.Channels.{ChannelState, OpenedState, Opens, ShareState}
use Rattle.slave_channels.specs.Ordering.{GoesOnBy, OrdersAll}
use Rattle.slave_channels.specs.Calls.{Ends, Looks, OpensIfAny}
use Rattle.slave_channels.specs.Each.{IsEach}
use Rattle.session.specs.declared.profile.Profile.{Profile}
use Rattle.slave.specs.Openings.{IsOpenedAfter}
use Rattle.slave.specs.Returns.{AreReturns, ends_in}
use Rattle.slave.specs.Standing.{IsAsLogged, IsOut, Logged, number_of}
use Rattle.tasks.specs.Links.{LinkState, takes_orders}

-- what an element was
pub was-there : {X : Type 0} (old now : List X) (c : ℕ) (b : X) → length now ≡ length old → slice_get now c ≡ Some b → slice_get old c ≡ Some (get_or old c b)
was-there old now c b as_many at = slice_get-get_or old c b (omega (arith, slice_get_within now c b at, as_many))

-- an element that is there
pub some-at : {X : Type 0} (xs : List X) (c : ℕ) → c < length xs → (x : X) × (slice_get xs c ≡ Some x)
some-at [] c below = absurd (omega (arith, below))
some-at (x ∷ xs) zero below = (x, refl)
some-at (x ∷ xs) (suc c) below = some-at xs c (omega (arith, below))

some_inj : {X : Type 0} (x y : X) → Some x ≡ Some y → x ≡ y
some_inj x y e = cc

-- what a part was opened with, if it is there
abbrev pub opened_of : Option ShareState → Option OpenedState
opened_of None = None
opened_of (Some p) = Some p.opened

-- two states of an event channel that keep the same parts
pub record KeepsParts (a b : ChannelState) : Type 0 where
  pub newer : number_of b.newer ≡ number_of a.newer
  pub older : number_of b.older ≡ number_of a.older
  pub newer_opened : opened_of b.newer ≡ opened_of a.newer
  pub older_opened : opened_of b.older ≡ opened_of a.older
  pub came : ends_in b.link.came ≡ ends_in a.link.came
  pub ring : b.link.ring ≡ a.link.ring

number-before : (older newer : Option ShareState) (m : ℕ) → number_of (one_before older newer) ≡ Some m → (number_of older ≡ Some m) ⊎ (number_of newer ≡ Some m)
number-before older None m is = inl is
number-before older (Some q) m is = inr is

-- so it is of one of them
part-opened : (P : ℕ → OpenedState → Type 0) (o p : Option ShareState) → number_of p ≡ number_of o → opened_of p ≡ opened_of o → ((s : ShareState) → o ≡ Some s → P s.number s.opened)
    → (t : ShareState) → p ≡ Some t → P t.number t.opened
part-opened P None None number opened each t is = absurd cc
part-opened P None (Some q) number opened each t is = absurd cc
part-opened P (Some s) None number opened each t is = absurd cc
part-opened P (Some s) (Some q) number opened each t is =
    subst (λ (z : ShareState). P z.number z.opened) (some_inj q t is)
    (subst (λ n. P n q.opened) (sym (some_inj q.number s.number number)) (subst (P s.number) (sym (some_inj q.opened s.opened opened)) (each s refl)))

pub out-kept : (out : ℕ → Bool) (a b : ChannelState) → KeepsParts a b → IsOut out a → IsOut out b
out-kept out a b keeps is = record {
  newer = λ m at. is.newer m (sym keeps.newer ∙ at);
  older = λ m at. is.older m (sym keeps.older ∙ at);
  kept = λ m there.
      elim (is.kept m there) [
        | inl w ↦ inl (keeps.newer ∙ w)
        | inr w ↦ inr (keeps.older ∙ w)
      ];
}

-- where the same is out
pub out-same : (out now : ℕ → Bool) (ch : ChannelState) → ((m : ℕ) → now m ≡ out m) → IsOut out ch → IsOut now ch
out-same out now ch same is = record {
  newer = λ m at. same m ∙ is.newer m at;
  older = λ m at. same m ∙ is.older m at;
  kept = λ m there. is.kept m (sym (same m) ∙ there);
}

pub keeps-same : (a b : ChannelState) → b ≡ a → KeepsParts a b
keeps-same a b same = record {
  newer = ap (λ (x : ChannelState). number_of x.newer) same;
  older = ap (λ (x : ChannelState). number_of x.older) same;
  newer_opened = ap (λ (x : ChannelState). opened_of x.newer) same;
  older_opened = ap (λ (x : ChannelState). opened_of x.older) same;
  came = ap (λ (x : ChannelState). ends_in x.link.came) same;
  ring = ap (λ (x : ChannelState). x.link.ring) same;
}

pub keeps-looks : (a b : ChannelState) → Looks a b → KeepsParts a b
keeps-looks a b looks = record {
  newer = ap (λ (x : ChannelState). number_of x.newer) looks.rest;
  older = ap (λ (x : ChannelState). number_of x.older) looks.rest;
  newer_opened = ap (λ (x : ChannelState). opened_of x.newer) looks.rest;
  older_opened = ap (λ (x : ChannelState). opened_of x.older) looks.rest;
  came = ap (λ (x : ChannelState). ends_in x.link.came) looks.rest;
  ring = ap (λ (x : ChannelState). x.link.ring) looks.rest;
}

-- an end changes nothing of the link but for the newest
ends-link : (a b : ChannelState) → Ends a b → b.link ≡ record a.link { newer = b.link.newer }
ends-link a b ends = by (takes_orders a.link.newer) refl where
  by : (on : Bool) → takes_orders a.link.newer ≡ on → b.link ≡ record a.link { newer = b.link.newer }
  by true is = (ends.ends is).rest
  by false is =
      ap (λ (x : ChannelState). x.link) (ends.none is)
      ∙ ap (λ o. record a.link { newer = o }) (sym (ap (λ (x : ChannelState). x.link.newer) (ends.none is)))

pub keeps-ends : (a b : ChannelState) → Ends a b → KeepsParts a b
keeps-ends a b ends = record {
  newer = ap (λ (x : ChannelState). number_of x.newer) ends.parts;
  older = ap (λ (x : ChannelState). number_of x.older) ends.parts;
  newer_opened = ap (λ (x : ChannelState). opened_of x.newer) ends.parts;
  older_opened = ap (λ (x : ChannelState). opened_of x.older) ends.parts;
  came = ap (λ (l : LinkState FrameSend). ends_in l.came) (ends-link a b ends);
  ring = ap (λ (l : LinkState FrameSend). l.ring) (ends-link a b ends);
}

-- what the parts were opened with is as it was
pub opened-kept : (d : Profile) (pasts : Logged) (c : ℕ) (a b : ChannelState) → KeepsParts a b → IsAsLogged d pasts c a → IsAsLogged d pasts c b
opened-kept d pasts c a b keeps is = record {
  newer = part-opened (λ n o. IsOpenedAfter d (pasts.opened_at n) c o) a.newer b.newer keeps.newer keeps.newer_opened is.newer;
  older = part-opened (λ n o. IsOpenedAfter d (pasts.opened_at n) c o) a.older b.older keeps.older keeps.older_opened is.older;
  came = subst (AreReturns (pasts.returns c)) (sym keeps.came) is.came;
}

-- so at all event channels
pub opened-each : (R : ℕ → ChannelState → ChannelState → Type 0) (xs ys : List ChannelState) (d : Profile) (pasts : Logged) → IsEach R xs ys
    → ((c : ℕ) (a b : ChannelState) → R c a b → KeepsParts a b)
    → ((c : ℕ) (ch : ChannelState) → slice_get xs c ≡ Some ch → IsAsLogged d pasts c ch)
    → (c : ℕ) (ch : ChannelState) → slice_get ys c ≡ Some ch → IsAsLogged d pasts c ch
opened-each R xs ys d pasts each keeps is c ch at =
    let old = get_or xs c ch in
    let was = was-there xs ys c ch each.as_many at in
    opened-kept d pasts c old ch (keeps c old ch (each.each c old ch was at)) (is c old was)

-- so at all event channels
pub out-each : (R : ℕ → ChannelState → ChannelState → Type 0) (xs ys : List ChannelState) (out : ℕ → ℕ → Bool) → IsEach R xs ys
    → ((c : ℕ) (a b : ChannelState) → R c a b → KeepsParts a b)
    → ((c : ℕ) (ch : ChannelState) → slice_get xs c ≡ Some ch → IsOut (out c) ch)
    → (c : ℕ) (ch : ChannelState) → slice_get ys c ≡ Some ch → IsOut (out c) ch
out-each R xs ys out each keeps is c ch at =
    let old = get_or xs c ch in
    let was = was-there xs ys c ch each.as_many at in
    out-kept (out c) old ch (keeps c old ch (each.each c old ch was at)) (is c old was)

goes-number : (a b : Option ShareState) (ds : List Deed) → GoesOnBy a b ds → number_of b ≡ number_of a
goes-number None None ds goes = refl
goes-number None (Some t) ds goes = elim goes [ ]
goes-number (Some s) None ds goes = elim goes [ ]
goes-number (Some s) (Some t) ds goes = ap Some goes.0

goes-opened : (a b : Option ShareState) (ds : List Deed) → GoesOnBy a b ds → opened_of b ≡ opened_of a
goes-opened None None ds goes = refl
goes-opened None (Some t) ds goes = elim goes [ ]
goes-opened (Some s) None ds goes = elim goes [ ]
goes-opened (Some s) (Some t) ds goes = ap Some goes.2

pub keeps-orders : (a b : ChannelState) (os : List Order) (ds : List Deed) → OrdersAll a b os ds → KeepsParts a b
keeps-orders a b os ds orders = record {
  newer = goes-number a.newer b.newer ds orders.newer;
  older = ap (λ (o : Option ShareState). number_of o) orders.older;
  newer_opened = goes-opened a.newer b.newer ds orders.newer;
  older_opened = ap (λ (o : Option ShareState). opened_of o) orders.older;
  came = ap (λ (l : LinkState FrameSend). ends_in l.came) orders.link;
  ring = ap (λ (l : LinkState FrameSend). l.ring) orders.link;
}

-- a choice at each place of a list
abbrev with_first : Bool → (ℕ → Bool) → ℕ → Bool
with_first b f zero = b
with_first b f (suc c) = f c

abbrev is-left : {A B : Type 0} → A ⊎ B → Bool
is-left (inl a) = true
is-left (inr b) = false

-- whichever of the two holds at each place, by a list of booleans
pub record Chosen {X : Type 0} (ys : List X) (P Q : ℕ → X → Type 0) : Type 0 where
  pub at : ℕ → Bool
  pub each : (c : ℕ) (x : X) → slice_get ys c ≡ Some x → ((at c ≡ true) × P c x) ⊎ ((at c ≡ false) × Q c x)
  pub beyond : (c : ℕ) → length ys ≤ c → at c ≡ false

one-chosen : {A B : Type 0} (w : A ⊎ B) → ((is-left w ≡ true) × A) ⊎ ((is-left w ≡ false) × B)
one-chosen (inl a) = inl (refl, a)
one-chosen (inr b) = inr (refl, b)

pub choose : {X : Type 0} (ys : List X) (P Q : ℕ → X → Type 0) → ((c : ℕ) (x : X) → slice_get ys c ≡ Some x → P c x ⊎ Q c x) → Chosen ys P Q
choose [] P Q each = record { at = λ c. false; each = λ c x at. absurd (nothing x at); beyond = λ c least. refl } where
  nothing : {X : Type 0} (x : X) → None ≡ Some x → ⊥
  nothing x e = cc
choose {X} (y ∷ ys) P Q each =
    let rest = choose ys (λ c. P (suc c)) (λ c. Q (suc c)) (λ c x at. each (suc c) x at) in
    record { at = with_first (is-left (each 0 y refl)) rest.at; each = all rest; beyond = none rest } where
      all : (rest : Chosen ys (λ c. P (suc c)) (λ c. Q (suc c))) (c : ℕ) (x : X) → slice_get (y ∷ ys) c ≡ Some x
          → ((with_first (is-left (each 0 y refl)) rest.at c ≡ true) × P c x) ⊎ ((with_first (is-left (each 0 y refl)) rest.at c ≡ false) × Q c x)
      all rest zero x at = subst (λ z. ((is-left (each 0 y refl) ≡ true) × P 0 z) ⊎ ((is-left (each 0 y refl) ≡ false) × Q 0 z)) (some_inj y x at) (one-chosen (each 0 y refl))
      all rest (suc c) x at = rest.each c x at

      none : (rest : Chosen ys (λ c. P (suc c)) (λ c. Q (suc c))) (c : ℕ) → length (y ∷ ys) ≤ c → with_first (is-left (each 0 y refl)) rest.at c ≡ false
      none rest zero least = absurd (omega (arith, least))
      none rest (suc c) least = rest.beyond c (omega (arith, least))

-- the part that was kept before is kept behind another, where there was room
before-kept : (older newer : Option ShareState) (m : ℕ) → (older ≡ None) ⊎ (newer ≡ None)
    → (number_of newer ≡ Some m) ⊎ (number_of older ≡ Some m) → number_of (one_before older newer) ≡ Some m
before-kept None None m room (inl w) = w
before-kept None None m room (inr w) = w
before-kept (Some p) None m room (inl w) = absurd (none_some m w) where
  none_some : {X : Type 0} (x : X) → None ≡ Some x → ⊥
  none_some x e = cc
before-kept (Some p) None m room (inr w) = w
before-kept None (Some q) m room (inl w) = w
before-kept None (Some q) m room (inr w) = absurd (none_some m w) where
  none_some : {X : Type 0} (x : X) → None ≡ Some x → ⊥
  none_some x e = cc
before-kept (Some p) (Some q) m (inl e) w = absurd (some_none p e) where
  some_none : {X : Type 0} (x : X) → Some x ≡ None → ⊥
  some_none x e = cc
before-kept (Some p) (Some q) m (inr e) w = absurd (some_none q e) where
  some_none : {X : Type 0} (x : X) → Some x ≡ None → ⊥
  some_none x e = cc

-- a part is opened of a measurement that is out, where nothing was out of it
out-opens : (out now : ℕ → Bool) (a b : ChannelState) (s : StoreState) (c cap n : ℕ) → Opens a b s c cap n
    → now n ≡ true → ((m : ℕ) → m ≢ n → now m ≡ out m) → IsOut out a → IsOut now b
out-opens out now a b s c cap n opens here others is =
    let before = ap (λ (o : Option ShareState). number_of o) opens.older in
    let last : number_of b.newer ≡ Some n = ap (λ (o : Option ShareState). number_of o) opens.newer ∙ ap Some opens.number_is in
    let still : (m : ℕ) → out m ≡ true → now m ≡ true =
    λ m there.
    elim (eqb_tells m n) [
      | inl w ↦ ap now w.1 ∙ here
      | inr w ↦ others m w.1 ∙ there
    ]
    in
    record {
      newer = λ m at. ap now (sym (some_inj n m (sym last ∙ at))) ∙ here;
      older = λ m at.
          still m
          (elim (number-before a.older a.newer m (sym before ∙ at)) [
            | inl w ↦ is.older m w
            | inr w ↦ is.newer m w
          ]);
      kept = λ m there.
          elim (eqb_tells m n) [
            | inl w ↦ inl (last ∙ ap Some (sym w.1))
            | inr w ↦ inr (before ∙ before-kept a.older a.newer m opens.room (is.kept m (sym (others m w.1) ∙ there)))
          ];
    }

-- an event channel has a new part, of measurement n; it may have ended since
pub record HasNew (s : StoreState) (n c : ℕ) (a b : ChannelState) : Type 0 where
  pub cap : ℕ
  pub opened : ChannelState
  pub opens : Opens a opened s c cap n
  pub keeps : KeepsParts opened b

-- it has the number of the measurement
pub new-number : (s : StoreState) (n c : ℕ) (a b : ChannelState) → HasNew s n c a b → number_of b.newer ≡ Some n
new-number s n c a b new = new.keeps.newer ∙ ap (λ (o : Option ShareState). number_of o) new.opens.newer ∙ ap Some new.opens.number_is

pub out-new : (out now : ℕ → Bool) (s : StoreState) (n c : ℕ) (a b : ChannelState) → HasNew s n c a b
    → now n ≡ true → ((m : ℕ) → m ≢ n → now m ≡ out m) → IsOut out a → IsOut now b
out-new out now s n c a b new here others is = out-kept now new.opened b new.keeps (out-opens out now a new.opened s c new.cap n new.opens here others is)

-- so it is where there are lists of the measurement, and else nothing changed
pub new-or-same : (s : StoreState) (n c cap set : ℕ) (a b : ChannelState) → OpensIfAny s n c cap set a b → HasNew s n c a b ⊎ (b ≡ a)
new-or-same s n c cap set a b opens =
    elim (eqb_tells set 0) [
      | inl w ↦ inr (opens.0 w.1)
      | inr w ↦ inl (record { cap = cap; opened = b; opens = opens.1 w.1; keeps = keeps-same b b refl })
    ]

pub vain-or-same : (s : StoreState) (n c cap set : ℕ) (a b : ChannelState)
    → ((b ≡ a) ⊎ ((set ≢ 0) × ((m : ChannelState) × Opens a m s c cap n × Ends m b)))
    → HasNew s n c a b ⊎ (b ≡ a)
vain-or-same s n c cap set a b was =
    elim was [
      | inl same ↦ inr same
      | inr w ↦ inl (record { cap = cap; opened = w.1.0; opens = w.1.1; keeps = keeps-ends w.1.0 b w.1.2 })
    ]
