-- An event channel behind orders.
use Rattle.std.proofs.Common.{◌≡◌, ◌≢◌, ℕ, zero, suc, ◌+◌, ◌-◌, ◌<◌, ◌≤◌, Bool, true, false, ◌&&◌, not, nat_eq, if◌then◌else◌, List, [], ◌∷◌, ◌++◌, length, refl, sym, ap, ◌∙◌, subst, arith, ◌⊎◌, inl, inr}
use Rattle.std.specs.Prelude.{Option, Some, None}
use Rattle.std.proofs.lemmas.Bool.{false≢true}
use Rattle.std.proofs.lemmas.Bool.Decides.{eqb_tells}
use Rattle.xcp_base.specs.declared.limits.TheConstants.{MAX_LISTS, MAX_TAKEN}
use Rattle.frame_ring.specs.declared.frame_send.FrameSend.{FrameSend}
use Rattle.slave_outbox.specs.Deeds.{Deed}
use Rattle.slave_outbox.specs.Deeds.{runs as runs_there}
use Rattle.slave_outbox.specs.Intakes.{StandsAfter}
use Rattle.tasks.specs.Links.{AwayState, EndsNewest, EndsUnordered, LinkState, LooksAtNewest, SendsToNewest, is_running, runs_by, runs_of, takes_orders}
use Rattle.channel_ring.specs.declared.order.Order.{Order}
use Rattle.channel_ring.specs.declared.order.Order.TheVariants as order
use Rattle.slave_channels.specs.Channels.{ChannelState, ShareState}
use Rattle.slave_channels.specs.Ordering.{GoesOnBy, OrdersAll, SendsAll}
use Rattle.slave_channels.specs.Calls.{Ends, Looks}
use Rattle.slave.specs.Standing.{ChannelHas, PartHas}
use Rattle.sampler.specs.State.{SamplerState, runs_in}

-- what some orders, and the deeds that they are, make of the lists of a set: these run, or don't; the
-- others as they did
pub record Sets (os : List Order) (ds : List Deed) (set : ℕ → Bool) (to : Bool) : Type 0 where
  pub sent : (l : ℕ) (b : Bool) → l < MAX_LISTS → set l ≡ true → runs_by os b l ≡ to
  pub noted : (l : ℕ) (cur : List Deed) → l < MAX_LISTS → set l ≡ true → runs_there (ds ++ cur) l ≡ to
  pub sent_other : (l : ℕ) (b : Bool) → set l ≡ false → runs_by os b l ≡ b
  pub noted_other : (l : ℕ) (cur : List Deed) → set l ≡ false → runs_there (ds ++ cur) l ≡ runs_there cur l

-- deeds of the newest of n measurements, beside what was done
abbrev pub newest_with : ℕ → List Deed → (ℕ → List Deed) → ℕ → List Deed
newest_with n ds f m = if nat_eq (m + 1) n then ds ++ f m else f m

is-bool : (b : Bool) → (b ≡ true) ⊎ (b ≡ false)
is-bool true = inl refl
is-bool false = inr refl

with-here : (n m : ℕ) (ds : List Deed) (f : ℕ → List Deed) → m + 1 ≡ n → newest_with n ds f m ≡ ds ++ f m
with-here n m ds f is =
    elim (eqb_tells (m + 1) n) [
      | inl w ↦ ap (λ b. if b then ds ++ f m else f m) w.0
      | inr w ↦ absurd (w.1 is)
    ]

with-other : (n m : ℕ) (ds : List Deed) (f : ℕ → List Deed) → m + 1 ≢ n → newest_with n ds f m ≡ f m
with-other n m ds f isnt =
    elim (eqb_tells (m + 1) n) [
      | inl w ↦ absurd (isnt w.1)
      | inr w ↦ ap (λ b. if b then ds ++ f m else f m) w.0
    ]

newest-here : (n : ℕ) (ds : List Deed) (f : ℕ → List Deed) → (n ≡ 0 → ds ≡ []) → newest_with n ds f (n - 1) ≡ ds ++ f (n - 1)
newest-here zero ds f none = with-other zero 0 ds f (λ e. omega (arith, e)) ∙ ap (λ xs. xs ++ f 0) (sym (none refl))
newest-here (suc n) ds f none = with-here (suc n) (suc n - 1) ds f (omega arith)

some_inj : {X : Type 0} (x y : X) → Some x ≡ Some y → x ≡ y
some_inj x y e = cc

part-same : (n : ℕ) (f g : ℕ → List Deed) → ((m : ℕ) → f m ≡ g m) → (p : ShareState) → PartHas n f p → PartHas n g p
part-same n f g same p has = record { there = has.there; stands = subst (StandsAfter p.intake) (same p.number) has.stands }

pub channel-same : (n : ℕ) (f g : ℕ → List Deed) → ((m : ℕ) → f m ≡ g m) → (ch : ChannelState) → ChannelHas n f ch → ChannelHas n g ch
channel-same n f g same ch has = record {
  newer = λ p is. part-same n f g same p (has.newer p is);
  older = λ p is. (part-same n f g same p (has.older p is).0, (has.older p is).1);
  order = has.order;
  newest = has.newest;
  running = λ l below. has.running l below ∙ ap (λ ds. runs_there ds l) (same (n - 1));
}

-- deeds that are of no list are none
goes-newer : (a b : Option ShareState) (ds : List Deed) → GoesOnBy a b ds → (q : ShareState) → b ≡ Some q
    → (p : ShareState) × (a ≡ Some p) × (q.number ≡ p.number)
    × ((deeds : List Deed) → length deeds + length ds ≤ MAX_TAKEN → StandsAfter p.intake deeds → StandsAfter q.intake (ds ++ deeds))
goes-newer None None ds goes q is = absurd (none_some q is) where
  none_some : {X : Type 0} (x : X) → None ≡ Some x → ⊥
  none_some x e = cc
goes-newer None (Some t) ds goes q is = elim goes [ ]
goes-newer (Some s) None ds goes q is = elim goes [ ]
goes-newer (Some s) (Some t) ds goes q is =
    let same : t ≡ q = some_inj t q is in
    subst (λ (z : ShareState). (p : ShareState) × (Some s ≡ Some p) × (z.number ≡ p.number)
    × ((deeds : List Deed) → length deeds + length ds ≤ MAX_TAKEN → StandsAfter p.intake deeds → StandsAfter z.intake (ds ++ deeds)))
    same (s, refl, goes.0, goes.1)

pub goes-none : (a b : Option ShareState) (ds : List Deed) → a ≡ None → GoesOnBy a b ds → ds ≡ []
goes-none None None ds is goes = goes
goes-none None (Some t) ds is goes = elim goes [ ]
goes-none (Some s) b ds is goes = absurd (some_none s is) where
  some_none : {X : Type 0} (x : X) → Some x ≡ None → ⊥
  some_none x e = cc

is-none : (o : Option ShareState) → ((p : ShareState) → o ≡ Some p → ⊥) → o ≡ None
is-none None never = refl
is-none (Some p) never = absurd (never p refl)

pub runs_by-all : (os ps : List Order) (b : Bool) (l : ℕ) → runs_by (os ++ ps) b l ≡ runs_by ps (runs_by os b l) l
runs_by-all [] ps b l = refl
runs_by-all (o ∷ os) ps b l = runs_by-all os ps _ l

and_false : (b : Bool) → (b && false) ≡ false
and_false true = refl
and_false false = refl

looks-takes : (a b : Option (AwayState FrameSend)) → LooksAtNewest a b → takes_orders b ≡ takes_orders a
looks-takes None None looks = refl
looks-takes None (Some y) looks = elim looks [ ]
looks-takes (Some x) None looks = elim looks [ ]
looks-takes (Some x) (Some y) looks = ap (λ (z : AwayState FrameSend). not z.ended) looks.rest

looks-running : (a b : Option (AwayState FrameSend)) (l : ℕ) → LooksAtNewest a b → is_running b l ≡ is_running a l
looks-running None None l looks = refl
looks-running None (Some y) l looks = elim looks [ ]
looks-running (Some x) None l looks = elim looks [ ]
looks-running (Some x) (Some y) l looks = ap (λ (z : AwayState FrameSend). not z.ended && runs_of z l) looks.rest

-- a look at the orders changes nothing of this
pub channel-looks : (n : ℕ) (f : ℕ → List Deed) (a b : ChannelState) → Looks a b → ChannelHas n f a → ChannelHas n f b
channel-looks n f a b looks has =
    let newer : b.newer ≡ a.newer = ap (λ (x : ChannelState). x.newer) looks.rest in
    let older : b.older ≡ a.older = ap (λ (x : ChannelState). x.older) looks.rest in
    record {
      newer = λ p is. has.newer p (sym newer ∙ is);
      older = λ p is. has.older p (sym older ∙ is);
      order = λ p q is at. has.order p q (sym older ∙ is) (sym newer ∙ at);
      newest = λ takes p is. has.newest (sym (looks-takes a.link.newer b.link.newer looks.newer) ∙ takes) p (sym newer ∙ is);
      running = λ l below. looks-running a.link.newer b.link.newer l looks.newer ∙ has.running l below;
    }

pub takes-looked : (a b : ChannelState) → Looks a b → takes_orders b.link.newer ≡ takes_orders a.link.newer
takes-looked a b looks = looks-takes a.link.newer b.link.newer looks.newer

sends-takes : (a b : Option (AwayState FrameSend)) (os : List Order) → SendsAll a b os → takes_orders b ≡ takes_orders a
sends-takes None None os sends = refl
sends-takes None (Some y) os sends = elim sends [ ]
sends-takes (Some x) None os sends = elim sends [ ]
sends-takes (Some x) (Some y) os (s, o, e) = ap not e

-- what runs behind the orders of an away sampler
away-running : (x y : AwayState FrameSend) (os : List Order) (l : ℕ) → SendsAll (Some x) (Some y) os → is_running (Some y) l ≡ (not x.ended && runs_by os (runs_of x l) l)
away-running x y os l (s, o, e) =
    ap (λ b. not b && runs_by y.orders (runs_in y.sampler l) l) e
    ∙ ap (λ b. not x.ended && b)
    (ap (λ (z : SamplerState FrameSend). runs_by y.orders (runs_in z l) l) s ∙ ap (λ (z : List Order). runs_by z (runs_in x.sampler l) l) o
    ∙ runs_by-all x.orders os (runs_in x.sampler l) l)

-- the newest runs what it ran, but for the lists of the set
sends-running : (a b : Option (AwayState FrameSend)) (os : List Order) (ds : List Deed) (set : ℕ → Bool) (to : Bool) (l : ℕ) → l < MAX_LISTS → Sets os ds set to → SendsAll a b os
    → ((set l ≡ true) → takes_orders a ≡ true ⊎ to ≡ false)
    → ((set l ≡ true) → is_running b l ≡ to) × ((set l ≡ false) → is_running b l ≡ is_running a l)
sends-running None None os ds set to l below sets sends may =
    (λ is. elim (may is) [ inl w ↦ absurd (false≢true w) | inr w ↦ sym w ], λ is. refl)
sends-running None (Some y) os ds set to l below sets sends may = elim sends [ ]
sends-running (Some x) None os ds set to l below sets sends may = elim sends [ ]
sends-running (Some x) (Some y) os ds set to l below sets sends may = (
  λ is.
      away-running x y os l sends ∙ ap (λ b. not x.ended && b) (sets.sent l (runs_of x l) below is)
      ∙ elim (may is) [
        | inl w ↦ ap (λ b. b && to) w
        | inr w ↦ ap (λ b. not x.ended && b) w ∙ and_false (not x.ended) ∙ sym w
      ],
  λ is. away-running x y os l sends ∙ ap (λ b. not x.ended && b) (sets.sent_other l (runs_of x l) is),
)

-- behind orders that make lists of a set run, or not, the newest measurement has these deeds more
pub channel-ordered : (n : ℕ) (f : ℕ → List Deed) (a b : ChannelState) (os : List Order) (ds : List Deed) (set : ℕ → Bool) (to : Bool) → Sets os ds set to
    → (takes_orders a.link.newer ≡ false → ds ≡ [])
    → ((l : ℕ) → l < MAX_LISTS → set l ≡ true → takes_orders a.link.newer ≡ true ⊎ to ≡ false)
    → ((m : ℕ) → length (f m) + length ds ≤ MAX_TAKEN)
    → OrdersAll a b os ds → ChannelHas n f a → ChannelHas n (newest_with n ds f) b
channel-ordered n f a b os ds set to sets quiet may few orders has =
    let takes = sends-takes a.link.newer b.link.newer os orders.sends in
    let g = newest_with n ds f in
    record {
      newer = λ q is.
          let (p, was, same, goes) = goes-newer a.newer b.newer ds orders.newer q is in
          let part = has.newer p was in
          let stands : StandsAfter q.intake (ds ++ f q.number) =
          subst (λ k. StandsAfter q.intake (ds ++ f k)) (sym same) (goes (f p.number) (few p.number) part.stands) in
          record {
            there = omega (arith, part.there, same);
            stands =
                elim (eqb_tells (q.number + 1) n) [
                  | inl w ↦ subst (StandsAfter q.intake) (sym (with-here n q.number ds f w.1)) stands
                  | inr w ↦
                      elim (is-bool (takes_orders a.link.newer)) [
                        | inl on ↦ absurd (w.1 (ap (λ k. k + 1) same ∙ has.newest on p was))
                        | inr off ↦ subst (StandsAfter q.intake) (sym (with-other n q.number ds f w.1)) (subst (λ xs. StandsAfter q.intake (xs ++ f q.number)) (quiet off) stands)
                      ]
                ];
          };
      older = λ p is.
          let (part, less) = has.older p (sym orders.older ∙ is) in (
            record {
              there = part.there;
              stands = subst (StandsAfter p.intake) (sym (with-other n p.number ds f (λ e. omega (arith, e, less)))) part.stands;
            },
            less,
          );
      order = λ p q is at.
          let (r, was, same, goes) = goes-newer a.newer b.newer ds orders.newer q at in
          omega (arith, has.order p r (sym orders.older ∙ is) was, same);
      newest = λ on q is.
          let (p, was, same, goes) = goes-newer a.newer b.newer ds orders.newer q is in
          ap (λ k. k + 1) same ∙ has.newest (sym takes ∙ on) p was;
      running = λ l below.
          let e = ap (λ xs. runs_there xs l) (newest-here n ds f quiet-none) in
          let both = sends-running a.link.newer b.link.newer os ds set to l below sets orders.sends (λ is. may l below is) in
          elim (is-bool (set l)) [
            | inl is ↦ both.0 is ∙ sym (e ∙ sets.noted l (f (n - 1)) below is)
            | inr isnt ↦ both.1 isnt ∙ has.running l below ∙ sym (e ∙ sets.noted_other l (f (n - 1)) isnt)
          ];
    } where
      quiet-none : n ≡ 0 → ds ≡ []
      quiet-none zero_n = goes-none a.newer b.newer ds (is-none a.newer (λ p is. omega (arith, (has.newer p is).there, zero_n))) orders.newer

ended-takes : (a b : Option (AwayState FrameSend)) → EndsUnordered a b → takes_orders b ≡ false
ended-takes None b ends = elim ends [ ]
ended-takes (Some x) None ends = elim ends [ ]
ended-takes (Some x) (Some y) ends = ap (λ (z : AwayState FrameSend). not z.ended) ends

end-sent-takes : (a b : Option (AwayState FrameSend)) → SendsToNewest a b order.End → takes_orders b ≡ false
end-sent-takes None b sends = elim sends [ ]
end-sent-takes (Some x) None sends = elim sends [ ]
end-sent-takes (Some x) (Some y) sends = ap not sends.ended

ends-takes : (a b : LinkState FrameSend) → EndsNewest a b → takes_orders b.newer ≡ false
ends-takes a b ends =
    elim ends.way [
      | inl w ↦ ended-takes a.newer b.newer w
      | inr w ↦ end-sent-takes a.newer b.newer w
    ]

takes-running : (a : Option (AwayState FrameSend)) (l : ℕ) → takes_orders a ≡ false → is_running a l ≡ false
takes-running None l none = refl
takes-running (Some x) l none = ap (λ b. b && runs_of x l) none

-- behind its end a measurement takes no orders
pub takes-ended : (a b : ChannelState) → Ends a b → takes_orders b.link.newer ≡ false
takes-ended a b ends =
    elim (is-bool (takes_orders a.link.newer)) [
      | inl on ↦ ends-takes a.link b.link (ends.ends on)
      | inr off ↦ ap (λ (x : ChannelState). takes_orders x.link.newer) (ends.none off) ∙ off
    ]

-- a measurement ends of which no list runs
pub channel-ends : (n : ℕ) (f : ℕ → List Deed) (a b : ChannelState) → Ends a b → ((l : ℕ) → l < MAX_LISTS → runs_there (f (n - 1)) l ≡ false) → ChannelHas n f a → ChannelHas n f b
channel-ends n f a b ends none has =
    let newer : b.newer ≡ a.newer = ap (λ (x : ChannelState). x.newer) ends.parts in
    let older : b.older ≡ a.older = ap (λ (x : ChannelState). x.older) ends.parts in
    let off = takes-ended a b ends in
    record {
      newer = λ p is. has.newer p (sym newer ∙ is);
      older = λ p is. has.older p (sym older ∙ is);
      order = λ p q is at. has.order p q (sym older ∙ is) (sym newer ∙ at);
      newest = λ takes p is. absurd (false≢true (sym off ∙ takes));
      running = λ l below. takes-running b.link.newer l off ∙ sym (none l below);
    }

-- one measurement more is opened, but not here, where each has ended
pub channel-more : (n : ℕ) (f : ℕ → List Deed) (a : ChannelState) → takes_orders a.link.newer ≡ false → f n ≡ [] → ChannelHas n f a → ChannelHas (n + 1) f a
channel-more n f a off none has = record {
  newer = λ p is. let part = has.newer p is in record { there = omega (arith, part.there); stands = part.stands };
  older = λ p is.
      let (part, less) = has.older p is in
      (record { there = omega (arith, part.there); stands = part.stands }, omega (arith, less));
  order = has.order;
  newest = λ takes p is. absurd (false≢true (sym off ∙ takes));
  running = λ l below. takes-running a.link.newer l off ∙ sym (ap (λ ds. runs_there ds l) (ap f (back n) ∙ none));
} where
  back : (n : ℕ) → n + 1 - 1 ≡ n
  back n = omega arith
