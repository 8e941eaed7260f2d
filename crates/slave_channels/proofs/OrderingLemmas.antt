-- Orders of one command, one behind another.
use Rattle.std.proofs.Common.{◌≡◌, ◌≢◌, ℕ, zero, suc, ◌+◌, ◌<◌, ◌≤◌, Bool, true, false, ◌&&◌, ◌||◌, not, nat_lt, nat_eq, List, [], ◌∷◌, ◌++◌, refl, sym, ap, ◌∙◌, subst, arith, append_assoc, append-nil, length-append, ◌⊎◌, inl, inr}
use Rattle.std.specs.Prelude.{Option, Some, None}
use Rattle.std.proofs.lemmas.Bool.{false≢true}
use Rattle.std.proofs.lemmas.Bool.Decides.{eqb_tells, leb_tells}
use Rattle.xcp_base.specs.declared.limits.TheConstants.{MAX_LISTS}
use Rattle.frame_ring.specs.declared.frame_send.FrameSend.{FrameSend}
use Rattle.slave_outbox.specs.Deeds.{Deed, Started, Stopped}
use Rattle.slave_outbox.specs.Intakes.{StandsAfter}
use Rattle.tasks.specs.Deeds.{is_end}
use Rattle.tasks.specs.Links.{AwayState, CanStart, LinkState, SendsToNewest, is_running, runs_of, without}
use Rattle.tasks.specs.Needs.{places_for}
use Rattle.channel_ring.specs.declared.order.Order.{Order}
use Rattle.channel_ring.specs.declared.order.Order.TheVariants.{Start, Stop}
use Rattle.tasks.proofs.NeedLemmas.{how_many-same}
use Rattle.tasks.proofs.RunningLemmas.{runs-sent}
use Rattle.slave_channels.specs.Channels.{ChannelState, NewestGoesOn, Orders, ShareState}
use Rattle.slave_channels.specs.Ordering.{GoesOnBy, OrdersAll, SendsAll, from_on, one_if, starts_noted, starts_sent, stops_noted, stops_sent}

-- starts of the same lists need the same places
places-of-same : (run p q : ℕ → Bool) → ((k : ℕ) → p k ≡ q k) → places_for run p ≡ places_for run q
places-of-same run p q same =
    let some = how_many-same MAX_LISTS p q (λ k h. same k) in
    let all = how_many-same MAX_LISTS (λ l. run l || p l) (λ l. run l || q l) (λ k h. ap (λ b. run k || b) (same k)) in
    omega (arith, some, all)

pub can-same : (o : Option (AwayState FrameSend)) (p q : ℕ → Bool) → ((k : ℕ) → p k ≡ q k) → CanStart o p → CanStart o q
can-same None p q same can = elim can [ ]
can-same (Some a) p q same can = record { takes_orders = can.takes_orders; places = omega (arith, places-of-same (runs_of a) p q same, can.places) }

and_true : (b : Bool) → (b && true) ≡ b
and_true true = refl
and_true false = refl

and_false : (b : Bool) → (b && false) ≡ false
and_false true = refl
and_false false = refl

apart : (l k : ℕ) → l ≢ k → nat_eq l k ≡ false
apart l k different =
    elim (eqb_tells l k) [
      | inl w ↦ absurd (different w.1)
      | inr w ↦ w.0
    ]

lt_tells : (a b : ℕ) → ((nat_lt a b ≡ true) × (a < b)) ⊎ ((nat_lt a b ≡ false) × (b ≤ a))
lt_tells a b =
    elim (leb_tells (suc a) b) [
      | inl w ↦ inl (w.0, omega (arith, w.1))
      | inr w ↦ inr (w.0, omega (arith, w.1))
    ]

-- of a set all are not below 0
pub from-zero : (set : ℕ → Bool) (k : ℕ) → set k ≡ from_on 0 set k
from-zero set k =
    elim (lt_tells k 0) [
      | inl w ↦ absurd (omega (arith, w.1))
      | inr w ↦ sym (ap (λ b. set k && not b) w.0 ∙ and_true (set k))
    ]

below-next : (l k : ℕ) → l ≢ k → nat_lt k (l + 1) ≡ nat_lt k l
below-next l k different =
    elim (lt_tells k l) [
      | inl w ↦ elim (lt_tells k (l + 1)) [
        | inl v ↦ v.0 ∙ sym w.0
        | inr v ↦ absurd (omega (arith, v.1, w.1))
      ]
      | inr w ↦ elim (lt_tells k (l + 1)) [
        | inl v ↦ absurd (different (omega (arith, v.1, w.1)))
        | inr v ↦ v.0 ∙ sym w.0
      ]
    ]

below-itself : (l k : ℕ) → l ≡ k → nat_lt k (l + 1) ≡ true
below-itself l k same =
    elim (lt_tells k (l + 1)) [
      | inl v ↦ v.0
      | inr v ↦ absurd (omega (arith, v.1, same))
    ]

-- one list further
pub from-without : (set : ℕ → Bool) (l k : ℕ) → without l (from_on l set) k ≡ from_on (l + 1) set k
from-without set l k =
    elim (eqb_tells l k) [
      | inl w ↦
          ap (λ b. (set k && not (nat_lt k l)) && not b) w.0 ∙ and_false (set k && not (nat_lt k l))
          ∙ sym (ap (λ b. set k && not b) (below-itself l k w.1) ∙ and_false (set k))
      | inr w ↦
          ap (λ b. (set k && not (nat_lt k l)) && not b) w.0 ∙ and_true (set k && not (nat_lt k l))
          ∙ sym (ap (λ b. set k && not b) (below-next l k w.1))
    ]

pub from-other : (set : ℕ → Bool) (l k : ℕ) → set l ≡ false → from_on l set k ≡ from_on (l + 1) set k
from-other set l k none =
    elim (eqb_tells l k) [
      | inl w ↦
          let is : set k ≡ false = subst (λ j. set j ≡ false) w.1 none in
          ap (λ b. b && not (nat_lt k l)) is ∙ sym (ap (λ b. b && not (nat_lt k (l + 1))) is)
      | inr w ↦ sym (ap (λ b. set k && not b) (below-next l k w.1))
    ]

-- the list itself is among them
pub from-here : (set : ℕ → Bool) (l : ℕ) → set l ≡ true → from_on l set l ≡ true
from-here set l is =
    elim (lt_tells l l) [
      | inl w ↦ absurd (omega (arith, w.1))
      | inr w ↦ ap (λ b. set l && not b) w.0 ∙ and_true (set l) ∙ is
    ]

not-ended : (b c : Bool) → (not b && c) ≡ true → b ≡ false
not-ended true c is = absurd (false≢true is)
not-ended false c is = refl

running-but : (b : Bool) (l k : ℕ) → k ≢ l → (b && not (nat_eq l k)) ≡ b
running-but b l k different = ap (λ e. b && not e) (apart l k (λ e. different (sym e))) ∙ and_true b

goes-one : (d : Deed) (a b : Option ShareState) → NewestGoesOn a b d → GoesOnBy a b (d ∷ [])
goes-one d None b goes = elim goes [ ]
goes-one d (Some s) None goes = elim goes [ ]
goes-one d (Some s) (Some t) goes = (goes.0, λ deeds few stands. goes.1 deeds (omega (arith, few)) stands, goes.2)

goes-none : (a : Option ShareState) → GoesOnBy a a []
goes-none None = refl
goes-none (Some s) = (refl, λ deeds few stands. stands, refl)

goes-more : (a b c : Option ShareState) (ds es : List Deed) → GoesOnBy a b ds → GoesOnBy b c es → GoesOnBy a c (es ++ ds)
goes-more None None None ds es one two = ap (λ xs. xs ++ ds) two ∙ one
goes-more None None (Some u) ds es one two = elim two [ ]
goes-more None (Some t) c ds es one two = elim one [ ]
goes-more (Some s) None c ds es one two = elim one [ ]
goes-more (Some s) (Some t) None ds es one two = elim two [ ]
goes-more (Some s) (Some t) (Some u) ds es (m, one, o) (n, two, p) = (
  n ∙ m,
  λ deeds few stands.
      let split = length-append es ds in
      let both = length-append ds deeds in
      subst (λ xs. StandsAfter u.intake xs) (sym (append_assoc es ds deeds))
      (two (ds ++ deeds) (omega (arith, few, split, both)) (one deeds (omega (arith, few, split)) stands)),
  p ∙ o,
)

sends-one : (o : Order) (a b : Option (AwayState FrameSend)) → SendsToNewest a b o → is_end o ≡ false → ((x : AwayState FrameSend) → a ≡ Some x → x.ended ≡ false) → SendsAll a b (o ∷ [])
sends-one o None b sends goes going = elim sends [ ]
sends-one o (Some x) None sends goes going = elim sends [ ]
sends-one o (Some x) (Some y) sends goes going = (sends.sampler, sends.orders, sends.ended ∙ goes ∙ sym (going x refl))

start-going : (a : Option (AwayState FrameSend)) (p : ℕ → Bool) → CanStart a p → (x : AwayState FrameSend) → a ≡ Some x → x.ended ≡ false
start-going None p can x is = elim can [ ]
start-going (Some y) p can x is = subst (λ (z : AwayState FrameSend). z.ended ≡ false) (some_inj y x is) can.takes_orders where
  some_inj : (y x : AwayState FrameSend) → Some y ≡ Some x → y ≡ x
  some_inj y x e = cc

stop-going : (a : Option (AwayState FrameSend)) (l : ℕ) → is_running a l ≡ true → (x : AwayState FrameSend) → a ≡ Some x → x.ended ≡ false
stop-going None l runs x is = absurd (false≢true runs)
stop-going (Some y) l runs x is = subst (λ (z : AwayState FrameSend). z.ended ≡ false) (some_inj y x is) (not-ended y.ended (runs_of y l) runs) where
  some_inj : (y x : AwayState FrameSend) → Some y ≡ Some x → y ≡ x
  some_inj y x e = cc

-- an order is one of many
pub one-start : (a b : ChannelState) (l : ℕ) (p : ℕ → Bool) → CanStart a.link.newer p → Orders a b (Start l) (Started l) → OrdersAll a b (Start l ∷ []) (Started l ∷ [])
one-start a b l p can is = record { sends = sends-one (Start l) a.link.newer b.link.newer is.sends refl (start-going a.link.newer p can); link = is.link; older = is.older; newer = goes-one (Started l) a.newer b.newer is.newer }

pub one-stop : (a b : ChannelState) (l : ℕ) → is_running a.link.newer l ≡ true → Orders a b (Stop l) (Stopped l) → OrdersAll a b (Stop l ∷ []) (Stopped l ∷ [])
one-stop a b l runs is = record { sends = sends-one (Stop l) a.link.newer b.link.newer is.sends refl (stop-going a.link.newer l runs); link = is.link; older = is.older; newer = goes-one (Stopped l) a.newer b.newer is.newer }

sends-none : (a : Option (AwayState FrameSend)) → SendsAll a a []
sends-none None = refl
sends-none (Some x) = (refl, sym (append-nil x.orders), refl)

-- nothing is ordered
pub no-order : (a : ChannelState) → OrdersAll a a [] []
no-order a = record { sends = sends-none a.link.newer; link = refl; older = refl; newer = goes-none a.newer }

sends-more : (a b c : Option (AwayState FrameSend)) (os ps : List Order) → SendsAll a b os → SendsAll b c ps → SendsAll a c (os ++ ps)
sends-more None None None os ps one two = ap (λ xs. xs ++ ps) one ∙ two
sends-more None None (Some z) os ps one two = elim two [ ]
sends-more None (Some y) c os ps one two = elim one [ ]
sends-more (Some x) None c os ps one two = elim one [ ]
sends-more (Some x) (Some y) None os ps one two = elim two [ ]
sends-more (Some x) (Some y) (Some z) os ps (s, o, e) (t, p, f) = (t ∙ s, p ∙ ap (λ xs. xs ++ ps) o ∙ append_assoc x.orders os ps, f ∙ e)

-- some orders, and then others
pub orders-more : (a b c : ChannelState) (os ps : List Order) (ds es : List Deed) → OrdersAll a b os ds → OrdersAll b c ps es → OrdersAll a c (os ++ ps) (es ++ ds)
orders-more a b c os ps ds es one two = record {
  sends = sends-more a.link.newer b.link.newer c.link.newer os ps one.sends two.sends;
  link = two.link ∙ ap (λ (l : LinkState FrameSend). record l { newer = c.link.newer }) one.link;
  older = two.older ∙ one.older;
  newer = goes-more a.newer b.newer c.newer ds es one.newer two.newer;
}

-- the stop of a list leaves the others as they are
pub stop-others : (a b : Option (AwayState FrameSend)) (l k : ℕ) → SendsToNewest a b (Stop l) → is_running a l ≡ true → k ≢ l → is_running b k ≡ is_running a k
stop-others None b l k sends runs different = elim sends [ ]
stop-others (Some x) None l k sends runs different = elim sends [ ]
stop-others (Some x) (Some y) l k sends runs different =
    let was = not-ended x.ended (runs_of x l) runs in
    ap (λ e. not e && runs_of y k) sends.ended ∙ (runs-sent x y (Stop l) sends k ∙ running-but (runs_of x k) l k different)
    ∙ sym (ap (λ e. not e && runs_of x k) was)

-- the same lists, the same orders
pub stops_sent-same : (n : ℕ) (p q : ℕ → Bool) → ((k : ℕ) → k < n → p k ≡ q k) → stops_sent p n ≡ stops_sent q n
stops_sent-same zero p q same = refl
stops_sent-same (suc n) p q same = ap (λ xs. xs ++ one_if (p n) (Stop n)) (stops_sent-same n p q (λ k h. same k (omega (arith, h)))) ∙ ap (λ b. stops_sent q n ++ one_if b (Stop n)) (same n (omega arith))

pub stops_noted-same : (n : ℕ) (p q : ℕ → Bool) → ((k : ℕ) → k < n → p k ≡ q k) → stops_noted p n ≡ stops_noted q n
stops_noted-same zero p q same = refl
stops_noted-same (suc n) p q same = ap (λ xs. one_if (p n) (Stopped n) ++ xs) (stops_noted-same n p q (λ k h. same k (omega (arith, h)))) ∙ ap (λ b. one_if b (Stopped n) ++ stops_noted q n) (same n (omega arith))

plus-one : (n : ℕ) → n + 1 ≡ suc n
plus-one n = omega arith

-- one list more
pub starts_sent-next : (set : ℕ → Bool) (n : ℕ) → starts_sent set n ++ one_if (set n) (Start n) ≡ starts_sent set (n + 1)
starts_sent-next set n = sym (ap (starts_sent set) (plus-one n))

pub starts_noted-next : (set : ℕ → Bool) (n : ℕ) → one_if (set n) (Started n) ++ starts_noted set n ≡ starts_noted set (n + 1)
starts_noted-next set n = sym (ap (starts_noted set) (plus-one n))

pub stops_sent-next : (set : ℕ → Bool) (n : ℕ) → stops_sent set n ++ one_if (set n) (Stop n) ≡ stops_sent set (n + 1)
stops_sent-next set n = sym (ap (stops_sent set) (plus-one n))

pub stops_noted-next : (set : ℕ → Bool) (n : ℕ) → one_if (set n) (Stopped n) ++ stops_noted set n ≡ stops_noted set (n + 1)
stops_noted-next set n = sym (ap (stops_noted set) (plus-one n))

-- the same orders
pub orders-same : (a b : ChannelState) (os ps : List Order) (ds es : List Deed) → os ≡ ps → ds ≡ es → OrdersAll a b os ds → OrdersAll a b ps es
orders-same a b os ps ds es o d is = subst (λ xs. OrdersAll a b xs es) o (subst (λ ys. OrdersAll a b os ys) d is)
