-- What is out on a line, behind each step of the slave.
use Rattle.std.proofs.Common.{◌≡◌, ℕ, true, false, true≢false, if◌then◌else◌, List, [], ◌∷◌, ◌++◌, length, drop, append-nil, length-append, Option, Some, None, Result, Ok, Err, refl, sym, ap, ◌∙◌, subst, inl, inr, le_refl, arith, ◌&&◌}
use Rattle.std.proofs.lemmas.List.{length-drop, map-append}
use Rattle.std.proofs.lemmas.Option.{none-some}
use Rattle.std.specs.Prelude.{IfOk, IfSome, IsErr, IsSome, map, ◌⊎◌, ◌≤◌, Bool}
use Rattle.std.specs.Option.{is_some}
use Rattle.channel_ring.specs.declared.ends.SendEnd.{Ghosts as SendGhosts}
use Rattle.channel_ring.specs.declared.ends.RingEnd.{Ghosts as EndGhosts}
use Rattle.channel_ring.specs.Orders.{TakeState}
use Rattle.sampler.specs.Standing.{StandsAfter}
use Rattle.sampler.specs.State.{SamplerEndState, SamplerState}
use Rattle.hand_over.specs.Newest.{one_before}
use mathlib.Core.List.{IsPrefix}
use Rattle.hand_over.specs.Lines.{LenderState}
use Rattle.tasks.specs.Inner.{Comes, ComesOf, IsFinishedOf, IsTakenOf, Leaves, RecallsNewest, out_of}
use Rattle.tasks.specs.Links.{AwayState, CameBack, ComesNext, EndsNewest, EndsUnordered, IsBackBy, LinkState, LooksAtNewest, LooksAtOrders, NoneIsBack, NothingCame, SendsToNewest, is_here, is_out, just_out}
use Rattle.tasks.specs.Tasks.{HeldState}
use Rattle.tasks.specs.Ways.{HasCome, IsLeftOf, LeavesBy, LeftState, left_of, seen_of}
use Rattle.tasks.specs.declared.lost.Lost.{Lost}
use Rattle.channel_ring.specs.declared.order.Order.{Order}
use Rattle.channel_ring.specs.declared.order.Order.TheVariants as order
use Rattle.tasks.proofs.WayLemmas.{come-here, come-left}

tail_of : {A : Type 0} → List A → List A
tail_of [] = []
tail_of (x ∷ xs) = xs

some-same : {A : Type 0} (x y : A) → ◌≡◌ {A = Option A} (Some x) (Some y) → x ≡ y
some-same x y is = cc

head-same : {A : Type 0} (x y : A) (xs ys : List A) → ◌≡◌ {A = List A} (x ∷ xs) (y ∷ ys) → x ≡ y
head-same x y xs ys is = cc

pub last-same : {A : Type 0} (xs ys : List A) (x y : A) → xs ++ x ∷ [] ≡ ys ++ y ∷ []
    → (xs ≡ ys) × (x ≡ y)
unfolding tail_of
last-same [] [] x y is = (refl, head-same x y [] [] is)
last-same [] (b ∷ ys) x y is =
    absurd (omega (arith, ap length is, length-append ys (y ∷ [])))
last-same (a ∷ xs) [] x y is =
    absurd (omega (arith, ap length is, length-append xs (x ∷ [])))
last-same (a ∷ xs) (b ∷ ys) x y is =
    let more = last-same xs ys x y (ap tail_of is) in
    let first : a ≡ b = head-same a b (xs ++ x ∷ []) (ys ++ y ∷ []) is in
    ((λ i. first i ∷ more.0 i), more.1)

none-of : {A : Type 0} (xs : List A) → length xs ≡ 0 → xs ≡ []
none-of [] is = refl
none-of (x ∷ xs) is = absurd (omega (arith, is))

-- where nothing is out, and all that was fetched was given back, nothing is to come
pub none-coming : {T L : Type 0} (came coming gave : List L) (fetched out : List T) → came ++ coming ≡ gave
    → IsPrefix (drop (length came) fetched) out → out ≡ [] → length fetched ≡ length gave → coming ≡ []
none-coming came coming gave fetched out all pre none many =
    none-of coming (omega (
      arith,
      ap length all,
      length-append came coming,
      ap length (pre.1 ∙ none),
      length-append (drop (length came) fetched) pre.0,
      length-drop (length came) fetched,
      many,
    ))

-- where nothing came it doesn't wait, if something did
waits-not : {A : Type 0} (waits : Bool) (came now : List A) (x : A) → now ≡ came ++ x ∷ [] → (waits ≡ true → came ≡ now) → waits ≡ false
waits-not true came now x more same =
    absurd (omega (arith, ap length (same refl ∙ more), length-append came (x ∷ [])))
waits-not false came now x more same = refl

module _ {S : Type 0} where
  out-one : (a : AwayState S) → a.out ≡ true
      → out_of (Some a) ≡ record { sampler = a.sampler; orders = a.went } ∷ []
  out-one a is = ap (λ b. if b then record { sampler = a.sampler; orders = a.went } ∷ [] else []) is

  out-none : (a : Option (AwayState S)) → is_out a ≡ false → out_of a ≡ []
  out-none None is = refl
  out-none (Some a) is =
      ap (λ b. if b then record { sampler = a.sampler; orders = a.went } ∷ [] else []) is

  -- where neither is out, nothing is
  pub none-out : (older newer : Option (AwayState S)) → is_out older ≡ false → is_out newer ≡ false
      → out_of older ++ out_of newer ≡ []
  none-out older newer a b =
      ap (λ xs. xs ++ out_of newer) (out-none older a) ∙ out-none newer b

  or_else : AwayState S → Option (AwayState S) → AwayState S
  or_else a None = a
  or_else a (Some b) = b

  -- the newest is what was lent last
  pub record IsLast (newer : Option (AwayState S)) (h : HeldState S) (now older : List (HeldState S))
      : Type 0 where
    pub away : AwayState S
    pub there : newer ≡ Some away
    pub sampler : (a : AwayState S) → newer ≡ Some a → h.sampler ≡ a.sampler
    pub went : (a : AwayState S) → newer ≡ Some a → h.orders ≡ a.went
    pub rest : now ≡ older

  pub is-last : (out now older : List (HeldState S)) (newer : Option (AwayState S)) (h : HeldState S)
      → out ≡ older ++ out_of newer → out ≡ now ++ h ∷ [] → is_out newer ≡ true
      → IsLast newer h now older
  unfolding or_else
  is-last out now older None h is last there = absurd (true≢false (sym there))
  is-last out now older (Some a) h is last there =
      let same = last-same now older h (record { sampler = a.sampler; orders = a.went })
      (sym last ∙ is ∙ ap (λ xs. older ++ xs) (out-one a there)) in
      record {
        away = a;
        there = refl;
        sampler = λ b eq.
            ap (λ (x : HeldState S). x.sampler) same.1
            ∙ ap (λ o. (or_else a o).sampler) eq;
        went = λ b eq.
            ap (λ (x : HeldState S). x.orders) same.1 ∙ ap (λ o. (or_else a o).went) eq;
        rest = same.0;
      }

  -- the oldest is out
  pub record IsFirst (away : Option (AwayState S)) (h : HeldState S) (now more : List (HeldState S))
      : Type 0 where
    pub it : AwayState S
    pub there : away ≡ Some it
    pub sampler : (a : AwayState S) → away ≡ Some a → h.sampler ≡ a.sampler
    pub went : (a : AwayState S) → away ≡ Some a → h.orders ≡ a.went
    pub rest : now ≡ more

  pub is-first : (out now more : List (HeldState S)) (away : Option (AwayState S)) (h : HeldState S)
      → out ≡ out_of away ++ more → out ≡ h ∷ now → is_out away ≡ true → IsFirst away h now more
  unfolding tail_of or_else
  is-first out now more None h is first there = absurd (true≢false (sym there))
  is-first out now more (Some a) h is first there =
      let all = sym first ∙ is ∙ ap (λ xs. xs ++ more) (out-one a there) in
      let same = head-same h (record { sampler = a.sampler; orders = a.went }) now more all in
      record {
        it = a;
        there = refl;
        sampler = λ b eq.
            ap (λ (x : HeldState S). x.sampler) same ∙ ap (λ o. (or_else a o).sampler) eq;
        went = λ b eq.
            ap (λ (x : HeldState S). x.orders) same ∙ ap (λ o. (or_else a o).went) eq;
        rest = ap tail_of all;
      }

  -- it was recalled, and nothing of it is out
  pub out-recalled : (older now : List (HeldState S)) (before after : Option (AwayState S))
      (a : AwayState S) → before ≡ Some a
      → ((x : AwayState S) → before ≡ Some x → after ≡ Some (record x { out = false; here = true }))
      → now ≡ older → now ≡ older ++ out_of after
  out-recalled older now before after a is recalls rest =
      rest ∙ sym (append-nil older) ∙ ap (λ o. older ++ out_of o) (sym (recalls a is))

  pub looks-same : (o : Option (AwayState S)) → LooksAtNewest o o
  looks-same None = tt
  looks-same (Some a) = record { rest = refl; grows = le_refl a.free }

  looks-twice-of : (a b c : AwayState S) → LooksAtOrders a b → LooksAtOrders b c → LooksAtOrders a c
  looks-twice-of a b c x y = record {
    rest = y.rest ∙ ap (λ (s : AwayState S). record s { free = c.free; out = c.out; here = c.here }) x.rest;
    grows = omega (arith, x.grows, y.grows);
  }

  pub looks-twice : (a b c : Option (AwayState S)) → LooksAtNewest a b → LooksAtNewest b c
      → LooksAtNewest a c
  looks-twice None None None x y = tt
  looks-twice (Some a) (Some b) (Some c) x y = looks-twice-of a b c x y
  looks-twice None (Some b) c x y = elim x [ ]
  looks-twice (Some a) None c x y = elim x [ ]
  looks-twice None None (Some c) x y = elim y [ ]
  looks-twice (Some a) (Some b) None x y = elim y [ ]

  pub leaves-looks : (a b : Option (AwayState S)) → Leaves a b → LooksAtNewest a b
  leaves-looks None None is = tt
  leaves-looks (Some a) (Some b) is = record {
    rest = is ∙ ap (λ n. record a { free = n; out = b.out; here = b.here })
        (sym (ap (λ (x : AwayState S). x.free) is));
    grows = subst (λ n. a.free ≤ n) (sym (ap (λ (x : AwayState S). x.free) is)) (le_refl a.free);
  }
  leaves-looks None (Some b) is = elim is [ ]
  leaves-looks (Some a) None is = elim is [ ]

  -- what was kept still is
  pub some-after : {P : AwayState S → Type 0} (o p : Option (AwayState S)) → Leaves o p
      → (a : AwayState S) × (o ≡ Some a) × P a → IsSome p
  some-after None p leaves (a, is, there) = absurd (none-some a is)
  some-after (Some x) (Some y) leaves it = refl
  some-after (Some x) None leaves it = elim leaves [ ]

  -- the older stays where it is
  pub older-recalled : (a b : LinkState S) → (b ≡ a) ⊎ RecallsNewest a b
      → is_out b.older ≡ is_out a.older
  older-recalled a b recalls = elim recalls [
    | inl same ↦ ap (λ (l : LinkState S). is_out l.older) same
    | inr r ↦ ap (λ (l : LinkState S). is_out l.older) r.rest
  ]

  pub recalled-looks : (a b : LinkState S) → RecallsNewest a b → LooksAtNewest a.newer b.newer
  recalled-looks a b r =
      subst (λ o. LooksAtNewest o b.newer) (sym r.was)
      (subst (λ o. LooksAtNewest (Some r.before) o)
      (sym (ap (λ (l : LinkState S). l.newer) r.rest))
      (record { rest = refl; grows = le_refl r.before.free }))

  -- a sampler goes out, behind those that are out
  pub out-more : (out now : List (HeldState S)) (older newer later_older : Option (AwayState S))
      (h : HeldState S) → out ≡ out_of older ++ out_of newer → now ≡ out ++ h ∷ []
      → (is_some older && is_some newer) ≡ false → later_older ≡ one_before older newer
      → now ≡ out_of later_older ++ out_of (Some (just_out h.sampler h.orders))
  out-more out now None None later h is more room before =
      more ∙ ap (λ xs. xs ++ h ∷ []) is
      ∙ ap (λ o. out_of o ++ h ∷ []) (sym before)
  out-more out now (Some a) None later h is more room before =
      more ∙ ap (λ xs. xs ++ h ∷ []) (is ∙ append-nil (out_of (Some a)))
      ∙ ap (λ o. out_of o ++ h ∷ []) (sym before)
  out-more out now None (Some b) later h is more room before =
      more ∙ ap (λ xs. xs ++ h ∷ []) is
      ∙ ap (λ o. out_of o ++ h ∷ []) (sym before)
  out-more out now (Some a) (Some b) later h is more room before =
      absurd (true≢false room)

  pub ends-here : (a b : LinkState S) (c : LinkState S) → RecallsNewest a b
      → c ≡ record b { newer = c.newer }
      → ((x : AwayState S) → b.newer ≡ Some x → c.newer ≡ Some (record x { ended = true }))
      → EndsNewest a c
  ends-here a b c r rest ends = record {
    rest = rest ∙ ap (λ (l : LinkState S). record l { newer = c.newer }) r.rest;
    way = inl (subst (λ o. EndsUnordered o c.newer) (sym r.was)
        (subst (λ o. EndsUnordered (Some r.before) o)
        (sym (ends (record r.before { out = false; here = true })
        (ap (λ (l : LinkState S). l.newer) r.rest)))
        refl));
  }

  -- an order changes nothing of what is out
  pub out-sent : (older out : List (HeldState S)) (a b : Option (AwayState S)) (o : Order)
      → SendsToNewest a b o → out ≡ older ++ out_of a → out ≡ older ++ out_of b
  out-sent older out None b o sends is = elim sends [ ]
  out-sent older out (Some a) None o sends is = elim sends [ ]
  out-sent older out (Some a) (Some b) o sends is =
      is ∙ ap (λ xs. older ++ xs) (sym (λ i. out_of (Some (record a {
        sampler = sends.sampler i;
        went = sends.went i;
        out = sends.out i;
      }))))

  -- the older isn't out, so the newer is the first that is
  pub out-first : (older newer : Option (AwayState S)) (out : List (HeldState S))
      → out ≡ out_of older ++ out_of newer → is_out older ≡ false → out ≡ out_of newer ++ []
  out-first older newer out is none =
      is ∙ ap (λ xs. xs ++ out_of newer) (out-none older none) ∙ sym (append-nil (out_of newer))

  pub out-behind : (older newer : Option (AwayState S)) (out : List (HeldState S))
      → out ≡ out_of newer ++ [] → is_out older ≡ false → out ≡ out_of older ++ out_of newer
  out-behind older newer out is none =
      is ∙ append-nil (out_of newer)
      ∙ ap (λ xs. xs ++ out_of newer) (sym (out-none older none))

  pub out-looked : (older out : List (HeldState S)) (a b : Option (AwayState S))
      → is_out b ≡ false → out ≡ older ++ out_of a → is_out a ≡ false → out ≡ older ++ out_of b
  out-looked older out a b none is was =
      is ∙ ap (λ xs. older ++ xs) (out-none a was ∙ sym (out-none b none))

  pub ends-sent : (a c : LinkState S) → c ≡ record a { newer = c.newer }
      → SendsToNewest a.newer c.newer order.End → EndsNewest a c
  ends-sent a c rest sends = record { rest = rest; way = inr sends }

module _ {S E : Type 0} (send : SendGhosts S E) (ring : EndGhosts E) where
  -- what was recalled is left of the sampler itself
  pub recalled-left : (h : HeldState S) (a : AwayState S)
      (left : Result (SamplerEndState E) Lost × TakeState) → h.sampler ≡ a.sampler
      → h.orders ≡ a.went → IfOk left.0 (IsLeftOf send ring h.sampler) → left.1 ≡ h.orders
      → LeavesBy send ring a.sampler a.went left
  recalled-left h a left same went of orders =
      come-left send ring a.sampler a.went h.sampler h.orders left
      (subst (λ (s : SamplerState S). HasCome send ring a.sampler a.went s h.orders) (sym same)
      (subst (λ (o : TakeState). HasCome send ring a.sampler a.went a.sampler o) (sym went)
      (come-here send ring a.sampler a.went)))
      of orders

  -- what came back of one is that of the same as it was, wherever it is
  came-same : (a b : AwayState S) (e : SamplerEndState E) (left : ℕ) → b.sampler ≡ a.sampler
      → b.orders ≡ a.orders → CameBack send ring b e left → CameBack send ring a e left
  came-same a b e left sampler orders c = record {
    channel = c.channel ∙ ap (λ (s : SamplerState S). s.channel) sampler;
    plans = c.plans ∙ ap (λ (s : SamplerState S). s.plans) sampler;
    capacity = c.capacity ∙ ap (λ (s : SamplerState S). send.capacity s.end) sampler;
    same_ring = c.same_ring ∙ ap (λ (s : SamplerState S). send.ring s.end) sampler;
    deeds = c.deeds;
    rest = c.rest;
    obeyed = c.obeyed ∙ orders;
    many = c.many;
    stands = λ past st. c.stands past
        (subst (λ (z : SamplerState S). StandsAfter send ring z past) (sym sampler) st);
  }

  -- what is left of one that was recalled is so by the rule
  pub finished-rule : (a : AwayState S) (left : Result (SamplerEndState E) Lost × TakeState)
      → IsFinishedOf send ring a left → LeavesBy send ring a.sampler a.went left
  finished-rule a left f =
      come-left send ring a.sampler a.went a.sampler a.went left
      (come-here send ring a.sampler a.went) f.end f.orders

  -- and by the rule of the same, wherever it is
  pub rule-after : (o p : Option (AwayState S))
      (left : Result (SamplerEndState E) Lost × TakeState) → Leaves o p
      → (a : AwayState S) × (o ≡ Some a) × LeavesBy send ring a.sampler a.went left
      → (b : AwayState S) → p ≡ Some b → LeavesBy send ring b.sampler b.went left
  rule-after o p left leaves (a, is, rule) b now =
      let same : b ≡ record a { out = b.out; here = b.here } =
      subst (λ x. Leaves x (Some b)) is (subst (λ x. Leaves o x) now leaves) in
      subst (λ (r : TakeState). LeavesBy send ring b.sampler r left)
      (sym (ap (λ (z : AwayState S). z.went) same))
      (subst (λ (s : SamplerState S). LeavesBy send ring s a.went left)
      (sym (ap (λ (z : AwayState S). z.sampler) same)) rule)

  -- as the link shows it
  pub comes-of : (x y : LinkState S) (a : AwayState S)
      (u v : LenderState (HeldState S) (Result (SamplerEndState E) Lost × TakeState))
      (left : Result (SamplerEndState E) Lost × TakeState) → ComesOf send ring u v a left
      → x.came ≡ map (left_of ring) u.came → x.coming ≡ map (left_of ring) u.coming
      → y.came ≡ map (left_of ring) v.came → y.coming ≡ map (left_of ring) v.coming
      → Comes send ring x y a left
  comes-of x y a u v left (inl w) c k d l = record {
    by_rule = finished-rule a left w.0;
    way = inr (
      w.0,
      record {
        came = d ∙ ap (λ z. map (left_of ring) z.came) w.1 ∙ sym c;
        coming = l ∙ ap (λ z. map (left_of ring) z.coming) w.1 ∙ sym k;
      },
    );
  }
  comes-of x y a u v left (inr n) c k d l = record {
    by_rule = n.by_rule;
    way = inl (record {
      out = n.out;
      came = d ∙ ap (map (left_of ring)) n.came ∙ map-append (left_of ring) u.came (left ∷ [])
          ∙ ap (λ xs. xs ++ left_of ring left ∷ []) (sym c);
      known = (
        map (left_of ring) n.known.0,
        ap (λ xs. xs ++ map (left_of ring) n.known.0) k
            ∙ sym (map-append (left_of ring) u.coming n.known.0)
            ∙ ap (map (left_of ring)) n.known.1
            ∙ ap (λ xs. left_of ring left ∷ xs) (sym l),
      );
    });
  }

  taken-seen : (left : Result (SamplerEndState E) Lost × TakeState) (e : SamplerEndState E)
      → left.0 ≡ Ok e → (left_of ring left).end ≡ Some (seen_of ring e)
  taken-seen (r, orders) e is = ap (λ q. (left_of ring (q, orders)).end) is

  lost-seen : (left : Result (SamplerEndState E) Lost × TakeState) (lost : Lost)
      → left.0 ≡ Err lost → (left_of ring left).end ≡ None
  lost-seen (r, orders) lost is = ap (λ q. (left_of ring (q, orders)).end) is

  of-end : (s : SamplerState S) (r : Result (SamplerEndState E) Lost) (e : SamplerEndState E)
      → r ≡ Ok e → IfOk r (IsLeftOf send ring s) → IsLeftOf send ring s e
  of-end s r e is of = subst (λ q. IfOk q (IsLeftOf send ring s)) is of

  module _ (x y z : LinkState S) (nothing : NothingCame y z)
      (left : Result (SamplerEndState E) Lost × TakeState) where
    none-more : NothingCame x y → NothingCame x z
    none-more n =
        record { came = nothing.came ∙ n.came; coming = nothing.coming ∙ n.coming }

    next-more : (a : AwayState S) (l : LeftState) → ComesNext x y a l → ComesNext x z a l
    next-more a l n = record {
      out = n.out;
      came = nothing.came ∙ n.came;
      known = subst (λ xs. IsPrefix x.coming (l ∷ xs)) (sym nothing.coming) n.known;
    }

    back-of : (a b : AwayState S) (back : SamplerEndState E × ℕ) → Comes send ring x y a left
        → b ≡ record a { out = b.out; here = b.here } → IsTakenOf send ring b left back
        → IsBackBy send ring x z a back.0 back.1
    back-of a b back comes same taken = record {
      came = came-same a b back.0 back.1 (ap (λ (q : AwayState S). q.sampler) same)
          (ap (λ (q : AwayState S). q.orders) same) taken.came;
      way = elim comes.way [
        | inl n ↦ inl (record {
          left = left_of ring left;
          is = taken-seen left back.0 taken.end;
          next = next-more a (left_of ring left) n;
        })
        | inr w ↦ inr (record {
          nothing = none-more w.1;
          of = of-end a.sampler left.0 back.0 taken.end w.0.end;
        })
      ];
    }

    -- it is back
    pub taken-by : (o p : Option (AwayState S)) (result : Option (SamplerEndState E × ℕ))
        → Leaves o p → (a : AwayState S) × (o ≡ Some a) × Comes send ring x y a left
        → IfSome result (λ back. (b : AwayState S) × (p ≡ Some b) × IsTakenOf send ring b left back)
        → IfSome result
        (λ back. (a : AwayState S) × (o ≡ Some a) × IsBackBy send ring x z a back.0 back.1)
    taken-by o p None leaves it taken = tt
    taken-by o p (Some back) leaves (a, is, comes) (b, now, taken) = (
      a,
      is,
      back-of a b back comes
          (subst (λ w. Leaves w (Some b)) is (subst (λ w. Leaves o w) now leaves)) taken,
    )

    -- it was lost
    pub lost-by : (waits : Bool) (o p q : Option (AwayState S)) (lost : Lost)
        → (waits ≡ true → x.came ≡ y.came) → Leaves o p
        → (a : AwayState S) × (o ≡ Some a) × Comes send ring x y a left → left.0 ≡ Err lost
        → LooksAtNewest p q → is_out q ≡ false → is_here q ≡ false → NoneIsBack send x z waits o q
    lost-by waits o p q lost waiting leaves (a, is, comes) none looks not_out not_here = record {
      looked = looks-twice o p q (leaves-looks o p leaves) looks;
      not_here = not_here;
      way = elim comes.way [
        | inl n ↦ inr (inl (
          waits-not waits x.came y.came (left_of ring left) n.came waiting,
          record {
            not_out = not_out;
            left = left_of ring left;
            lost = lost-seen left lost none;
            came = (next-more a (left_of ring left) n).came;
            known = (next-more a (left_of ring left) n).known;
          },
        ))
        | inr w ↦ inr (inr (record {
          nothing = none-more w.1;
          not_out = not_out;
          away = a;
          was = is;
          lost = w.0.lost (subst (λ (r : Result (SamplerEndState E) Lost). IsErr r) (sym none) refl);
        }))
      ];
    }

  -- nothing came
  pub none-by : (x y : LinkState S) (waits : Bool) (o : Option (AwayState S)) → y ≡ x
      → is_here o ≡ false → (waits ≡ false → is_out o ≡ true → x.coming ≡ [])
      → NoneIsBack send x y waits o o
  none-by x y waits o same not_here no_more = record {
    looked = looks-same o;
    not_here = not_here;
    way = inl (record {
      nothing = record {
        came = ap (λ (l : LinkState S). l.came) same;
        coming = ap (λ (l : LinkState S). l.coming) same;
      };
      not_here = not_here;
      stays = refl;
      no_more = no_more;
    });
  }

  module _ (w x : LinkState S) (recalls : (x ≡ w) ⊎ RecallsNewest w x) where
    recalled-nothing : NothingCame w x
    recalled-nothing = elim recalls [
      | inl same ↦ record {
        came = ap (λ (l : LinkState S). l.came) same;
        coming = ap (λ (l : LinkState S). l.coming) same;
      }
      | inr r ↦ record {
        came = ap (λ (l : LinkState S). l.came) r.rest;
        coming = ap (λ (l : LinkState S). l.coming) r.rest;
      }
    ]

    recalled-looked : LooksAtNewest w.newer x.newer
    recalled-looked = elim recalls [
      | inl same ↦ subst (λ (l : LinkState S). LooksAtNewest w.newer l.newer) (sym same) (looks-same w.newer)
      | inr r ↦ recalled-looks w x r
    ]

    -- what is back of it, or not, once it was recalled
    pub back-recalled : (z : LinkState S) (e : SamplerEndState E) (left : ℕ)
        → (a : AwayState S) × (x.newer ≡ Some a) × IsBackBy send ring x z a e left
        → (a : AwayState S) × (w.newer ≡ Some a) × IsBackBy send ring w z a e left
    back-recalled z e left (a, is, back) = elim recalls [
      | inl same ↦ (
        a,
        sym (ap (λ (l : LinkState S). l.newer) same) ∙ is,
        subst (λ (l : LinkState S). IsBackBy send ring l z a e left) same back,
      )
      | inr r ↦
          let now : a ≡ record r.before { out = false; here = true } =
          some-same a (record r.before { out = false; here = true })
          (sym is ∙ ap (λ (l : LinkState S). l.newer) r.rest) in (
            r.before,
            r.was,
            record {
              came = came-same r.before a e left (ap (λ (q : AwayState S). q.sampler) now)
                  (ap (λ (q : AwayState S). q.orders) now) back.came;
              way = elim back.way [
                | inl n ↦ absurd (true≢false (sym n.next.out ∙ ap (λ (q : AwayState S). q.out) now))
                | inr f ↦ inr (record {
                  nothing = record {
                    came = f.nothing.came ∙ recalled-nothing.came;
                    coming = f.nothing.coming ∙ recalled-nothing.coming;
                  };
                  of = subst (λ (s : SamplerState S). IsLeftOf send ring s e)
                      (ap (λ (q : AwayState S). q.sampler) now) f.of;
                })
              ];
            },
          )
    ]

    pub none-recalled : (z : LinkState S) (waits : Bool) (q : Option (AwayState S))
        → NoneIsBack send x z waits x.newer q → NoneIsBack send w z waits w.newer q
    none-recalled z waits q none = elim recalls [
      | inl same ↦ subst (λ (l : LinkState S). NoneIsBack send l z waits l.newer q) same none
      | inr r ↦
          let now : x.newer ≡ Some (record r.before { out = false; here = true }) =
          ap (λ (l : LinkState S). l.newer) r.rest in
          record {
            looked = looks-twice w.newer x.newer q recalled-looked none.looked;
            not_here = none.not_here;
            way = elim none.way [
              | inl s ↦ absurd (true≢false (sym (ap is_here now) ∙ s.not_here))
              | inr (inl (free, l)) ↦ inr (inl (
                free,
                record {
                  not_out = l.not_out;
                  left = l.left;
                  lost = l.lost;
                  came = l.came ∙ ap (λ xs. xs ++ l.left ∷ []) recalled-nothing.came;
                  known = subst (λ xs. IsPrefix xs (l.left ∷ z.coming)) recalled-nothing.coming l.known;
                },
              ))
              | inr (inr h) ↦ inr (inr (record {
                nothing = record {
                  came = h.nothing.came ∙ recalled-nothing.came;
                  coming = h.nothing.coming ∙ recalled-nothing.coming;
                };
                not_out = h.not_out;
                away = r.before;
                was = r.was;
                lost =
                    subst (λ (k : SamplerState S). send.is_lost k.end)
                    (ap (λ (k : AwayState S). k.sampler)
                    (some-same h.away (record r.before { out = false; here = true }) (sym h.was ∙ now)))
                    h.lost;
              }))
            ];
          }
    ]
