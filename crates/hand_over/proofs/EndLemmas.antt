-- What the ends of a line know, behind each of their steps.
use Rattle.std.proofs.Common.{◌≡◌, ℕ, zero, suc, ◌+◌, ◌≤◌, ◌<◌, true, false, List, [], ◌∷◌, ◌++◌, length, drop, sym, refl, ap, ◌∙◌, subst, inl, inr, ⊎_elim, append_assoc, length-append, arith}
use Rattle.std.proofs.lemmas.List.{drop-append-le, drop_at}
use Rattle.std.specs.Prelude.{MatchOption, MatchResult, Option, Some, None, Result, Ok, Err, OnOk, IfSome}
use mathlib.Core.List.{IsPrefix}
use Rattle.rtrb.specs.declared.end.End.{End}
use Rattle.rtrb.specs.Ends.{SameRing}
use Rattle.crossbeam_queue.specs.Passes.{Pass, view}
use Rattle.channel_ring.specs.Names.{name_of}
use Rattle.hand_over.specs.declared.known.Known.{Known}
use Rattle.hand_over.specs.declared.parcel.Parcel.{Parcel}
use Rattle.hand_over.specs.declared.parcel.Parcel.TheVariants.{Back, Begun}
use Rattle.hand_over.specs.Inner.{IsBorrower, IsLender, IsLine}
use Rattle.hand_over.specs.Lines.{BorrowerState, Comes, ComesBack, IsLeftOf, LenderState, lefts}
use Rattle.hand_over.specs.Places.{IsRecalled, known}

pub same-name : {T A P : Type 0} (a b : End T A P) → SameRing a b → name_of b ≡ name_of a
same-name a b s = λ i. record { words = s.0 i; slots = s.1 i; names = s.2 i }

pub positive : (n : ℕ) → ¬ (n ≡ 0) → 0 < n
positive zero not = absurd (not refl)
positive (suc n) not = omega arith

module _ {T : Type 0} where
  tail_of : List T → List T
  tail_of [] = []
  tail_of (x ∷ xs) = xs

  drop-prefix : (n : ℕ) (xs ys : List T) → IsPrefix xs ys → IsPrefix (drop n xs) (drop n ys)
  unfolding tail_of
  drop-prefix zero xs ys pre = pre
  drop-prefix (suc n) [] ys pre = (drop (suc n) ys, refl)
  drop-prefix (suc n) (x ∷ xs) [] pre = absurd (omega (arith, ap length pre.1))
  drop-prefix (suc n) (x ∷ xs) (y ∷ ys) pre = drop-prefix n xs ys (pre.0, ap tail_of pre.1)

  -- what was fetched, behind what came back, is the first of what is out
  pub first-out : (v w u : Known T) (had out : List T) (n m : ℕ) → IsPrefix v.fetched v.lent
      → v.fetched ≡ w.fetched → v.lent ≡ u.lent → had ≡ w.fetched → out ≡ drop n u.lent
      → m ≡ n → IsPrefix (drop m had) out
  first-out v w u had out n m pre f l b o same =
      let less = drop-prefix n v.fetched v.lent pre in (
        less.0,
        ap (λ xs. xs ++ less.0)
            (ap (λ k. drop k had) same ∙ ap (λ xs. drop n xs) (b ∙ sym f))
            ∙ less.1 ∙ ap (λ xs. drop n xs) l ∙ sym o,
      )

module _ {T L : Type 0} where
  pub lefts-append : (xs ys : List (Parcel T L)) → lefts (xs ++ ys) ≡ lefts xs ++ lefts ys
  lefts-append [] ys = refl
  lefts-append (Begun pass ∷ xs) ys = lefts-append xs ys
  lefts-append (Back left pass ∷ xs) ys = ap (λ zs. left ∷ zs) (lefts-append xs ys)

  moved : (p q : Pass T (Known T)) (parcels : List (Parcel T L)) → q.table_id ≡ p.table_id
      → IsLine p parcels → IsLine q parcels
  moved p q parcels same line = record {
    first = line.first;
    backs = line.backs;
    begins = line.begins;
    one_place = line.one_place ∙ sym same;
    many = line.many;
  }

  -- nothing went yet but a pass of the place, which came out at once
  came-out : (had known parcels : List (Parcel T L)) (x y : Parcel T L) (rest : List (Parcel T L))
      → had ≡ [] → had ++ known ≡ parcels → parcels ≡ x ∷ [] → known ≡ y ∷ rest
      → y ∷ rest ≡ x ∷ []
  came-out had known parcels x y rest none all one first =
      sym first ∙ ap (λ xs. xs ++ known) (sym none) ∙ all ∙ one

  pub begun : (had known parcels : List (Parcel T L)) (x y : Parcel T L) (rest now : List (Parcel T L))
      → had ≡ [] → had ++ known ≡ parcels → parcels ≡ x ∷ [] → known ≡ y ∷ rest
      → now ≡ had ++ y ∷ [] → now ≡ x ∷ []
  begun had known parcels x y rest now none all one first is =
      let same : y ∷ rest ≡ x ∷ [] = came-out had known parcels x y rest none all one first in
      let it : y ≡ x = cc in
      is ∙ ap (λ xs. xs ++ y ∷ []) none ∙ ap (λ z. z ∷ []) it

  begins-line : (p shown : Pass T (Known T)) (parcels : List (Parcel T L))
      → parcels ≡ Begun shown ∷ [] → shown.table_id ≡ p.table_id → IsLine p parcels
  begins-line p shown parcels only same =
      record { first = shown; backs = []; begins = only; one_place = same; many = refl }

  pub lender-begins : (p shown : Pass T (Known T)) (received : List (Parcel T L))
      → view p ≡ known true false [] [] → received ≡ Begun shown ∷ []
      → shown.table_id ≡ p.table_id → IsLender p received
  lender-begins p shown received is only same = record {
    line = begins-line p shown received only same;
    lends = ap (λ (v : Known T). v.lends) is;
    fetches_not = ap (λ (v : Known T). v.fetches) is;
    seen = subst (λ (v : Known T). IsPrefix v.fetched v.lent) (sym is) ([], refl);
    many = ap (λ (v : Known T). length v.fetched) is
        ∙ sym (ap (λ xs. length (lefts xs)) only);
  }

  pub borrower-begins : (p shown : Pass T (Known T)) (sent : List (Parcel T L)) (free : ℕ)
      → view p ≡ known false true [] [] → sent ≡ Begun shown ∷ []
      → shown.table_id ≡ p.table_id → IsBorrower p sent free
  borrower-begins p shown sent free is only same = record {
    line = begins-line p shown sent only same;
    lends_not = ap (λ (v : Known T). v.lends) is;
    fetches = ap (λ (v : Known T). v.fetches) is;
    held = inl (ap (λ (v : Known T). length v.fetched) is
        ∙ sym (ap (λ xs. length (lefts xs)) only));
  }

  longer : (p : Pass T (Known T)) (parcels : List (Parcel T L)) (left : L) (shown : Pass T (Known T))
      → IsLine p parcels → IsLine p (parcels ++ Back left shown ∷ [])
  longer p parcels left shown line = record {
    first = line.first;
    backs = line.backs ++ Back left shown ∷ [];
    begins = ap (λ xs. xs ++ Back left shown ∷ []) line.begins;
    one_place = line.one_place;
    many = ap length (lefts-append line.backs (Back left shown ∷ []))
        ∙ length-append (lefts line.backs) (left ∷ [])
        ∙ ap (λ n. n + 1) line.many ∙ sym (length-append line.backs (Back left shown ∷ []));
  }

  lefts-of : (p : Pass T (Known T)) (parcels : List (Parcel T L)) (line : IsLine p parcels)
      → length (lefts parcels) ≡ length line.backs
  lefts-of p parcels line = ap (λ xs. length (lefts xs)) line.begins ∙ line.many

  -- the borrower fetched a value, or found none
  pub fetched : (p q : Pass T (Known T)) (sent now : List (Parcel T L)) (free room : ℕ)
      (result : Option T) → IsBorrower p sent free
      → length (view p).fetched ≡ length (lefts sent) → now ≡ sent → 0 < room
      → q.table_id ≡ p.table_id
      → MatchOption result (view q ≡ view p)
      (λ x. view q ≡ known false true [] ((view p).fetched ++ x ∷ []))
      → IsBorrower q now room
  fetched p q sent now free room None b none same_sent some same is = record {
    line = subst (λ xs. IsLine q xs) (sym same_sent) (moved p q sent same b.line);
    lends_not = ap (λ (v : Known T). v.lends) is ∙ b.lends_not;
    fetches = ap (λ (v : Known T). v.fetches) is ∙ b.fetches;
    held = inl (ap (λ (v : Known T). length v.fetched) is ∙ none
        ∙ ap (λ xs. length (lefts xs)) (sym same_sent));
  }
  fetched p q sent now free room (Some x) b none same_sent some same is = record {
    line = subst (λ xs. IsLine q xs) (sym same_sent) (moved p q sent same b.line);
    lends_not = ap (λ (v : Known T). v.lends) is;
    fetches = ap (λ (v : Known T). v.fetches) is;
    held = inr (
      ap (λ (v : Known T). length v.fetched) is
          ∙ length-append (view p).fetched (x ∷ [])
          ∙ ap (λ n. n + 1) (none ∙ ap (λ xs. length (lefts xs)) (sym same_sent)),
      some,
    );
  }

  -- the borrower gave something back
  pub gave : (p q shown : Pass T (Known T)) (sent now : List (Parcel T L)) (free room : ℕ) (left : L)
      → IsBorrower p sent free → length (view p).fetched ≡ length (lefts sent) + 1
      → q.table_id ≡ p.table_id → view q ≡ view p → now ≡ sent ++ Back left shown ∷ []
      → IsBorrower q now room
  gave p q shown sent now free room left b one same is more = record {
    line = subst (λ xs. IsLine q xs) (sym more)
        (longer q sent left shown (moved p q sent same b.line));
    lends_not = ap (λ (v : Known T). v.lends) is ∙ b.lends_not;
    fetches = ap (λ (v : Known T). v.fetches) is ∙ b.fetches;
    held = inl (ap (λ (v : Known T). length v.fetched) is ∙ one
        ∙ sym (ap (λ xs. length (lefts xs)) more
        ∙ ap length (lefts-append sent (Back left shown ∷ []))
        ∙ length-append (lefts sent) (left ∷ [])));
  }

  -- if something was fetched of which nothing was given back, there is room for it
  pub has-room : (p : Pass T (Known T)) (sent : List (Parcel T L)) (free : ℕ) (before : List T)
      (value : T) → IsBorrower p sent free → (view p).fetched ≡ before ++ value ∷ []
      → length before ≡ length (lefts sent)
      → (length (view p).fetched ≡ length (lefts sent) + 1) × (0 < free)
  has-room p sent free before value b last many = ⊎_elim
      (λ x. absurd (omega (arith, x, ap length last, length-append before (value ∷ []), many)))
      (λ x. x) b.held

  pub gives-more : (a b : BorrowerState T L) (left : L) → b.ring ≡ a.ring
      → b.fetched ≡ a.fetched → b.gave ≡ a.gave ++ left ∷ []
      → b ≡ record a { gave = a.gave ++ left ∷ [] }
  gives-more a b left r f g = λ i. record { ring = r i; fetched = f i; gave = g i }

  -- what the pass of a line shows is left of the value that was fetched last
  pub may-come : (leaves : T → L → Type 0) (p shown : Pass T (Known T)) (sent : List (Parcel T L))
      (free : ℕ) (left : L) (before : List T) (value : T) → IsBorrower p sent free
      → (view p).fetched ≡ before ++ value ∷ [] → length before ≡ length (lefts sent)
      → leaves value left → shown.table_id ≡ p.table_id → shown.me.1 ≡ []
      → view shown ≡ known false false [] (view p).fetched
      → Comes leaves sent (Back left shown)
  may-come leaves p shown sent free left before value b last many by_rule same out is =
      subst (λ xs. Comes leaves xs (Back left shown)) (sym b.line.begins) (record {
        one_place = same ∙ sym b.line.one_place;
        none_out = out;
        lends_not = ap (λ (v : Known T). v.lends) is;
        fetches_not = ap (λ (v : Known T). v.fetches) is;
        before = before;
        value = value;
        fetched = ap (λ (v : Known T). v.fetched) is ∙ last;
        many = many ∙ lefts-of p sent b.line;
        by_rule = by_rule;
      })

  seen-many : (p : Pass T (Known T)) (received : List (Parcel T L)) → IsLender p received
      → length (lefts received) ≤ length (view p).lent
  seen-many p received l =
      omega (arith, l.many, ap length l.seen.1, length-append (view p).fetched l.seen.0)

  -- the lender lent a value, or didn't
  pub lent : (p q : Pass T (Known T)) (received : List (Parcel T L)) (value : T)
      (result : Result Unit T) → IsLender p received → q.table_id ≡ p.table_id
      → MatchResult result
      (λ _. view q ≡ known true false ((view p).lent ++ value ∷ []) (view p).fetched)
      (λ x. (x ≡ value) × (view q ≡ view p))
      → IsLender q received
  lent p q received value (Ok done) l same is = record {
    line = moved p q received same l.line;
    lends = ap (λ (v : Known T). v.lends) is;
    fetches_not = ap (λ (v : Known T). v.fetches) is;
    seen = subst (λ (v : Known T). IsPrefix v.fetched v.lent) (sym is) (
      l.seen.0 ++ value ∷ [],
      sym (append_assoc (view p).fetched l.seen.0 (value ∷ []))
          ∙ ap (λ xs. xs ++ value ∷ []) l.seen.1,
    );
    many = ap (λ (v : Known T). length v.fetched) is ∙ l.many;
  }
  lent p q received value (Err back) l same is = record {
    line = moved p q received same l.line;
    lends = ap (λ (v : Known T). v.lends) is.1 ∙ l.lends;
    fetches_not = ap (λ (v : Known T). v.fetches) is.1 ∙ l.fetches_not;
    seen = subst (λ (v : Known T). IsPrefix v.fetched v.lent) (sym is.1) l.seen;
    many = ap (λ (v : Known T). length v.fetched) is.1 ∙ l.many;
  }

  pub out-longer : (p q : Pass T (Known T)) (received : List (Parcel T L)) (value : T)
      → IsLender p received
      → view q ≡ known true false ((view p).lent ++ value ∷ []) (view p).fetched
      → drop (length (lefts received)) (view q).lent
      ≡ drop (length (lefts received)) (view p).lent ++ value ∷ []
  out-longer p q received value l is =
      ap (λ (v : Known T). drop (length (lefts received)) v.lent) is
      ∙ drop-append-le (length (lefts received)) (view p).lent (value ∷ [])
      (seen-many p received l)

  -- the value that was lent last was recalled
  pub out-shorter : (p q : Pass T (Known T)) (received : List (Parcel T L)) (value : T)
      → IsLender p received → IsRecalled (view p) value (view q)
      → drop (length (lefts received)) (view p).lent
      ≡ drop (length (lefts received)) (view q).lent ++ value ∷ []
  out-shorter p q received value l r =
      ap (λ xs. drop (length (lefts received)) xs) r.last
      ∙ drop-append-le (length (lefts received)) (view q).lent (value ∷ [])
      (omega (arith, l.many, ap length r.seen.1, length-append (view p).fetched r.seen.0))

  pub lends-more : (a b : LenderState T L) (value : T) → b.ring ≡ a.ring
      → b.out ≡ a.out ++ value ∷ [] → b.came ≡ a.came → b.coming ≡ a.coming
      → b ≡ record a { out = a.out ++ value ∷ [] }
  lends-more a b value r o c k =
      λ i. record { ring = r i; out = o i; came = c i; coming = k i }

  pub recalled-out : (p q : Pass T (Known T)) (received : List (Parcel T L)) (out : List T)
      (result : Option T) → IsLender p received
      → out ≡ drop (length (lefts received)) (view p).lent
      → MatchOption result (view q ≡ view p) (λ x. IsRecalled (view p) x (view q))
      → IfSome result
      (λ value. out ≡ drop (length (lefts received)) (view q).lent ++ value ∷ [])
  recalled-out p q received out None l is r = tt
  recalled-out p q received out (Some x) l is r = is ∙ out-shorter p q received x l r

  pub lent-out : (p q : Pass T (Known T)) (received : List (Parcel T L)) (a b : LenderState T L)
      (value : T) (result : Result Unit T) → IsLender p received
      → a.out ≡ drop (length (lefts received)) (view p).lent
      → b.ring ≡ a.ring → b.came ≡ a.came → b.coming ≡ a.coming
      → b.out ≡ drop (length (lefts received)) (view q).lent
      → MatchResult result
      (λ _. view q ≡ known true false ((view p).lent ++ value ∷ []) (view p).fetched)
      (λ x. (x ≡ value) × (view q ≡ view p))
      → OnOk result (b ≡ record a { out = a.out ++ value ∷ [] })
  lent-out p q received a b value (Ok done) l out r c k is e =
      lends-more a b value r
      (is ∙ out-longer p q received value l e ∙ ap (λ xs. xs ++ value ∷ []) (sym out)) c k
  lent-out p q received a b value (Err back) l out r c k is e = tt

  -- the lender looked, and saw no more fetched
  pub lender-looked : (p q : Pass T (Known T)) (out seen : List T) (received now : List (Parcel T L))
      → q.table_id ≡ p.table_id → view q ≡ known true false out seen → out ≡ (view p).lent
      → seen ≡ (view p).fetched → now ≡ received → IsLender p received → IsLender q now
  lender-looked p q out seen received now same is same_out same_seen stays l = record {
    line = subst (λ xs. IsLine q xs) (sym stays) (moved p q received same l.line);
    lends = ap (λ (v : Known T). v.lends) is;
    fetches_not = ap (λ (v : Known T). v.fetches) is;
    seen = subst (λ (v : Known T). IsPrefix v.fetched v.lent)
        (sym (is ∙ ap (λ xs. known true false out xs) same_seen
        ∙ ap (λ xs. known true false xs (view p).fetched) same_out)) l.seen;
    many = ap (λ (v : Known T). length v.fetched) is ∙ ap length same_seen ∙ l.many
        ∙ sym (ap (λ xs. length (lefts xs)) stays);
  }

  -- the borrower was looked at: it gave the same, and no slot that was free is lost
  pub borrower-looked : (p q : Pass T (Known T)) (sent now : List (Parcel T L)) (free room : ℕ)
      → q.table_id ≡ p.table_id → view q ≡ view p → now ≡ sent → free ≤ room
      → IsBorrower p sent free → IsBorrower q now room
  borrower-looked p q sent now free room same is stays roomy b =
      let one = ap (λ (v : Known T). length v.fetched) is in
      let many = ap (λ xs. length (lefts xs)) (sym stays) in
      record {
        line = subst (λ xs. IsLine q xs) (sym stays) (moved p q sent same b.line);
        lends_not = ap (λ (v : Known T). v.lends) is ∙ b.lends_not;
        fetches = ap (λ (v : Known T). v.fetches) is ∙ b.fetches;
        held = elim b.held [
          | inl w ↦ inl (one ∙ w ∙ many)
          | inr w ↦ inr (one ∙ w.0 ∙ ap (λ n. n + 1) many, omega (arith, roomy, w.1))
        ];
      }

  -- what comes behind the pass of the place is left of a value
  pub left-of : (leaves : T → L → Type 0) (p shown : Pass T (Known T)) (received : List (Parcel T L))
      (left : L) (line : IsLine p received) → Comes leaves received (Back left shown)
      → IsLeftOf leaves line.first (length line.backs) left shown
  left-of leaves p shown received left line comes =
      subst (λ xs. Comes leaves xs (Back left shown)) line.begins comes

  module _ (leaves : T → L → Type 0) (p q shown : Pass T (Known T)) (received now : List (Parcel T L))
      (left : L) (l : IsLender p received)
      (of : IsLeftOf leaves l.line.first (length l.line.backs) left shown)
      (more : now ≡ received ++ Back left shown ∷ [])
      (is : view q ≡ known true false (view p).lent (view shown).fetched)
      (seen : IsPrefix (view shown).fetched (view p).lent) where
    one-more : length (lefts now) ≡ length (lefts received) + 1
    one-more = ap (λ xs. length (lefts xs)) more
        ∙ ap length (lefts-append received (Back left shown ∷ []))
        ∙ length-append (lefts received) (left ∷ [])

    as-many : length of.before ≡ length (lefts received)
    as-many = of.many ∙ sym (lefts-of p received l.line)

    pub came : q.table_id ≡ p.table_id → IsLender q now
    came same = record {
      line = subst (λ xs. IsLine q xs) (sym more)
          (longer q received left shown (moved p q received same l.line));
      lends = ap (λ (v : Known T). v.lends) is;
      fetches_not = ap (λ (v : Known T). v.fetches) is;
      seen = subst (λ (v : Known T). IsPrefix v.fetched v.lent) (sym is) seen;
      many = ap (λ (v : Known T). length v.fetched) is ∙ ap length of.fetched
          ∙ length-append of.before (of.value ∷ []) ∙ ap (λ n. n + 1) as-many ∙ sym one-more;
    }

    in-order : (view p).lent ≡ (of.before ++ of.value ∷ []) ++ seen.0
    in-order = sym seen.1 ∙ ap (λ xs. xs ++ seen.0) of.fetched

    was-out : drop (length (lefts received)) (view p).lent ≡ of.value ∷ seen.0
    was-out = ap (λ xs. drop (length (lefts received)) xs)
        (in-order ∙ append_assoc of.before (of.value ∷ []) seen.0)
        ∙ drop_at of.before (of.value ∷ seen.0) (length (lefts received)) as-many

    is-out : drop (length (lefts now)) (view q).lent ≡ seen.0
    is-out = ap (λ (v : Known T). drop (length (lefts now)) v.lent) is
        ∙ ap (λ xs. drop (length (lefts now)) xs) in-order
        ∙ drop_at (of.before ++ of.value ∷ []) seen.0 (length (lefts now))
        (length-append of.before (of.value ∷ []) ∙ ap (λ n. n + 1) as-many ∙ sym one-more)

    pub comes-back : (a b : LenderState T L) (known_before known_now : List (Parcel T L))
        → a.out ≡ drop (length (lefts received)) (view p).lent → a.came ≡ lefts received
        → a.coming ≡ lefts known_before
        → b.out ≡ drop (length (lefts now)) (view q).lent → b.came ≡ lefts now
        → b.coming ≡ lefts known_now → b.ring ≡ a.ring
        → IsPrefix known_before (Back left shown ∷ known_now)
        → ComesBack leaves a b left
    comes-back a b before after out came_before coming out_now came_now coming_now ring pre = record {
      value = of.value;
      oldest = out ∙ was-out ∙ ap (λ xs. of.value ∷ xs) (sym (out_now ∙ is-out));
      by_rule = of.by_rule;
      came = came_now ∙ ap lefts more ∙ lefts-append received (Back left shown ∷ [])
          ∙ ap (λ xs. xs ++ left ∷ []) (sym came_before);
      known = (
        lefts pre.0,
        ap (λ xs. xs ++ lefts pre.0) coming ∙ sym (lefts-append before pre.0)
            ∙ ap lefts pre.1 ∙ ap (λ xs. left ∷ xs) (sym coming_now),
      );
      ring = ring;
    }
