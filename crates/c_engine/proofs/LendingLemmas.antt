-- The samplers that an engine was opened with, and what is left of those that came back.
use Rattle.std.proofs.Common.{◌≡◌, ℕ, zero, suc, ◌+◌, ◌-◌, ◌<◌, List, [], ◌∷◌, ◌++◌, length, map, refl, sym, ap, subst, ◌∙◌, arith, Some}
use Rattle.std.proofs.Common.{slice_index_or, slice_set}
use Rattle.std.specs.Prelude.{remove, reverse, slice_get, take}
use mathlib.Core.List.{IsPrefix}
use lib.Seq.{take-append_seam}
use Rattle.std.proofs.lemmas.List.{append_assoc, append-nil, length-append, map-append, reverse-append}
use Rattle.channel_ring.specs.declared.ends.SendEnd.{Ghosts as SendGhosts}
use Rattle.channel_ring.specs.declared.ends.RingEnd.{Ghosts as EndGhosts}
use Rattle.sampler.specs.History.{Opening}
use Rattle.sampler.specs.Past.{Past, first_past}
use Rattle.sampler.specs.Standing.{EndStandsAfter, StandsAfter}
use Rattle.sampler.specs.State.{JoinedEnd, SamplerEndState, SamplerState, joined}
use Rattle.daq_engine.specs.Configuration.{upto}
use Rattle.daq_engine.specs.Standings.{StandInOrder}
use Rattle.c_engine.specs.Lendings.{HaveComeOf, LendingState, rings_in}
use Rattle.c_engine.specs.Lends.{Lends}
use Rattle.c_engine.specs.Ways.{GoesOnFrom, IsEndOf}
use Rattle.c_engine.proofs.WayLemmas.{goes-on-here}
pub use Rattle.frame_writer.specs.contracts.sink_out.SinkOutOut.TheImpl.{ghosts as out}

pub length-upto : (a k : ℕ) → length (upto a k) ≡ k
length-upto a zero = refl
length-upto a (suc k) = ap (λ n. suc n) (length-upto (a + 1) k)

-- what came back before stays
pub prefix-same : {A : Type 0} (xs ys : List A) → ys ≡ xs → IsPrefix xs ys
prefix-same xs ys is = ([], append-nil xs ∙ sym is)

pub prefix-more : {A : Type 0} (xs ys more : List A) → IsPrefix xs ys → IsPrefix xs (ys ++ more)
prefix-more xs ys more before =
    (before.0 ++ more, sym (append_assoc xs before.0 more) ∙ ap (λ zs. zs ++ more) before.1)

pub prefix-then : {A : Type 0} (xs ys zs : List A) → IsPrefix xs ys → IsPrefix ys zs → IsPrefix xs zs
prefix-then xs ys zs before after =
    (before.0 ++ after.0, sym (append_assoc xs before.0 after.0) ∙ ap (λ ws. ws ++ after.0) before.1 ∙ after.1)

pub prefix-map : {A B : Type 0} (f : A → B) (xs ys : List A) → IsPrefix xs ys → IsPrefix (map f xs) (map f ys)
prefix-map f xs ys before = (map f before.0, sym (map-append f xs before.0) ∙ ap (map f) before.1)

module _ {A : Type 0} where
  -- the last one that went out is there
  pub some-out : (had before : List A) (x : A) → had ≡ before ++ x ∷ [] → 0 < length had
  some-out had before x is = omega (arith, ap length is, length-append before (x ∷ []))

  -- but for the last one, those that went out are those before
  pub last-gone : (had rest before : List A) (x : A) (n : ℕ) → n ≡ length had → had ≡ before ++ x ∷ [] → rest ≡ take (n - 1) had → rest ≡ before
  last-gone had rest before x n many is gone =
      let len : n - 1 ≡ length before = omega (arith, many, ap length is, length-append before (x ∷ [])) in
      gone ∙ ap (λ k. take k had) len ∙ ap (take (length before)) is ∙ take-append_seam before (x ∷ [])

  -- the last one that went out is the first that didn't
  pub back-again : (had rest before s new : List A) (x y : A) → had ≡ before ++ x ∷ [] → rest ≡ before → y ≡ x → new ≡ s ++ y ∷ [] → had ++ reverse s ≡ rest ++ reverse new
  back-again had rest before s new x y is gone same more =
      ap (λ xs. xs ++ reverse s) is
      ∙ append_assoc before (x ∷ []) (reverse s)
      ∙ ap (λ z. before ++ z ∷ reverse s) (sym same)
      ∙ ap (λ xs. before ++ xs) (sym (ap reverse more ∙ reverse-append s (y ∷ [])))
      ∙ ap (λ xs. xs ++ reverse new) (sym gone)

module _ {S E : Type 0} where
  -- so all is as before
  pub as-before : (began had rest s new : List (SamplerState S)) (ends : List (SamplerEndState E)) (x y : SamplerState S) (before now : LendingState S E)
      → record { began = began; out = had; samplers = reverse s; ends = ends } ≡ now → Lends before now x → rest ≡ before.out → y ≡ x → new ≡ s ++ y ∷ []
      → record { began = began; out = rest; samplers = reverse new; ends = ends } ≡ before
  as-before began had rest s new ends x y before now is lends gone same more =
      let samplers : reverse new ≡ before.samplers
      = ap reverse more ∙ reverse-append s (y ∷ []) ∙ ap (λ z. z ∷ reverse s) same ∙ ap (λ (l : LendingState S E). x ∷ l.samplers) is ∙ sym lends.first in
      let all = ap (λ (l : LendingState S E). l.began) is ∙ lends.began in
      let left = ap (λ (l : LendingState S E). l.ends) is ∙ lends.ends in
      λ i. record { began = all i; out = gone i; samplers = samplers i; ends = left i }

-- the first one goes, which says what it did
pub first-goes : {A : Type 0} (xs : List A) (x y : A) → 0 < length xs → y ≡ x → x ≡ slice_index_or xs 0 x → xs ≡ x ∷ remove (slice_set xs 0 y) 0
first-goes [] x y some same first = absurd (omega (arith, some))
first-goes (z ∷ xs) x y some same first = ap (λ w. w ∷ xs) (sym first)

module _ {S E : Type 0} (send : SendGhosts S E) (ring : EndGhosts E) where
  abbrev Ended : Type 0
  Ended = SamplerEndState E

  abbrev HaveCome : List (SamplerState S) → List Ended → List (SamplerState S) → Type 0
  HaveCome began ends rest = HaveComeOf send ring began ends rest

  -- ends of all samplers are those of their rings
  pub rings-back : (began : List (SamplerState S)) (ends : List Ended) → HaveComeOf send ring began ends []
      → map (λ (e : Ended). ring.ring e.end) ends ≡ rings_in send began
  rings-back began [] h = sym (ap (λ (xs : List (SamplerState S)). rings_in send xs) h)
  rings-back [] (e ∷ ends) h = absurd h
  rings-back (s ∷ began) (e ∷ ends) h =
      ap (λ r. r ∷ map (λ (x : Ended). ring.ring x.end) ends) h.0.same_ring ∙ ap (λ rs. send.ring s.end ∷ rs) (rings-back began ends h.1)

  -- there are as many
  pub length-back : (began : List (SamplerState S)) (ends : List Ended) → HaveComeOf send ring began ends [] → length ends ≡ length began
  length-back began [] h = sym (ap (λ (xs : List (SamplerState S)). length xs) h)
  length-back [] (e ∷ ends) h = absurd h
  length-back (s ∷ began) (e ∷ ends) h = ap suc (length-back began ends h.1)

  -- the rest is the same
  pub rest-same : (began : List (SamplerState S)) (ends : List Ended) {a b : List (SamplerState S)} → a ≡ b
      → HaveComeOf send ring began ends a → HaveComeOf send ring began ends b
  rest-same began ends same h = subst (λ (xs : List (SamplerState S)). HaveComeOf send ring began ends xs) same h

  -- none came back, and none is out
  pub none-came : (began : List (SamplerState S)) (ends : List Ended) (had rest : List (SamplerState S)) → ends ≡ [] → had ≡ [] → began ≡ rest
      → HaveComeOf send ring began ends (had ++ rest)
  none-came began ends had rest none out_is is =
      subst (λ (es : List Ended). HaveCome began es (had ++ rest)) (sym none) (is ∙ ap (λ (xs : List (SamplerState S)). xs ++ rest) (sym out_is))

  -- one more came back
  one-more : (began : List (SamplerState S)) (ends : List Ended) (e : Ended) (w : SamplerState S) (rest : List (SamplerState S))
      → HaveCome began ends (w ∷ rest) → IsEndOf send ring w e → HaveCome began (ends ++ e ∷ []) rest
  one-more began [] e w rest h is =
      subst (λ (xs : List (SamplerState S)). HaveCome xs (e ∷ []) rest) (sym h) (is, refl)
  one-more [] (x ∷ ends) e w rest h is = absurd h
  one-more (s ∷ began) (x ∷ ends) e w rest h is = (h.0, one-more began ends e w rest h.1 is)

  -- that of the first of those that were out
  pub came : (began : List (SamplerState S)) (ends : List Ended) (e : Ended) (w : SamplerState S) (had later rest : List (SamplerState S))
      → had ≡ w ∷ later → IsEndOf send ring w e → HaveComeOf send ring began ends (had ++ rest)
      → HaveComeOf send ring began (ends ++ e ∷ []) (later ++ rest)
  came began ends e w had later rest first is h =
      one-more began ends e w (later ++ rest) (subst (λ (xs : List (SamplerState S)). HaveCome began ends (xs ++ rest)) first h) is

  -- ends that say the same are as good
  pub ends-stay : (began : List (SamplerState S)) (old new : List Ended) (rest : List (SamplerState S))
      → map (joined ring) new ≡ map (joined ring) old → map (λ (e : Ended). ring.ring e.end) new ≡ map (λ (e : Ended). ring.ring e.end) old
      → HaveComeOf send ring began old rest → HaveComeOf send ring began new rest
  ends-stay began [] [] rest js rs h = h
  ends-stay began [] (y ∷ ys) rest js rs h = absurd cc
  ends-stay began (x ∷ xs) [] rest js rs h = absurd cc
  ends-stay [] (x ∷ xs) (y ∷ ys) rest js rs h = absurd h
  ends-stay (s ∷ began) (x ∷ xs) (y ∷ ys) rest js rs h =
      let here : joined ring y ≡ joined ring x = cc in
      let same : ring.ring y.end ≡ ring.ring x.end = cc in
      let later : map (joined ring) ys ≡ map (joined ring) xs = cc in
      let rings : map (λ (e : Ended). ring.ring e.end) ys ≡ map (λ (e : Ended). ring.ring e.end) xs = cc in (
        record {
          channel = ap (λ (j : JoinedEnd). j.channel) here ∙ h.0.channel;
          capacity = ap (λ (j : JoinedEnd). j.capacity) here ∙ h.0.capacity;
          same_ring = same ∙ h.0.same_ring;
          stands = λ past st.
              let on = h.0.stands past st in
              (on.0, on.1, subst (λ (j : JoinedEnd). EndStandsAfter j on.0) (sym here) on.2);
        },
        ends-stay began xs ys rest later rings h.1,
      )

  -- the pasts that the ends stand after, where the samplers stood after nothing
  module _ (openings : ℕ → Opening) where
    abbrev Stood : ℕ → List (SamplerState S) → Type 0
    Stood a began = (c : ℕ) (s : SamplerState S) → slice_get began c ≡ Some s → StandsAfter send ring s (first_past (openings (a + c)))

    stood-later : (a : ℕ) (s : SamplerState S) (began : List (SamplerState S)) → Stood a (s ∷ began) → Stood (a + 1) began
    stood-later a s began stood c t at =
        let e : a + suc c ≡ a + 1 + c = omega arith in
        subst (λ n. StandsAfter send ring t (first_past (openings n))) e (stood (suc c) t at)

    stood-here : (a : ℕ) (s : SamplerState S) (began : List (SamplerState S)) → Stood a (s ∷ began) → StandsAfter send ring s (first_past (openings a))
    stood-here a s began stood =
        let e : a + 0 ≡ a = omega arith in
        subst (λ n. StandsAfter send ring s (first_past (openings n))) e (stood 0 s refl)

    -- a past for each place from a on
    record Pasts (a : ℕ) (ends : List Ended) : Type 0 where
      pub past : ℕ → Past
      pub goes_on : (c : ℕ) → GoesOnFrom (first_past (openings (a + c))) (past c)
      pub stand : (c : ℕ) (e : JoinedEnd) → slice_get (map (joined ring) ends) c ≡ Some e → EndStandsAfter e (past c)

    before : (Past) → (ℕ → Past) → ℕ → Past
    before first past zero = first
    before first past (suc c) = past c

    pasts-none : (a : ℕ) → Pasts a []
    pasts-none a = record {
      past = λ c. first_past (openings (a + c));
      goes_on = λ c. goes-on-here (first_past (openings (a + c)));
      stand = λ c e at. absurd cc;
    }

    goes-on-before : (a : ℕ) (first : Past) (past : ℕ → Past) → GoesOnFrom (first_past (openings a)) first
        → ((c : ℕ) → GoesOnFrom (first_past (openings (a + 1 + c))) (past c)) → (c : ℕ) → GoesOnFrom (first_past (openings (a + c))) (before first past c)
    unfolding before
    goes-on-before a first past one all zero =
        let e : a ≡ a + 0 = omega arith in subst (λ n. GoesOnFrom (first_past (openings n)) first) e one
    goes-on-before a first past one all (suc c) =
        let e : a + 1 + c ≡ a + suc c = omega arith in subst (λ n. GoesOnFrom (first_past (openings n)) (past c)) e (all c)

    stand-before : (first : Past) (past : ℕ → Past) (x : Ended) (ends : List Ended) → EndStandsAfter (joined ring x) first
        → ((c : ℕ) (e : JoinedEnd) → slice_get (map (joined ring) ends) c ≡ Some e → EndStandsAfter e (past c))
        → (c : ℕ) (e : JoinedEnd) → slice_get (map (joined ring) (x ∷ ends)) c ≡ Some e → EndStandsAfter e (before first past c)
    unfolding before
    stand-before first past x ends one all zero e at =
        let is : joined ring x ≡ e = cc in subst (λ (j : JoinedEnd). EndStandsAfter j first) is one
    stand-before first past x ends one all (suc c) e at = all c e at

    pasts-of : (a : ℕ) (began : List (SamplerState S)) (ends : List Ended) → HaveCome began ends [] → Stood a began → Pasts a ends
    pasts-of a began [] h stood = pasts-none a
    pasts-of a [] (x ∷ ends) h stood = absurd h
    pasts-of a (s ∷ began) (x ∷ ends) h stood =
        let on = h.0.stands (first_past (openings a)) (stood-here a s began stood) in
        let rest = pasts-of (a + 1) began ends h.1 (stood-later a s began stood) in
        record {
          past = before on.0 rest.past;
          goes_on = goes-on-before a on.0 rest.past on.1 rest.goes_on;
          stand = stand-before on.0 rest.past x ends on.2 rest.stand;
        }

    pub all-pasts : (began : List (SamplerState S)) (ends : List Ended) → HaveComeOf send ring began ends []
        → StandInOrder send ring began (λ c. first_past (openings c))
        → (past : ℕ → Past) × ((c : ℕ) → GoesOnFrom (first_past (openings c)) (past c))
        × ((c : ℕ) (e : JoinedEnd) → slice_get (map (joined ring) ends) c ≡ Some e → EndStandsAfter e (past c))
    all-pasts began ends h stand =
        let zero-plus : (c : ℕ) → 0 + c ≡ c = λ c. omega arith in
        let all = pasts-of 0 began ends h (λ c s at. subst (λ n. StandsAfter send ring s (first_past (openings n))) (sym (zero-plus c)) (stand c s at)) in
        (all.past, λ c. subst (λ n. GoesOnFrom (first_past (openings n)) (all.past c)) (zero-plus c) (all.goes_on c), all.stand)
