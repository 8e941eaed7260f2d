-- What slaves heard of what was said.
use Rattle.std.proofs.Common.{◌≡◌, ◌≢◌, ◌⊎◌, ⊎_elim, inl, inr, Bool, ℕ, zero, suc, ◌<◌, ◌++◌, ◌∷◌, [], List, length, set, slice_get, refl, sym, ap, subst, ◌∙◌, arith, Option, Some, None, option_map, IfSome}
use Rattle.std.proofs.lemmas.List.{length-append}
use Rattle.std.proofs.lemmas.Option.{none-some}
use Rattle.std.specs.List.{AllByRecursion}
use Rattle.std.specs.declared.net.ip_addr.IpAddr.{IpAddr}
use Rattle.captured_session.specs.declared.form.Form.{Form}
use Rattle.captured_samples.specs.Standing.{Told}
use Rattle.datagrams.specs.Waiting.{WholeOf}
use Rattle.capture_recording.specs.Heard.{HearsDatagram, came_with}
use Rattle.capture_recording.specs.Slaves.{AllEnd, AllTalked, AreApart, CameTo, Ends, EndsAt, Follows, HearsTalk, IsAt, IsElse, IsHeard, IsMet, IsOfDatagrams, IsOneWith, MeetsOnly, address_at}
use Rattle.capture_recording.specs.Talks.{HasPorts, IsOfUdp, IsTalk}
use Rattle.capture_recording.specs.declared.slave.Slave.{Slave}
use Rattle.capture_recording.specs.declared.talks.Talk.{Talk}

pub same-or-other : (i j : ℕ) → (i ≡ j) ⊎ (i ≢ j)
same-or-other zero zero = inl refl
same-or-other zero (suc j) = inr (λ e. omega (arith, e))
same-or-other (suc i) zero = inr (λ e. omega (arith, e))
same-or-other (suc i) (suc j) =
    ⊎_elim (λ (e : i ≡ j). inl (ap suc e)) (λ (n : i ≢ j). inr (λ e. n (omega (arith, e)))) (same-or-other i j)

module _ {X : Type 0} where
  pub some-same : (x y : X) → Some x ≡ Some y → x ≡ y
  some-same x y e = ap (λ (o : Option X). unwrap o) e where
    unwrap : Option X → X
    unwrap None = x
    unwrap (Some z) = z

  pub got-same : (xs : List X) (i : ℕ) (x y : X) → slice_get xs i ≡ Some x → slice_get (set xs i y) i ≡ Some y
  got-same [] i x y at = absurd (none-some _ at)
  got-same (z ∷ xs) zero x y at = refl
  got-same (z ∷ xs) (suc i) x y at = got-same xs i x y at

  pub got-other : (xs : List X) (i j : ℕ) (y : X) → i ≢ j → slice_get (set xs i y) j ≡ slice_get xs j
  got-other [] i j y other = refl
  got-other (z ∷ xs) zero zero y other = absurd (other refl)
  got-other (z ∷ xs) zero (suc j) y other = refl
  got-other (z ∷ xs) (suc i) zero y other = refl
  got-other (z ∷ xs) (suc i) (suc j) y other = got-other xs i j y (λ e. other (ap suc e))

  pub got-front : (xs : List X) (i : ℕ) (x y : X) → slice_get xs i ≡ Some x → slice_get (xs ++ y ∷ []) i ≡ Some x
  got-front [] i x y at = absurd (none-some _ at)
  got-front (z ∷ xs) zero x y at = at
  got-front (z ∷ xs) (suc i) x y at = got-front xs i x y at

  pub got-last : (xs : List X) (y : X) → slice_get (xs ++ y ∷ []) (length xs) ≡ Some y
  got-last [] y = refl
  got-last (z ∷ xs) y = got-last xs y

  -- what stands in a list with one element more is that or stood in it before
  pub got-more : (xs : List X) (i : ℕ) (x y : X) → slice_get (xs ++ y ∷ []) i ≡ Some x
      → (slice_get xs i ≡ Some x) ⊎ ((i ≡ length xs) × (x ≡ y))
  got-more [] zero x y at = inr (refl, sym (some-same y x at))
  got-more [] (suc i) x y at = absurd (none-some _ at)
  got-more (z ∷ xs) zero x y at = inl at
  got-more (z ∷ xs) (suc i) x y at =
      ⊎_elim (λ (e : slice_get xs i ≡ Some x). inl e)
      (λ (e : (i ≡ length xs) × (x ≡ y)). inr (ap suc e.0, e.1)) (got-more xs i x y at)

pub udp-of : (d : WholeOf) (ports : ℕ × ℕ) → HasPorts d ports → d.protocol ≢ 6 → IsOfUdp d
udp-of d ports (inl has) other = has.0
udp-of d ports (inr has) other = absurd (other has.0.0)

module _ {S : Type 0} (told : S → List Told → Type 0) (d : WholeOf) (m : Bool) (was is : Slave S) where
  -- who heard a datagram, and is else the same, heard what was said with it
  pub hears-datagram : HearsDatagram m d.payload was.samples is.samples (told was.sink) (told is.sink) → IsOneWith was is → HearsTalk told d m was is
  hears-datagram heard stays = record {
    address = stays.address;
    datagram = λ _. heard;
    plain = λ _ plain. rw stays.connections plain;
  }

module _ {S : Type 0} (told : S → List Told → Type 0) (form : Form) (port : ℕ) (said : List WholeOf) (d : WholeOf) where
  -- a datagram of it and its master came
  pub follows-more : (talk : Talk) (was is : Slave S) → Follows told form port said was → IsTalk port d talk
      → was.address ≡ talk.slave → d.protocol ≢ 6 → HearsTalk told d talk.is_of_master was is
      → Follows told form port (d ∷ said) is
  follows-more talk was is f talks own other hears =
      let udp : IsOfUdp d = udp-of d talks.ports talks.has other in
      let heard = (hears.datagram other).some udp.1 in
      record {
        h = came_with talk.is_of_master heard.0 f.h;
        came = (
          f.h,
          subst (λ (a : IpAddr). CameTo port a said f.h) (sym hears.address) f.came,
          inl (record {
            talk = talk;
            is = talks;
            own = sym own ∙ sym hears.address;
            udp = udp;
            frames = heard.0;
            rest = heard.1;
            are = heard.2;
            now = refl;
          }),
        );
        stands = λ start given. heard.3.stands start f.h (f.stands start given);
        tells = λ start given. heard.3.tells start f.h (f.stands start given) (f.tells start given);
        plain = hears.plain other f.plain;
      }

  -- somebody else talked, or nobody
  pub follows-else : (s : Slave S) → Follows told form port said s → IsElse port s.address d
      → Follows told form port (d ∷ said) s
  follows-else s f else_ = record {
    h = f.h;
    came = (f.h, f.came, inr (else_, refl));
    stands = f.stands;
    tells = f.tells;
    plain = f.plain;
  }

module _ {S : Type 0} where
  pub at-place : (xs : List (Slave S)) (i : ℕ) (s : Slave S) → slice_get xs i ≡ Some s → address_at xs i ≡ Some s.address
  at-place xs i s at = ap (λ (o : Option (Slave S)). option_map (λ (t : Slave S). t.address) o) at

  pub address-is : (xs : List (Slave S)) (i : ℕ) (s : Slave S) (a : IpAddr) → slice_get xs i ≡ Some s → address_at xs i ≡ Some a
      → s.address ≡ a
  address-is xs i s a got at = some-same s.address a (sym (at-place xs i s got) ∙ at)

  pub within-by : (xs : List (Slave S)) (i : ℕ) (a : IpAddr) → address_at xs i ≡ Some a → i < length xs
  within-by [] i a at = absurd (none-some _ at)
  within-by (x ∷ xs) zero a at = omega arith
  within-by (x ∷ xs) (suc i) a at = omega (arith, within-by xs i a at)

  pub met-within : (xs : List (Slave S)) (a : IpAddr) (met : IsMet a xs) → met.0 < length xs
  met-within xs a met = within-by xs met.0 a met.1

  -- addresses stay where one slave is replaced by itself
  pub same-addresses : (xs : List (Slave S)) (i : ℕ) (was is : Slave S) → slice_get xs i ≡ Some was
      → is.address ≡ was.address → (j : ℕ) → address_at (set xs i is) j ≡ address_at xs j
  same-addresses xs i was is at same j =
      ⊎_elim
      (λ (e : i ≡ j).
      subst (λ (k : ℕ). address_at (set xs i is) k ≡ address_at xs k) e
      (at-place (set xs i is) i is (got-same xs i was is at) ∙ ap Some same ∙ sym (at-place xs i was at)))
      (λ (n : i ≢ j). ap (λ (o : Option (Slave S)). option_map (λ (t : Slave S). t.address) o) (got-other xs i j is n))
      (same-or-other i j)

  pub met-along : (xs ys : List (Slave S)) → ((j : ℕ) → address_at ys j ≡ address_at xs j) → (a : IpAddr) → IsMet a xs → IsMet a ys
  met-along xs ys same a met = (met.0, same met.0 ∙ met.1)

  pub apart-along : (xs ys : List (Slave S)) → ((j : ℕ) → address_at ys j ≡ address_at xs j) → AreApart xs → AreApart ys
  apart-along xs ys same apart i j a at_i at_j = apart i j a (sym (same i) ∙ at_i) (sym (same j) ∙ at_j)

  pub heard-along : (reads : IpAddr → Type 0) (port : ℕ) (xs ys : List (Slave S)) → ((a : IpAddr) → IsMet a xs → IsMet a ys)
      → (said : List WholeOf) → AllByRecursion (IsHeard reads port xs) said → AllByRecursion (IsHeard reads port ys) said
  heard-along reads port xs ys met [] all = tt
  heard-along reads port xs ys met (d ∷ said) all = (one all.0, heard-along reads port xs ys met said all.1) where
    one : IsHeard reads port xs d → IsHeard reads port ys d
    one (inl none) = inl none
    one (inr (talk, is, inl un)) = inr (talk, is, inl un)
    one (inr (talk, is, inr m)) = inr (talk, is, inr (met talk.slave m))

  -- to a slave that wasn't met, and is to be read, nothing came
  pub came-nothing : (reads : IpAddr → Type 0) (port : ℕ) (xs : List (Slave S)) (a : IpAddr) → (IsMet a xs → ⊥) → reads a
      → (said : List WholeOf) → AllByRecursion (IsHeard reads port xs) said → CameTo port a said []
  came-nothing reads port xs a unmet read [] all = refl
  came-nothing reads port xs a unmet read (d ∷ said) all =
      ([], came-nothing reads port xs a unmet read said all.1, inr (one all.0, refl)) where
        one : IsHeard reads port xs d → IsElse port a d
        one (inl none) = inl none
        one (inr (talk, is, inl un)) =
            inr (talk, is, λ e. un (subst reads (sym e) read))
        one (inr (talk, is, inr m)) = inr (talk, is, λ e. unmet (subst (λ (b : IpAddr). IsMet b xs) e m))

  -- with a slave more
  address-front : (xs : List (Slave S)) (s : Slave S) (i : ℕ) (a : IpAddr) → address_at xs i ≡ Some a
      → address_at (xs ++ s ∷ []) i ≡ Some a
  address-front [] s i a at = absurd (none-some _ at)
  address-front (x ∷ xs) s zero a at = at
  address-front (x ∷ xs) s (suc i) a at = address-front xs s i a at

  address-more : (xs : List (Slave S)) (s : Slave S) (i : ℕ) (a : IpAddr) → address_at (xs ++ s ∷ []) i ≡ Some a
      → (address_at xs i ≡ Some a) ⊎ ((i ≡ length xs) × (a ≡ s.address))
  address-more [] s zero a at = inr (refl, sym (some-same s.address a at))
  address-more [] s (suc i) a at = absurd (none-some _ at)
  address-more (x ∷ xs) s zero a at = inl at
  address-more (x ∷ xs) s (suc i) a at =
      ⊎_elim (λ (e : address_at xs i ≡ Some a). inl e)
      (λ (e : (i ≡ length xs) × (a ≡ s.address)). inr (ap suc e.0, e.1)) (address-more xs s i a at)

  pub met-front : (xs : List (Slave S)) (s : Slave S) (a : IpAddr) → IsMet a xs → IsMet a (xs ++ s ∷ [])
  met-front xs s a met = (met.0, address-front xs s met.0 a met.1)

  pub met-last : (xs : List (Slave S)) (s : Slave S) → IsMet s.address (xs ++ s ∷ [])
  met-last xs s = (length xs, at-place (xs ++ s ∷ []) (length xs) s (got-last xs s))

  pub met-more : (xs : List (Slave S)) (s : Slave S) (a : IpAddr) → IsMet a (xs ++ s ∷ []) → IsMet a xs ⊎ (a ≡ s.address)
  met-more xs s a met =
      ⊎_elim (λ (e : address_at xs met.0 ≡ Some a). inl (met.0, e))
      (λ (e : (met.0 ≡ length xs) × (a ≡ s.address)). inr e.1) (address-more xs s met.0 a met.1)

  pub apart-more : (xs : List (Slave S)) (s : Slave S) → AreApart xs → (IsMet s.address xs → ⊥) → AreApart (xs ++ s ∷ [])
  apart-more xs s apart unmet i j a at_i at_j = by (address-more xs s i a at_i) (address-more xs s j a at_j) where
    twice : (k : ℕ) → address_at xs k ≡ Some a → a ≡ s.address → ⊥
    twice k at e = unmet (k, subst (λ (b : IpAddr). address_at xs k ≡ Some b) e at)

    by : (address_at xs i ≡ Some a) ⊎ ((i ≡ length xs) × (a ≡ s.address))
        → (address_at xs j ≡ Some a) ⊎ ((j ≡ length xs) × (a ≡ s.address)) → i ≡ j
    by (inl p) (inl q) = apart i j a p q
    by (inl p) (inr q) = absurd (twice i p q.1)
    by (inr p) (inl q) = absurd (twice j q p.1)
    by (inr p) (inr q) = p.0 ∙ sym q.0

  pub meets-one : (xs ys : List (Slave S)) (s : Slave S) (own : IpAddr) → ys ≡ xs ++ s ∷ [] → s.address ≡ own → MeetsOnly own xs ys
  meets-one xs ys s own is same a met =
      ⊎_elim (λ (m : IsMet a xs). inl m) (λ (e : a ≡ s.address). inr (e ∙ same))
      (met-more xs s a (subst (λ (zs : List (Slave S)). IsMet a zs) is met))

  -- one is met newly at most, and talks
  pub talked-more : (port : ℕ) (xs ys : List (Slave S)) (said : List WholeOf) (d : WholeOf) (talk : Talk)
      → AllTalked port xs said → MeetsOnly talk.slave xs ys → IsTalk port d talk → AllTalked port ys (d ∷ said)
  talked-more port xs ys said d talk all only is a met =
      ⊎_elim (λ (m : IsMet a xs). inr (all a m)) (λ (e : a ≡ talk.slave). inl (talk, is, sym e)) (only a met)

  pub ends-none : (s : Slave S) → Ends s s
  ends-none s = record { address = refl; plain = λ _. refl }

  ends-both : (a b c : Slave S) → Ends a b → Ends b c → Ends a c
  ends-both a b c first second = record {
    address = second.address ∙ first.address;
    plain = λ p. second.plain (subst IsOfDatagrams (sym (first.plain p)) p) ∙ first.plain p;
  }

  ends-at-none : (o : Option (Slave S)) → EndsAt o o
  ends-at-none None = tt
  ends-at-none (Some s) = ends-none s

  pub all-end-none : (xs : List (Slave S)) → AllEnd xs xs
  all-end-none xs i = ends-at-none (slice_get xs i)

  ends-at-both : (o : Option (Slave S)) (b c : Slave S) → EndsAt o (Some b) → Ends b c → EndsAt o (Some c)
  ends-at-both None b c first second = first
  ends-at-both (Some a) b c first second = ends-both a b c first second

  pub all-end-more : (xs ys : List (Slave S)) (i : ℕ) (b c : Slave S) → AllEnd xs ys → slice_get ys i ≡ Some b → Ends b c
      → AllEnd xs (set ys i c)
  all-end-more xs ys i b c all at ends j =
      ⊎_elim
      (λ (e : i ≡ j).
      subst (λ (k : ℕ). EndsAt (slice_get xs k) (slice_get (set ys i c) k)) e
      (subst (λ (o : Option (Slave S)). EndsAt (slice_get xs i) o) (sym (got-same ys i b c at))
      (ends-at-both (slice_get xs i) b c (subst (λ (o : Option (Slave S)). EndsAt (slice_get xs i) o) at (all i)) ends)))
      (λ (n : i ≢ j). subst (λ (o : Option (Slave S)). EndsAt (slice_get xs j) o) (sym (got-other ys i j c n)) (all j))
      (same-or-other i j)

  -- one that keeps connections kept some before
  kept-at : (o : Option (Slave S)) (s : Slave S) → EndsAt o (Some s) → (IsOfDatagrams s → ⊥)
      → (was : Slave S) × (o ≡ Some was) × (IsOfDatagrams was → ⊥)
  kept-at None s ends kept = absurd ends
  kept-at (Some was) s ends kept = (was, refl, λ plain. kept (subst IsOfDatagrams (sym (ends.plain plain)) plain))

  pub kept-before : (xs ys : List (Slave S)) (i : ℕ) (s : Slave S) → AllEnd xs ys → slice_get ys i ≡ Some s → (IsOfDatagrams s → ⊥)
      → (was : Slave S) × (slice_get xs i ≡ Some was) × (IsOfDatagrams was → ⊥)
  kept-before xs ys i s all at kept =
      kept-at (slice_get xs i) s (subst (λ (o : Option (Slave S)). EndsAt (slice_get xs i) o) at (all i)) kept

  -- the slave that was added last
  pub placed : (xs ys : List (Slave S)) (s : Slave S) (a : IpAddr) (place : Option ℕ) → place ≡ Some (length xs)
      → ys ≡ xs ++ s ∷ [] → s.address ≡ a → IfSome place (IsAt a ys)
  placed xs ys s a place at is own =
      subst (λ (p : Option ℕ). IfSome p (IsAt a ys)) (sym at)
      (subst (λ (zs : List (Slave S)). IsAt a zs (length xs)) (sym is)
      (omega (arith, length-append xs (s ∷ [])), at-place (xs ++ s ∷ []) (length xs) s (got-last xs s) ∙ ap Some own))
