-- Each slave follows what was said: one more of it, one slave more, the end.
use Rattle.std.proofs.Common.{◌≡◌, ◌≢◌, ⊎_elim, ◌↔◌, inl, inr, ℕ, ◌++◌, ◌∷◌, [], List, length, set, slice_get, refl, sym, ap, subst, ◌∙◌, Option, Some, None, option_map}
use Rattle.std.specs.declared.net.ip_addr.IpAddr.{IpAddr}
use Rattle.captured_samples.specs.Standing.{Told}
use Rattle.captured_samples.specs.Slaves.{StandsAfter}
use Rattle.captured_samples.specs.Standing.{Start}
use Rattle.datagrams.specs.Waiting.{WholeOf}
use Rattle.capture_recording.specs.Slaves.{AllEnd, EachHeard, EndsAt, Follows, HearsTalk, IsElse, IsHeard, IsMet, IsOfDatagrams, NoSegments, SlavesOf, address_at}
use Rattle.capture_recording.specs.Talks.{IsTalk}
use Rattle.capture_recording.specs.declared.slave.Slave.{Slave}
use Rattle.capture_recording.specs.declared.talks.Talk.{Talk}
use Rattle.capture_recording.proofs.SlavesLemmas.{apart-along, apart-more, at-place, came-nothing, follows-else, follows-more, got-more, got-other, got-same, heard-along, met-along, met-front, met-last, met-more, same-addresses, same-or-other, some-same}

pub same-at : {S : Type 0} (o p : Option (Slave S)) → EndsAt o p
    → option_map (λ (t : Slave S). t.address) p ≡ option_map (λ (t : Slave S). t.address) o
same-at None None e = refl
same-at None (Some t) e = absurd e
same-at (Some s) None e = absurd e
same-at (Some s) (Some t) e = ap Some e.address

iff-both : {A B C : Type 0} → A ↔ B → B ↔ C → A ↔ C
iff-both one two = (λ a. two.0 (one.0 a), λ c. one.1 (two.1 c))

module _ {K S : Type 0} (told : S → List Told → Type 0) (reads : K → IpAddr → Type 0) (first : K) where
  -- nobody talked of whom samples are read
  heard-else : (said : List WholeOf) (x : SlavesOf K S) (d : WholeOf) → EachHeard told reads first said x
      → IsHeard (reads first) x.port x.slaves d → ((a : IpAddr) → IsMet a x.slaves → IsElse x.port a d)
      → EachHeard told reads first (d ∷ said) x
  heard-else said x d all one others = record {
    each = λ i s at none. follows-else told x.form x.port said d s (all.each i s at none.1)
        (others s.address (i, at-place x.slaves i s at));
    heard = (one, all.heard);
    apart = all.apart;
    read = all.read;
    left = all.left;
  }

  pub heard-nobody : (said : List WholeOf) (x : SlavesOf K S) (d : WholeOf) → EachHeard told reads first said x
      → ((talk : Talk) → IsTalk x.port d talk → ⊥) → EachHeard told reads first (d ∷ said) x
  heard-nobody said x d all none = heard-else said x d all (inl none) (λ a met. inl none)

  pub heard-unread : (said : List WholeOf) (x : SlavesOf K S) (d : WholeOf) (talk : Talk) → EachHeard told reads first said x
      → IsTalk x.port d talk → (reads first talk.slave → ⊥) → EachHeard told reads first (d ∷ said) x
  heard-unread said x d talk all is unread =
      heard-else said x d all (inr (talk, is, inl unread))
      (λ a met. inr (talk, is, λ e. unread (subst (reads first) (sym e) (all.read a met))))

  -- the slave at a place heard it
  pub heard-more : (said : List WholeOf) (x : SlavesOf K S) (d : WholeOf) (talk : Talk) (i : ℕ) (was is : Slave S)
      → EachHeard told reads first said x → IsTalk x.port d talk → slice_get x.slaves i ≡ Some was
      → was.address ≡ talk.slave → HearsTalk told d talk.is_of_master was is
      → EachHeard told reads first (d ∷ said) (record x { slaves = set x.slaves i is })
  heard-more said x d talk i was is all talks at own hears =
      let same : (j : ℕ) → address_at (set x.slaves i is) j ≡ address_at x.slaves j =
      same-addresses x.slaves i was is at hears.address in
      let met : (a : IpAddr) → IsMet a x.slaves → IsMet a (set x.slaves i is) =
      met-along x.slaves (set x.slaves i is) same in
      let unmet : (a : IpAddr) → IsMet a (set x.slaves i is) → IsMet a x.slaves =
      met-along (set x.slaves i is) x.slaves (λ j. sym (same j)) in
      let own-at : address_at x.slaves i ≡ Some talk.slave = at-place x.slaves i was at ∙ ap Some own in
      record {
        each = λ j s at_j none.
            ⊎_elim
            (λ (e : i ≡ j).
            let s-is : is ≡ s = some-same is s (sym (got-same x.slaves i was is at)
            ∙ subst (λ (k : ℕ). slice_get (set x.slaves i is) k ≡ Some s) (sym e) at_j) in
            let of_s : talk.slave ≡ s.address = sym own ∙ sym hears.address ∙ ap (λ (t : Slave S). t.address) s-is in
            let of_was : s.address ≡ was.address = sym of_s ∙ sym own in
            subst (λ (t : Slave S). Follows told x.form x.port (d ∷ said) t) s-is
            (follows-more told x.form x.port said d talk was is
            (all.each i was at (subst (λ (a : IpAddr). NoSegments x.port a said) of_was none.1))
            talks own (none.0 talk talks of_s) hears))
            (λ (n : i ≢ j).
            let at_x : slice_get x.slaves j ≡ Some s = sym (got-other x.slaves i j is n) ∙ at_j in
            follows-else told x.form x.port said d s (all.each j s at_x none.1)
            (inr (talk, talks, λ e. n (all.apart i j talk.slave own-at (at-place x.slaves j s at_x ∙ ap Some (sym e))))))
            (same-or-other i j);
        heard = (
          inr (talk, talks, inr (met talk.slave (i, own-at))),
          heard-along (reads first) x.port x.slaves (set x.slaves i is) met said all.heard,
        );
        apart = apart-along x.slaves (set x.slaves i is) same all.apart;
        read = λ a m. all.read a (unmet a m);
        left = λ a m. all.left a (λ k. m (met a k));
      }

  -- a slave is met for the first time
  pub heard-met : (said : List WholeOf) (x : SlavesOf K S) (s : Slave S) (sinks : K)
      → EachHeard told reads first said x → (IsMet s.address x.slaves → ⊥) → reads x.sinks s.address
      → ((a : IpAddr) → a ≢ s.address → reads sinks a ↔ reads x.sinks a)
      → ((start : Start) → start.given ≡ x.form → StandsAfter start [] s.samples)
      → told s.sink [] → IsOfDatagrams s
      → EachHeard told reads first said (record x { sinks = sinks; slaves = x.slaves ++ s ∷ [] })
  heard-met said x s sinks all unmet read stays stands untold plain =
      let xs : List (Slave S) = x.slaves in
      let ys : List (Slave S) = x.slaves ++ s ∷ [] in
      let read_first : reads first s.address = (all.left s.address unmet).0 read in
      record {
        each = λ i t at none.
            ⊎_elim
            (λ (e : slice_get xs i ≡ Some t). all.each i t e none)
            (λ (e : (i ≡ length xs) × (t ≡ s)).
            subst (λ (u : Slave S). Follows told x.form x.port said u) (sym e.1)
            (record {
              h = [];
              came = came-nothing (reads first) x.port xs s.address unmet read_first said all.heard;
              stands = stands;
              tells = λ start given. untold;
              plain = plain;
            }))
            (got-more xs i t s at);
        heard = heard-along (reads first) x.port xs ys (met-front xs s) said all.heard;
        apart = apart-more xs s all.apart unmet;
        read = λ a m.
            ⊎_elim (λ (k : IsMet a xs). all.read a k)
            (λ (e : a ≡ s.address). subst (reads first) (sym e) read_first) (met-more xs s a m);
        left = λ a m.
            iff-both (stays a (λ e. m (subst (λ (b : IpAddr). IsMet b ys) (sym e) (met-last xs s))))
            (all.left a (λ k. m (met-front xs s a k)));
      }

  -- one isn't to be read
  pub heard-passed : (said : List WholeOf) (x : SlavesOf K S) (sinks : K) → EachHeard told reads first said x
      → ((a : IpAddr) → reads sinks a ↔ reads x.sinks a)
      → EachHeard told reads first said (record x { sinks = sinks })
  heard-passed said x sinks all stays = record {
    each = all.each;
    heard = all.heard;
    apart = all.apart;
    read = all.read;
    left = λ a m. iff-both (stays a) (all.left a m);
  }

  at-end : (said : List WholeOf) (x : SlavesOf K S) (i : ℕ) (t : Slave S) (o : Option (Slave S)) → slice_get x.slaves i ≡ o
      → EndsAt o (Some t) → EachHeard told reads first said x → NoSegments x.port t.address said
      → Follows told x.form x.port said t
  at-end said x i t None at ends all none = absurd ends
  at-end said x i t (Some s) at ends all none =
      let f = all.each i s at (subst (λ (a : IpAddr). NoSegments x.port a said) ends.address none) in
      subst (λ (u : Slave S). Follows told x.form x.port said u) (sym (ends.plain f.plain)) f

  -- the capture ended
  pub heard-end : (said : List WholeOf) (x : SlavesOf K S) (ys : List (Slave S)) → EachHeard told reads first said x
      → AllEnd x.slaves ys → EachHeard told reads first said (record x { slaves = ys })
  heard-end said x ys all ends =
      let same : (j : ℕ) → address_at ys j ≡ address_at x.slaves j =
      λ j. same-at (slice_get x.slaves j) (slice_get ys j) (ends j) in
      record {
        each = λ i t at none. at-end said x i t (slice_get x.slaves i) refl
            (subst (λ (o : Option (Slave S)). EndsAt (slice_get x.slaves i) o) at (ends i)) all none;
        heard = heard-along (reads first) x.port x.slaves ys (met-along x.slaves ys same) said all.heard;
        apart = apart-along x.slaves ys same all.apart;
        read = λ a m. all.read a (met-along ys x.slaves (λ j. sym (same j)) a m);
        left = λ a m. all.left a (λ k. m (met-along x.slaves ys same a k));
      }
