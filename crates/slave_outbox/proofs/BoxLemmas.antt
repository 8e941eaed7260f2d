-- What an outbox keeps to, as something is laid out, shown, and sent.
use Rattle.std.proofs.Common.{◌≡◌, ℕ, ◌+◌, ◌-◌, ◌*◌, ◌%◌, ◌<◌, ◌≤◌, List, [], ◌∷◌, ◌++◌, length, take, refl, sym, ap, ◌∙◌, subst, arith, length-append, inl, inr}
use Rattle.frame_writer.specs.Frame.{text, unnumbered}
use Rattle.frame_ring.specs.Records.{blocks_for}
use Rattle.frame_ring.specs.Sending.{FrontFits}
use Rattle.frame_ring.specs.declared.fitting.Front.{Front}
use Rattle.frame_page.specs.Laid.{Laid as Kept, behind, blocks_of}
use Rattle.frame_page.specs.Laid.{packets_in as packets_kept}
use Rattle.frame_page.specs.Pages.{PageState}
use Rattle.frame_page.proofs.UnitLemmas.{take_front}
use Rattle.std.specs.Prelude.{if◌then◌else◌}
use Rattle.slave_outbox.specs.Origins.{is_reply}
use Rattle.slave_outbox.specs.Inner.{HaveSome, IsOutbox, laid_of, longest, page_blocks, page_places, replies_kept, sample_bytes}
use Rattle.std.specs.Prelude.{true, false, nat_eq, nat_lt, not}
use Rattle.std.proofs.lemmas.Bool.Decides.{nat_tests}
use Rattle.slave_outbox.specs.Outboxes.{bytes_in, together}
use Rattle.slave_outbox.proofs.LaidLemmas.{many_together}
use Rattle.slave_outbox.specs.declared.limits.TheConstants.{MAX_PAGE, MAX_REPLIES, MAX_REPLY}
use Rattle.slave_outbox.specs.declared.origin.Origin.{Origin}
use Rattle.slave_outbox.proofs.KeptLemmas.{whether, blocks_bound, blocks_push, bytes_behind, bytes_bound, bytes_push, kept_push, packets_laid, places_bound, replies_behind, replies_push, samples_behind, samples_push, short_behind, short_push, some_behind, some_push, tight_behind, tight_push, tight_wider}

module _ (most room : ℕ) (page : PageState Origin) (len : ℕ) (shown : Front) (bytes : List ℕ) (is : IsOutbox most room page len shown bytes) where
  -- so many bytes wait
  pub bytes-waiting : bytes_in (laid_of page.waits) ≡ len
  bytes-waiting = ap (λ qs. length (unnumbered qs)) (packets_laid page.waits) ∙ sym is.long

  -- they are those of samples, and of replies
  pub len-bound : len ≤ room + MAX_REPLY * replies_kept page.waits
  len-bound = omega (arith, is.long, is.samples, bytes_bound page.waits is.short)

  -- blocks for so many bytes more, and a place, are free
  pub room-blocks : (more : ℕ) → len + more ≤ room + MAX_REPLIES * MAX_REPLY → page.used + (2 + blocks_for more) ≤ page.blocks
  room-blocks more h = omega (arith, h, is.used, is.blocks_are, is.long, blocks_bound (longest room) page.waits is.tight)

  pub room-places : length page.waits < page.most
  room-places = omega (arith, is.samples, is.replies, is.places_are, places_bound page.waits is.some)

  -- so is one more
  pub outbox_more : (q : PageState Origin) (x : Kept Origin) (n : ℕ) → q ≡ record page { waits = page.waits ++ x ∷ []; used = page.used + x.blocks }
      → n ≡ length (unnumbered x.packets) → x.blocks ≤ longest room → 5 * x.blocks ≤ 3 * n → 0 < length x.packets → (is_reply x.origin ≡ true → length (unnumbered x.packets) ≤ MAX_REPLY)
      → sample_bytes page.waits + (if is_reply x.origin then 0 else length (unnumbered x.packets)) ≤ room → replies_kept page.waits + (if is_reply x.origin then 1 else 0) ≤ MAX_REPLIES → IsOutbox most room q (len + n) shown bytes
  outbox_more q x n same long blocks tight some short samples replies =
      let all = packets_kept page.waits in
      let front : take shown.count (packets_kept (page.waits ++ x ∷ [])) ≡ take shown.count all = ap (take shown.count) (kept_push page.waits x) ∙ take_front shown.count all x.packets is.there in
      subst (λ (p : PageState Origin). IsOutbox most room p (len + n) shown bytes) (sym same)
      (record {
        within = is.within;
        limit = is.limit;
        long = omega (arith, is.long, long, bytes_push page.waits x);
        blocks_are = is.blocks_are;
        places_are = is.places_are;
        used = ap (λ k. k + x.blocks) is.used ∙ sym (blocks_push page.waits x);
        some = some_push page.waits x is.some some;
        samples = omega (arith, samples, samples_push page.waits x);
        replies = omega (arith, replies, replies_push page.waits x);
        short = short_push page.waits x is.short short;
        tight = tight_push (longest room) page.waits x is.tight blocks (omega (arith, tight, long));
        there = omega (arith, is.there, ap length (kept_push page.waits x), length-append all x.packets);
        front = is.front ∙ ap (λ qs. length (unnumbered qs)) (sym front);
        shown_are = is.shown_are ∙ ap (text page.counter) (sym front);
      })

  -- what a peek shows
  pub outbox_shown : (front : Front) (now : List ℕ) (into : ℕ) → FrontFits (packets_kept page.waits) into front → now ≡ text page.counter (take front.count (packets_kept page.waits)) → IsOutbox most room page len front now
  outbox_shown front now into fits bytes_are = record {
    within = is.within;
    limit = is.limit;
    long = is.long;
    blocks_are = is.blocks_are;
    places_are = is.places_are;
    used = is.used;
    some = is.some;
    samples = is.samples;
    replies = is.replies;
    short = is.short;
    tight = is.tight;
    there = fits.some;
    front = fits.bytes;
    shown_are = bytes_are;
  }

  -- behind what was shown
  pub outbox_sent : (q : PageState Origin) → q ≡ record page { waits = behind shown.count page.waits; counter = (page.counter + shown.count) % 65536; used = blocks_of (behind shown.count page.waits) }
      → IsOutbox most room q (len - shown.len) (record { count = 0; len = 0 }) []
  outbox_sent q same =
      let split = bytes_behind shown.count page.waits in
      subst (λ (p : PageState Origin). IsOutbox most room p (len - shown.len) (record { count = 0; len = 0 }) []) (sym same)
      (record {
        within = is.within;
        limit = is.limit;
        long = omega (arith, split, is.long, is.front);
        blocks_are = is.blocks_are;
        places_are = is.places_are;
        used = refl;
        some = some_behind shown.count page.waits is.some;
        samples = omega (arith, is.samples, samples_behind shown.count page.waits);
        replies = omega (arith, is.replies, replies_behind shown.count page.waits);
        short = short_behind shown.count page.waits is.short;
        tight = tight_behind (longest room) shown.count page.waits is.tight;
        there = omega arith;
        front = refl;
        shown_are = refl;
      })

  pub shown_within : shown.len ≤ len
  shown_within = omega (arith, bytes_behind shown.count page.waits, is.long, is.front)

  -- nothing waits
  pub outbox_none : (q : PageState Origin) → q ≡ record page { waits = []; used = 0 } → IsOutbox most room q 0 (record { count = 0; len = 0 }) []
  outbox_none q same =
      subst (λ (p : PageState Origin). IsOutbox most room p 0 (record { count = 0; len = 0 }) []) (sym same)
      (record {
        within = is.within;
        limit = is.limit;
        long = refl;
        blocks_are = is.blocks_are;
        places_are = is.places_are;
        used = refl;
        some = tt;
        samples = omega arith;
        replies = omega arith;
        short = tt;
        tight = tt;
        there = omega arith;
        front = refl;
        shown_are = refl;
      })

  -- with memory for a longer page
  pub outbox_grown : (n above : ℕ) (q : PageState Origin) → q ≡ record page { blocks = page_blocks above; most = page_places above } → n ≤ above → room ≤ above → above ≤ MAX_PAGE
      → IsOutbox n above q len shown bytes
  outbox_grown n above q same below more limit =
      subst (λ (p : PageState Origin). IsOutbox n above p len shown bytes) (sym same)
      (record {
        within = below;
        limit = limit;
        long = is.long;
        blocks_are = refl;
        places_are = refl;
        used = is.used;
        some = is.some;
        samples = omega (arith, is.samples, more);
        replies = is.replies;
        short = is.short;
        tight = tight_wider (longest room) (longest above) page.waits (omega (arith, more)) is.tight;
        there = is.there;
        front = is.front;
        shown_are = is.shown_are;
      })

pub lt_true : (a b : ℕ) → a < b → nat_lt a b ≡ true
lt_true a b h =
    elim (whether (nat_lt a b)) [
      | inl is ↦ is
      | inr none ↦ absurd (grind (arith, nat_tests, none, h))
    ]

pub lt_false : (a b : ℕ) → b ≤ a → nat_lt a b ≡ false
lt_false a b h =
    elim (whether (nat_lt a b)) [
      | inl is ↦ absurd (grind (arith, nat_tests, is, h))
      | inr none ↦ none
    ]

eq_none : (n : ℕ) → 0 < n → nat_eq n 0 ≡ false
eq_none n h =
    elim (whether (nat_eq n 0)) [
      | inl is ↦ absurd (grind (arith, nat_tests, is, h))
      | inr none ↦ none
    ]

-- something waits where a packet does
pub some-waits : (xs : List (Kept Origin)) → HaveSome xs → nat_eq (length xs) 0 ≡ not (nat_lt 0 (length (laid_of xs)))
some-waits [] some = refl
some-waits (x ∷ xs) some =
    let many : 0 < length (laid_of (x ∷ xs)) = omega (arith, some.0, many_together x.origin x.packets, length-append (together x.origin x.packets) (laid_of xs)) in
    eq_none (length (x ∷ xs)) (omega arith) ∙ ap not (sym (lt_true 0 (length (laid_of (x ∷ xs))) many))
