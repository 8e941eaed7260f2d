-- Frames that were sent, unit by unit.
use Rattle.std.proofs.Common.{◌≡◌, ℕ, zero, suc, ◌+◌, ◌-◌, ◌<◌, ◌≤◌, List, [], ◌∷◌, ◌++◌, length, take, drop, inl, inr, refl, sym, ap, ◌∙◌, subst, arith, take-append-drop}
use Rattle.std.specs.Prelude.{Some, nat_le, slice_get, unwrap_or, true, false, if◌then◌else◌}
use Rattle.std.proofs.lemmas.Bool.Decides.{leb_tells}
use Rattle.std.proofs.lemmas.List.{drop-drop, drop-take, drop_at, length-append, length-drop, length-take}
use Rattle.std.proofs.lemmas.List.Elements.{All-drop}
use Rattle.circular_buffer.specs.Buffer.{keep_last}
use Rattle.channel_ring.specs.Making.{IsPacket}
use Rattle.frame_writer.specs.Frame.{unnumbered}
use Rattle.frame_ring.specs.Reading.{flat, packets_in}
use Rattle.frame_ring.specs.Sending.{AreFrames}
use Rattle.frame_ring.proofs.FrameLemmas.{unnumbered-append}
use Rattle.frame_ring.proofs.RecordLemmas.{le_test}
use Rattle.frame_page.specs.Inner.{AreUnits, IsUnit, IsWithinNext, blocks_in, frames_in}
use Rattle.frame_page.specs.Laid.{IsWithinFirst, behind, blocks_of}
use Rattle.frame_page.specs.Laid.{packets_in as all_packets}
use Rattle.frame_page.specs.Pages.{laid_in, waits_in}
use Rattle.frame_page.specs.declared.unit.Unit.{Unit}
use Rattle.frame_page.proofs.UnitLemmas.{read_front, unit_within}

less_test : (a b : ℕ) → b < a → nat_le a b ≡ false
less_test a b h = elim (leb_tells a b) [ inl t ↦ absurd (omega (arith, h, t.1)) | inr t ↦ t.0 ]

module _ {O : Type 0} where
  -- a unit has as many packets as frames
  pub laid_count : (blocks : List (List ℕ)) (u : Unit O) → IsUnit (take u.blocks blocks) u → length (laid_in blocks u).packets ≡ u.count
  laid_count blocks u is = ap length (read_front (drop u.at (flat (take u.blocks blocks))) u.count u.len is.frames) ∙ sym is.frames.of.many

  pub all_count : (blocks : List (List ℕ)) (us : List (Unit O)) → AreUnits blocks us → length (all_packets (waits_in blocks us)) ≡ frames_in us
  all_count blocks [] are = refl
  all_count blocks (u ∷ us) are =
      omega (arith, length-append (laid_in blocks u).packets (all_packets (waits_in (drop u.blocks blocks) us)), laid_count blocks u are.0, all_count (drop u.blocks blocks) us are.1)

  pub all_blocks : (blocks : List (List ℕ)) (us : List (Unit O)) → AreUnits blocks us → blocks_in us ≡ length blocks
  all_blocks blocks [] none = sym (ap length none)
  all_blocks blocks (u ∷ us) are = omega (arith, all_blocks (drop u.blocks blocks) us are.1, length-drop u.blocks blocks, unit_within blocks u are.0)

  pub all_taken : (blocks : List (List ℕ)) (us : List (Unit O)) → AreUnits blocks us → blocks_of (waits_in blocks us) ≡ length blocks
  all_taken blocks [] none = sym (ap length none)
  all_taken blocks (u ∷ us) are = omega (arith, all_taken (drop u.blocks blocks) us are.1, length-drop u.blocks blocks, unit_within blocks u are.0)

  -- the units behind the first k
  pub units_behind : (k : ℕ) (blocks : List (List ℕ)) (us : List (Unit O)) → AreUnits blocks us → AreUnits (drop (blocks_in (take k us)) blocks) (drop k us)
  units_behind zero blocks us are = are
  units_behind (suc k) blocks [] none = none
  units_behind (suc k) blocks (u ∷ us) are =
      subst (λ b. AreUnits b (drop k us)) (drop-drop (blocks_in (take k us)) u.blocks blocks) (units_behind k (drop u.blocks blocks) us are.1)

  pub blocks_front : (k : ℕ) (us : List (Unit O)) → blocks_in (take k us) ≤ blocks_in us
  blocks_front zero us = omega arith
  blocks_front (suc k) [] = omega arith
  blocks_front (suc k) (u ∷ us) = omega (arith, blocks_front k us)

  pub frames_front : (k : ℕ) (us : List (Unit O)) → frames_in us ≡ frames_in (take k us) + frames_in (drop k us)
  frames_front zero us = omega arith
  frames_front (suc k) [] = omega arith
  frames_front (suc k) (u ∷ us) = omega (arith, frames_front k us)

  -- one unit more
  pub record OneMore (us : List (Unit O)) (i : ℕ) (u : Unit O) : Type 0 where
    pub blocks : blocks_in (take (i + 1) us) ≡ blocks_in (take i us) + u.blocks
    pub frames : frames_in (take (i + 1) us) ≡ frames_in (take i us) + u.count

  pub one_more : (us : List (Unit O)) (i : ℕ) (u : Unit O) → slice_get us i ≡ Some u → OneMore us i u
  one_more [] i u h = absurd cc
  one_more (v ∷ vs) zero u h =
      let same : v ≡ u = ap (λ o. unwrap_or o v) h in
      record { blocks = omega (arith, ap (λ (w : Unit O). w.blocks) same); frames = omega (arith, ap (λ (w : Unit O). w.count) same) }
  one_more (v ∷ vs) (suc i) u h =
      let more = one_more vs i u h in
      let same : suc i + 1 ≡ suc (i + 1) = omega arith in
      record {
        blocks = ap (λ k. blocks_in (take k (v ∷ vs))) same ∙ omega (arith, more.blocks);
        frames = ap (λ k. frames_in (take k (v ∷ vs))) same ∙ omega (arith, more.frames);
      }

  -- what is left behind their frames and n more
  pub waits_behind : (k n : ℕ) (blocks : List (List ℕ)) (us : List (Unit O)) → AreUnits blocks us → behind (frames_in (take k us) + n) (waits_in blocks us) ≡ behind n (waits_in (drop (blocks_in (take k us)) blocks) (drop k us))
  waits_behind zero n blocks us are =
      let same : 0 + n ≡ n = omega arith in
      ap (λ m. behind m (waits_in blocks us)) same
  waits_behind (suc k) n blocks [] none = refl
  waits_behind (suc k) n blocks (u ∷ us) are =
      let count = laid_count blocks u are.0 in
      let all = u.count + frames_in (take k us) + n in
      let rest = waits_in (drop u.blocks blocks) us in
      let test : nat_le (length (laid_in blocks u).packets) all ≡ true = le_test (length (laid_in blocks u).packets) all (omega (arith, count)) in
      let less : all - length (laid_in blocks u).packets ≡ frames_in (take k us) + n = omega (arith, count) in
      ap (λ b. if b then behind (all - length (laid_in blocks u).packets) rest else record (laid_in blocks u) { packets = drop all (laid_in blocks u).packets } ∷ rest) test
      ∙ ap (λ m. behind m rest) less ∙ waits_behind k n (drop u.blocks blocks) us are.1
      ∙ ap (λ b. behind n (waits_in b (drop k us))) (drop-drop (blocks_in (take k us)) u.blocks blocks)

  -- so many of the first one's packets
  pub first_behind : (n : ℕ) (blocks : List (List ℕ)) (u : Unit O) (us : List (Unit O)) → n < length (laid_in blocks u).packets
      → behind n (waits_in blocks (u ∷ us)) ≡ record { origin = u.origin; packets = drop n (laid_in blocks u).packets; blocks = u.blocks } ∷ waits_in (drop u.blocks blocks) us
  first_behind n blocks u us h =
      ap (λ b. if b then behind (n - length (laid_in blocks u).packets) (waits_in (drop u.blocks blocks) us) else record (laid_in blocks u) { packets = drop n (laid_in blocks u).packets } ∷ waits_in (drop u.blocks blocks) us)
      (less_test (length (laid_in blocks u).packets) n h)

  pub none_behind : (blocks : List (List ℕ)) (us : List (Unit O)) → AreUnits blocks us → behind 0 (waits_in blocks us) ≡ waits_in blocks us
  none_behind blocks [] are = refl
  none_behind blocks (u ∷ us) are = first_behind 0 blocks u us (omega (arith, laid_count blocks u are.0, are.0.some))

  pub within_first : (n : ℕ) (blocks : List (List ℕ)) (us : List (Unit O)) → AreUnits blocks us → IsWithinNext n us → n ≤ frames_in us → IsWithinFirst n (waits_in blocks us)
  within_first n blocks [] are within few = omega (arith, few)
  within_first n blocks (u ∷ us) are within few = omega (arith, within, laid_count blocks u are.0)

  -- ---- a unit without its first frames

  abbrev pub cut_unit : Unit O → ℕ → ℕ → Unit O
  cut_unit u n len = record { origin = u.origin; blocks = u.blocks; at = u.at + len; len = u.len - len; count = u.count - n }

  pub record IsCut (region : List (List ℕ)) (u : Unit O) (n len : ℕ) (is : IsUnit region u) : Type 0 where
    pub short : len ≤ u.len
    pub unit : IsUnit region (cut_unit u n len)
    pub packets : packets_in (u.count - n) (drop (u.at + len) (flat region)) ≡ drop n is.frames.packets

  pub is_cut : (region : List (List ℕ)) (u : Unit O) (n len : ℕ) (is : IsUnit region u) → n < u.count → len ≡ length (unnumbered (take n is.frames.packets)) → IsCut region u n len is
  is_cut region u n len is h e =
      let qs = is.frames.packets in
      let bytes = drop u.at (flat region) in
      let split : unnumbered qs ≡ unnumbered (take n qs) ++ unnumbered (drop n qs) = ap unnumbered (sym (take-append-drop n qs)) ∙ unnumbered-append (take n qs) (drop n qs) in
      let short : len ≤ u.len = omega (arith, e, ap length split, length-append (unnumbered (take n qs)) (unnumbered (drop n qs)), ap length is.frames.of.are, length-take u.len bytes) in
      let left : u.len ≡ len + (u.len - len) = omega (arith, short) in
      let more : take (u.len - len) (drop len bytes) ≡ unnumbered (drop n qs) =
      sym (drop-take len (u.len - len) bytes) ∙ ap (λ m. drop len (take m bytes)) (sym left) ∙ ap (drop len) (is.frames.of.are ∙ split) ∙ drop_at (unnumbered (take n qs)) (unnumbered (drop n qs)) len (sym e) in
      let at : drop len bytes ≡ drop (u.at + len) (flat region) = drop-drop len u.at (flat region) in
      let frames : AreFrames (take (u.len - len) (drop (u.at + len) (flat region))) (u.count - n) = record {
        packets = drop n qs;
        of = record {
          each = All-drop IsPacket n qs is.frames.of.each;
          are = ap (take (u.len - len)) (sym at) ∙ more;
          many = omega (arith, is.frames.of.many, length-drop n qs);
        };
      } in
      record {
        short = short;
        unit = record {
          long = is.long;
          bytes = is.bytes;
          within = omega (arith, is.within, short);
          some = omega (arith, h);
          few = omega (arith, is.few);
          frames = frames;
        };
        packets = read_front (drop (u.at + len) (flat region)) (u.count - n) (u.len - len) frames;
      }

-- the items behind the first are the last
pub keep_behind : {X : Type 0} (count : ℕ) (xs : List X) → count ≤ length xs → keep_last (length xs - count) xs ≡ drop count xs
keep_behind count xs there =
    let same : length xs - (length xs - count) ≡ count = omega (arith, there) in
    ap (λ k. drop k xs) same
