-- What is shown of what waits, unit by unit.
use Rattle.std.proofs.Common.{◌≡◌, ℕ, zero, suc, ◌+◌, ◌-◌, ◌*◌, ◌%◌, ◌<◌, ◌≤◌, List, [], ◌∷◌, ◌++◌, length, take, drop, refl, sym, ap, ◌∙◌, subst, arith, append-nil, append_assoc, take-append-drop}
use Rattle.std.specs.Prelude.{All, Some, slice_get, unwrap_or}
use Rattle.std.proofs.Math.Seq.{take-add}
use Rattle.std.proofs.lemmas.List.{drop-drop, drop_at, length-append, length-drop, length-take, take_all}
use Rattle.std.proofs.lemmas.List.Elements.{All-append, All-head, All-nil, All-tail, All-take}
use Rattle.channel_ring.specs.Making.{IsPacket}
use Rattle.frame_writer.specs.Frame.{text, unnumbered}
use Rattle.frame_writer.proofs.TextLemmas.{text-append, text-mod}
use Rattle.frame_ring.specs.Reading.{flat}
use Rattle.frame_ring.specs.Sending.{AreFramesOf, FrontFits}
use Rattle.frame_ring.specs.declared.fitting.Front.{Front}
use Rattle.frame_ring.proofs.FrameLemmas.{unnumbered-append}
use Rattle.frame_page.specs.Inner.{AreUnits}
use Rattle.frame_page.specs.Laid.{packets_in}
use Rattle.frame_page.specs.Pages.{laid_in, waits_in}
use Rattle.frame_page.specs.declared.unit.Unit.{Unit}
use Rattle.frame_page.proofs.UnitLemmas.{drop_front, read_front, take_front}

-- frames have more bytes than they are
pub many_bytes : (qs : List (List ℕ)) → All IsPacket qs → length qs ≤ length (unnumbered qs)
many_bytes [] h = omega arith
many_bytes (q ∷ qs) h = omega (arith, (All-head IsPacket q qs h).some, many_bytes qs (All-tail IsPacket q qs h), length-append q (unnumbered qs))

-- so much of what waits was laid out, and these packets are left of it
pub record IsShown (counter : ℕ) (all : List (List ℕ)) (before buffer : List ℕ) (front : Front) (rest : List (List ℕ)) : Type 0 where
  pub done : List (List ℕ)
  pub all_is : all ≡ done ++ rest
  pub each : All IsPacket done
  pub count : front.count ≡ length done
  pub len : front.len ≡ length (unnumbered done)
  pub bytes : take front.len buffer ≡ text counter done
  pub behind : drop front.len buffer ≡ drop front.len before
  pub within : front.len ≤ length before
  pub long : length buffer ≡ length before

-- nothing is laid out at first
pub shown_none : (counter : ℕ) (all : List (List ℕ)) (before : List ℕ) → IsShown counter all before before (record { count = 0; len = 0 }) all
shown_none counter all before =
    record { done = []; all_is = refl; each = All-nil IsPacket; count = refl; len = refl; bytes = refl; behind = refl; within = omega arith; long = refl }

-- what a call of put_frames did with the frames of these packets
pub record Puts (before buffer : List ℕ) (at counter : ℕ) (packets : List (List ℕ)) (front : Front) : Type 0 where
  pub fits : FrontFits packets (length before - at) front
  pub bytes : take (at + front.len) buffer ≡ take at before ++ text counter (take front.count packets)
  pub behind : drop (at + front.len) buffer ≡ drop (at + front.len) before
  pub long : length buffer ≡ length before

-- what waits is shown
pub record Showed (counter : ℕ) (all : List (List ℕ)) (before buffer : List ℕ) (front : Front) : Type 0 where
  pub fits : FrontFits all (length before) front
  pub bytes : take front.len buffer ≡ text counter (take front.count all)
  pub behind : drop front.len buffer ≡ drop front.len before
  pub long : length buffer ≡ length before

take_behind : {X : Type 0} (xs ys : List X) (n : ℕ) → take (length xs + n) (xs ++ ys) ≡ xs ++ take n ys
take_behind [] ys n =
    let same : 0 + n ≡ n = omega arith in
    ap (λ k. take k ys) same
take_behind (x ∷ xs) ys n =
    let same : suc (length xs) + n ≡ suc (length xs + n) = omega arith in
    ap (λ k. take k (x ∷ (xs ++ ys))) same ∙ ap (λ zs. x ∷ zs) (take_behind xs ys n)

module _ (counter : ℕ) (all : List (List ℕ)) (before mid buffer : List ℕ) (shown front : Front) (packets rest : List (List ℕ)) (from : ℕ)
    (s : IsShown counter all before mid shown (packets ++ rest)) (each : All IsPacket packets) (at_counter : from % 65536 ≡ (counter + shown.count) % 65536) (p : Puts mid buffer shown.len from packets front) where
  abbrev more : List (List ℕ)
  more = take front.count packets

  abbrev pub both : Front
  both = record { count = shown.count + front.count; len = shown.len + front.len }

  counts : length more ≡ front.count
  counts = omega (arith, length-take front.count packets, p.fits.some)

  lens : both.len ≡ length (unnumbered (s.done ++ more))
  lens = omega (arith, s.len, p.fits.bytes, ap length (unnumbered-append s.done more), length-append (unnumbered s.done) (unnumbered more))

  numbered : take both.len buffer ≡ text counter (s.done ++ more)
  numbered =
      p.bytes ∙ ap (λ b. b ++ text from more) s.bytes
      ∙ ap (λ t. text counter s.done ++ t) (text-mod from (counter + length s.done) more (at_counter ∙ ap (λ n. (counter + n) % 65536) s.count))
      ∙ sym (text-append counter s.done more)

  -- behind both nothing changed
  further : (n m : ℕ) (xs ys : List ℕ) → drop n xs ≡ drop n ys → drop (n + m) xs ≡ drop (n + m) ys
  further n m xs ys e = sym (drop-drop m n xs) ∙ ap (drop m) e ∙ drop-drop m n ys

  unchanged : drop both.len buffer ≡ drop both.len before
  unchanged = p.behind ∙ further shown.len front.len mid before s.behind

  inside : both.len ≤ length before
  inside = omega (arith, s.within, s.long, p.fits.fits)

  pub len_within : shown.len + front.len ≤ length before
  len_within = inside

  pub no_more_than : shown.count + front.count ≤ length before
  no_more_than = omega (arith, s.count, many_bytes s.done s.each, s.len, counts, many_bytes more (All-take IsPacket front.count packets each), p.fits.bytes, inside)

  -- all of these frames were laid out
  pub shown_more : front.count ≡ length packets → IsShown counter all before buffer both rest
  shown_more e =
      let full : more ≡ packets = ap (λ n. take n packets) e ∙ take_all (length packets) packets (omega arith) in
      record {
        done = s.done ++ packets;
        all_is = s.all_is ∙ sym (append_assoc s.done packets rest);
        each = All-append IsPacket s.done packets s.each each;
        count = omega (arith, s.count, e, length-append s.done packets);
        len = lens ∙ ap (λ qs. length (unnumbered (s.done ++ qs))) full;
        bytes = numbered ∙ ap (λ qs. text counter (s.done ++ qs)) full;
        behind = unchanged;
        within = inside;
        long = p.long ∙ s.long;
      }

  -- the first n of these behind what was laid out before
  front_all : (n : ℕ) → n ≤ length packets → take (shown.count + n) all ≡ s.done ++ take n packets
  front_all n h =
      ap (λ k. take (k + n) all) s.count ∙ ap (take (length s.done + n)) s.all_is ∙ take_behind s.done (packets ++ rest) n
      ∙ ap (λ qs. s.done ++ qs) (take_front n packets rest h)

  -- and the next frame found no room
  pub shown_last : front.count < length packets → Showed counter all before buffer both
  shown_last e =
      let here = front_all front.count p.fits.some in
      record {
        fits = record {
          some = omega (arith, s.count, p.fits.some, ap length s.all_is, length-append s.done (packets ++ rest), length-append packets rest);
          bytes = lens ∙ ap (λ qs. length (unnumbered qs)) (sym here);
          fits = inside;
          most = λ _.
              let next : take (shown.count + front.count + 1) all ≡ s.done ++ take (front.count + 1) packets =
              ap (λ n. take n all) (omega arith) ∙ front_all (front.count + 1) (omega (arith, e)) in
              omega (arith, ap (λ qs. length (unnumbered qs)) next, ap length (unnumbered-append s.done (take (front.count + 1) packets)), length-append (unnumbered s.done) (unnumbered (take (front.count + 1) packets)), s.len, s.long, p.fits.most e);
        };
        bytes = numbered ∙ ap (text counter) (sym here);
        behind = unchanged;
        long = p.long ∙ s.long;
      }

-- all that waits was laid out
pub shown_all : (counter : ℕ) (all : List (List ℕ)) (before buffer : List ℕ) (front : Front) → IsShown counter all before buffer front [] → Showed counter all before buffer front
shown_all counter all before buffer front s =
    let same : all ≡ s.done = s.all_is ∙ append-nil s.done in
    let here : take front.count all ≡ s.done = ap (λ n. take n all) (s.count ∙ sym (ap length same)) ∙ take_all (length all) all (omega arith) ∙ same in
    record {
      fits = record {
        some = omega (arith, s.count, ap length same);
        bytes = s.len ∙ ap (λ qs. length (unnumbered qs)) (sym here);
        fits = s.within;
        most = λ h. absurd (omega (arith, h, s.count, ap length same));
      };
      bytes = s.bytes ∙ ap (text counter) (sym here);
      behind = s.behind;
      long = s.long;
    }

-- ---- where the units stand

flat-append : (xs ys : List (List ℕ)) → flat (xs ++ ys) ≡ flat xs ++ flat ys
flat-append [] ys = refl
flat-append (x ∷ xs) ys = ap (λ r. x ++ r) (flat-append xs ys) ∙ sym (append_assoc x (flat xs) (flat ys))

-- the units from a block on, of those that stand in these
pub record Stands {O : Type 0} (blocks : List (List ℕ)) (start : ℕ) (us : List (Unit O)) : Type 0 where
  pub gone : length (flat (take start blocks)) ≡ 8 * start
  pub within : start ≤ length blocks
  pub units : AreUnits (drop start blocks) us

module _ {O : Type 0} where
  pub stands_first : (blocks : List (List ℕ)) (us : List (Unit O)) → AreUnits blocks us → Stands blocks 0 us
  stands_first blocks us are = record { gone = refl; within = omega arith; units = are }

  module _ (blocks : List (List ℕ)) (start : ℕ) (u : Unit O) (us : List (Unit O)) (s : Stands blocks start (u ∷ us)) where
    abbrev region : List (List ℕ)
    region = take u.blocks (drop start blocks)

    fits : start + u.blocks ≤ length blocks
    fits = omega (arith, s.within, s.units.0.long, length-take u.blocks (drop start blocks), length-drop start blocks)

    split_blocks : blocks ≡ take start blocks ++ (region ++ drop u.blocks (drop start blocks))
    split_blocks = sym (take-append-drop start blocks) ∙ ap (λ b. take start blocks ++ b) (sym (take-append-drop u.blocks (drop start blocks)))

    pub stands_next : Stands blocks (start + u.blocks) us
    stands_next =
        record {
          gone = ap (λ b. length (flat b)) (take-add start u.blocks blocks) ∙ ap length (flat-append (take start blocks) region) ∙ length-append (flat (take start blocks)) (flat region) ∙ omega (arith, s.gone, s.units.0.bytes);
          within = fits;
          units = subst (λ b. AreUnits b us) (drop-drop u.blocks start blocks) s.units.1;
        }

    pub stands_within : 8 * start + u.at + u.len ≤ 8 * length blocks
    stands_within = omega (arith, fits, s.units.0.within)

    -- the bytes of its frames
    pub unit_bytes : take u.len (drop (8 * start + u.at) (flat blocks)) ≡ take u.len (drop u.at (flat region))
    unit_bytes =
        let rest = drop u.blocks (drop start blocks) in
        let all : flat blocks ≡ flat (take start blocks) ++ (flat region ++ flat rest) = ap flat split_blocks ∙ flat-append (take start blocks) (region ++ rest) ∙ ap (λ b. flat (take start blocks) ++ b) (flat-append region rest) in
        let from : drop (8 * start + u.at) (flat blocks) ≡ drop u.at (flat region ++ flat rest) =
        sym (drop-drop u.at (8 * start) (flat blocks)) ∙ ap (λ b. drop u.at (drop (8 * start) b)) all ∙ ap (drop u.at) (drop_at (flat (take start blocks)) (flat region ++ flat rest) (8 * start) s.gone) in
        ap (take u.len) (from ∙ drop_front u.at (flat region) (flat rest) (omega (arith, s.units.0.bytes, s.units.0.within)))
        ∙ take_front u.len (drop u.at (flat region)) (flat rest) (omega (arith, length-drop u.at (flat region), s.units.0.bytes, s.units.0.within))

    -- and its packets
    pub unit_packets : (laid_in (drop start blocks) u).packets ≡ s.units.0.frames.packets
    unit_packets = read_front (drop u.at (flat region)) u.count u.len s.units.0.frames

-- ---- one unit more

pub drop_here : {X : Type 0} (xs : List X) (i : ℕ) (x : X) → slice_get xs i ≡ Some x → drop i xs ≡ x ∷ drop (i + 1) xs
drop_here [] i x h = absurd cc
drop_here (y ∷ ys) zero x h = ap (λ z. z ∷ ys) (ap (λ o. unwrap_or o y) h)
drop_here (y ∷ ys) (suc i) x h =
    let same : suc i + 1 ≡ suc (i + 1) = omega arith in
    drop_here ys i x h ∙ ap (λ n. x ∷ drop n (y ∷ ys)) (sym same)

module _ {O : Type 0} (counter : ℕ) (all : List (List ℕ)) (before mid buffer : List ℕ) (shown front : Front) (blocks : List (List ℕ)) (start : ℕ) (u : Unit O) (us : List (Unit O)) (frames : List ℕ) (from : ℕ)
    (s : Stands blocks start (u ∷ us)) (is : frames ≡ take u.len (drop (8 * start + u.at) (flat blocks)))
    (sh : IsShown counter all before mid shown (packets_in (waits_in (drop start blocks) (u ∷ us)))) (at_counter : from % 65536 ≡ (counter + shown.count) % 65536)
    (fits : (packets : List (List ℕ)) → AreFramesOf frames u.count packets → FrontFits packets (length mid - shown.len) front)
    (bytes : (packets : List (List ℕ)) → AreFramesOf frames u.count packets → take (shown.len + front.len) buffer ≡ take shown.len mid ++ text from (take front.count packets))
    (behind : drop (shown.len + front.len) buffer ≡ drop (shown.len + front.len) mid) (long : length buffer ≡ length mid) where
  rest : List (List ℕ)
  rest = packets_in (waits_in (drop u.blocks (drop start blocks)) us)

  pub body_of : AreFramesOf frames u.count s.units.0.frames.packets
  body_of = subst (λ b. AreFramesOf b u.count s.units.0.frames.packets) (sym (is ∙ unit_bytes blocks start u us s)) s.units.0.frames.of

  puts : Puts mid buffer shown.len from s.units.0.frames.packets front
  puts = record { fits = fits s.units.0.frames.packets body_of; bytes = bytes s.units.0.frames.packets body_of; behind = behind; long = long }

  so_far : IsShown counter all before mid shown (s.units.0.frames.packets ++ rest)
  unfolding rest
  so_far = subst (λ qs. IsShown counter all before mid shown (qs ++ rest)) (unit_packets blocks start u us s) sh

  abbrev pub body_both : Front
  body_both = record { count = shown.count + front.count; len = shown.len + front.len }

  pub body_bound : shown.count + front.count ≤ length before
  body_bound = no_more_than counter all before mid buffer shown front s.units.0.frames.packets rest from so_far s.units.0.frames.of.each at_counter puts

  pub body_len : shown.len + front.len ≤ length before
  body_len = len_within counter all before mid buffer shown front s.units.0.frames.packets rest from so_far s.units.0.frames.of.each at_counter puts

  pub body_more : u.count ≤ front.count → IsShown counter all before buffer body_both (packets_in (waits_in (drop (start + u.blocks) blocks) us))
  unfolding rest
  body_more h =
      let all_of : front.count ≡ length s.units.0.frames.packets = omega (arith, h, puts.fits.some, s.units.0.frames.of.many) in
      subst (λ b. IsShown counter all before buffer body_both (packets_in (waits_in b us))) (drop-drop u.blocks start blocks)
      (shown_more counter all before mid buffer shown front s.units.0.frames.packets rest from so_far s.units.0.frames.of.each at_counter puts all_of)

  pub body_last : front.count < u.count → Showed counter all before buffer body_both
  body_last h =
      shown_last counter all before mid buffer shown front s.units.0.frames.packets rest from so_far s.units.0.frames.of.each at_counter puts (omega (arith, h, s.units.0.frames.of.many))
