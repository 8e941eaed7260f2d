-- How a page keeps what waits.
use Rattle.std.proofs.Common.{◌≡◌, ℕ, ◌+◌, ◌-◌, ◌*◌, ◌<◌, ◌≤◌, Bool, true, false, List, [], ◌∷◌, ◌++◌, length, take, drop, map, refl, sym, ap, ◌∙◌, subst, arith, append_assoc, append-nil, length-append, zero, suc, ◌⊎◌, inl, inr}
use Rattle.std.specs.Prelude.{All, count_by, nat_le, slice_get, Some, if◌then◌else◌}
use Rattle.std.proofs.lemmas.Bool.Decides.{nat_tests}
use Rattle.std.proofs.lemmas.List.{length-drop, take-append-drop}
use Rattle.std.proofs.lemmas.List.Elements.{All-head}
use Rattle.std.proofs.lemmas.List.Sums.{sum_by-cons}
use Rattle.channel_ring.specs.Making.{IsPacket}
use Rattle.frame_writer.specs.Frame.{unnumbered}
use Rattle.frame_ring.proofs.FrameLemmas.{unnumbered-append}
use Rattle.frame_page.specs.Laid.{Laid as Kept, behind, blocks_of}
use Rattle.frame_page.specs.Laid.{packets_in as packets_kept}
use Rattle.frame_page.proofs.UnitLemmas.{drop_front}
use Rattle.slave_outbox.specs.Inner.{AreShort, AreTight, AreTightBehind, HaveSome, laid_of, replies_kept, sample_bytes}
use Rattle.slave_outbox.specs.Origins.{is_reply}
use Rattle.slave_outbox.specs.Outboxes.{Laid, origins_in, packets_in, replies_in, together}
use Rattle.slave_outbox.specs.declared.limits.TheConstants.{MAX_REPLY}
use Rattle.slave_outbox.specs.declared.origin.Origin.{Origin}
use Rattle.slave_outbox.proofs.LaidLemmas.{drop-map, many_together, packets_in-append, packets_together}

-- their packets
pub packets_laid : (xs : List (Kept Origin)) → packets_in (laid_of xs) ≡ packets_kept xs
packets_laid [] = refl
packets_laid (x ∷ xs) =
    packets_in-append (together x.origin x.packets) (laid_of xs) ∙ ap (λ ps. ps ++ packets_in (laid_of xs)) (packets_together x.origin x.packets)
    ∙ ap (λ ps. x.packets ++ ps) (packets_laid xs)

drop-none : {X : Type 0} (n : ℕ) → ◌≡◌ {A = List X} (drop n []) []
drop-none zero = refl
drop-none (suc n) = refl

drop_together : (origin : Origin) (n : ℕ) (qs : List (List ℕ)) → drop n (together origin qs) ≡ together origin (drop n qs)
drop_together origin zero qs = refl
drop_together origin (suc n) [] = refl
drop_together origin (suc n) (q ∷ qs) = drop_together origin n qs

drop_past : {X : Type 0} (n : ℕ) (xs ys : List X) → length xs ≤ n → drop n (xs ++ ys) ≡ drop (n - length xs) ys
drop_past n [] ys h =
    let same : n ≡ n - 0 = omega arith in
    ap (λ k. drop k ys) same
drop_past zero (x ∷ xs) ys h = absurd (omega (arith, h))
drop_past (suc n) (x ∷ xs) ys h =
    let same : n - length xs ≡ suc n - suc (length xs) = omega arith in
    drop_past n xs ys (omega (arith, h)) ∙ ap (λ k. drop k ys) same

pub whether : (b : Bool) → (b ≡ true) ⊎ (b ≡ false)
whether true = inl refl
whether false = inr refl

le_yes : (a b : ℕ) → nat_le a b ≡ true → a ≤ b
le_yes a b h = grind (arith, nat_tests, h)

le_no : (a b : ℕ) → nat_le a b ≡ false → b < a
le_no a b h = grind (arith, nat_tests, h)

-- what is left behind the first of the packets
pub drop_laid : (n : ℕ) (xs : List (Kept Origin)) → drop n (laid_of xs) ≡ laid_of (behind n xs)
drop_laid n [] = drop-none n
drop_laid n (x ∷ xs) =
    let front = together x.origin x.packets in
    let many = many_together x.origin x.packets in
    elim (whether (nat_le (length x.packets) n)) [
      | inl past ↦
          drop_past n front (laid_of xs) (omega (arith, many, le_yes (length x.packets) n past)) ∙ ap (λ k. drop (n - k) (laid_of xs)) many ∙ drop_laid (n - length x.packets) xs
          ∙ sym (ap (λ (b : Bool). laid_of (if b then behind (n - length x.packets) xs else record x { packets = drop n x.packets } ∷ xs)) past)
      | inr short ↦
          drop_front n front (laid_of xs) (omega (arith, many, le_no (length x.packets) n short)) ∙ ap (λ ys. ys ++ laid_of xs) (drop_together x.origin n x.packets)
          ∙ sym (ap (λ (b : Bool). laid_of (if b then behind (n - length x.packets) xs else record x { packets = drop n x.packets } ∷ xs)) short)
    ]

pub packets_behind : (n : ℕ) (xs : List (Kept Origin)) → packets_kept (behind n xs) ≡ drop n (packets_kept xs)
packets_behind n xs =
    sym (packets_laid (behind n xs)) ∙ ap packets_in (sym (drop_laid n xs)) ∙ sym (drop-map (λ (x : Laid). x.packet) n (laid_of xs)) ∙ ap (drop n) (packets_laid xs)

-- where they are from
origins_together : (origin : Origin) (q : List ℕ) (qs : List (List ℕ)) (ys : List Laid) → origins_in (together origin (q ∷ qs) ++ ys) ≡ origin ∷ origins_in ys
origins_together origin q [] ys = refl
origins_together origin q (p ∷ qs) ys = origins_together origin p qs ys

origins_some : (origin : Origin) (qs : List (List ℕ)) (ys : List Laid) → 0 < length qs → origins_in (together origin qs ++ ys) ≡ origin ∷ origins_in ys
origins_some origin [] ys some = absurd (omega (arith, some))
origins_some origin (q ∷ qs) ys some = origins_together origin q qs ys

pub origins_laid : (xs : List (Kept Origin)) → HaveSome xs → origins_in (laid_of xs) ≡ map (λ (x : Kept Origin). x.origin) xs
origins_laid [] some = refl
origins_laid (x ∷ xs) some = origins_some x.origin x.packets (laid_of xs) some.0 ∙ ap (λ os. x.origin ∷ os) (origins_laid xs some.1)

count-origins : (xs : List (Kept Origin)) → count_by is_reply (map (λ (x : Kept Origin). x.origin) xs) ≡ replies_kept xs
count-origins [] = refl
count-origins (x ∷ xs) =
    sum_by-cons (λ (o : Origin). if is_reply o then 1 else 0) x.origin (map (λ (y : Kept Origin). y.origin) xs)
    ∙ ap (λ n. (if is_reply x.origin then 1 else 0) + n) (count-origins xs)

pub replies_laid : (xs : List (Kept Origin)) → HaveSome xs → replies_in (laid_of xs) ≡ replies_kept xs
replies_laid xs some = ap (count_by is_reply) (origins_laid xs some) ∙ count-origins xs

pub slice_get-map : (xs : List (Kept Origin)) (i : ℕ) (x : Kept Origin) → slice_get xs i ≡ Some x → slice_get (map (λ (y : Kept Origin). y.origin) xs) i ≡ Some x.origin
slice_get-map [] zero x at = absurd (cc)
slice_get-map [] (suc i) x at = absurd (cc)
slice_get-map (y ∷ xs) zero x at = ap (λ (z : Kept Origin). Some z.origin) (same y x at) where
  same : (a b : Kept Origin) → Some a ≡ Some b → a ≡ b
  same a b e = cc
slice_get-map (y ∷ xs) (suc i) x at = slice_get-map xs i x at

-- one more
pub laid_push : (xs : List (Kept Origin)) (x : Kept Origin) → laid_of (xs ++ x ∷ []) ≡ laid_of xs ++ together x.origin x.packets
laid_push [] x = append-nil (together x.origin x.packets)
laid_push (y ∷ xs) x = ap (λ ys. together y.origin y.packets ++ ys) (laid_push xs x) ∙ sym (append_assoc (together y.origin y.packets) (laid_of xs) (together x.origin x.packets))

pub kept_push : (xs : List (Kept Origin)) (x : Kept Origin) → packets_kept (xs ++ x ∷ []) ≡ packets_kept xs ++ x.packets
kept_push [] x = append-nil x.packets
kept_push (y ∷ xs) x = ap (λ ps. y.packets ++ ps) (kept_push xs x) ∙ sym (append_assoc y.packets (packets_kept xs) x.packets)

pub bytes_push : (xs : List (Kept Origin)) (x : Kept Origin) → length (unnumbered (packets_kept (xs ++ x ∷ []))) ≡ length (unnumbered (packets_kept xs)) + length (unnumbered x.packets)
bytes_push xs x = ap (λ ps. length (unnumbered ps)) (kept_push xs x) ∙ ap length (unnumbered-append (packets_kept xs) x.packets) ∙ length-append (unnumbered (packets_kept xs)) (unnumbered x.packets)

pub blocks_push : (xs : List (Kept Origin)) (x : Kept Origin) → blocks_of (xs ++ x ∷ []) ≡ blocks_of xs + x.blocks
blocks_push [] x = omega arith
blocks_push (y ∷ xs) x = omega (arith, blocks_push xs x)

pub some_push : (xs : List (Kept Origin)) (x : Kept Origin) → HaveSome xs → 0 < length x.packets → HaveSome (xs ++ x ∷ [])
some_push [] x some one = (one, tt)
some_push (y ∷ xs) x some one = (some.0, some_push xs x some.1 one)

tight_more : (m : ℕ) (xs : List (Kept Origin)) (x : Kept Origin) → AreTight m xs → x.blocks ≤ m → 5 * x.blocks ≤ 3 * length (unnumbered x.packets) → AreTight m (xs ++ x ∷ [])
tight_more m [] x tight short few = (short, few, tt)
tight_more m (y ∷ xs) x tight short few = (tight.0, tight.1, tight_more m xs x tight.2 short few)

pub tight_push : (m : ℕ) (xs : List (Kept Origin)) (x : Kept Origin) → AreTightBehind m xs → x.blocks ≤ m → 5 * x.blocks ≤ 3 * length (unnumbered x.packets) → AreTightBehind m (xs ++ x ∷ [])
tight_push m [] x tight short few = (short, tt)
tight_push m (y ∷ xs) x tight short few = (tight.0, tight_more m xs x tight.1 short few)

tight_under : (m n : ℕ) (xs : List (Kept Origin)) → m ≤ n → AreTight m xs → AreTight n xs
tight_under m n [] more tight = tt
tight_under m n (x ∷ xs) more tight = (omega (arith, tight.0, more), tight.1, tight_under m n xs more tight.2)

-- fewer blocks than so many are fewer than more
pub tight_wider : (m n : ℕ) (xs : List (Kept Origin)) → m ≤ n → AreTightBehind m xs → AreTightBehind n xs
tight_wider m n [] more tight = tt
tight_wider m n (x ∷ xs) more tight = (omega (arith, tight.0, more), tight_under m n xs more tight.1)

pub short_push : (xs : List (Kept Origin)) (x : Kept Origin) → AreShort xs → (is_reply x.origin ≡ true → length (unnumbered x.packets) ≤ MAX_REPLY) → AreShort (xs ++ x ∷ [])
short_push [] x short one = (one, tt)
short_push (y ∷ xs) x short one = (short.0, short_push xs x short.1 one)

-- behind the first of the packets
pub some_behind : (n : ℕ) (xs : List (Kept Origin)) → HaveSome xs → HaveSome (behind n xs)
some_behind n [] some = tt
some_behind n (x ∷ xs) some =
    elim (whether (nat_le (length x.packets) n)) [
      | inl past ↦ subst (λ (b : Bool). HaveSome (if b then behind (n - length x.packets) xs else record x { packets = drop n x.packets } ∷ xs)) (sym past) (some_behind (n - length x.packets) xs some.1)
      | inr short ↦
          subst (λ (b : Bool). HaveSome (if b then behind (n - length x.packets) xs else record x { packets = drop n x.packets } ∷ xs)) (sym short)
          (omega (arith, length-drop n x.packets, le_no (length x.packets) n short), some.1)
    ]

tight_later : (m n : ℕ) (xs : List (Kept Origin)) → AreTight m xs → AreTightBehind m (behind n xs)
tight_later m n [] tight = tt
tight_later m n (x ∷ xs) tight =
    elim (whether (nat_le (length x.packets) n)) [
      | inl past ↦ subst (λ (b : Bool). AreTightBehind m (if b then behind (n - length x.packets) xs else record x { packets = drop n x.packets } ∷ xs)) (sym past) (tight_later m (n - length x.packets) xs tight.2)
      | inr short ↦ subst (λ (b : Bool). AreTightBehind m (if b then behind (n - length x.packets) xs else record x { packets = drop n x.packets } ∷ xs)) (sym short) (tight.0, tight.2)
    ]

pub tight_behind : (m n : ℕ) (xs : List (Kept Origin)) → AreTightBehind m xs → AreTightBehind m (behind n xs)
tight_behind m n [] tight = tt
tight_behind m n (x ∷ xs) tight =
    elim (whether (nat_le (length x.packets) n)) [
      | inl past ↦ subst (λ (b : Bool). AreTightBehind m (if b then behind (n - length x.packets) xs else record x { packets = drop n x.packets } ∷ xs)) (sym past) (tight_later m (n - length x.packets) xs tight.1)
      | inr short ↦ subst (λ (b : Bool). AreTightBehind m (if b then behind (n - length x.packets) xs else record x { packets = drop n x.packets } ∷ xs)) (sym short) tight
    ]

pub bytes_behind : (n : ℕ) (xs : List (Kept Origin)) → length (unnumbered (packets_kept xs)) ≡ length (unnumbered (take n (packets_kept xs))) + length (unnumbered (packets_kept (behind n xs)))
bytes_behind n xs =
    let ps = packets_kept xs in
    ap (λ qs. length (unnumbered qs)) (sym (take-append-drop n ps)) ∙ ap length (unnumbered-append (take n ps) (drop n ps)) ∙ length-append (unnumbered (take n ps)) (unnumbered (drop n ps))
    ∙ ap (λ qs. length (unnumbered (take n ps)) + length (unnumbered qs)) (sym (packets_behind n xs))

-- so many bytes wait at least for the blocks and places that are taken up
tight_bound : (m : ℕ) (xs : List (Kept Origin)) → AreTight m xs → 5 * blocks_of xs ≤ 3 * length (unnumbered (packets_kept xs))
tight_bound m [] tight = omega arith
tight_bound m (x ∷ xs) tight =
    omega (arith, tight.1, tight_bound m xs tight.2, ap length (unnumbered-append x.packets (packets_kept xs)), length-append (unnumbered x.packets) (unnumbered (packets_kept xs)))

pub blocks_bound : (m : ℕ) (xs : List (Kept Origin)) → AreTightBehind m xs → 5 * blocks_of xs ≤ 5 * m + 3 * length (unnumbered (packets_kept xs))
blocks_bound m [] tight = omega arith
blocks_bound m (x ∷ xs) tight =
    omega (arith, tight.0, tight_bound m xs tight.1, ap length (unnumbered-append x.packets (packets_kept xs)), length-append (unnumbered x.packets) (unnumbered (packets_kept xs)))

pub some_bytes : (qs : List (List ℕ)) → 0 < length qs → 4 ≤ length (unnumbered qs)
some_bytes [] some = absurd (omega (arith, some))
some_bytes (q ∷ qs) some = omega (arith, length-append q (unnumbered qs))

-- frames of packets have more bytes than their headers
pub frames_bytes : (qs : List (List ℕ)) → 0 < length qs → All IsPacket qs → 5 ≤ length (unnumbered qs)
frames_bytes [] some each = absurd (omega (arith, some))
frames_bytes (q ∷ qs) some each = omega (arith, (All-head IsPacket q qs each).some, length-append q (unnumbered qs))

pub places_bound : (xs : List (Kept Origin)) → HaveSome xs → 4 * length xs ≤ 4 * replies_kept xs + sample_bytes xs
places_bound [] some = omega arith
places_bound (x ∷ xs) some =
    let own : 4 ≤ 4 * (if is_reply x.origin then 1 else 0) + (if is_reply x.origin then 0 else length (unnumbered x.packets)) =
    elim (is_reply x.origin) as (λ t. 4 ≤ 4 * (if t then 1 else 0) + (if t then 0 else length (unnumbered x.packets))) [
      | true ↦ omega arith
      | false ↦ omega (arith, some_bytes x.packets some.0)
    ] in
    omega (arith, own, places_bound xs some.1)

-- the next one is one more, or it isn't
pub replies_more : (xs : List (Kept Origin)) (i n : ℕ) (x : Kept Origin) (b : Bool) → slice_get xs i ≡ Some x → b ≡ is_reply x.origin → (b ≡ true → n ≡ 1) → (b ≡ false → n ≡ 0)
    → replies_kept (take (i + 1) xs) ≡ replies_kept (take i xs) + n
replies_more [] zero n x b there is one none = absurd (cc)
replies_more [] (suc i) n x b there is one none = absurd (cc)
replies_more (y ∷ xs) zero n x b there is one none =
    let test : is_reply y.origin ≡ b = ap (λ (z : Kept Origin). is_reply z.origin) (same y x there) ∙ sym is in
    ap (λ t. (if t then 1 else 0) + 0) test ∙ counted b one none where
      same : (u v : Kept Origin) → Some u ≡ Some v → u ≡ v
      same u v e = cc

      counted : (t : Bool) → (t ≡ true → n ≡ 1) → (t ≡ false → n ≡ 0) → (if t then 1 else 0) + 0 ≡ 0 + n
      counted true on off = omega (arith, on refl)
      counted false on off = omega (arith, off refl)
replies_more (y ∷ xs) (suc i) n x b there is one none =
    let same : suc i + 1 ≡ suc (i + 1) = omega arith in
    let own : ℕ = if is_reply y.origin then 1 else 0 in
    let more : own + replies_kept (take (i + 1) xs) ≡ own + replies_kept (take i xs) + n = omega (arith, replies_more xs i n x b there is one none) in
    ap (λ k. replies_kept (take k (y ∷ xs))) same ∙ more

pub some-at : {X : Type 0} (xs : List X) (i : ℕ) → i < length xs → (x : X) × (slice_get xs i ≡ Some x)
some-at [] i h = absurd (omega (arith, h))
some-at (x ∷ xs) zero h = (x, refl)
some-at (x ∷ xs) (suc i) h = some-at xs i (omega (arith, h))

-- one more sample or reply
pub samples_push : (xs : List (Kept Origin)) (x : Kept Origin) → sample_bytes (xs ++ x ∷ []) ≡ sample_bytes xs + (if is_reply x.origin then 0 else length (unnumbered x.packets))
samples_push [] x = omega arith
samples_push (y ∷ xs) x = omega (arith, samples_push xs x)

pub replies_push : (xs : List (Kept Origin)) (x : Kept Origin) → replies_kept (xs ++ x ∷ []) ≡ replies_kept xs + (if is_reply x.origin then 1 else 0)
replies_push [] x = omega arith
replies_push (y ∷ xs) x = omega (arith, replies_push xs x)

-- what is left has no more of them
pub replies_behind : (n : ℕ) (xs : List (Kept Origin)) → replies_kept (behind n xs) ≤ replies_kept xs
replies_behind n [] = omega arith
replies_behind n (x ∷ xs) =
    elim (whether (nat_le (length x.packets) n)) [
      | inl past ↦
          subst (λ (b : Bool). replies_kept (if b then behind (n - length x.packets) xs else record x { packets = drop n x.packets } ∷ xs) ≤ replies_kept (x ∷ xs)) (sym past)
          (omega (arith, replies_behind (n - length x.packets) xs))
      | inr short ↦
          subst (λ (b : Bool). replies_kept (if b then behind (n - length x.packets) xs else record x { packets = drop n x.packets } ∷ xs) ≤ replies_kept (x ∷ xs)) (sym short) (omega arith)
    ]

cut_bytes : (n : ℕ) (qs : List (List ℕ)) → length (unnumbered (drop n qs)) ≤ length (unnumbered qs)
cut_bytes n qs =
    omega (arith, ap (λ ps. length (unnumbered ps)) (take-append-drop n qs), ap length (unnumbered-append (take n qs) (drop n qs)), length-append (unnumbered (take n qs)) (unnumbered (drop n qs)))

cut_sample : (o : Origin) (n : ℕ) (qs : List (List ℕ)) → (if is_reply o then 0 else length (unnumbered (drop n qs))) ≤ (if is_reply o then 0 else length (unnumbered qs))
cut_sample o n qs =
    elim (is_reply o) as (λ t. (if t then 0 else length (unnumbered (drop n qs))) ≤ (if t then 0 else length (unnumbered qs))) [
      | true ↦ omega arith
      | false ↦ cut_bytes n qs
    ]

pub samples_behind : (n : ℕ) (xs : List (Kept Origin)) → sample_bytes (behind n xs) ≤ sample_bytes xs
samples_behind n [] = omega arith
samples_behind n (x ∷ xs) =
    elim (whether (nat_le (length x.packets) n)) [
      | inl past ↦
          subst (λ (b : Bool). sample_bytes (if b then behind (n - length x.packets) xs else record x { packets = drop n x.packets } ∷ xs) ≤ sample_bytes (x ∷ xs)) (sym past)
          (omega (arith, samples_behind (n - length x.packets) xs))
      | inr short ↦
          subst (λ (b : Bool). sample_bytes (if b then behind (n - length x.packets) xs else record x { packets = drop n x.packets } ∷ xs) ≤ sample_bytes (x ∷ xs)) (sym short)
          (omega (arith, cut_sample x.origin n x.packets))
    ]

pub short_behind : (n : ℕ) (xs : List (Kept Origin)) → AreShort xs → AreShort (behind n xs)
short_behind n [] short = tt
short_behind n (x ∷ xs) short =
    elim (whether (nat_le (length x.packets) n)) [
      | inl past ↦ subst (λ (b : Bool). AreShort (if b then behind (n - length x.packets) xs else record x { packets = drop n x.packets } ∷ xs)) (sym past) (short_behind (n - length x.packets) xs short.1)
      | inr more ↦
          subst (λ (b : Bool). AreShort (if b then behind (n - length x.packets) xs else record x { packets = drop n x.packets } ∷ xs)) (sym more)
          (λ reply. omega (arith, cut_bytes n x.packets, short.0 reply), short.1)
    ]

-- all are those of samples, and of replies, which are short
pub bytes_bound : (xs : List (Kept Origin)) → AreShort xs → length (unnumbered (packets_kept xs)) ≤ sample_bytes xs + MAX_REPLY * replies_kept xs
bytes_bound [] short = omega arith
bytes_bound (x ∷ xs) short =
    let own : length (unnumbered x.packets) ≤ (if is_reply x.origin then 0 else length (unnumbered x.packets)) + MAX_REPLY * (if is_reply x.origin then 1 else 0) =
    elim (whether (is_reply x.origin)) [
      | inl reply ↦ subst (λ (t : Bool). length (unnumbered x.packets) ≤ (if t then 0 else length (unnumbered x.packets)) + MAX_REPLY * (if t then 1 else 0)) (sym reply) (omega (arith, short.0 reply))
      | inr sample ↦ subst (λ (t : Bool). length (unnumbered x.packets) ≤ (if t then 0 else length (unnumbered x.packets)) + MAX_REPLY * (if t then 1 else 0)) (sym sample) (omega arith)
    ] in
    omega (arith, own, bytes_bound xs short.1, ap length (unnumbered-append x.packets (packets_kept xs)), length-append (unnumbered x.packets) (unnumbered (packets_kept xs)))

-- they are no more than all
pub samples_within : (xs : List (Kept Origin)) → sample_bytes xs ≤ length (unnumbered (packets_kept xs))
samples_within [] = omega arith
samples_within (x ∷ xs) =
    let own : (if is_reply x.origin then 0 else length (unnumbered x.packets)) ≤ length (unnumbered x.packets) =
    elim (is_reply x.origin) as (λ t. (if t then 0 else length (unnumbered x.packets)) ≤ length (unnumbered x.packets)) [
      | true ↦ omega arith
      | false ↦ omega arith
    ] in
    omega (arith, own, samples_within xs, ap length (unnumbered-append x.packets (packets_kept xs)), length-append (unnumbered x.packets) (unnumbered (packets_kept xs)))
