-- Records, read byte by byte.
use Rattle.std.proofs.Common.{◌≡◌, ℕ, zero, suc, ◌<◌, ◌≤◌, ◌^◌, List, [], ◌∷◌, ◌++◌, length, drop, get_or, ◌⊎◌, inl, inr, refl, sym, ap, ◌∙◌, subst, append_assoc, arith, length-append}
use Rattle.std.proofs.lemmas.List.{drop_all, drop_at, drop_more, get_or_at}
use Rattle.std.proofs.lemmas.Nat.{le_bytes_8}
use Rattle.std.specs.Int.{from_le_bytes, to_le_bytes, w64}
use Rattle.xcp_base.specs.declared.limits.TheConstants.{MAX_CHANNELS}
use Rattle.xcp_base.specs.Bodies.{IsBodyOf, body_of}
use Rattle.xcp_base.specs.Samples.{HasParts, IsSample, SampleParts}
use Rattle.xcp_base.specs.declared.item.Item.{Item}
use Rattle.xcp_base.specs.declared.item.Item.TheVariants.{Sample, Marker}
use Rattle.byte_ring.specs.Reads.{IsSampleRead}
use Rattle.byte_ring.specs.Records.{IsItem, record_of}
use Rattle.byte_ring.proofs.RecordLemmas.{length-number}

-- what stands at the front of a record
pub record FrontOf (bytes : List ℕ) : Type 0 where
  pub three : 3 ≤ length bytes
  pub channel : get_or bytes 1 0 < MAX_CHANNELS
  pub list : get_or bytes 2 0 < 16
  pub kind : (get_or bytes 0 0 ≡ 1) ⊎ ((get_or bytes 0 0 ≡ 2) × (length bytes ≡ 3))

pub front_of : (x : Item) (bytes : List ℕ) → IsItem x → record_of x ≡ bytes → FrontOf bytes
unfolding record_of
front_of (Sample s) bytes h e = subst FrontOf e (record { three = omega arith; channel = omega (arith, h.channel); list = omega (arith, h.list); kind = inl refl })
front_of (Marker m) bytes h e = subst FrontOf e (record { three = omega arith; channel = omega (arith, h.channel); list = omega (arith, h.list); kind = inr (refl, refl) })

-- what stands in the record of a sample
pub record SampleOf (bytes : List ℕ) : Type 0 where
  pub packets : List (List ℕ)
  pub long : 12 ≤ length bytes
  pub some : 0 < length packets
  pub body : IsBodyOf (get_or bytes 11 0) (drop 12 bytes) packets

sample_at : (s : SampleParts) → IsSample s → SampleOf (1 ∷ s.channel ∷ s.list ∷ (to_le_bytes w64 s.number ++ length s.packets ∷ body_of s.packets))
sample_at s h =
    let bs : List ℕ = to_le_bytes w64 s.number in
    let behind : List ℕ = body_of s.packets in
    let nine : length (bs ++ length s.packets ∷ []) ≡ 9 = omega (arith, length-number s.number, length-append bs (length s.packets ∷ [])) in
    let count : length s.packets ≡ get_or (bs ++ length s.packets ∷ behind) 8 0 = sym (get_or_at bs (length s.packets) behind 0 8 (length-number s.number)) in
    record {
      packets = s.packets;
      long = omega (arith, length-number s.number, length-append bs (length s.packets ∷ behind));
      some = h.some;
      body = record {
        body = ap (drop 9) (sym (append_assoc bs (length s.packets ∷ []) behind)) ∙ drop_at (bs ++ length s.packets ∷ []) behind 9 nine;
        count = count;
        few = omega (arith, count, h.limit);
        each = h.each;
      };
    }

pub sample_of_record : (x : Item) (bytes : List ℕ) → IsItem x → record_of x ≡ bytes → get_or bytes 0 0 ≡ 1 → SampleOf bytes
unfolding record_of
sample_of_record (Sample s) bytes h e kind = subst SampleOf e (sample_at s h)
sample_of_record (Marker m) bytes h e kind = absurd (omega (arith, kind, ap (λ (l : List ℕ). get_or l 0 0) e))

-- twelve bytes and what is behind them
cells : (bytes : List ℕ) → 12 ≤ length bytes → bytes ≡ get_or bytes 0 0 ∷ get_or bytes 1 0 ∷ get_or bytes 2 0 ∷ get_or bytes 3 0 ∷ get_or bytes 4 0 ∷ get_or bytes 5 0 ∷ get_or bytes 6 0 ∷ get_or bytes 7 0 ∷ get_or bytes 8 0 ∷ get_or bytes 9 0 ∷ get_or bytes 10 0 ∷ get_or bytes 11 0 ∷ drop 12 bytes
cells bytes h = drop_more bytes 0 0 (omega (arith, h)) ∙ ap (λ (l : List ℕ). get_or bytes 0 0 ∷ l) (drop_more bytes 1 0 (omega (arith, h)) ∙ ap (λ (l : List ℕ). get_or bytes 1 0 ∷ l) (drop_more bytes 2 0 (omega (arith, h)) ∙ ap (λ (l : List ℕ). get_or bytes 2 0 ∷ l) (drop_more bytes 3 0 (omega (arith, h)) ∙ ap (λ (l : List ℕ). get_or bytes 3 0 ∷ l) (drop_more bytes 4 0 (omega (arith, h)) ∙ ap (λ (l : List ℕ). get_or bytes 4 0 ∷ l) (drop_more bytes 5 0 (omega (arith, h)) ∙ ap (λ (l : List ℕ). get_or bytes 5 0 ∷ l) (drop_more bytes 6 0 (omega (arith, h)) ∙ ap (λ (l : List ℕ). get_or bytes 6 0 ∷ l) (drop_more bytes 7 0 (omega (arith, h)) ∙ ap (λ (l : List ℕ). get_or bytes 7 0 ∷ l) (drop_more bytes 8 0 (omega (arith, h)) ∙ ap (λ (l : List ℕ). get_or bytes 8 0 ∷ l) (drop_more bytes 9 0 (omega (arith, h)) ∙ ap (λ (l : List ℕ). get_or bytes 9 0 ∷ l) (drop_more bytes 10 0 (omega (arith, h)) ∙ ap (λ (l : List ℕ). get_or bytes 10 0 ∷ l) (drop_more bytes 11 0 (omega (arith, h)))))))))))))

eight_small : (bytes : List ℕ) → ((i : ℕ) → get_or bytes i 0 < 256) → (i : ℕ) → get_or (get_or bytes 3 0 ∷ get_or bytes 4 0 ∷ get_or bytes 5 0 ∷ get_or bytes 6 0 ∷ get_or bytes 7 0 ∷ get_or bytes 8 0 ∷ get_or bytes 9 0 ∷ get_or bytes 10 0 ∷ []) i 0 < 256
eight_small bytes small i = small_cells i
  where
    small_cells : (i : ℕ) → get_or (get_or bytes 3 0 ∷ get_or bytes 4 0 ∷ get_or bytes 5 0 ∷ get_or bytes 6 0 ∷ get_or bytes 7 0 ∷ get_or bytes 8 0 ∷ get_or bytes 9 0 ∷ get_or bytes 10 0 ∷ []) i 0 < 256
    small_cells zero = small 3
    small_cells (suc zero) = small 4
    small_cells (suc (suc zero)) = small 5
    small_cells (suc (suc (suc zero))) = small 6
    small_cells (suc (suc (suc (suc zero)))) = small 7
    small_cells (suc (suc (suc (suc (suc zero))))) = small 8
    small_cells (suc (suc (suc (suc (suc (suc zero)))))) = small 9
    small_cells (suc (suc (suc (suc (suc (suc (suc zero))))))) = small 10
    small_cells (suc (suc (suc (suc (suc (suc (suc (suc i)))))))) = omega arith

-- bytes that spell a sample are its record
pub sample_record_is : (bytes : List ℕ) (n : ℕ) (qs : List (List ℕ)) → 12 ≤ length bytes → ((i : ℕ) → get_or bytes i 0 < 256) → get_or bytes 0 0 ≡ 1
    → n ≡ from_le_bytes w64 (get_or bytes 3 0 ∷ get_or bytes 4 0 ∷ get_or bytes 5 0 ∷ get_or bytes 6 0 ∷ get_or bytes 7 0 ∷ get_or bytes 8 0 ∷ get_or bytes 9 0 ∷ get_or bytes 10 0 ∷ []) → length qs ≡ get_or bytes 11 0 → body_of qs ≡ drop 12 bytes
    → record_of (Sample (record { channel = get_or bytes 1 0; list = get_or bytes 2 0; number = n; packets = qs })) ≡ bytes
unfolding record_of
sample_record_is bytes n qs long small kind number count body =
    let bs : List ℕ = get_or bytes 3 0 ∷ get_or bytes 4 0 ∷ get_or bytes 5 0 ∷ get_or bytes 6 0 ∷ get_or bytes 7 0 ∷ get_or bytes 8 0 ∷ get_or bytes 9 0 ∷ get_or bytes 10 0 ∷ [] in
    let spelled : to_le_bytes w64 n ≡ bs = le_bytes_8 bs n refl (eight_small bytes small) number in
    ap (λ (l : List ℕ). 1 ∷ get_or bytes 1 0 ∷ get_or bytes 2 0 ∷ (l ++ length qs ∷ body_of qs)) spelled
    ∙ ap (λ (k : ℕ). 1 ∷ get_or bytes 1 0 ∷ get_or bytes 2 0 ∷ (bs ++ k ∷ body_of qs)) count
    ∙ ap (λ (l : List ℕ). 1 ∷ get_or bytes 1 0 ∷ get_or bytes 2 0 ∷ (bs ++ get_or bytes 11 0 ∷ l)) body
    ∙ ap (λ (k : ℕ). k ∷ get_or bytes 1 0 ∷ get_or bytes 2 0 ∷ (bs ++ get_or bytes 11 0 ∷ drop 12 bytes)) (sym kind)
    ∙ sym (cells bytes long)

same_parts : (s : SampleParts) (c l n : ℕ) → HasParts c l n s → ◌≡◌ {A = SampleParts} (record { channel = c; list = l; number = n; packets = s.packets }) s
same_parts s c l n h = rw (← h.channel, ← h.list, ← h.number) refl

-- a sample that was read off bytes
pub sample_read : (bytes : List ℕ) (n : ℕ) (x : Item) → 12 ≤ length bytes → ((i : ℕ) → get_or bytes i 0 < 256) → get_or bytes 0 0 ≡ 1 → get_or bytes 1 0 < MAX_CHANNELS → get_or bytes 2 0 < 16 → (get_or bytes 11 0 ≡ 0 → ⊥) → n < 2 ^ 64
    → n ≡ from_le_bytes w64 (get_or bytes 3 0 ∷ get_or bytes 4 0 ∷ get_or bytes 5 0 ∷ get_or bytes 6 0 ∷ get_or bytes 7 0 ∷ get_or bytes 8 0 ∷ get_or bytes 9 0 ∷ get_or bytes 10 0 ∷ [])
    → IsSampleRead (get_or bytes 1 0) (get_or bytes 2 0) n (get_or bytes 11 0) (drop 12 bytes) x → (record_of x ≡ bytes) × IsItem x
sample_read bytes n x long small kind channel list some below number r =
    let s = r.sample in
    let p = r.parts in
    let b = r.packets in
    let is : record_of (Sample s) ≡ bytes
    = ap (λ (t : SampleParts). record_of (Sample t)) (sym (same_parts s (get_or bytes 1 0) (get_or bytes 2 0) n p))
    ∙ sample_record_is bytes n s.packets long small kind number b.count (sym b.body) in
    let item : IsItem (Sample s) = record {
      channel = omega (arith, p.channel, channel);
      list = omega (arith, p.list, list);
      number = omega (arith, p.number, below);
      some = omega (arith, b.count, some);
      limit = omega (arith, b.count, b.few);
      each = b.each;
    } in
    (ap record_of r.is ∙ is, subst IsItem (sym r.is) item)

-- three bytes that spell a stop marker are its record
pub marker_record_is : (bytes : List ℕ) → length bytes ≡ 3 → get_or bytes 0 0 ≡ 2 → record_of (Marker (record { channel = get_or bytes 1 0; list = get_or bytes 2 0 })) ≡ bytes
unfolding record_of
marker_record_is bytes three kind =
    let rest : drop 3 bytes ≡ [] = drop_all 3 bytes (omega (arith, three)) in
    ap (λ (k : ℕ). k ∷ get_or bytes 1 0 ∷ get_or bytes 2 0 ∷ []) (sym kind)
    ∙ sym (drop_more bytes 0 0 (omega (arith, three))
    ∙ ap (λ (l : List ℕ). get_or bytes 0 0 ∷ l) (drop_more bytes 1 0 (omega (arith, three))
    ∙ ap (λ (l : List ℕ). get_or bytes 1 0 ∷ l) (drop_more bytes 2 0 (omega (arith, three)) ∙ ap (λ (l : List ℕ). get_or bytes 2 0 ∷ l) rest)))

-- a record that is no sample's is a stop marker's
pub is_marker : (bytes : List ℕ) → FrontOf bytes → (get_or bytes 0 0 ≡ 1 → ⊥) → (get_or bytes 0 0 ≡ 2) × (length bytes ≡ 3)
is_marker bytes f other = elim f.kind [ inl e ↦ absurd (other e) | inr e ↦ e ]
