-- What is read of blocks.
use Rattle.std.proofs.Common.{◌≡◌, ℕ, ◌+◌, ◌*◌, ◌^◌, ◌<◌, List, ◌++◌, ◌∙◌}
use Rattle.std.proofs.Common.{length, refl, sym, ap, arith, append_assoc, length-append}
use Rattle.std.proofs.Common.{subst}
use Rattle.std.proofs.Math.ListN.{length-replicate}
use Rattle.std.specs.Int.{from_le_bytes, w64}
use Rattle.std.specs.Prelude.{slice_range}
use Rattle.mdf_blocks.specs.Blocks.{block_len, fill_len}
use Rattle.mdf_blocks.specs.Blocks.{head_len}
use Rattle.mdf_blocks.specs.Laws.{FillAligns, ReadBehind, ReadOneWay, StaysRead, WrittenIsRead}
use Rattle.mdf_blocks.specs.Numbers.{AreUint64s, uint64, uint64_at, uint64s, zeros}
use Rattle.mdf_blocks.proofs.NumberLemmas.{length-uint64s}
use Rattle.mdf_blocks.proofs.PartLemmas.{AreUint64s-same, AreUint64s-written}
use Rattle.mdf_blocks.proofs.PartLemmas.{part-append, part_at, same_part, same_uint64s}
use Rattle.mdf_blocks.proofs.PartLemmas.{uint64_at-written}

pub stays_read : StaysRead
stays_read old new at id links body b within same =
    let end : ℕ = at + block_len links body in
    record {
      aligned = b.aligned;
      within = within;
      letters = same_part old new at at (at + 4) end (omega arith) (omega arith) (omega arith) same
          ∙ b.letters;
      len = ap (from_le_bytes w64) (same_part old new at (at + 8) (at + 8 + 8) end (omega arith)
          (omega arith) (omega arith) same) ∙ b.len;
      link_count = ap (from_le_bytes w64) (same_part old new at (at + 16) (at + 16 + 8) end
          (omega arith) (omega arith) (omega arith) same) ∙ b.link_count;
      links_are = AreUint64s-same links old new at (at + 24) end (omega arith)
          (omega (arith, length-uint64s links)) same b.links_are;
      body_is = same_part old new at (at + head_len links) end end (omega arith) (omega arith)
          (omega arith) same ∙ b.body_is;
    }

pub read_behind : ReadBehind
read_behind bytes more at id links body b =
    stays_read bytes (bytes ++ more) at id links body b
    (omega (arith, b.within, length-append bytes more))
    (part-append bytes more at (at + block_len links body) (omega arith) b.within)

pub read_one_way : ReadOneWay
read_one_way bytes at id links body id2 links2 body2 p q =
    let counts : length links ≡ length links2 = sym p.link_count ∙ q.link_count in
    let same_links : links ≡ links2 =
    same_uint64s bytes links links2 (at + 24) counts p.links_are q.links_are in
    let lens : block_len links body ≡ block_len links2 body2 = sym p.len ∙ q.len in
    let heads : at + head_len links ≡ at + head_len links2 = omega (arith, counts) in (
      sym p.letters ∙ q.letters,
      same_links,
      sym p.body_is ∙ ap (λ i. slice_range bytes i (at + block_len links body)) heads
          ∙ ap (λ n. slice_range bytes (at + head_len links2) (at + n)) lens ∙ q.body_is,
    )

pub fill_aligns : FillAligns
fill_aligns bytes =
    omega (
      arith,
      length-append bytes (zeros (fill_len (length bytes))),
      length-replicate {A = ℕ} (fill_len (length bytes)) 0,
    )

-- the parts of a block, from its letters, its length, the number of its links, its links and its
-- data section on
from_letters : (f i z l c k b t : List ℕ)
    → f ++ (i ++ z ++ l ++ c ++ k ++ b) ++ t ≡ f ++ (i ++ (z ++ (l ++ (c ++ (k ++ (b ++ t))))))
from_letters f i z l c k b t = simp append_assoc

from_len : (f i z l c k b t : List ℕ)
    → f ++ (i ++ z ++ l ++ c ++ k ++ b) ++ t ≡ (f ++ i ++ z) ++ (l ++ (c ++ (k ++ (b ++ t))))
from_len f i z l c k b t = simp append_assoc

from_link_count : (f i z l c k b t : List ℕ)
    → f ++ (i ++ z ++ l ++ c ++ k ++ b) ++ t ≡ (f ++ i ++ z ++ l) ++ (c ++ (k ++ (b ++ t)))
from_link_count f i z l c k b t = simp append_assoc

from_links : (f i z l c k b t : List ℕ)
    → f ++ (i ++ z ++ l ++ c ++ k ++ b) ++ t ≡ (f ++ i ++ z ++ l ++ c) ++ (k ++ (b ++ t))
from_links f i z l c k b t = simp append_assoc

from_body : (f i z l c k b t : List ℕ)
    → f ++ (i ++ z ++ l ++ c ++ k ++ b) ++ t ≡ (f ++ i ++ z ++ l ++ c ++ k) ++ (b ++ t)
from_body f i z l c k b t = simp append_assoc

-- how long parts one behind another are
long2 : (a b : List ℕ) → length (a ++ b) ≡ length a + length b
long2 a b = length-append a b

long3 : (a b d : List ℕ) → length (a ++ b ++ d) ≡ length a + length b + length d
long3 a b d = omega (arith, length-append (a ++ b) d, long2 a b)

long4 : (a b d e : List ℕ) → length (a ++ b ++ d ++ e) ≡ length a + length b + length d + length e
long4 a b d e = omega (arith, length-append (a ++ b ++ d) e, long3 a b d)

long5 : (a b d e g : List ℕ) → length (a ++ b ++ d ++ e ++ g)
    ≡ length a + length b + length d + length e + length g
long5 a b d e g = omega (arith, length-append (a ++ b ++ d ++ e) g, long4 a b d e)

long6 : (a b d e g h : List ℕ) → length (a ++ b ++ d ++ e ++ g ++ h)
    ≡ length a + length b + length d + length e + length g + length h
long6 a b d e g h = omega (arith, length-append (a ++ b ++ d ++ e ++ g) h, long5 a b d e g)

pub written_is_read : WrittenIsRead
written_is_read f t i ks b legal aligned =
    let z : List ℕ = zeros 4 in
    let l : List ℕ = uint64 (block_len ks b) in
    let c : List ℕ = uint64 (length ks) in
    let k : List ℕ = uint64s ks in
    let at : ℕ = length f in
    let letters : length i ≡ 4 = legal.letters in
    let links : length k ≡ 8 * length ks = length-uint64s ks in
    let few : length ks < 2 ^ 64 = omega (arith, legal.limit) in
    record {
      aligned = aligned;
      within = omega (
        arith,
        letters,
        links,
        length-append (f ++ (i ++ z ++ l ++ c ++ k ++ b)) t,
        length-append f (i ++ z ++ l ++ c ++ k ++ b),
        long6 i z l c k b,
      );
      letters = ap (λ bytes. slice_range bytes at (at + 4)) (from_letters f i z l c k b t)
          ∙ part_at f i (z ++ (l ++ (c ++ (k ++ (b ++ t))))) at (at + 4) refl
          (omega (arith, letters));
      len = ap (uint64_at (at + 8)) (from_len f i z l c k b t)
          ∙ uint64_at-written (f ++ i ++ z) (c ++ (k ++ (b ++ t))) (at + 8) (block_len ks b)
          (omega (arith, letters, long3 f i z)) legal.limit;
      link_count = ap (uint64_at (at + 16)) (from_link_count f i z l c k b t)
          ∙ uint64_at-written (f ++ i ++ z ++ l) (k ++ (b ++ t)) (at + 16) (length ks)
          (omega (arith, letters, long4 f i z l)) few;
      links_are = subst (λ (bytes : List ℕ). AreUint64s (at + 24) bytes ks)
          (sym (from_links f i z l c k b t))
          (AreUint64s-written ks (f ++ i ++ z ++ l ++ c) (b ++ t) (at + 24)
          (omega (arith, letters, long5 f i z l c)) legal.places);
      body_is = ap (λ bytes. slice_range bytes (at + head_len ks) (at + block_len ks b))
          (from_body f i z l c k b t)
          ∙ part_at (f ++ i ++ z ++ l ++ c ++ k) b t (at + head_len ks) (at + block_len ks b)
          (omega (arith, letters, links, long6 f i z l c k)) (omega arith);
    }
