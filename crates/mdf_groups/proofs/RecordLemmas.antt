-- The bytes of a record.
use Rattle.std.proofs.Common.{◌≡◌, ℕ, zero, suc, ◌+◌, ◌-◌, ◌*◌, ◌^◌, ◌<◌, ◌≤◌, List, []}
use Rattle.std.proofs.Common.{◌∷◌, ◌++◌, ◌∙◌, Some, None, length, take, drop, get_or}
use Rattle.std.proofs.Common.{refl, sym, ap, arith, append_assoc}
use Rattle.std.proofs.Common.{length-append}
use Rattle.std.proofs.Math.Seq.{drop-append-add, drop-append_seam}
use Rattle.std.proofs.lemmas.List.{flat_map_more, take_more}
use Rattle.std.proofs.lemmas.Nat.{from_le_bytes-to_le_bytes_8}
use Rattle.std.specs.Int.{from_le_bytes, w64}
use Rattle.std.specs.List.{flat_map}
use Rattle.std.specs.Prelude.{slice_get, slice_range}
use Rattle.measured_values.specs.Raws.{number_of_bytes}
use Rattle.measured_values.specs.declared.byte_order.ByteOrder.TheVariants.{MsbLast}
use Rattle.mdf_blocks.proofs.BytesLemmas.{le, number_is}
use Rattle.mdf_blocks.proofs.PartLemmas.{part-append}
use Rattle.mdf_blocks.specs.Numbers.{uint64}
use Rattle.mdf_groups.specs.Records.{own_bytes}
use Rattle.mdf_groups.specs.declared.own_value.OwnValue.{OwnValue}

-- the values behind a sample, and one more behind them
pub own_pushed : (old new number : List ℕ) (sample : List ℕ) (own : List OwnValue) (i : ℕ)
    (v : OwnValue) → i < length own → v ≡ get_or own i v → number ≡ own_bytes sample v
    → new ≡ (old ++ flat_map (own_bytes sample) (take i own)) ++ number
    → new ≡ old ++ flat_map (own_bytes sample) (take (i + 1) own)
own_pushed old new number sample own i v within is number_is_it new_is =
    new_is ∙ ap (λ (zs : List ℕ). (old ++ flat_map (own_bytes sample) (take i own)) ++ zs)
    number_is_it
    ∙ flat_map_more (own_bytes sample) old (take i own) v
    ∙ ap (λ (vs : List OwnValue). old ++ flat_map (own_bytes sample) vs)
    (ap (λ (x : OwnValue). take i own ++ x ∷ []) is ∙ sym (take_more own i v within))

-- a part of the sample in its record
pub part_of_sample : (front sample behind : List ℕ) (n at size : ℕ) → length front ≡ n
    → at + size ≤ length sample
    → slice_range (front ++ sample ++ behind) (n + at) (n + at + size)
    ≡ slice_range sample at (at + size)
part_of_sample front sample behind n at size long inside =
    let widths : n + at + size - (n + at) ≡ at + size - at = omega arith in
    part-append (front ++ sample) behind (n + at) (n + at + size) (omega arith)
    (omega (arith, long, inside, length-append front sample))
    ∙ ap (λ (k : ℕ). take k (drop (n + at) (front ++ sample))) widths
    ∙ ap (λ (k : ℕ). take (at + size - at) (drop (k + at) (front ++ sample))) (sym long)
    ∙ ap (take (at + size - at)) (drop-append-add front sample at)

-- the values before one of those behind a sample, and those that follow it
pub record OneOf (sample : List ℕ) (own : List OwnValue) (k : ℕ) (v : OwnValue) : Type 0 where
  pub before : List ℕ
  pub after : List ℕ
  pub parts : flat_map (own_bytes sample) own ≡ before ++ (own_bytes sample v ++ after)
  pub long : length before ≡ 8 * k

pub one_of : (sample : List ℕ) (own : List OwnValue) (k : ℕ) (v : OwnValue)
    → slice_get own k ≡ Some v → OneOf sample own k v
one_of sample [] k v is = let e : None ≡ Some v = is in absurd cc
one_of sample (x ∷ own) zero v is =
    let some : Some x ≡ Some v = is in
    let same : x ≡ v = cc in
    record {
      before = [];
      after = flat_map (own_bytes sample) own;
      parts = ap (λ (y : OwnValue). own_bytes sample y ++ flat_map (own_bytes sample) own) same;
      long = refl;
    }
one_of sample (x ∷ own) (suc k) v is =
    let rest = one_of sample own k v is in
    record {
      before = own_bytes sample x ++ rest.before;
      after = rest.after;
      parts = ap (λ (zs : List ℕ). own_bytes sample x ++ zs) rest.parts
          ∙ sym (append_assoc (own_bytes sample x) rest.before (own_bytes sample v ++ rest.after));
      long = omega (arith, rest.long, length-append (own_bytes sample x) rest.before);
    }

-- the number that stands behind others
number_back : (n : ℕ) → n < 2 ^ 64 → number_of_bytes MsbLast 8 (uint64 n) ≡ n
number_back n small =
    let same : number_of_bytes MsbLast 8 (uint64 n) ≡ from_le_bytes w64 (uint64 n) = omega arith in
    same ∙ from_le_bytes-to_le_bytes_8 n small

pub number_behind : (front back : List ℕ) (at n : ℕ) → length front ≡ at → n < 2 ^ 64
    → number_of_bytes MsbLast 8 (drop at (front ++ (uint64 n ++ back))) ≡ n
number_behind front back at n long small =
    let behind : drop at (front ++ (uint64 n ++ back)) ≡ uint64 n ++ back =
    ap (λ (k : ℕ). drop k (front ++ (uint64 n ++ back))) (sym long)
    ∙ drop-append_seam front (uint64 n ++ back) in
    let eight : 8 ≤ length (uint64 n ++ back) =
    omega (arith, length-append (uint64 n) back) in
    let alone : number_of_bytes MsbLast 8 (uint64 n) ≡ le (take 8 (uint64 n)) =
    number_is MsbLast (uint64 n) 8 (omega arith) (omega arith) in
    ap (number_of_bytes MsbLast 8) behind
    ∙ number_is MsbLast (uint64 n ++ back) 8 (omega arith) eight
    ∙ sym alone ∙ number_back n small
