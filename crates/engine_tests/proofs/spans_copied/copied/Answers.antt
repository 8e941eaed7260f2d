use Rattle.std.proofs.Common.{◌+◌, ◌-◌, ◌*◌, ◌≤◌, ◌++◌, ℕ, List, [], ◌∷◌, length, take, drop, sym, subst, append-nil, arith, length-append}
use Rattle.std.specs.Prelude.{All, slice_range}
use Rattle.std.proofs.Math.Seq.{take-length}
use Rattle.std.proofs.lemmas.List.{length-take}
use Rattle.xcp_base.specs.Copied.{IsSpanAt, copied_at}
use Rattle.engine_tests.proofs.spans_copied.copied.Goals as goal

-- spans copy no more than so many bytes each
room_for : (n : ℕ) (bytes offsets : List ℕ) → length (copied_at bytes n offsets) ≤ length offsets * n
room_for n bytes [] = omega arith
room_for n bytes (o ∷ os) =
    let piece : List ℕ = slice_range bytes o (o + n) in
    let most : length piece ≤ n = omega (arith, length-take (o + n - o) (drop o bytes)) in
    let more = room_for n bytes os in
    grind (arith, most, more, length-append piece (copied_at bytes n os))

-- forty bytes fit behind two
fits : (n : ℕ) (bytes offsets : List ℕ) → length offsets * n ≤ 40 → 2 + length (copied_at bytes n (take (length offsets) offsets) ++ []) ≤ 48
fits n bytes offsets few =
    let all : length (copied_at bytes n (take (length offsets) offsets) ++ []) ≤ length offsets * n = rw (append-nil (copied_at bytes n (take (length offsets) offsets)), take-length offsets) (room_for n bytes offsets) in
    omega (arith, all, few)

-- they lie in the segment
pub put_copied-end-requires-clause-inside : goal.put_copied-end-requires-clause-inside
put_copied-end-requires-clause-inside g c =
    let inside = c.are_inside.ensures.inside c.if-not-are_inside.false in
    (subst (All (IsSpanAt 32 c.args.size)) (sym (take-length c.args.offsets.now)) inside, tt)

pub put_copied-end-requires-clause-room : goal.put_copied-end-requires-clause-room
put_copied-end-requires-clause-room g c =
    fits c.args.size _ c.args.offsets.now (c.are_inside.ensures.room c.if-not-are_inside.false)
