use Rattle.std.proofs.Common.{◌≡◌, ℕ, List, ◌+◌, ◌-◌, ◌≤◌, ◌++◌, ◌∙◌, length, take, drop, arith, append_assoc, length-drop}
use Rattle.std.proofs.Math.Seq.{take-add}
use Rattle.std.proofs.lemmas.Grind.{common_steps}
use Rattle.std.proofs.lemmas.Bool.Decides.{nat_tests}
use Rattle.frame_writer.specs.Counts.{counted, is_stall}
use Rattle.frame_writer.proofs.writer.put_all.Goals as goal

rest_is : (d : ℕ) (xs : List ℕ) → take (length xs - d) (drop d xs) ≡ drop d xs
rest_is d xs = grind (arith, common_steps)

-- what is taken of the rest, behind what was taken before
more : (d n : ℕ) (xs p q r : List ℕ) → d ≤ length xs → q ≡ p ++ take d xs → n ≤ length (drop d xs) → r ≡ q ++ take n (drop d xs) → (d + n ≤ length xs) × (r ≡ p ++ take (d + n) xs)
more d n xs p q r hd hq hn hr =
    (omega (arith, length-drop d xs), rw (take-add d n xs, hr, hq, append_assoc))

-- a call that took some bytes is no stall
unstalled : (bytes : List ℕ) (n stalls : ℕ) → (n ≡ 0 → ⊥) → counted (is_stall bytes n) stalls ≡ stalls
unstalled bytes n stalls some = grind (arith, nat_tests)

pub loop-done-preserved : goal.loop-done-preserved
loop-done-preserved g c =
    let put = rw (rest_is c.loop-done.done c.args.bytes.now) at c.in-Ok.ensures in
    let old = c.loop-done.invariant in
    let next = more c.loop-done.done c.in-Ok.n c.args.bytes.now _ _ _ old.within old.taken put.within put.taken in
    record {
      within = next.0;
      taken = next.1;
      failures = put.failures_stay ∙ old.failures;
      stalls = put.stalled ∙ (unstalled _ c.in-Ok.n _ c.in-Ok.n-test.1 ∙ old.stalls);
    }
