use Rattle.std.proofs.Common.{◌≡◌, drop, map, length, List, ℕ}
use Rattle.std.specs.Prelude.{zip}
use Rattle.std.specs.Borrow.{Bor}
use Rattle.std.specs.List.{list_all}
use Rattle.segments.specs.Memory.{is_there}
use Rattle.segments.proofs.segments.fits.Given as goal

-- of the segments so far all bytes are there
abbrev pub invariant-loop-i : goal.invariant-loop-i
invariant-loop-i l =
    (length l.memory ≡ length l.segments)
    × (list_all (is_there l.channel) (zip l.segments (map (λ (part : Bor (List ℕ)). part.now) l.memory))
    ≡ list_all (is_there l.channel) (zip (drop l.i l.segments) (drop l.i (map (λ (part : Bor (List ℕ)). part.now) l.memory))))
