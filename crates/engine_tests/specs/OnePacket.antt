-- A sample of one packet of three bytes.
use Rattle.std.specs.Prelude.{◌≡◌, ℕ, List, [], ◌∷◌, length}
use Rattle.std.proofs.Common.{arith}
use Rattle.std.proofs.lemmas.List.{length-append}
use Rattle.std.proofs.lemmas.List.Elements.{All-cons, All-nil}
use Rattle.channel_ring.specs.Making.{ArePackets, FitsSample, IsPacket, IsShort, by_value}

-- it keeps to the limits
pub one_packet : (packet : List ℕ) → length packet ≡ 3 → ArePackets (packet ∷ [])
one_packet packet long =
    let is : IsPacket packet = record { some = omega (arith, long); fits = omega (arith, long) } in
    record {
      some = omega arith;
      few = omega arith;
      each = All-cons IsPacket packet [] is (All-nil IsPacket);
    }

-- and finds room in a value of fixed size
pub one_short : (packet : List ℕ) → length packet ≡ 3 → FitsSample by_value (packet ∷ [])
one_short packet long =
    record {
      few = omega arith;
      short = All-cons (IsShort 64) packet [] (omega (arith, long)) (All-nil (IsShort 64));
      frames = omega (arith, long, length-append packet []);
    }
