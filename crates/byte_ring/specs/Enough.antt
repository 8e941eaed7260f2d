-- What records take up in a ring of bytes.
use Rattle.std.specs.Prelude.{ℕ, ◌+◌, ◌≤◌, ◌≡◌, List, [], ◌∷◌, length, refl}
use Rattle.std.proofs.Common.{arith, length-append, ap}
use Rattle.xcp_base.specs.declared.item.Item.{Item}
use Rattle.channel_ring.specs.Room.{units}
use Rattle.byte_ring.specs.Held.{AreRecords}
use Rattle.byte_ring.specs.Reading.{items_in}
use Rattle.byte_ring.specs.Records.{record_len, record_of, records_of}

-- if each item costs the length of its record, they are as many units as their records have
-- bytes
pub units-records : (xs : List Item) → units record_len xs ≡ length (records_of xs)
units-records [] = refl
units-records (x ∷ xs) =
    omega (arith, units-records xs, length-append (record_of x) (records_of xs))

-- what isn't known to be free is taken up by the records of what was sent
pub records_enough : (bytes : List ℕ) → AreRecords bytes → (capacity free : ℕ)
    → capacity ≤ free + length bytes → capacity ≤ free + units record_len (items_in bytes)
records_enough bytes is capacity free h =
    omega (arith, h, units-records (items_in bytes), ap length is)
