-- What capacities a ring between a sampler and the transmitter may have. A capacity counts the
-- items of a ring of samples, and the bytes of a ring of bytes.
use Rattle.std.specs.Prelude.{ℕ}
use Rattle.xcp_base.specs.declared.limits.TheConstants.{MAX_BYTE_RING, MAX_SAMPLE_RING}
use Rattle.xcp_base.specs.declared.limits.TheConstants.{MIN_BYTE_RING}
use Rattle.xcp_base.specs.declared.ring_kind.RingKind.{RingKind}
use Rattle.xcp_base.specs.declared.ring_kind.RingKind.TheVariants.{Bytes, Samples}

-- the least capacity of a ring of this kind
abbrev pub least_cap : RingKind → ℕ
least_cap Samples = 1
least_cap Bytes = MIN_BYTE_RING

-- the greatest one
abbrev pub most_cap : RingKind → ℕ
most_cap Samples = MAX_SAMPLE_RING
most_cap Bytes = MAX_BYTE_RING
