-- The numbers of `ng_id_kind` and `ng_ring` in `nerthogal.h`.
use Rattle.std.specs.Prelude.{ℕ, ◌==◌, if◌then◌else◌, Option, Some, None}
use Rattle.xcp_base.specs.declared.id_kind.IdKind.{IdKind}
use Rattle.xcp_base.specs.declared.id_kind.IdKind.TheVariants.{Absolute, RelativeByte, RelativeWord}
use Rattle.xcp_base.specs.declared.ring_kind.RingKind.{RingKind}
use Rattle.xcp_base.specs.declared.ring_kind.RingKind.TheVariants.{Bytes, Samples}

-- the identification field with this number, if there is one
abbrev pub kind_of : ℕ → Option IdKind
kind_of number =
    if number == 0 then Some Absolute
    else if number == 1 then Some RelativeByte
    else if number == 2 then Some RelativeWord else None

-- the kind of ring with this number, if there is one
abbrev pub ring_of : ℕ → Option RingKind
ring_of number =
    if number == 0 then Some Samples
    else if number == 1 then Some Bytes else None
