-- The newest of what is out, and the one before it.
use Rattle.std.specs.Prelude.{Option, Some, None}

-- the one that is the older once another is the newest
abbrev pub one_before : {T : Type 0} → Option T → Option T → Option T
one_before older None = older
one_before older (Some newer) = Some newer
