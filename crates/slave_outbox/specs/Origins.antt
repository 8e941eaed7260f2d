-- Where packets are from that were laid out.
use Rattle.std.specs.Prelude.{Bool, true, false}
use Rattle.slave_outbox.specs.declared.origin.Origin.{Origin}
use Rattle.slave_outbox.specs.declared.origin.Origin.TheVariants.{Reply, Sample}

-- a reply, and no sample
abbrev pub is_reply : Origin → Bool
is_reply Reply = true
is_reply (Sample m c l) = false
