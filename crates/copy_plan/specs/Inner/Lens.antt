-- How many bytes the frames of a list have that is set up like this.
use Rattle.std.specs.Prelude.{ℕ, zero, suc, ◌+◌}
use Rattle.xcp_base.specs.Packets.{packet_len}
use Rattle.daq_store.specs.Configuration.{Configuration, entries_len, is_stamped}

-- those of the first n ODTs
abbrev pub lens_upto : Configuration → ℕ → ℕ
lens_upto conf zero = 0
lens_upto conf (suc k) =
    lens_upto conf k + (4 + packet_len conf.form (is_stamped conf.mode) k (entries_len conf k))
