-- Packets (ASAM MCD-1 XCP, protocol layer, DTO): the bytes of each. Its length is at most
-- MAX_DTO, and a timestamp stands in ODT 0 alone.
use Rattle.std.specs.Prelude.{ℕ, ◌+◌, ◌<◌, ◌≤◌, ◌==◌, ◌&&◌, Bool, if◌then◌else◌}
use Rattle.std.specs.Prelude.{All, List, length}
use Rattle.xcp_base.specs.declared.limits.TheConstants.{MAX_DTO}
use Rattle.xcp_base.specs.declared.packet_form.PacketForm.{PacketForm}
use Rattle.xcp_base.specs.declared.stamp_size.StampSize.{StampSize}
use Rattle.xcp_base.specs.Forms.{field_len, stamp_bytes}

-- 1 to MAX_DTO bytes
pub record IsPacket (packet : List ℕ) : Type 0 where
  pub some : 0 < length packet
  pub fits : length packet ≤ MAX_DTO
  pub bytes : All (λ b. b < 256) packet

-- each has 1 to MAX_DTO bytes
abbrev pub ArePackets : List (List ℕ) → Type 0
ArePackets packets = All IsPacket packets

-- the bytes of the timestamp in the packet of ODT k: there is one in ODT 0 of a stamped list
abbrev pub stamp_len : StampSize → Bool → ℕ → ℕ
stamp_len size stamped k = if k == 0 && stamped then stamp_bytes size else 0

-- the bytes of the packet of ODT k: the identification field, the timestamp, and its entries, which
-- have so many bytes
abbrev pub packet_len : PacketForm → Bool → ℕ → ℕ → ℕ
packet_len form stamped k entries_len =
    field_len form.id + stamp_len form.stamp stamped k + entries_len
