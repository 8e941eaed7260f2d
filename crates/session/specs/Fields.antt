-- The fields of packets, and the packets of replies (ASAM MCD-1 XCP, protocol layer, RES and ERR
-- packets).
use Rattle.std.specs.Prelude.{◌≡◌, ℕ, ◌≤◌, ◌==◌, ◌||◌, Bool, true, false, List, [], ◌∷◌, length}
use Rattle.std.specs.Prelude.{Result, Ok, Err}
use Rattle.xcp_base.specs.declared.err_code.ErrCode.{ErrCode}
use Rattle.xcp_base.specs.ErrorCodes.{error_byte}
use Rattle.daq_store.specs.Commands.{dword_bytes, word_bytes}

-- the fields of a packet: one byte, two and four, the least significant first
abbrev pub BYTE : ℕ → List ℕ
BYTE x = x ∷ []

abbrev pub WORD : ℕ → List ℕ
WORD x = word_bytes x

abbrev pub DWORD : ℕ → List ℕ
DWORD x = dword_bytes x

-- the packet of a reply: RES is FF and then its fields, ERR is FE and the byte of the error
abbrev pub packet_of : Result (List ℕ) ErrCode → List ℕ
packet_of (Ok fields) = 0xFF ∷ fields
packet_of (Err code) = 0xFE ∷ error_byte code ∷ []

-- bytes that begin as RES or ERR
abbrev pub begins_reply : List ℕ → Bool
begins_reply [] = false
begins_reply (first ∷ more) = first == 0xFF || first == 0xFE

-- the packet of some reply, of at most so many bytes
pub record IsReplyPacket (max_cto : ℕ) (packet : List ℕ) : Type 0 where
  pub begins : begins_reply packet ≡ true
  pub fits : length packet ≤ max_cto
