-- What no public clause cites: how far the options of a block were read, and whether a block is
-- there whole.
use Rattle.std.specs.Prelude.{◌≡◌, ℕ, ◌<◌, ◌≤◌, List, [], ◌∷◌, ◌++◌, drop, take, length}
use Rattle.std.specs.Prelude.{Option, Some}
use Rattle.std.specs.Prelude.{None}
use Rattle.measured_values.specs.declared.byte_order.ByteOrder.{ByteOrder}
use Rattle.capture.specs.Blocks.{IsBlock, IsInterface}
use Rattle.capture.specs.Options.{AreOptions, value_of}
use Rattle.capture.specs.Packets.{PacketOf, packet_of}
use Rattle.capture.specs.Units.{Says}
use Rattle.capture.specs.declared.block_kind.BlockKind.{BlockKind}
use Rattle.capture.specs.declared.block_kind.BlockKind.TheVariants.{InterfaceDescription}
use Rattle.capture.specs.declared.blocks.Whole.{Whole}
use Rattle.capture.specs.declared.blocks.Whole.TheVariants.{Block, Wants}
use Rattle.capture.specs.declared.capture_fault.CaptureFault.{CaptureFault}
use Rattle.capture.specs.declared.capture_fault.CaptureFault.TheVariants.{Bad, Long, ManyInterfaces}
use Rattle.capture.specs.declared.capture_fault.CaptureFault.TheVariants.{Memory}
use Rattle.capture.specs.declared.captured.Captured.{Captured}
use Rattle.capture.specs.declared.format.Format.{Format}
use Rattle.capture.specs.declared.format.Format.TheVariants.{Pcap, Pcapng}
use Rattle.capture.specs.declared.interface.Interface.{Interface}
use Rattle.capture.specs.declared.limits.TheConstants.{MAX_INTERFACES, MAX_UNIT}

-- what was found, or else what a later option has
abbrev pub found_or : Option (List ℕ) → Option (List ℕ) → Option (List ℕ)
found_or (Some value) later = Some value
found_or None later = later

-- options were read up to a place, and of those of a code the value of the first was kept: whatever
-- options stand behind that place, all that stand in the bytes are those before and these
pub record HasRead (order : ByteOrder) (bytes : List ℕ) (code at : ℕ) (found : Option (List ℕ))
    : Type 0 where
  pub within : at ≤ length bytes
  pub all :
      (later : List (ℕ × List ℕ)) → AreOptions order (drop at bytes) later
      → (options : List (ℕ × List ℕ)) × AreOptions order bytes options
      × (value_of code options ≡ found_or found (value_of code later))
  pub later :
      (options : List (ℕ × List ℕ)) → AreOptions order bytes options
      → (later : List (ℕ × List ℕ)) × AreOptions order (drop at bytes) later

-- however the bytes go on, a block in front of them has this length
abbrev pub BlockHas : (ℕ → Type 0) → ByteOrder → List ℕ → Type 0
BlockHas IsLen order bytes =
    (more unit behind : List ℕ) → bytes ++ more ≡ unit ++ behind → IsBlock order unit
    → IsLen (length unit)

-- a block is there whole, or so many bytes are wanted at least
abbrev pub IsWhole : ByteOrder → List ℕ → Whole → Type 0
IsWhole order bytes (Block len) =
    (0 < len) × (len ≤ length bytes) × IsBlock order (take len bytes)
IsWhole order bytes (Wants n) =
    (length bytes < n) × (n ≤ MAX_UNIT) × BlockHas (λ len. n ≤ len) order bytes

-- why none is
abbrev pub IsNoBlock : ByteOrder → List ℕ → CaptureFault → Type 0
IsNoBlock order bytes Long = BlockHas (λ len. MAX_UNIT < len) order bytes
IsNoBlock order bytes Bad = BlockHas (λ len. ⊥) order bytes
IsNoBlock order bytes _ = ⊥

-- the packet that a block holds, if it holds one
abbrev pub packets_of : Option Captured → List PacketOf
packets_of (Some p) = packet_of p ∷ []
packets_of None = []

-- a section may begin in a capture of this format
abbrev pub MayBegin : Option Format → Type 0
MayBegin None = Unit {0}
MayBegin (Some (Pcapng order)) = Unit {0}
MayBegin (Some (Pcap header)) = ⊥

-- a block of this kind describes an interface
abbrev pub DescribesOne : BlockKind → ByteOrder → List ℕ → Type 0
DescribesOne kind order b = (kind ≡ InterfaceDescription) × (i : Interface) × IsInterface order b i

-- why a block that goes on a section isn't taken
abbrev pub SaysNone : BlockKind → ByteOrder → List Interface → List ℕ → CaptureFault → Type 0
SaysNone kind order old b Memory = DescribesOne kind order b
SaysNone kind order old b ManyInterfaces =
    (MAX_INTERFACES ≤ length old) × DescribesOne kind order b
SaysNone kind order old b Bad =
    (own : List PacketOf) (new : List Interface) → Says kind order old b own new → ⊥
SaysNone kind order old b _ = ⊥
