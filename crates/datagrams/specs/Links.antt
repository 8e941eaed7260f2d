-- Which frames of a link carry an IP packet, by their link type (LINKTYPE of tcpdump.org).
use Rattle.std.specs.Prelude.{◌≡◌, ◌⊎◌, ℕ, ◌+◌, ◌*◌, ◌<◌, ◌≤◌, List, drop, length}
use Rattle.measured_values.specs.declared.byte_order.ByteOrder.TheVariants.{MsbFirst, MsbLast}
use Rattle.capture.specs.Numbers.{field}
use Rattle.datagrams.specs.declared.link.Link.{Link}
use Rattle.datagrams.specs.declared.link.Link.TheVariants.{Cooked1, Cooked2, Ethernet, Loop, Null}
use Rattle.datagrams.specs.declared.link.Link.TheVariants.{Other, Raw}

-- an EtherType of IPv4 or IPv6
abbrev pub IsIpType : ℕ → Type 0
IsIpType type = (type ≡ 2048) ⊎ (type ≡ 34525)

-- an EtherType of a VLAN tag, which has two bytes more before the next type: 8100 and 88A8
abbrev pub IsTagType : ℕ → Type 0
IsTagType type = (type ≡ 33024) ⊎ (type ≡ 34984)

-- a frame of Ethernet, with tags or without
pub record IsEthernet (frame payload : List ℕ) : Type 0 where
  -- fixed by `tagged` and `ip`
  pub tags : ℕ
  pub long : 14 + 4 * tags ≤ length frame
  pub tagged : (i : ℕ) → i < tags → IsTagType (field MsbFirst 2 (12 + 4 * i) frame)
  pub ip : IsIpType (field MsbFirst 2 (12 + 4 * tags) frame)
  pub behind : payload ≡ drop (14 + 4 * tags) frame

-- a frame whose head has this length and an EtherType at this place
pub record HasHead (head at : ℕ) (frame payload : List ℕ) : Type 0 where
  pub long : head ≤ length frame
  pub ip : IsIpType (field MsbFirst 2 at frame)
  pub behind : payload ≡ drop head frame

-- the number of a protocol family of IPv4 or IPv6: 2, and 10, 24, 28 or 30 by the system
abbrev pub IsIpFamily : ℕ → Type 0
IsIpFamily n = (n ≡ 2) ⊎ ((n ≡ 10) ⊎ ((n ≡ 24) ⊎ ((n ≡ 28) ⊎ (n ≡ 30))))

-- a frame of a loopback interface: such a number stands before the packet
pub record IsLoop (IsFamily : List ℕ → Type 0) (frame payload : List ℕ) : Type 0 where
  pub long : 4 ≤ length frame
  pub family : IsFamily frame
  pub behind : payload ≡ drop 4 frame

abbrev pub HasFamily : List ℕ → Type 0
HasFamily frame = IsIpFamily (field MsbFirst 4 0 frame)

-- in the byte order of the machine
abbrev pub HasFamilyInEither : List ℕ → Type 0
HasFamilyInEither frame =
    IsIpFamily (field MsbLast 4 0 frame) ⊎ IsIpFamily (field MsbFirst 4 0 frame)

-- a frame of a link carries this IP packet
abbrev pub CarriesIp : Link → List ℕ → List ℕ → Type 0
CarriesIp Ethernet frame payload = IsEthernet frame payload
CarriesIp Cooked1 frame payload = HasHead 16 14 frame payload
CarriesIp Cooked2 frame payload = HasHead 20 0 frame payload
CarriesIp Raw frame payload = payload ≡ frame
CarriesIp Null frame payload = IsLoop HasFamilyInEither frame payload
CarriesIp Loop frame payload = IsLoop HasFamily frame payload
CarriesIp Other frame payload = ⊥
