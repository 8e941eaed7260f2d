-- An IP packet of either version.
use Rattle.std.specs.Prelude.{◌≡◌, ◌⊎◌, ℕ, List}
use Rattle.datagrams.specs.Ip.{IpOf, IsIpv4, ipv4_packet}
use Rattle.datagrams.specs.Ipv6.{IsIpv6}

-- these bytes begin with this packet
abbrev pub IsIp : List ℕ → IpOf → Type 0
IsIp b p = (IsIpv4 b × (p ≡ ipv4_packet b)) ⊎ IsIpv6 b p
