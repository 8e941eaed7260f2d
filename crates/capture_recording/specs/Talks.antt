-- Who talks to whom: who sends to the slave's port is a master.
use Rattle.std.specs.Prelude.{◌≡◌, ◌⊎◌, ℕ, Bool, true, false, List, length, nat_eq}
use Rattle.std.specs.Net.Addr.{IsMulticastV4, IsMulticastV6, IsV4And, IsV6And, MatchIp, ipv4_octets}
use Rattle.std.specs.Net.Addr.{ipv6_segments, segments_of}
use Rattle.std.specs.Net.Socket.{socket_ip, socket_port}
use Rattle.std.specs.declared.net.ip_addr.IpAddr.{IpAddr}
use Rattle.datagrams.specs.Tcp.{IsTcp, SegmentOf, tcp_segment}
use Rattle.datagrams.specs.Udp.{DatagramOf, IsUdp, udp_datagram}
use Rattle.datagrams.specs.Waiting.{WholeOf}
use Rattle.capture_recording.specs.declared.ip_data.IpData.{IpData}
use Rattle.capture_recording.specs.declared.talks.Talk.{Talk}

-- what an IP packet carries, whole or put together
abbrev pub data_of : IpData → WholeOf
data_of d = record {
  from = d.from.now;
  to = d.to.now;
  protocol = d.protocol;
  payload = d.payload.now;
}

-- the ports of the sender and of the receiver, of a datagram of UDP or a segment of TCP
abbrev pub IsOfUdp : WholeOf → Type 0
IsOfUdp d = (d.protocol ≡ 17) × IsUdp d.payload

abbrev pub IsOfTcp : WholeOf → Type 0
IsOfTcp d = (d.protocol ≡ 6) × IsTcp d.payload

abbrev pub udp_ports : DatagramOf → ℕ × ℕ
udp_ports u = (u.from_port, u.to_port)

abbrev pub tcp_ports : SegmentOf → ℕ × ℕ
tcp_ports s = (s.from_port, s.to_port)

abbrev pub HasPorts : WholeOf → ℕ × ℕ → Type 0
HasPorts d ports =
    (IsOfUdp d × (ports ≡ udp_ports (udp_datagram d.payload)))
    ⊎ (IsOfTcp d × (ports ≡ tcp_ports (tcp_segment d.payload)))

-- the address that is written in 4 bytes or 16
abbrev pub IsAddress : List ℕ → IpAddr → Type 0
IsAddress bytes a =
    ((length bytes ≡ 4) × IsV4And a (λ ip. ipv4_octets ip ≡ bytes))
    ⊎ ((length bytes ≡ 16) × IsV6And a (λ ip. ipv6_segments ip ≡ segments_of bytes))

-- what is sent to several receivers is no talk
abbrev pub IsToOne : List ℕ → Type 0
IsToOne bytes =
    (a : IpAddr) → IsAddress bytes a → MatchIp a IsMulticastV4 IsMulticastV6 → ⊥

-- a master at this address, and a slave
abbrev pub IsBetween : List ℕ → ℕ → List ℕ → Talk → Type 0
IsBetween master port slave talk =
    IsAddress master (socket_ip talk.master) × (socket_port talk.master ≡ port)
    × IsAddress slave talk.slave

abbrev pub IsSent : Bool → ℕ → WholeOf → ℕ × ℕ → Talk → Type 0
IsSent true port d ports talk = IsBetween d.from ports.0 d.to talk
IsSent false port d ports talk = (ports.0 ≡ port) × IsBetween d.to ports.1 d.from talk

-- the master sends exactly if the receiver has the slave's port; else the sender has it
pub record IsTalk (port : ℕ) (d : WholeOf) (talk : Talk) : Type 0 where
  -- fixed by `has`
  pub ports : ℕ × ℕ
  pub has : HasPorts d ports
  pub master : talk.is_of_master ≡ nat_eq ports.1 port
  pub sent : IsSent talk.is_of_master port d ports talk
  pub one : IsToOne d.to
