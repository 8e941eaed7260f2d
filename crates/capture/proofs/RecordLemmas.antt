-- How long the next record is.
use Rattle.std.proofs.Common.{◌≡◌, ℕ, ◌+◌, ◌≤◌, List, [], ◌∷◌, ◌++◌, length, take, Some, sym, ap, subst, ◌∙◌, arith}
use Rattle.std.proofs.lemmas.List.{length-take-le}
use Rattle.capture.specs.Numbers.{field}
use Rattle.capture.specs.Packets.{PacketOf}
use Rattle.capture.specs.Pcap.{IsRecord, record_packet}
use Rattle.capture.specs.Units.{IsNext, IsNextIn, Known}
use Rattle.capture.specs.declared.format.Format.TheVariants.{Pcap}
use Rattle.capture.specs.declared.pcap_header.PcapHeader.{PcapHeader}
use Rattle.capture.proofs.FieldLemmas.{field-same, field-take}

-- what stands next in a file of libpcap is a record
pub next-record : (h : PcapHeader) (old : Known) (unit : List ℕ) (own : List PacketOf) (new : Known)
    → old.format ≡ Some (Pcap h) → IsNext old unit own new → IsRecord h unit
next-record h old unit own new is next = (subst (λ f. IsNextIn f old.interfaces unit own new) is next).0

-- its length stands in the first bytes
pub record-len : (h : PcapHeader) (bytes more unit behind : List ℕ) → bytes ++ more ≡ unit ++ behind → 16 ≤ length bytes → IsRecord h unit
    → length unit ≡ 16 + field h.order 4 8 bytes
record-len h bytes more unit behind same head r =
    r.long ∙ ap (λ n. 16 + n) (sym (field-same h.order 4 8 bytes more unit behind same (omega (arith, head)) (omega (arith, r.head))))

-- so many bytes are one
pub is-record : (h : PcapHeader) (bytes : List ℕ) (len : ℕ) → len ≡ 16 + field h.order 4 8 bytes → len ≤ length bytes → IsRecord h (take len bytes)
is-record h bytes len is within =
    let long = length-take-le len bytes within in
    record {
      head = omega (arith, long, is);
      long = long ∙ is ∙ ap (λ n. 16 + n) (sym (field-take h.order 4 8 len bytes (omega (arith, is)) within));
    }

-- a record stands next, and nothing else is known then
pub takes-record : (h : PcapHeader) (s : Known) (unit : List ℕ) (p : PacketOf) → s.format ≡ Some (Pcap h) → IsRecord h unit → p ≡ record_packet h unit
    → IsNext s unit (p ∷ []) s
takes-record h s unit p is r same = subst (λ f. IsNextIn f s.interfaces unit (p ∷ []) s) (sym is) (
  r,
  ap (λ x. x ∷ []) same,
  ap (λ f. record { format = f; interfaces = s.interfaces }) is,
)
