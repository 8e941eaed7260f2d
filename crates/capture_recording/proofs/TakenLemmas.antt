-- One packet more was taken.
use Rattle.std.proofs.Common.{◌≡◌, inl, inr, ℕ, ◌∷◌, List, refl, sym, subst, Option, Some, None, MatchOption, drop}
use Rattle.std.specs.declared.net.ip_addr.IpAddr.{IpAddr}
use Rattle.capture.specs.Packets.{PacketOf}
use Rattle.captured_samples.specs.Standing.{Told}
use Rattle.datagrams.specs.Ip.{IpOf}
use Rattle.datagrams.specs.LinkTypes.{link_of}
use Rattle.datagrams.specs.Links.{CarriesIp}
use Rattle.datagrams.specs.Parts.{WaitOf, key_of, part_within, piece_of, too_many, with_piece, without}
use Rattle.datagrams.specs.Versions.{IsIp}
use Rattle.datagrams.specs.Waiting.{AreWaiting, PartsOf, TakesPacket, TakesPiece, WholeOf}
use Rattle.datagrams.specs.declared.ip_packet.Part.{Part}
use Rattle.capture_recording.specs.Said.{AndSaid, HasIp, IsBehind, Joins, JoinsPiece, Said, SaysIp, data_in}
use Rattle.capture_recording.specs.Slaves.{AllHeard, AllTaken, SlavesOf, TakesPart}
use Rattle.capture_recording.proofs.CarriesLemmas.{carries-one}

-- no IP packet stands in what a frame carries
pub no-ip : (p : PacketOf) (bytes : List ℕ) → CarriesIp (link_of p.link) p.bytes bytes → ((ip : IpOf) → IsIp bytes ip → ⊥)
    → (ip : IpOf) → HasIp p ip → ⊥
no-ip p bytes carries none ip has =
    none ip (subst (λ (b : List ℕ). IsIp b ip) (carries-one (link_of p.link) p.bytes has.bytes bytes has.carries carries) has.is)

module _ (waits : List WaitOf) (ip : IpOf) (old new : PartsOf) where
  joins-piece : (part : Part) (d : Option WholeOf) → TakesPiece waits (key_of ip part) (piece_of ip part) d old new
      → (later : List WaitOf) × JoinsPiece waits (key_of ip part) (piece_of ip part) d later × AreWaiting new later
  joins-piece part None w = (
    drop (too_many (with_piece (key_of ip part) (piece_of ip part) waits)) (with_piece (key_of ip part) (piece_of ip part) waits),
    (w.not_whole, refl),
    w.waits_on,
  )
  joins-piece part (Some d) m = (without (key_of ip part) waits, (m.whole, m.from, m.to, m.protocol, refl), m.others)

  joins-by : (d : Option WholeOf) (o : Option Part)
      → MatchOption o ((d ≡ None) × (new ≡ old)) (λ part. TakesPiece waits (key_of ip part) (piece_of ip part) d old new)
      → AreWaiting old waits
      → (later : List WaitOf)
      × MatchOption o ((d ≡ None) × (later ≡ waits)) (λ part. JoinsPiece waits (key_of ip part) (piece_of ip part) d later)
      × AreWaiting new later
  joins-by d None e are = (waits, (e.0, refl), subst (λ (p : PartsOf). AreWaiting p waits) (sym e.1) are)
  joins-by d (Some part) t are = joins-piece part d t

  pub joins-of : (d : Option WholeOf) → TakesPacket waits ip d old new → AreWaiting old waits
      → (later : List WaitOf) × Joins waits ip d later × AreWaiting new later
  joins-of d takes are = joins-by d (part_within ip) takes are

-- what packets said, with one more
pub said-whole : (p : PacketOf) (ps : List PacketOf) (ip : IpOf) (waits : List WaitOf) (said : List WholeOf) (d : WholeOf)
    → Said ps waits said → HasIp p ip → ip.part ≡ None → IsBehind (data_in ip) d → Said (p ∷ ps) waits (d ∷ said)
said-whole p ps ip waits said d are has none behind = (
  waits,
  said,
  Some (data_in ip),
  are,
  inl (ip, has, subst (λ (o : Option Part). SaysIp o ip waits (Some (data_in ip)) waits) (sym none) (refl, refl)),
  (d, behind, refl),
)

pub said-part : (p : PacketOf) (ps : List PacketOf) (ip : IpOf) (part : Part) (waits later : List WaitOf) (said all : List WholeOf)
    (whole : Option WholeOf) → Said ps waits said → HasIp p ip → ip.part ≡ Some part → Joins waits ip whole later
    → AndSaid whole said all → Said (p ∷ ps) later all
said-part p ps ip part waits later said all whole are has some joins and = (
  waits,
  said,
  whole,
  are,
  inl (ip, has, subst (λ (o : Option Part). SaysIp o ip waits whole later) (sym some) joins),
  and,
)

module _ {K S : Type 0} (told : S → List Told → Type 0) (reads : K → IpAddr → Type 0) (first : K) where
  pub taken-none : (p : PacketOf) (ps : List PacketOf) (x : SlavesOf K S) → AllTaken told reads first ps x
      → ((ip : IpOf) → HasIp p ip → ⊥) → AllTaken told reads first (p ∷ ps) x
  taken-none p ps x t none = record {
    waits = t.waits;
    said = t.said;
    are = (t.waits, t.said, None, t.are, inr (none, refl, refl), refl);
    waiting = t.waiting;
    heard = t.heard;
  }

  pub taken-whole : (p : PacketOf) (ps : List PacketOf) (ip : IpOf) (x y : SlavesOf K S) (t : AllTaken told reads first ps x)
      → HasIp p ip → ip.part ≡ None
      → (d : WholeOf) × IsBehind (data_in ip) d × AllHeard told reads first (d ∷ t.said) y
      → y.parts ≡ x.parts → AllTaken told reads first (p ∷ ps) y
  taken-whole p ps ip x y t has none h same = record {
    waits = t.waits;
    said = h.0 ∷ t.said;
    are = said-whole p ps ip t.waits t.said h.0 t.are has none h.1;
    waiting = subst (λ (parts : PartsOf). AreWaiting parts t.waits) (sym same) t.waiting;
    heard = h.2;
  }

  pub taken-part : (p : PacketOf) (ps : List PacketOf) (ip : IpOf) (part : Part) (x y : SlavesOf K S)
      (t : AllTaken told reads first ps x) → HasIp p ip → ip.part ≡ Some part
      → TakesPart told reads first t.waits ip t.said y → AllTaken told reads first (p ∷ ps) y
  taken-part p ps ip part x y t has some h = record {
    waits = h.later;
    said = h.all;
    are = said-part p ps ip part t.waits h.later t.said h.all h.whole t.are has some h.joins h.said;
    waiting = h.waiting;
    heard = h.heard;
  }
