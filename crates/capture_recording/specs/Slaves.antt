-- The slaves of a capture: what came to each of them, of what the packets said.
use Rattle.std.specs.Prelude.{◌≡◌, ◌≢◌, ◌⊎◌, ◌↔◌, ℕ, ◌<◌, Bool, List, [], ◌∷◌, length}
use Rattle.std.specs.Prelude.{slice_get, ⊤, Option, Some, None}
use Rattle.std.specs.List.{AllByRecursion}
use Rattle.std.specs.Option.{option_map}
use Rattle.std.specs.declared.net.ip_addr.IpAddr.{IpAddr}
use Rattle.captured_session.specs.declared.form.Form.{Form}
use Rattle.captured_samples.specs.Frames.{Came}
use Rattle.captured_samples.specs.Slaves.{StandsAfter}
use Rattle.captured_samples.specs.Standing.{Start, Told, told_of}
use Rattle.capture.specs.Packets.{PacketOf}
use Rattle.datagrams.specs.Ip.{IpOf}
use Rattle.datagrams.specs.Parts.{WaitOf}
use Rattle.datagrams.specs.Udp.{udp_datagram}
use Rattle.datagrams.specs.Waiting.{AreWaiting, PartsOf, WholeOf}
use Rattle.capture_recording.specs.Heard.{AreFrames, HearsDatagram, came_with}
use Rattle.capture_recording.specs.Said.{AndSaid, Joins, Said}
use Rattle.capture_recording.specs.Talks.{IsOfUdp, IsTalk}
use Rattle.capture_recording.specs.declared.slave.Slave.{Slave}
use Rattle.capture_recording.specs.declared.talks.Talk.{Talk}

-- a datagram of UDP of a slave brings its frames
pub record Brings (port : ℕ) (a : IpAddr) (d : WholeOf) (before h : List Came) : Type 0 where
  -- fixed by `is`
  pub talk : Talk
  pub is : IsTalk port d talk
  pub own : talk.slave ≡ a
  pub udp : IsOfUdp d
  -- both are fixed by `are`
  pub frames : List (ℕ × List ℕ)
  pub rest : List ℕ
  pub are : AreFrames (udp_datagram d.payload).payload frames rest
  pub now : h ≡ came_with talk.is_of_master frames before

-- nobody talks, or another slave and its master do
abbrev pub IsElse : ℕ → IpAddr → WholeOf → Type 0
IsElse port a d =
    ((talk : Talk) → IsTalk port d talk → ⊥)
    ⊎ ((talk : Talk) × IsTalk port d talk × (talk.slave ≢ a))

-- what came to a slave of all that was said, with the newest in front
abbrev pub CameTo : ℕ → IpAddr → List WholeOf → List Came → Type 0
CameTo port a [] h = h ≡ []
CameTo port a (d ∷ said) h =
    (before : List Came) × CameTo port a said before
    × (Brings port a d before h ⊎ (IsElse port a d × (h ≡ before)))

-- something that was said is of the slave at an address
abbrev pub IsTalkOf : ℕ → IpAddr → WholeOf → Type 0
IsTalkOf port a d = (talk : Talk) × IsTalk port d talk × (talk.slave ≡ a)

abbrev pub HasTalked : ℕ → IpAddr → List WholeOf → Type 0
HasTalked port a [] = ⊥
HasTalked port a (d ∷ said) = IsTalkOf port a d ⊎ HasTalked port a said

-- nothing of it is a segment of TCP
abbrev pub IsNoSegment : ℕ → IpAddr → WholeOf → Type 0
IsNoSegment port a d = (talk : Talk) → IsTalk port d talk → talk.slave ≡ a → d.protocol ≢ 6

abbrev pub NoSegments : ℕ → IpAddr → List WholeOf → Type 0
NoSegments port a said = AllByRecursion (IsNoSegment port a) said

-- the slaves that were met; who makes sinks for others; what waits for other parts
pub record SlavesOf (K S : Type 0) : Type 0 where
  pub port : ℕ
  pub form : Form
  pub sinks : K
  pub slaves : List (Slave S)
  pub parts : PartsOf

module _ {S : Type 0} where
  -- the address of the slave at a place
  abbrev pub address_at : List (Slave S) → ℕ → Option IpAddr
  address_at slaves i = option_map (λ (s : Slave S). s.address) (slice_get slaves i)

  abbrev pub IsMet : IpAddr → List (Slave S) → Type 0
  IsMet a slaves = (i : ℕ) × (address_at slaves i ≡ Some a)

  abbrev pub IsAt : IpAddr → List (Slave S) → ℕ → Type 0
  IsAt a slaves i = (i < length slaves) × (address_at slaves i ≡ Some a)

  abbrev pub AreApart : List (Slave S) → Type 0
  AreApart slaves =
      (i j : ℕ) (a : IpAddr) → address_at slaves i ≡ Some a → address_at slaves j ≡ Some a → i ≡ j

  -- no connection of TCP is kept
  abbrev pub IsOfDatagrams : Slave S → Type 0
  IsOfDatagrams s = length s.connections.items ≡ 0

  -- those alone are met that talked
  abbrev pub AllTalked : ℕ → List (Slave S) → List WholeOf → Type 0
  AllTalked port slaves said = (a : IpAddr) → IsMet a slaves → HasTalked port a said

  -- no other slave than this one is met newly
  abbrev pub MeetsOnly : IpAddr → List (Slave S) → List (Slave S) → Type 0
  MeetsOnly own old new = (a : IpAddr) → IsMet a new → IsMet a old ⊎ (a ≡ own)

  -- the same slave, with the same connections
  pub record IsOneWith (old new : Slave S) : Type 0 where
    pub address : new.address ≡ old.address
    pub connections : new.connections ≡ old.connections

  -- what waited in connections of TCP is taken
  pub record Ends (old new : Slave S) : Type 0 where
    pub address : new.address ≡ old.address
    pub plain : IsOfDatagrams old → new ≡ old

  abbrev pub EndsAt : Option (Slave S) → Option (Slave S) → Type 0
  EndsAt None None = ⊤
  EndsAt (Some old) (Some new) = Ends old new
  EndsAt _ _ = ⊥

  abbrev pub AllEnd : List (Slave S) → List (Slave S) → Type 0
  AllEnd old new = (i : ℕ) → EndsAt (slice_get old i) (slice_get new i)

  -- it heard what it and a master said to one another: of a datagram of UDP the frames
  pub record HearsTalk (told : S → List Told → Type 0) (d : WholeOf) (is_of_master : Bool)
      (old new : Slave S)
      : Type 0 where
    pub address : new.address ≡ old.address
    pub datagram :
        d.protocol ≢ 6
        → HearsDatagram is_of_master d.payload old.samples new.samples (told old.sink)
        (told new.sink)
    pub plain : d.protocol ≢ 6 → IsOfDatagrams old → IsOfDatagrams new

  -- a slave stands after what came to it, and its sink was told just what that tells
  pub record Follows (told : S → List Told → Type 0) (form : Form) (port : ℕ)
      (said : List WholeOf) (s : Slave S)
      : Type 0 where
    -- fixed by `came`
    pub h : List Came
    pub came : CameTo port s.address said h
    pub stands : (start : Start) → start.given ≡ form → StandsAfter start h s.samples
    pub tells :
        (start : Start) → start.given ≡ form → told s.sink (told_of start h)
    pub plain : IsOfDatagrams s

  -- who talks is met, if its samples are to be read
  abbrev pub IsHeard : (IpAddr → Type 0) → ℕ → List (Slave S) → WholeOf → Type 0
  IsHeard reads port slaves d =
      ((talk : Talk) → IsTalk port d talk → ⊥)
      ⊎ ((talk : Talk) × IsTalk port d talk
      × ((reads talk.slave → ⊥) ⊎ IsMet talk.slave slaves))

module _ {K S : Type 0} where
  -- each slave that was met follows what was said, and who talks is met, if it is to be read, from
  -- when the sinks were these
  pub record EachHeard (told : S → List Told → Type 0)
      (reads : K → IpAddr → Type 0) (first : K) (said : List WholeOf) (x : SlavesOf K S)
      : Type 0 where
    pub each :
        (i : ℕ) (s : Slave S) → slice_get x.slaves i ≡ Some s
        → NoSegments x.port s.address said → Follows told x.form x.port said s
    pub heard : AllByRecursion (IsHeard (reads first) x.port x.slaves) said
    pub apart : AreApart x.slaves
    -- those alone are met whose samples are to be read
    pub read : (a : IpAddr) → IsMet a x.slaves → reads first a
    pub left : (a : IpAddr) → (IsMet a x.slaves → ⊥) → reads x.sinks a ↔ reads first a

  -- all that was said was heard, each by its slave, and no other is met
  pub record AllHeard (told : S → List Told → Type 0)
      (reads : K → IpAddr → Type 0) (first : K) (said : List WholeOf) (x : SlavesOf K S)
      : Type 0 where
    pub each_heard : EachHeard told reads first said x
    pub talked : AllTalked x.port x.slaves said

  -- packets, with the newest in front, were taken
  pub record AllTaken (told : S → List Told → Type 0)
      (reads : K → IpAddr → Type 0) (first : K) (ps : List PacketOf) (x : SlavesOf K S)
      : Type 0 where
    -- both are fixed by `are`
    pub waits : List WaitOf
    pub said : List WholeOf
    pub are : Said ps waits said
    pub waiting : AreWaiting x.parts waits
    pub heard : AllHeard told reads first said x

  -- port, form and what waits for other parts stay
  pub record KeepsRest (old new : SlavesOf K S) : Type 0 where
    pub port : new.port ≡ old.port
    pub form : new.form ≡ old.form
    pub parts : new.parts ≡ old.parts

  -- a part of a datagram came, and what is whole with it was heard
  pub record TakesPart (told : S → List Told → Type 0)
      (reads : K → IpAddr → Type 0) (first : K) (waits : List WaitOf) (ip : IpOf)
      (before : List WholeOf) (new : SlavesOf K S)
      : Type 0 where
    -- these are fixed by `joins` and `said`
    pub later : List WaitOf
    pub whole : Option WholeOf
    pub all : List WholeOf
    pub joins : Joins waits ip whole later
    pub said : AndSaid whole before all
    pub waiting : AreWaiting new.parts later
    pub heard : AllHeard told reads first all new
