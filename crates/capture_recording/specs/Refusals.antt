-- Why a capture is read no further, by the bytes that were read. Memory may want at any time.
use Rattle.std.specs.Prelude.{◌≡◌, ◌≢◌, ◌⊎◌, ⊤, ℕ, ◌<◌, ◌≤◌, ◌++◌, ◌∷◌, [], List, length}
use Rattle.std.specs.Prelude.{reverse, slice_get, Option, Some}
use Rattle.std.specs.Io.KnownBytes.{Consumes, IsAtEnd}
use Rattle.std.specs.declared.net.ip_addr.IpAddr.{IpAddr}
use Rattle.capture.specs.Packets.{PacketOf}
use Rattle.capture.specs.Standing.{StandsAfter}
use Rattle.capture.specs.Units.{Known, NextHas, RefusesStep}
use Rattle.capture.specs.declared.capture_fault.CaptureFault.{CaptureFault}
use Rattle.captured_samples.specs.Slaves.{IsFull}
use Rattle.captured_samples.specs.Frames.{Came}
use Rattle.captured_samples.specs.Standing.{Start, Told, set_up_of}
use Rattle.captured_session.specs.declared.form.Form.{Form}
use Rattle.captured_session.specs.declared.session_fault.SessionFault.{SessionFault}
use Rattle.datagrams.specs.Ip.{IpOf}
use Rattle.datagrams.specs.Parts.{WaitOf}
use Rattle.datagrams.specs.Udp.{udp_datagram}
use Rattle.datagrams.specs.Waiting.{WholeOf}
use Rattle.capture_recording.specs.Heard.{BeginsWith, came_with}
use Rattle.capture_recording.specs.Said.{AndSaid, IsBehind, Joins, Said, data_in}
use Rattle.capture_recording.specs.Slaves.{AllTaken, CameTo, HasTalked, IsMet, IsOfDatagrams}
use Rattle.capture_recording.specs.Slaves.{NoSegments, SlavesOf}
use Rattle.capture_recording.specs.Talks.{IsOfUdp, IsTalk}
use Rattle.capture_recording.specs.declared.capture_read_fault.CaptureReadFault.{CaptureReadFault}
use Rattle.capture_recording.specs.declared.capture_read_fault.CaptureReadFault.TheVariants.{
  Capture,
  ManySlaves,
  Memory,
  NoCapture,
  Session,
  Torn,
  Unreadable,
}
use Rattle.capture_recording.specs.declared.slave.Slave.{Slave}
use Rattle.capture_recording.specs.declared.slaves.TheConstants.{MAX_SLAVES}
use Rattle.capture_recording.specs.declared.talks.Talk.{Talk}

-- the fault of a session that can't be followed, as that of the capture
abbrev pub fault_of_session : SessionFault → CaptureReadFault
fault_of_session SessionFault.Memory = Memory
fault_of_session SessionFault.ManyFacts = Session SessionFault.ManyFacts

-- so that of its form
abbrev pub fault_of_capture : CaptureFault → CaptureReadFault
fault_of_capture CaptureFault.Memory = Memory
fault_of_capture CaptureFault.NoCapture = NoCapture
fault_of_capture fault = Capture fault

-- want of memory, or a cause
abbrev pub OrMemory : (CaptureReadFault → Type 0) → CaptureReadFault → Type 0
OrMemory Is fault = (fault ≡ Memory) ⊎ Is fault

-- over MAX_SLAVES slaves talked whose samples are to be read
pub record ManyTalk (reads : IpAddr → Type 0) (port : ℕ) (said : List WholeOf) : Type 0 where
  pub slaves : List IpAddr
  pub many : MAX_SLAVES < length slaves
  pub apart :
      (i j : ℕ) (a : IpAddr) → slice_get slaves i ≡ Some a → slice_get slaves j ≡ Some a → i ≡ j
  pub each :
      (i : ℕ) (a : IpAddr) → slice_get slaves i ≡ Some a → reads a × HasTalked port a said

-- with frames of a datagram of UDP the set-up of its slave, to which this came before, has nearly
-- as many facts as it may have
pub record IsFullWith (form : Form) (port : ℕ) (talk : Talk) (d : WholeOf) (before : List WholeOf)
    : Type 0 where
  -- fixed by `came`
  pub h : List Came
  pub came : CameTo port talk.slave before h
  pub udp : IsOfUdp d
  -- these are fixed by `begins`, but for how many they are
  pub frames : List (ℕ × List ℕ)
  pub behind : List ℕ
  pub begins : BeginsWith (udp_datagram d.payload).payload frames behind
  pub full :
      (start : Start) → start.given ≡ form
      → IsFull (set_up_of start (came_with talk.is_of_master frames h))

-- so it is with the newest of what was said; nothing is said of a slave with a segment of TCP
abbrev pub HasFullSession : Form → ℕ → List WholeOf → Type 0
HasFullSession form port [] = ⊥
HasFullSession form port (d ∷ before) =
    (talk : Talk) × IsTalk port d talk
    × (NoSegments port talk.slave (d ∷ before) → IsFullWith form port talk d before)

-- why the newest of what was said isn't heard
abbrev pub RefusesSaid :
    (IpAddr → Type 0) → Form → ℕ → List WholeOf → CaptureReadFault → Type 0
RefusesSaid reads form port said ManySlaves = ManyTalk reads port said
RefusesSaid reads form port said (Session fault) =
    (fault ≡ SessionFault.ManyFacts) × HasFullSession form port said
RefusesSaid reads form port said _ = ⊥

-- why what a packet carries isn't heard
abbrev pub RefusesCarried :
    (IpAddr → Type 0) → Form → ℕ → IpOf → List WholeOf → CaptureReadFault → Type 0
RefusesCarried reads form port ip said fault =
    (d : WholeOf) × IsBehind (data_in ip) d × RefusesSaid reads form port (d ∷ said) fault

-- why what is whole with a part isn't heard
abbrev pub RefusesPart :
    (IpAddr → Type 0) → Form → ℕ → List WaitOf → IpOf → List WholeOf → CaptureReadFault → Type 0
RefusesPart reads form port waits ip before fault =
    (later : List WaitOf) × (whole : Option WholeOf) × (all : List WholeOf)
    × Joins waits ip whole later × AndSaid whole before all
    × RefusesSaid reads form port all fault

-- why the newest packet isn't taken
abbrev pub RefusesPacket :
    (IpAddr → Type 0) → Form → ℕ → List PacketOf → CaptureReadFault → Type 0
RefusesPacket reads form port ps fault =
    (waits : List WaitOf) × (said : List WholeOf) × Said ps waits said
    × RefusesSaid reads form port said fault

-- why what waits in connections isn't taken at the end: a segment of TCP came
abbrev pub RefusesEnd : ℕ → List PacketOf → CaptureReadFault → Type 0
RefusesEnd port ps fault =
    (fault ≡ Session SessionFault.ManyFacts)
    × (waits : List WaitOf) × (said : List WholeOf) × Said ps waits said
    × (a : IpAddr) × (NoSegments port a said → ⊥)

module _ {S : Type 0} where
  -- what waits in a connection that a slave keeps isn't taken
  abbrev pub RefusesConnection : List (Slave S) → CaptureReadFault → Type 0
  RefusesConnection slaves fault =
      (fault ≡ Session SessionFault.ManyFacts)
      × (i : ℕ) × (s : Slave S) × (slice_get slaves i ≡ Some s) × (IsOfDatagrams s → ⊥)

  -- as many slaves are met as may be, and another is to be read
  pub record IsOneTooMany (reads : IpAddr → Type 0) (a : IpAddr) (slaves : List (Slave S))
      (fault : CaptureReadFault)
      : Type 0 where
    pub is : fault ≡ ManySlaves
    pub many : MAX_SLAVES ≤ length slaves
    pub unmet : IsMet a slaves → ⊥
    pub read : reads a

module _ {K S : Type 0} where
  -- the packets of these bytes were taken
  pub record HasTaken (Taken : List PacketOf → SlavesOf K S → Type 0) (form : Form) (port : ℕ)
      (known : Known) (bytes : List ℕ) (slaves : SlavesOf K S)
      : Type 0 where
    -- fixed by `stand`
    pub packets : List PacketOf
    pub stand : StandsAfter known bytes packets
    pub taken : Taken (reverse packets) slaves
    pub form_stays : slaves.form ≡ form
    pub port_stays : slaves.port ≡ port

  -- why a capture is read no further behind these bytes, in front of those that are left: no
  -- header, record or block stands there, or the last packet before isn't taken
  abbrev pub StopsAt :
      (List PacketOf → SlavesOf K S → Type 0) → (IpAddr → Type 0) → Form → ℕ → List ℕ → List ℕ
      → SlavesOf K S → CaptureReadFault → Type 0
  StopsAt Taken reads form port before rest slaves NoCapture =
      (known : Known) × HasTaken Taken form port known before slaves
      × RefusesStep known rest CaptureFault.NoCapture
  StopsAt Taken reads form port before rest slaves (Capture fault) =
      (fault_of_capture fault ≡ Capture fault)
      × (known : Known) × HasTaken Taken form port known before slaves
      × RefusesStep known rest fault
  StopsAt Taken reads form port before rest slaves fault =
      (known : Known) × (packets : List PacketOf) × StandsAfter known before packets
      × RefusesPacket reads form port (reverse packets) fault

  -- it stops within these bytes, which go on behind those before
  abbrev pub StopsWithin :
      (List PacketOf → SlavesOf K S → Type 0) → (IpAddr → Type 0) → Form → ℕ → List ℕ → List ℕ
      → SlavesOf K S → CaptureReadFault → Type 0
  StopsWithin Taken reads form port before bytes slaves fault =
      (front : List ℕ) × (rest : List ℕ) × (bytes ≡ front ++ rest)
      × StopsAt Taken reads form port (before ++ front) rest slaves fault

  -- why of bytes of a capture, which go on where those before ended, not all units are taken
  abbrev pub RefusesUnits :
      (S → List Told → Type 0) → (K → IpAddr → Type 0) → Known → SlavesOf K S
      → SlavesOf K S → List ℕ → CaptureReadFault → Type 0
  RefusesUnits told reads from old new bytes fault =
      (first : K) (before : List ℕ) (packets : List PacketOf) → StandsAfter from before packets
      → AllTaken told reads first (reverse packets) old
      → OrMemory
      (StopsWithin (AllTaken told reads first) (reads first) old.form old.port before bytes new)
      fault

  -- the end stands within a header, a record or a block: these bytes are left, and what is next is
  -- longer
  pub record IsTorn (Taken : List PacketOf → SlavesOf K S → Type 0) (form : Form) (port : ℕ)
      (old new : Option (List ℕ)) (slaves : SlavesOf K S)
      : Type 0 where
    -- these are fixed by `consumed`, `has` and `longer`
    pub bytes : List ℕ
    pub rest : List ℕ
    pub known : Known
    pub consumed : Consumes old new (bytes ++ rest)
    pub end : IsAtEnd new
    pub has : HasTaken Taken form port known bytes slaves
    pub some : rest ≢ []
    pub longer : NextHas (λ len. length rest < len) known rest

  -- why a capture isn't read to its end: what was read of it, and where it stops, or what is wrong
  -- at its end; nothing is said of what can't be read
  abbrev pub RefusesCapture :
      (List PacketOf → SlavesOf K S → Type 0) → (IpAddr → Type 0) → Form → ℕ → Option (List ℕ)
      → Option (List ℕ) → SlavesOf K S → CaptureReadFault → Type 0
  RefusesCapture Taken reads form port old new slaves Unreadable = ⊤
  RefusesCapture Taken reads form port old new slaves Memory = ⊤
  RefusesCapture Taken reads form port old new slaves Torn =
      IsTorn Taken form port old new slaves
  RefusesCapture Taken reads form port old new slaves fault =
      (bytes : List ℕ) × (rest : List ℕ) × Consumes old new (bytes ++ rest)
      × (StopsAt Taken reads form port bytes rest slaves fault
      ⊎ (IsAtEnd new × (known : Known) × (packets : List PacketOf)
      × StandsAfter known bytes packets × RefusesEnd port (reverse packets) fault))
