-- Why a capture is read no further.
use Rattle.std.proofs.Common.{◌≡◌, ◌≢◌, ◌⊎◌, inl, inr, ℕ, ◌≤◌, ◌++◌, ◌∷◌, [], List, length, map, reverse, slice_get, refl, sym, ap, subst, ◌∙◌, arith, Option, Some, Result, Ok, Err, IfErr}
use Rattle.std.proofs.lemmas.List.{append_assoc, length-append, length-map}
use Rattle.std.proofs.lemmas.Option.{slice_get-map}
use Rattle.std.specs.declared.net.ip_addr.IpAddr.{IpAddr}
use Rattle.std.specs.Io.KnownBytes.{Consumes, IsAtEnd}
use Rattle.capture.specs.Packets.{PacketOf}
use Rattle.capture.specs.Standing.{StandsAfter}
use Rattle.capture.specs.Units.{Known, RefusesStep}
use Rattle.capture.specs.declared.capture_fault.CaptureFault.{CaptureFault}
use Rattle.captured_session.specs.declared.session_fault.SessionFault.TheVariants.{ManyFacts}
use Rattle.captured_samples.specs.Standing.{Told}
use Rattle.captured_session.specs.declared.form.Form.{Form}
use Rattle.datagrams.specs.Waiting.{WholeOf}
use Rattle.capture_recording.specs.Heard.{FillsUpBy}
use Rattle.capture_recording.specs.Refusals.{HasTaken, IsFullWith, IsOneTooMany, ManyTalk, OrMemory, RefusesCapture, RefusesEnd, RefusesPacket, RefusesSaid, RefusesUnits, StopsAt, StopsWithin, fault_of_capture}
use Rattle.capture_recording.specs.Reads.{TakesUnits}
use Rattle.capture_recording.specs.Slaves.{AllHeard, AllTaken, AllTalked, AreApart, CameTo, EachHeard, Follows, HasTalked, IsMet, IsOfDatagrams, NoSegments, SlavesOf, address_at}
use Rattle.capture_recording.specs.Talks.{IsTalk}
use Rattle.capture_recording.specs.declared.capture_read_fault.CaptureReadFault.{CaptureReadFault}
use Rattle.capture_recording.specs.declared.capture_read_fault.CaptureReadFault.TheVariants.{Capture, ManySlaves, Memory, NoCapture, Session, Torn, Unreadable}
use Rattle.capture_recording.specs.declared.slave.Slave.{Slave}
use Rattle.capture_recording.specs.declared.slaves.TheConstants.{MAX_SLAVES}
use Rattle.capture_recording.specs.declared.talks.Talk.{Talk}
use Rattle.capture_recording.proofs.SlavesLemmas.{got-more, udp-of}

pub or-memory : (P Q : CaptureReadFault → Type 0) (fault : CaptureReadFault) → (P fault → Q fault) → OrMemory P fault → OrMemory Q fault
or-memory P Q fault leads (inl memory) = inl memory
or-memory P Q fault leads (inr is) = inr (leads is)

pub if-err-or : {T : Type 0} (r : Result T CaptureReadFault) (P Q : CaptureReadFault → Type 0) → ((fault : CaptureReadFault) → P fault → Q fault)
    → IfErr r (OrMemory P) → IfErr r (OrMemory Q)
if-err-or (Ok x) P Q leads is = tt
if-err-or (Err fault) P Q leads is = or-memory P Q fault (leads fault) is

module _ {S : Type 0} where
  abbrev addresses : List (Slave S) → List IpAddr
  addresses xs = map (λ (s : Slave S). s.address) xs

  met-at : (xs : List (Slave S)) (i : ℕ) (a : IpAddr) → slice_get (addresses xs) i ≡ Some a → address_at xs i ≡ Some a
  met-at xs i a at = sym (slice_get-map (λ (s : Slave S). s.address) xs i) ∙ at

  -- with one slave that talks and isn't met there are too many
  pub many-talk : (reads : IpAddr → Type 0) (port : ℕ) (said : List WholeOf) (d : WholeOf) (xs : List (Slave S)) (talk : Talk)
      → MAX_SLAVES ≤ length xs → AreApart xs → ((a : IpAddr) → IsMet a xs → reads a) → AllTalked port xs said
      → (IsMet talk.slave xs → ⊥) → reads talk.slave → IsTalk port d talk → ManyTalk reads port (d ∷ said)
  many-talk reads port said d xs talk many apart read talked unmet own is = record {
    slaves = addresses xs ++ talk.slave ∷ [];
    many = omega (arith, many, length-append (addresses xs) (talk.slave ∷ []), length-map xs (λ (s : Slave S). s.address));
    apart = λ i j a at_i at_j. both i j a (got-more (addresses xs) i a talk.slave at_i) (got-more (addresses xs) j a talk.slave at_j);
    each = λ i a at. one i a (got-more (addresses xs) i a talk.slave at);
  } where
    twice : (k : ℕ) (a : IpAddr) → slice_get (addresses xs) k ≡ Some a → a ≡ talk.slave → ⊥
    twice k a at e = unmet (k, subst (λ (b : IpAddr). address_at xs k ≡ Some b) e (met-at xs k a at))

    both : (i j : ℕ) (a : IpAddr) → (slice_get (addresses xs) i ≡ Some a) ⊎ ((i ≡ length (addresses xs)) × (a ≡ talk.slave))
        → (slice_get (addresses xs) j ≡ Some a) ⊎ ((j ≡ length (addresses xs)) × (a ≡ talk.slave)) → i ≡ j
    both i j a (inl p) (inl q) = apart i j a (met-at xs i a p) (met-at xs j a q)
    both i j a (inl p) (inr q) = absurd (twice i a p q.1)
    both i j a (inr p) (inl q) = absurd (twice j a q p.1)
    both i j a (inr p) (inr q) = p.0 ∙ sym q.0

    one : (i : ℕ) (a : IpAddr) → (slice_get (addresses xs) i ≡ Some a) ⊎ ((i ≡ length (addresses xs)) × (a ≡ talk.slave))
        → reads a × HasTalked port a (d ∷ said)
    one i a (inl p) = (read a (i, met-at xs i a p), inr (talked a (i, met-at xs i a p)))
    one i a (inr p) = (subst reads (sym p.1) own, inl (talk, is, sym p.1))

  -- the set-up of a slave that follows what was said is nearly full
  pub full-with : (told : S → List Told → Type 0) (form : Form) (port : ℕ) (said : List WholeOf) (d : WholeOf) (talk : Talk)
      (s : Slave S) → IsTalk port d talk → s.address ≡ talk.slave → d.protocol ≢ 6 → Follows told form port said s
      → FillsUpBy talk.is_of_master d.payload s.samples → IsFullWith form port talk d said
  full-with told form port said d talk s is own other f fills = record {
    h = f.h;
    came = subst (λ (a : IpAddr). CameTo port a said f.h) own f.came;
    udp = udp-of d is.ports is.has other;
    frames = fills.1.frames;
    behind = fills.1.behind;
    begins = fills.1.begins;
    full = λ start given. fills.1.full start f.h (f.stands start given);
  }

module _ {K S : Type 0} (told : S → List Told → Type 0) (reads : K → IpAddr → Type 0) (first : K) where
  pub refuses-many : (said : List WholeOf) (x : SlavesOf K S) (d : WholeOf) (talk : Talk) (fault : CaptureReadFault)
      → AllHeard told reads first said x → IsTalk x.port d talk → IsOneTooMany (reads first) talk.slave x.slaves fault
      → RefusesSaid (reads first) x.form x.port (d ∷ said) fault
  refuses-many said x d talk fault all is one =
      subst (λ (f : CaptureReadFault). RefusesSaid (reads first) x.form x.port (d ∷ said) f) (sym one.is)
      (many-talk (reads first) x.port said d x.slaves talk one.many all.each_heard.apart all.each_heard.read all.talked one.unmet one.read is)

  pub refuses-session : (said : List WholeOf) (x y : SlavesOf K S) (d : WholeOf) (talk : Talk) (i : ℕ) (was : Slave S) (fault : CaptureReadFault)
      → EachHeard told reads first said y → y.form ≡ x.form → y.port ≡ x.port → IsTalk x.port d talk → slice_get y.slaves i ≡ Some was
      → was.address ≡ talk.slave → fault ≡ Session ManyFacts → (d.protocol ≢ 6 → FillsUpBy talk.is_of_master d.payload was.samples)
      → RefusesSaid (reads first) x.form x.port (d ∷ said) fault
  refuses-session said x y d talk i was fault each form port is at own session fills =
      subst (λ (f : CaptureReadFault). RefusesSaid (reads first) x.form x.port (d ∷ said) f) (sym session) (
        refl,
        (
          talk,
          is,
          λ none.
              let other : d.protocol ≢ 6 = none.0 talk is refl in
              full-with told x.form x.port said d talk was is own other
              (subst (λ (n : ℕ). Follows told x.form n said was) port
              (subst (λ (f : Form). Follows told f y.port said was) form
              (each.each i was at
              (subst (λ (n : ℕ). NoSegments n was.address said) (sym port)
              (subst (λ (a : IpAddr). NoSegments x.port a said) (sym own) none.1)))))
              (fills other),
        ),
      )

  -- at the end a slave keeps a connection
  pub refuses-end : (ps : List PacketOf) (x : SlavesOf K S) (i : ℕ) (s : Slave S) (fault : CaptureReadFault)
      → AllTaken told reads first ps x → slice_get x.slaves i ≡ Some s → (IsOfDatagrams s → ⊥) → fault ≡ Session ManyFacts
      → RefusesEnd x.port ps fault
  refuses-end ps x i s fault t at kept session =
      (session, t.waits, t.said, t.are, s.address, λ none. kept (t.heard.each_heard.each i s at none).plain)

module _ {K S : Type 0} (Taken : List PacketOf → SlavesOf K S → Type 0) (reads : IpAddr → Type 0) (form : Form) (port : ℕ) where
  pub stops-packet : (before rest : List ℕ) (slaves : SlavesOf K S) (known : Known) (packets : List PacketOf) (fault : CaptureReadFault)
      → StandsAfter known before packets → RefusesPacket reads form port (reverse packets) fault
      → StopsAt Taken reads form port before rest slaves fault
  stops-packet before rest slaves known packets NoCapture stands r = absurd r.3
  stops-packet before rest slaves known packets (Capture f) stands r = absurd r.3
  stops-packet before rest slaves known packets ManySlaves stands r = (known, packets, stands, r)
  stops-packet before rest slaves known packets (Session f) stands r = (known, packets, stands, r)
  stops-packet before rest slaves known packets Torn stands r = absurd r.3
  stops-packet before rest slaves known packets Unreadable stands r = absurd r.3
  stops-packet before rest slaves known packets Memory stands r = absurd r.3

  pub stops-format : (before rest : List ℕ) (slaves : SlavesOf K S) (known : Known) (fault : CaptureFault)
      → HasTaken Taken form port known before slaves → RefusesStep known rest fault
      → OrMemory (StopsAt Taken reads form port before rest slaves) (fault_of_capture fault)
  stops-format before rest slaves known CaptureFault.Memory has r = inl refl
  stops-format before rest slaves known CaptureFault.NoCapture has r = inr (known, has, r)
  stops-format before rest slaves known CaptureFault.Bad has r = inr (refl, known, has, r)
  stops-format before rest slaves known CaptureFault.Long has r = inr (refl, known, has, r)
  stops-format before rest slaves known CaptureFault.ManyInterfaces has r = inr (refl, known, has, r)

  -- a place at which reading stops is why a capture isn't read to its end
  pub refuses-by : (old new : Option (List ℕ)) (before rest : List ℕ) (slaves : SlavesOf K S) (fault : CaptureReadFault)
      → Consumes old new (before ++ rest) → StopsAt Taken reads form port before rest slaves fault
      → RefusesCapture Taken reads form port old new slaves fault
  refuses-by old new before rest slaves NoCapture consumed stops = (before, rest, consumed, inl stops)
  refuses-by old new before rest slaves (Capture f) consumed stops = (before, rest, consumed, inl stops)
  refuses-by old new before rest slaves ManySlaves consumed stops = (before, rest, consumed, inl stops)
  refuses-by old new before rest slaves (Session f) consumed stops = (before, rest, consumed, inl stops)
  refuses-by old new before rest slaves Torn consumed stops = absurd stops.3.3
  refuses-by old new before rest slaves Unreadable consumed stops = tt
  refuses-by old new before rest slaves Memory consumed stops = tt

  pub refuses-units : (old new : Option (List ℕ)) (before held : List ℕ) (slaves : SlavesOf K S) (fault : CaptureReadFault)
      → Consumes old new (before ++ held)
      → OrMemory (StopsWithin Taken reads form port before held slaves) fault
      → RefusesCapture Taken reads form port old new slaves fault
  refuses-units old new before held slaves fault consumed (inl memory) =
      subst (λ (f : CaptureReadFault). RefusesCapture Taken reads form port old new slaves f) (sym memory) tt
  refuses-units old new before held slaves fault consumed (inr (front, rest, is, stops)) =
      refuses-by old new (before ++ front) rest slaves fault
      (subst (λ (bs : List ℕ). Consumes old new bs) (ap (λ (bs : List ℕ). before ++ bs) is ∙ sym (append_assoc before front rest)) consumed)
      stops

  -- the capture is at its end, but for connections
  pub refuses-at-end : (old new : Option (List ℕ)) (before rest : List ℕ) (slaves : SlavesOf K S) (known : Known) (packets : List PacketOf)
      (fault : CaptureReadFault) → Consumes old new (before ++ rest) → IsAtEnd new → StandsAfter known before packets
      → OrMemory (RefusesEnd port (reverse packets)) fault → RefusesCapture Taken reads form port old new slaves fault
  refuses-at-end old new before rest slaves known packets fault consumed end stands (inl memory) =
      subst (λ (f : CaptureReadFault). RefusesCapture Taken reads form port old new slaves f) (sym memory) tt
  refuses-at-end old new before rest slaves known packets fault consumed end stands (inr r) =
      subst (λ (f : CaptureReadFault). RefusesCapture Taken reads form port old new slaves f) (sym r.0)
      (before, rest, consumed, inr (end, known, packets, stands, (refl, r.1, r.2, r.3, r.4, r.5)))

module _ {K S : Type 0} (told : S → List Told → Type 0) (reads : K → IpAddr → Type 0) where
  -- a unit behind others isn't taken
  pub units-stop : (a b : Known) (x y z : SlavesOf K S) (front behind : List ℕ) (fault : CaptureReadFault)
      → TakesUnits told reads a b x y front → y.form ≡ x.form → y.port ≡ x.port → RefusesUnits told reads b y z behind fault
      → RefusesUnits told reads a x z (front ++ behind) fault
  units-stop a b x y z front behind fault units form port refuses first before packets stands taken =
      let m = units first before packets stands taken in
      or-memory (StopsWithin (AllTaken told reads first) (reads first) y.form y.port (before ++ front) behind z)
      (StopsWithin (AllTaken told reads first) (reads first) x.form x.port before (front ++ behind) z) fault
      (λ r. (
        front ++ r.0,
        r.1,
        ap (λ (bs : List ℕ). front ++ bs) r.2 ∙ sym (append_assoc front r.0 r.1),
        subst (λ (bs : List ℕ). StopsAt (AllTaken told reads first) (reads first) x.form x.port bs r.1 z fault) (append_assoc before front r.0)
            (subst (λ (n : ℕ). StopsAt (AllTaken told reads first) (reads first) x.form n ((before ++ front) ++ r.0) r.1 z fault) port
            (subst (λ (f : Form). StopsAt (AllTaken told reads first) (reads first) f y.port ((before ++ front) ++ r.0) r.1 z fault) form r.3)),
      ))
      (refuses first (before ++ front) m.0 m.1 m.2)
