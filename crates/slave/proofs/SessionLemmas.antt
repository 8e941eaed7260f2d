-- The law of a slave's log.
use Rattle.std.proofs.Common.{◌≡◌, ℕ, Bool, true, false, ◌&&◌, ◌||◌, nat_eq, if◌then◌else◌, List, [], ◌∷◌, ◌++◌, refl, sym, ap, ◌∙◌, subst, arith, inl, inr}
use Rattle.std.specs.Prelude.{filter, flat_map, Option, Some, None, Err}
use Rattle.std.specs.List.{AllByRecursion}
use Rattle.std.proofs.lemmas.Bool.{false≢true}
use Rattle.std.proofs.lemmas.List.Elements.{All-from_recursion, All-weaker, recursion_from_All}
use Rattle.std.proofs.lemmas.List.Sums.{sum_by-cons}
use Rattle.xcp_base.specs.Samples.{SampleParts}
use Rattle.xcp_base.specs.declared.item.Item.TheVariants.{Marker, Sample}
use Rattle.session.specs.Exchanges.{reply_in}
use Rattle.session.specs.Fields.{begins_reply, packet_of}
use Rattle.session.specs.Profiles.{IsProfile}
use Rattle.session.specs.declared.profile.Profile.{Profile}
use Rattle.sampler.specs.Past.{Past as SamplerPast}
use Rattle.channel_ring.specs.Making.{ArePackets, IsPacket}
use Rattle.daq_engine.proofs.PidLemmas.{all-append, all-mono}
use Rattle.slave_outbox.specs.Deeds.{passed, passes}
use Rattle.slave_outbox.proofs.AccountLemmas.{line-stands}
use Rattle.slave_outbox.specs.Outboxes.{Laid, packets_in, together}
use Rattle.slave_outbox.specs.Origins.{is_reply}
use Rattle.slave_outbox.specs.declared.origin.Origin.{Origin}
use Rattle.slave_outbox.specs.declared.origin.Origin.TheVariants as origin
use Rattle.frame_writer.proofs.SplitLemmas.{split_of_text}
use Rattle.frame_writer.specs.Split.{Fits}
use Rattle.slave_channels.specs.Accounts.{Entry, accepted_of, dropped_of, due_of, written_of}
use Rattle.slave.specs.Log.{Act, CameBack, Discarded, Heard, HungUp, Opened, Refused, Sent, Took, deeds_of, entries_of, is_back, is_of_ring, laid, laid_by, past_of, reply_laid, sample_laid, sent_laid}
use Rattle.slave.specs.Session.{AddsUp, AddsUpIn, BeginsOtherwise, IsKnown, IsTold, SessionLaw, answers_in, from_ring, left_of, packets_sent, replies_of, sample_of}
use Rattle.slave.specs.Standing.{ComesBack, IsLog}
use Rattle.slave.proofs.ChangeLemmas.{change-accepted}
use Rattle.slave.proofs.DisguiseLemmas.{HasPackets, IsDaq, taken-daq}
use Rattle.slave.proofs.KnownLemmas.{all-known}
use Rattle.slave.proofs.LaidLemmas.{all-parts, answers-laid, answers-sent, both-same, each-once, in-order, is-answered, is-bool, is-since, ends-written, log-behind, no-more, sent-are, sent-in-order, unsent-noted, written-laid}
use Rattle.session.proofs.FitLemmas.{IfReply, IsReply, refusal-is, reply-is}
use Rattle.slave.proofs.ReplyLemmas.{reply-fits}
use Rattle.slave.proofs.RunLemmas.{here}
use Rattle.slave.proofs.StopLemmas.{stop-holds}
use Rattle.slave.proofs.TogetherLemmas.{all-packets}
use Rattle.slave.proofs.WithinLemmas.{silent, within}

-- what came back, came back at an act
record BackAt (m c : ℕ) (log : List Act) : Type 0 where
  later : List Act
  past : SamplerPast
  earlier : List Act
  log_is : log ≡ later ++ CameBack m c past ∷ earlier

back-behind : (m c : ℕ) (act : Act) (log : List Act) → BackAt m c log → BackAt m c (act ∷ log)
back-behind m c act log at = record { later = act ∷ at.later; past = at.past; earlier = at.earlier; log_is = ap (λ xs. act ∷ xs) at.log_is }

back-at : (m c : ℕ) (log : List Act) → is_back m c log ≡ true → BackAt m c log
back-at m c [] is = absurd (false≢true is)
back-at m c (Heard x ∷ log) is = back-behind m c (Heard x) log (back-at m c log is)
back-at m c (Refused packet code ∷ log) is = back-behind m c (Refused packet code) log (back-at m c log is)
back-at m c (Opened at ∷ log) is = back-behind m c (Opened at) log (back-at m c log is)
back-at m c (Took n k x ∷ log) is = back-behind m c (Took n k x) log (back-at m c log is)
back-at m c (CameBack n k past ∷ log) is =
    elim (is-bool (nat_eq n m && nat_eq k c)) [
      | inl this ↦
          let (same, also) = both-same n m k c this in
          record { later = []; past = past; earlier = log; log_is = ap (λ x. CameBack x k past ∷ log) same ∙ ap (λ y. CameBack m y past ∷ log) also }
      | inr other ↦ back-behind m c (CameBack n k past) log (back-at m c log (sym (ap (λ b. b || is_back m c log) other) ∙ is))
    ]
back-at m c (Sent n ∷ log) is = back-behind m c (Sent n) log (back-at m c log is)
back-at m c (HungUp ∷ log) is = back-behind m c HungUp log (back-at m c log is)
back-at m c (Discarded ∷ log) is = back-behind m c Discarded log (back-at m c log is)

and-both : (a b : Bool) → a ≡ true → b ≡ true → (a && b) ≡ true
and-both true b x y = y
and-both false b x y = x

or-left : (a b : Bool) → a ≡ true → (a || b) ≡ true
or-left true b x = refl
or-left false b x = absurd (false≢true x)

-- what was laid out of its ring is what passed till then
written-back : (d : Profile) (log : List Act) → IsLog d log → (m c : ℕ) (past : SamplerPast) (later earlier : List Act) → log ≡ later ++ CameBack m c past ∷ earlier
    → from_ring m c (laid d log) ≡ flat_map (sample_of m c) (passed (deeds_of d m c earlier))
written-back d log is m c past later earlier split =
    let back : is_back m c (CameBack m c past ∷ earlier) ≡ true = or-left (nat_eq m m && nat_eq c c) (is_back m c earlier) (and-both (nat_eq m m) (nat_eq c c) (here m m refl) (here c c refl)) in
    ap (λ xs. from_ring m c (laid d xs)) split
    ∙ no-more d m c later (CameBack m c past ∷ earlier) (subst (IsLog d) split is) back
    ∙ written-laid d m c (CameBack m c past ∷ earlier)

comes-back : (d : Profile) (log : List Act) → IsLog d log → (m c : ℕ) (past : SamplerPast) (later earlier : List Act) → log ≡ later ++ CameBack m c past ∷ earlier → ComesBack d earlier m c past
comes-back d log is m c past later earlier split = (log-behind d later (CameBack m c past ∷ earlier) (subst (IsLog d) split is)).0

-- the numbers of a part, and of all parts
adds-up : (d : Profile) (log : List Act) (m c : ℕ) (past : SamplerPast) → ComesBack d log m c past → (l : ℕ) → AddsUp (record { number = m; past = past; deeds = deeds_of d m c log }) l
adds-up d log m c past comes l =
    let stands = line-stands past (deeds_of d m c log) l comes.plans comes.decided comes.front in
    record {
      all_due = omega (arith, stands.due_is, stands.dropped, stands.left, stands.adds_up, stands.written);
      accepted = omega (arith, stands.left);
    }

pub part-laid : (d : Profile) (log : List Act) → IsLog d log → (m c : ℕ) (past : SamplerPast) (later earlier : List Act) → log ≡ later ++ CameBack m c past ∷ earlier → IsTold d log m c past earlier
part-laid d log is m c past later earlier split =
    let comes = comes-back d log is m c past later earlier split in
    record {
      once = comes.once;
      front = comes.front;
      written = written-back d log is m c past later earlier split;
      marks = comes.marks;
      adds_up = adds-up d earlier m c past comes;
    }

add-up-more : (e : Entry) (entries : List Entry) (l : ℕ) → AddsUp e l → AddsUpIn entries l → AddsUpIn (e ∷ entries) l
add-up-more e entries l one all =
    let due = sum_by-cons (λ x. due_of x l) e entries in
    let dropped = sum_by-cons (λ x. dropped_of x l) e entries in
    let accepted = sum_by-cons (λ x. accepted_of x l) e entries in
    let written = sum_by-cons (λ x. written_of x l) e entries in
    let left = sum_by-cons (λ x. left_of x l) e entries in
    record {
      all_due = omega (arith, one.all_due, all.all_due, due, dropped, written, left);
      accepted = omega (arith, one.accepted, all.accepted, accepted, written, left);
    }

add-up-all : (d : Profile) (log : List Act) → IsLog d log → (l : ℕ) → AddsUpIn (entries_of d log) l
add-up-all d [] is l = record { all_due = refl; accepted = refl }
add-up-all d (Heard x ∷ log) is l = add-up-all d log is.2 l
add-up-all d (Refused packet code ∷ log) is l = add-up-all d log is.2 l
add-up-all d (Opened at ∷ log) is l = add-up-all d log is.1 l
add-up-all d (Took m c x ∷ log) is l = add-up-all d log is.2 l
add-up-all d (CameBack m c past ∷ log) is l = add-up-more (record { number = m; past = past; deeds = deeds_of d m c log }) (entries_of d log) l (adds-up d log m c past is.0 l) (add-up-all d log is.1 l)
add-up-all d (Sent n ∷ log) is l = add-up-all d log is.1 l
add-up-all d (HungUp ∷ log) is l = add-up-all d log is l
add-up-all d (Discarded ∷ log) is l = add-up-all d log is l

-- the packet that was laid out
abbrev OfPacket : (List ℕ → Type 0) → Laid → Type 0
OfPacket P x = P x.packet

-- of a ring whose sampler came back each is that of a sample
samples-daq : (m c : ℕ) (ss : List SampleParts) → AllByRecursion HasPackets ss → AllByRecursion (OfPacket IsDaq) (flat_map (sample_of m c) ss)
samples-daq m c [] all = tt
samples-daq m c (s ∷ ss) all =
    all-append (OfPacket IsDaq) (sample_of m c s) (flat_map (sample_of m c) ss) (all-packets IsDaq (origin.Sample m c s.list) s.packets all.0) (samples-daq m c ss all.1)

ring-daq : (d : Profile) (log : List Act) → IsLog d log → (m c : ℕ) → is_back m c log ≡ true → AllByRecursion (OfPacket IsDaq) (from_ring m c (laid d log))
ring-daq d log is m c back =
    let at = back-at m c log back in
    let comes = comes-back d log is m c at.past at.later at.earlier at.log_is in
    subst (AllByRecursion (OfPacket IsDaq)) (sym (written-back d log is m c at.past at.later at.earlier at.log_is))
    (samples-daq m c (passed (deeds_of d m c at.earlier)) (taken-daq at.past (deeds_of d m c at.earlier) comes.plans comes.front))

of-filter : {X : Type 0} (p : X → Bool) (P : X → Type 0) (xs : List X) → AllByRecursion P (filter p xs) → AllByRecursion (λ x. p x ≡ true → P x) xs
of-filter p P [] all = tt
of-filter p P (x ∷ xs) all =
    elim (is-bool (p x)) [
      | inl is ↦ let both = subst (λ b. AllByRecursion P (if b then x ∷ filter p xs else filter p xs)) is all in (λ h. both.0, of-filter p P xs both.1)
      | inr isnt ↦ (λ h. absurd (false≢true (sym isnt ∙ h)), of-filter p P xs (subst (λ b. AllByRecursion P (if b then x ∷ filter p xs else filter p xs)) isnt all))
    ]

-- what holds of each ring that is known holds of all that is known
abbrev OfKnown : List Act → (Laid → Type 0) → Laid → Type 0
OfKnown log Q x = is_reply x.origin ≡ false → IsKnown log x.origin → Q x

of-origin : (log : List Act) (Q : Type 0) (o : Origin) → ((m c : ℕ) → is_back m c log ≡ true → is_of_ring m c o ≡ true → Q) → is_reply o ≡ false → IsKnown log o → Q
of-origin log Q origin.Reply each no_reply known = absurd (false≢true (sym no_reply))
of-origin log Q (origin.Sample m c l) each no_reply known = each m c known (and-both (nat_eq m m) (nat_eq c c) (here m m refl) (here c c refl))

of-rings : (log : List Act) (Q : Laid → Type 0) (xs : List Laid) → ((m c : ℕ) → is_back m c log ≡ true → AllByRecursion (λ (x : Laid). is_of_ring m c x.origin ≡ true → Q x) xs) → AllByRecursion (OfKnown log Q) xs
of-rings log Q [] each = tt
of-rings log Q (x ∷ xs) each = (of-origin log (Q x) x.origin (λ m c back. (each m c back).0), of-rings log Q xs (λ m c back. (each m c back).1))

known-daq : (d : Profile) (log : List Act) → IsLog d log → AllByRecursion (OfKnown log (OfPacket IsDaq)) (laid d log)
known-daq d log is =
    of-rings log (OfPacket IsDaq) (laid d log)
    (λ m c back. of-filter (λ (x : Laid). is_of_ring m c x.origin) (OfPacket IsDaq) (laid d log) (ring-daq d log is m c back))

-- each answer is a reply
abbrev OfAnswer : (Laid → Type 0) → Laid → Type 0
OfAnswer Q x = is_reply x.origin ≡ true → Q x

reply-one : (P : List ℕ → Type 0) (reply : Option (List ℕ)) → IfReply P reply → AllByRecursion (OfAnswer (OfPacket P)) (reply_laid reply)
reply-one P None is = tt
reply-one P (Some q) is = (λ h. is, tt)

sample-one : (P : List ℕ → Type 0) (m c : ℕ) (b : Bool) (s : SampleParts) → AllByRecursion (OfAnswer (OfPacket P)) (sample_laid b m c s)
sample-one P m c false s = tt
sample-one P m c true s = no-answers s.packets where
  no-answers : (qs : List (List ℕ)) → AllByRecursion (OfAnswer (OfPacket P)) (together (origin.Sample m c s.list) qs)
  no-answers [] = tt
  no-answers (q ∷ qs) = (λ h. absurd (false≢true h), no-answers qs)

by-reply : (d : Profile) (act : Act) (log : List Act) → AllByRecursion (OfAnswer (OfPacket (IsReply d))) (laid_by d act log)
by-reply d (Heard x) log = reply-one (IsReply d) (reply_in d (past_of d log) x) (reply-is d (past_of d log) x)
by-reply d (Refused packet code) log = reply-one (IsReply d) (Some (packet_of (Err code))) (refusal-is d code)
by-reply d (Opened at) log = tt
by-reply d (Took m c (Sample s)) log = sample-one (IsReply d) m c (passes (deeds_of d m c log) s.list) s
by-reply d (Took m c (Marker k)) log = tt
by-reply d (CameBack m c past) log = tt
by-reply d (Sent n) log = tt
by-reply d HungUp log = tt
by-reply d Discarded log = tt

answers-reply : (d : Profile) (log : List Act) → AllByRecursion (OfAnswer (OfPacket (IsReply d))) (laid d log)
answers-reply d [] = tt
answers-reply d (act ∷ log) = all-append (OfAnswer (OfPacket (IsReply d))) (laid d log) (laid_by d act log) (answers-reply d log) (by-reply d act log)

-- so each of them is one or the other
abbrev IsEither : Profile → List Act → Laid → Type 0
IsEither d log x = OfAnswer (OfPacket (IsReply d)) x × OfKnown log (OfPacket IsDaq) x

both-all : {X : Type 0} (P Q : X → Type 0) (xs : List X) → AllByRecursion P xs → AllByRecursion Q xs → AllByRecursion (λ x. P x × Q x) xs
both-all P Q [] a b = tt
both-all P Q (x ∷ xs) a b = ((a.0, b.0), both-all P Q xs a.1 b.1)

either-all : (d : Profile) (log : List Act) → IsLog d log → AllByRecursion (IsEither d log) (laid d log)
either-all d log is = both-all (OfAnswer (OfPacket (IsReply d))) (OfKnown log (OfPacket IsDaq)) (laid d log) (answers-reply d log) (known-daq d log is)

-- the packets that begin so are those of the answers
apart-all : (d : Profile) (log : List Act) (xs : List Laid) → AllByRecursion (IsEither d log) xs → AllByRecursion (λ (x : Laid). IsKnown log x.origin) xs
    → filter begins_reply (packets_in xs) ≡ packets_in (answers_in xs)
apart-all d log [] is known = refl
apart-all d log (x ∷ xs) is known =
    let more = apart-all d log xs is.1 known.1 in
    let begin : List (List ℕ) = filter begins_reply (packets_in xs) in
    elim (is-bool (is_reply x.origin)) [
      | inl answer ↦
          ap (λ b. if b then x.packet ∷ begin else begin) (is.0.0 answer).0
          ∙ ap (λ qs. x.packet ∷ qs) more
          ∙ sym (ap (λ b. packets_in (if b then x ∷ answers_in xs else answers_in xs)) answer)
      | inr other ↦
          ap (λ b. if b then x.packet ∷ begin else begin) (is.0.1 other known.0).0
          ∙ more
          ∙ sym (ap (λ b. packets_in (if b then x ∷ answers_in xs else answers_in xs)) other)
    ]

-- each packet finds room in a frame
abbrev OfRing : (Laid → Type 0) → Laid → Type 0
OfRing Q x = is_reply x.origin ≡ false → Q x

sample-fits : (m c : ℕ) (b : Bool) (s : SampleParts) → (b ≡ true → ArePackets s.packets) → AllByRecursion (OfRing (OfPacket Fits)) (sample_laid b m c s)
sample-fits m c false s are = tt
sample-fits m c true s are =
    all-mono (OfPacket Fits) (OfRing (OfPacket Fits)) (sample_of m c s) (λ x fits ring. fits)
    (all-packets Fits (origin.Sample m c s.list) s.packets
    (recursion_from_All Fits s.packets (All-weaker IsPacket Fits (λ q is. (is.some, omega (arith, is.fits))) s.packets (are refl).each)))

reply-no-fit : (reply : Option (List ℕ)) → AllByRecursion (OfRing (OfPacket Fits)) (reply_laid reply)
reply-no-fit None = tt
reply-no-fit (Some packet) = (λ h. absurd (false≢true (sym h)), tt)

rings-fit : (d : Profile) (log : List Act) → IsLog d log → AllByRecursion (OfRing (OfPacket Fits)) (laid d log)
rings-fit d [] is = tt
rings-fit d (Heard x ∷ log) is = all-append (OfRing (OfPacket Fits)) (laid d log) (laid_by d (Heard x) log) (rings-fit d log is.2) (reply-no-fit (reply_in d (past_of d log) x))
rings-fit d (Refused packet code ∷ log) is = all-append (OfRing (OfPacket Fits)) (laid d log) (laid_by d (Refused packet code) log) (rings-fit d log is.2) (reply-no-fit (Some (packet_of (Err code))))
rings-fit d (Opened at ∷ log) is = all-append (OfRing (OfPacket Fits)) (laid d log) [] (rings-fit d log is.1) tt
rings-fit d (Took m c (Sample s) ∷ log) is =
    all-append (OfRing (OfPacket Fits)) (laid d log) (laid_by d (Took m c (Sample s)) log) (rings-fit d log is.2) (sample-fits m c (passes (deeds_of d m c log) s.list) s is.1.packets)
rings-fit d (Took m c (Marker k) ∷ log) is = all-append (OfRing (OfPacket Fits)) (laid d log) [] (rings-fit d log is.2) tt
rings-fit d (CameBack m c past ∷ log) is = all-append (OfRing (OfPacket Fits)) (laid d log) [] (rings-fit d log is.1) tt
rings-fit d (Sent n ∷ log) is = all-append (OfRing (OfPacket Fits)) (laid d log) [] (rings-fit d log is.1) tt
rings-fit d (HungUp ∷ log) is = all-append (OfRing (OfPacket Fits)) (laid d log) [] (rings-fit d log is) tt
rings-fit d (Discarded ∷ log) is = all-append (OfRing (OfPacket Fits)) (laid d log) [] (rings-fit d log is) tt

fits-one : (d : Profile) (x : Laid) → IsProfile d → OfAnswer (OfPacket (IsReply d)) x → OfRing (OfPacket Fits) x → Fits x.packet
fits-one d x profile reply ring =
    elim (is-bool (is_reply x.origin)) [
      | inl answer ↦ reply-fits d x.packet profile (reply answer)
      | inr other ↦ ring other
    ]

laid-fits : (d : Profile) (xs : List Laid) → IsProfile d → AllByRecursion (OfAnswer (OfPacket (IsReply d))) xs → AllByRecursion (OfRing (OfPacket Fits)) xs → AllByRecursion (OfPacket Fits) xs
laid-fits d [] profile reply ring = tt
laid-fits d (x ∷ xs) profile reply ring = (fits-one d x profile reply.0 ring.0, laid-fits d xs profile reply.1 ring.1)

packets-fit : (xs : List Laid) → AllByRecursion (OfPacket Fits) xs → AllByRecursion Fits (packets_in xs)
packets-fit [] all = tt
packets-fit (x ∷ xs) all = (all.0, packets-fit xs all.1)

pub sent-fits : (d : Profile) (log : List Act) → IsLog d log → IsProfile d → AllByRecursion Fits (packets_sent d log)
sent-fits d log is profile =
    packets-fit (sent_laid d log) (all-parts (OfPacket Fits) d log (laid-fits d (laid d log) profile (answers-reply d log) (rings-fit d log is))).0

-- each reply begins so
answer-begins : (d : Profile) (xs : List Laid) → AllByRecursion (OfAnswer (OfPacket (IsReply d))) xs → AllByRecursion (λ q. begins_reply q ≡ true) (packets_in (answers_in xs))
answer-begins d [] all = tt
answer-begins d (x ∷ xs) all =
    let more = answer-begins d xs all.1 in
    elim (is-bool (is_reply x.origin)) [
      | inl answer ↦
          subst (λ b. AllByRecursion (λ q. begins_reply q ≡ true) (packets_in (if b then x ∷ answers_in xs else answers_in xs))) (sym answer) ((all.0 answer).0, more)
      | inr other ↦
          subst (λ b. AllByRecursion (λ q. begins_reply q ≡ true) (packets_in (if b then x ∷ answers_in xs else answers_in xs))) (sym other) more
    ]

no-disguise : (log : List Act) (x : Laid) → OfKnown log (OfPacket IsDaq) x → BeginsOtherwise log x
no-disguise log x is = λ other known. (is other known).0

pub session-law : (d : Profile) (log : List Act) → IsLog d log → SessionLaw d log
session-law d log is =
    let either = (all-parts (IsEither d log) d log (either-all d log is)).0 in
    let Known : Laid → Type 0 = λ x. IsKnown log x.origin in
    record {
      in_order = in-order d log;
      sent_in_order = sent-in-order d log;
      sent_are = sent-are d log;
      each = λ test. each-once d test log;
      since = is-since d log;
      unsent = λ m c l. unsent-noted d m c l log;
      written = ends-written d log is;
      known = all-known d log is;
      frames = λ profile. split_of_text 0 (packets_sent d log) (All-from_recursion Fits (packets_sent d log) (sent-fits d log is profile));
      answers = answers-laid d log;
      answers_sent = answers-sent d log;
      answered = is-answered d log;
      begins = All-from_recursion (λ q. begins_reply q ≡ true) (replies_of d log) (subst (AllByRecursion (λ q. begins_reply q ≡ true)) (answers-laid d log) (answer-begins d (laid d log) (answers-reply d log)));
      no_disguise = All-from_recursion (BeginsOtherwise log) (laid d log) (all-mono (OfKnown log (OfPacket IsDaq)) (BeginsOtherwise log) (laid d log) (no-disguise log) (known-daq d log is));
      told_apart = λ known. apart-all d log (sent_laid d log) either (recursion_from_All Known (sent_laid d log) known);
      changes = λ act l later earlier split other. change-accepted d act earlier l other;
      stops = λ x l later earlier split asks positive. stop-holds d (past_of d earlier) x l asks positive;
      within = within d log is;
      silent = silent d log is;
      rings = λ m c. written-laid d m c log;
      parts = part-laid d log is;
      adds_up = add-up-all d log is;
    }
