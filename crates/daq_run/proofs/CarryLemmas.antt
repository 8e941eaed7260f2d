-- Command packets, one after another: one packet more, and the one at which it stops.
use Rattle.std.proofs.Common.{◌≡◌, ◌⊎◌, ◌+◌, ◌<◌, ℕ, zero, suc, true, false, List, [], ◌∷◌, ◌++◌, drop, get_or, length, map, take, Err, refl, sym, ap, ◌∙◌, subst, inl, inr, add-one, arith, length-append}
use Rattle.std.specs.Prelude.{IsErrOf}
use Rattle.daq_store.specs.declared.command.Command.{Command}
use Rattle.daq_store.specs.declared.reply.Reply.{Reply}
use Rattle.daq_store.specs.Calls.{Profile}
use Rattle.daq_store.specs.Replies.{calls_after_packet, calls_after_packets, packet_reply, reply_bytes}
use Rattle.daq_store.specs.Standing.{StoreStandsAfter, StoreState}
use Rattle.daq_store.proofs.ReplyLemmas.{calls_after_packets-push, replies-push}
use Rattle.frame_writer.specs.declared.writer.WriteFault.{WriteFault}
use Rattle.frame_writer.specs.declared.writer.WriteFault.TheVariants.{Failed, Closed}
use Rattle.frame_writer.specs.Frame.{frame}
use Rattle.frame_writer.specs.Writing.{AfterText, FailsWithin, WriterState, after_frame}
use Rattle.frame_writer.proofs.TextLemmas.{after_text-push}
use Rattle.daq_run.specs.Setup.{AnswersPacket, AreReplies, BreaksOffAt, CarriesAll, StandsAfterPackets, WasClosed}

-- the items, those before one and those behind it told apart
pub map-at : {A B : Type 0} (f : A → B) (xs : List A) (i : ℕ) (d : A) → i < length xs → map f xs ≡ map f (take i xs) ++ f (get_or xs i d) ∷ map f (drop (i + 1) xs)
map-at f [] i d h = absurd (omega arith)
map-at f (x ∷ xs) zero d h = refl
map-at f (x ∷ xs) (suc i) d h = rw add-one (ap (λ ys. f x ∷ ys) (rw add-one at (map-at f xs i d (omega arith))))

-- the calls that one packet more leaves
pub stands-push : (s mid t : StoreState) (packets : List (List ℕ)) (packet : List ℕ) (reply : Reply)
    → StandsAfterPackets s mid packets → mid.profile ≡ s.profile → AnswersPacket mid t packet reply
    → StandsAfterPackets s t (packets ++ packet ∷ [])
stands-push s mid t packets packet reply stands profile answers = λ calls h.
    let before : List Command = calls_after_packets s.profile calls packets in
    let P : Profile → Type 0 = λ p. StoreStandsAfter t (calls_after_packet p before packet) in
    let Q : List Command → Type 0 = λ cs. StoreStandsAfter t cs in
    subst Q (sym (calls_after_packets-push s.profile calls packets packet)) (subst P profile (answers before (stands calls h)).1)

-- the reply to one packet more
pub replies-more : (s mid t : StoreState) (packets sent : List (List ℕ)) (packet : List ℕ) (reply : Reply)
    → StandsAfterPackets s mid packets → mid.profile ≡ s.profile → AnswersPacket mid t packet reply → AreReplies s packets sent
    → AreReplies s (packets ++ packet ∷ []) (sent ++ reply_bytes reply ∷ [])
replies-more s mid t packets sent packet reply stands profile answers are = record {
  one_each = omega (arith, are.one_each, length-append sent (reply_bytes reply ∷ []), length-append packets (packet ∷ []));
  each = λ calls h.
      let before : List Command = calls_after_packets s.profile calls packets in
      let P : Profile → Type 0 = λ p. reply ≡ packet_reply p before packet in
      let same : reply ≡ packet_reply s.profile before packet = subst P profile (answers before (stands calls h)).0 in
      ap (λ (r : Reply). sent ++ reply_bytes r ∷ []) same
      ∙ ap (λ (xs : List (List ℕ)). xs ++ reply_bytes (packet_reply s.profile before packet) ∷ []) (are.each calls h)
      ∙ sym (replies-push s.profile calls packets packet);
}

-- one packet more was carried out and answered
pub carries_all-push : (s mid t : StoreState) (a b : WriterState) (packets : List (List ℕ)) (packet : List ℕ) (reply : Reply)
    → CarriesAll s mid a b packets → mid.profile ≡ s.profile → AnswersPacket mid t packet reply → b.closed ≡ false
    → CarriesAll s t a (after_frame b (reply_bytes reply)) (packets ++ packet ∷ [])
carries_all-push s mid t a b packets packet reply carried profile answers is_open = record {
  stands = stands-push s mid t packets packet reply carried.stands profile answers;
  sent = carried.sent ++ reply_bytes reply ∷ [];
  answered = replies-more s mid t packets carried.sent packet reply carried.stands profile answers carried.answered;
  text = after_text-push a b carried.sent (reply_bytes reply) carried.text;
  was_open = λ _. sym carried.text.closed ∙ is_open;
}

-- a reply is not written where the frame writer was closed from the start, or within its frame
pub cause_of : {T : Type 0} (s : StoreState) (a b n : WriterState) (done sent : List (List ℕ)) (packet reply : List ℕ) (i : ℕ) (fault : WriteFault)
    → (IsErrOf {T = T} (Err fault) Failed → FailsWithin b n (frame b.counter reply))
    → (IsErrOf {T = T} (Err fault) Closed → b.closed ≡ true) → (IsErrOf {T = T} (Err fault) Closed → n ≡ b)
    → (i ≡ 0 → b ≡ a) → (0 < i → b.closed ≡ false) → (i ≡ 0 → done ≡ [])
    → AfterText a b sent → AreReplies s (done ++ packet ∷ []) (sent ++ reply ∷ [])
    → WasClosed a n done ⊎ BreaksOffAt s a n done packet
cause_of s a b n done sent packet reply i Failed failed closed keeps first open_after empty text answered =
    inr (record { sent = sent; reply = reply; answered = answered; middle = b; text = text; torn = failed refl })
cause_of s a b n done sent packet reply zero Closed failed closed keeps first open_after empty text answered =
    let P : WriterState → Type 0 = λ w. w.closed ≡ true in
    inl (record { first = empty refl; closed = subst P (first refl) (closed refl); same = keeps refl ∙ first refl })
cause_of s a b n done sent packet reply (suc i) Closed failed closed keeps first open_after empty text answered =
    let shut : b.closed ≡ true = closed refl in
    let is_open : b.closed ≡ false = open_after (omega arith) in
    absurd (cc (shut, is_open))
