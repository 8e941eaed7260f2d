use Rattle.std.proofs.Common.{◌≡◌, ◌+◌, ℕ, false, List, [], ◌∷◌, ◌++◌, drop, get_or, map, take, Vec, Global, sym, ap, ◌∙◌, subst, vec_items, arith}
use Rattle.std.proofs.lemmas.List.{map_more}
use Rattle.daq_store.specs.Replies.{reply_bytes}
use Rattle.daq_store.specs.Standing.{StoreState}
use Rattle.frame_writer.specs.Frame.{frame}
use Rattle.frame_writer.specs.Writing.{FailsWithin, WriterState, after_frame, state_of}
use Rattle.daq_run.specs.Setup.{CarriesAll, NeedsMemory}
use Rattle.daq_run.proofs.CarryLemmas.{carries_all-push, cause_of, map-at, replies-more, stands-push}
use Rattle.daq_run.proofs.setup.carry_all.Goals as goal

-- the bytes of a packet
abbrev bytes_in : Vec ℕ Global → List ℕ
bytes_in = vec_items {X = ℕ} {Z = Global}

-- the packets before this one stand carried out, and this one needs memory
pub returns-in_err-reply-clause-memory : goal.returns-in_err-reply-clause-memory
returns-in_err-reply-clause-memory g c = λ _.
    let i : ℕ = c.loop-packet.packet-index in
    let a = state_of g.O.Out c.args.writer.now in
    let b = state_of g.O.Out c.loop-packet.writer in
    let here : bytes_in (get_or c.args.packets.now i c.packet-item.result) ≡ c.deref.result.now =
    ap bytes_in (sym c.packet-item.is) ∙ sym c.deref.ensures.value in
    let whole = map-at bytes_in c.args.packets.now i c.packet-item.result c.loop-packet-test.true in
    let done : List (List ℕ) = map bytes_in (take i c.args.packets.now) in
    let P : StoreState → Type 0 = λ s. CarriesAll c.args.store.now s a b done in
    let Q : StoreState → Type 0 = λ s. NeedsMemory s c.deref.result.now in
    record {
      done = done;
      packet = c.deref.result.now;
      left = map bytes_in (drop (i + 1) c.args.packets.now);
      split = rw here at whole;
      carried = subst P (sym c.in_err-reply.ensures.unchanged) c.loop-packet.invariant.carried;
      needs = subst Q (sym c.in_err-reply.ensures.unchanged) c.in_err-reply.ensures.no_memory;
    }

-- this packet is carried out, and its reply isn't written
pub returns-in_err-send-clause-write : goal.returns-in_err-send-clause-write
returns-in_err-send-clause-write g c = λ _.
    let i : ℕ = c.loop-packet.packet-index in
    let s = c.args.store.now in
    let middle = c.loop-packet.store in
    let a = state_of g.O.Out c.args.writer.now in
    let b = state_of g.O.Out c.loop-packet.writer in
    let n = state_of g.O.Out c.send.new.self in
    let here : bytes_in (get_or c.args.packets.now i c.packet-item.result) ≡ c.deref.result.now =
    ap bytes_in (sym c.packet-item.is) ∙ sym c.deref.ensures.value in
    let whole = map-at bytes_in c.args.packets.now i c.packet-item.result c.loop-packet-test.true in
    let done : List (List ℕ) = map bytes_in (take i c.args.packets.now) in
    let packet : List ℕ = c.deref.result.now in
    let reply : List ℕ = reply_bytes c.in_ok-reply.reply in
    let carried : CarriesAll s middle a b done = c.loop-packet.invariant.carried in
    let was = c.loop-packet.invariant in
    let P : List ℕ → Type 0 = λ q. FailsWithin b n (frame b.counter q) in
    let sent_bytes : c.as_slice.result.now ≡ reply = c.as_slice.ensures.value ∙ c.bytes.ensures.bytes in
    let answered = replies-more s middle c.carry_packet.new.store done carried.sent packet c.in_ok-reply.reply carried.stands was.profile c.in_ok-reply.ensures.ok carried.answered in
    record {
      done = done;
      packet = packet;
      left = map bytes_in (drop (i + 1) c.args.packets.now);
      split = rw here at whole;
      stands = stands-push s middle c.carry_packet.new.store done packet c.in_ok-reply.reply carried.stands was.profile c.in_ok-reply.ensures.ok;
      cause = cause_of s a b n done carried.sent packet reply i c.in_err-send.field-0.0
          (λ h. subst P sent_bytes (c.in_err-send.ensures.failed h))
          (λ h. c.in_err-send.ensures.closed.0 h)
          (λ h. ap (state_of g.O.Out) (c.in_err-send.ensures.closed_keeps h))
          was.first was.open_after
          (λ none. ap (λ k. map bytes_in (take k c.args.packets.now)) none)
          carried.text answered;
    }

-- this packet is carried out and answered behind those before it
pub loop-packet-preserved : goal.loop-packet-preserved
loop-packet-preserved g c =
    let i : ℕ = c.loop-packet.packet-index in
    let s = c.args.store.now in
    let new = c.carry_packet.new.store in
    let a = state_of g.O.Out c.args.writer.now in
    let b = state_of g.O.Out c.loop-packet.writer in
    let n = state_of g.O.Out c.send.new.self in
    let reply : List ℕ = reply_bytes c.in_ok-reply.reply in
    let packet : List ℕ = c.deref.result.now in
    let done : List (List ℕ) = map bytes_in (take i c.args.packets.now) in
    let sent : n ≡ after_frame b reply =
    c.in_ok-send.ensures.ok ∙ ap (after_frame b) (c.as_slice.ensures.value ∙ c.bytes.ensures.bytes) in
    let is_open : b.closed ≡ false = sym (ap (λ (w : WriterState). w.closed) sent) ∙ c.in_ok-send.ensures.stays_open in
    let here : bytes_in (get_or c.args.packets.now i c.packet-item.result) ≡ packet =
    ap bytes_in (sym c.packet-item.is) ∙ sym c.deref.ensures.value in
    let more : map bytes_in (take (i + 1) c.args.packets.now) ≡ done ++ packet ∷ [] =
    map_more bytes_in c.args.packets.now i c.packet-item.result c.loop-packet-test.true ∙ ap (λ (q : List ℕ). done ++ q ∷ []) here in
    let carried : CarriesAll s new a (after_frame b reply) (done ++ packet ∷ []) =
    carries_all-push s c.loop-packet.store new a b done packet c.in_ok-reply.reply c.loop-packet.invariant.carried c.loop-packet.invariant.profile c.in_ok-reply.ensures.ok is_open in
    let P : List (List ℕ) → Type 0 = λ qs. CarriesAll s new a (after_frame b reply) qs in
    let Q : WriterState → Type 0 = λ w. CarriesAll s new a w (map bytes_in (take (i + 1) c.args.packets.now)) in
    record {
      carried = subst Q (sym sent) (subst P (sym more) carried);
      profile = c.in_ok-reply.ensures.profile_stays ∙ c.loop-packet.invariant.profile;
      first = λ none. absurd (omega arith);
      open_after = λ _. c.in_ok-send.ensures.stays_open;
    }
