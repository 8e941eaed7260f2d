use Rattle.session.specs.Standing.{given_by}
use Rattle.std.proofs.Common.{◌∙◌, ℕ, [], ◌∷◌, take as first, subst}
use Rattle.std.specs.Prelude.{Option}
use Rattle.arrayvec.specs.ArrayVec.{ArrayVec}
use Rattle.frame_writer.specs.Reading.{Leads, packet_list}
use Rattle.slave.specs.Hearing.{Hears}
use Rattle.slave.proofs.ReceivingLemmas.{no-packet, one-packet}
use Rattle.slave.proofs.stream.MasterStream.step.Goals as goal

-- no frame ends
pub returns-in_default-clause-ok : goal.returns-in_default-clause-ok
returns-in_default-clause-ok c =
    let bytes = first c.in_ok-taken.field-0.taken c.args.bytes.now in
    let P : Option (ArrayVec ℕ) → Type 0 = λ given. Leads c.self.inside.reader c.feed.new.self bytes (packet_list given) in
    no-packet c.args.self.now c.feed.new.self c.args.slave.now (given_by c.args.clock c.args.memory.now) bytes
    (subst (λ r. Leads r c.feed.new.self bytes []) c.self.view_is (subst P c.in_default.is c.in_ok-taken.ensures.ok))

-- a frame ends, whose packet is heard
pub returns-clause-ok : goal.returns-clause-ok
returns-clause-ok c =
    let bytes = first c.in_ok-taken.field-0.taken c.args.bytes.now in
    let packet = c.in-Some.packet.items in
    let P : Option (ArrayVec ℕ) → Type 0 = λ given. Leads c.self.inside.reader c.feed.new.self bytes (packet_list given) in
    one-packet c.args.self.now c.feed.new.self c.args.slave.now c.hear.new.self (given_by c.args.clock c.args.memory.now) bytes packet
    (subst (λ r. Leads r c.feed.new.self bytes (packet ∷ [])) c.self.view_is (subst P c.in-Some.is c.in_ok-taken.ensures.ok))
    (subst (λ p. Hears c.args.slave.now c.hear.new.self p (given_by c.args.clock c.args.memory.now)) c.as_slice.ensures.value (c.hear.ensures.heard (c.hear.ensures.room ∙ c.requires.room)))
    (c.hear.ensures.counts (c.hear.ensures.room ∙ c.requires.room)) c.hear.ensures.next_stays c.hear.ensures.shown_stays c.hear.ensures.profile_stays
