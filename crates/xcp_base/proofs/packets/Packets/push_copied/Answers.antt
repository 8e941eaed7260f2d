use Rattle.std.proofs.Common.{◌≡◌, ◌+◌, ◌<◌, ℕ, List, [], ◌∷◌, ◌++◌, length, arith, ap, ◌∙◌, sym, length-append}
use Rattle.std.specs.Prelude.{All}
use Rattle.std.proofs.lemmas.List.Elements.{All-append, All-from_get_or, All-push}
use Rattle.xcp_base.specs.Packets.{IsPacket}
use Rattle.xcp_base.specs.Bodies.{body_of, packets_of_body}
use Rattle.xcp_base.specs.Copied.{copied_from, copied_packet}
use Rattle.xcp_base.proofs.PacketsLemmas.{body_of-push, length-body_of, packets_of_body-push}
use Rattle.xcp_base.proofs.packets.Packets.push_copied.Goals as goal

-- at most seven packets are there, each with its length at most 65 bytes
pub extend_by_packet-requires-clause-room : goal.extend_by_packet-requires-clause-room
extend_by_packet-requires-clause-room c =
    omega (arith, c.requires.fits, ap length c.self.invariant.body, length-body_of (packets_of_body c.self.inside.count c.self.inside.body) c.self.invariant.each)

-- the new body reads as the old packets and this one
pub invariant_of-self : goal.invariant_of-self
invariant_of-self c =
    let i = c.self.invariant in
    let qs : List (List ℕ) = packets_of_body c.self.inside.count c.self.inside.body in
    let rest : List ℕ = copied_from c.args.memory c.args.stretches.now c.args.offsets.now in
    let q : List ℕ = copied_packet c.args.field.now c.args.stamp.now c.args.memory c.args.stretches.now c.args.offsets.now in
    let e : packets_of_body (c.self.inside.count + 1) c.extend_by_packet.new.self ≡ qs ++ q ∷ [] =
    packets_of_body-push c.self.inside.body c.extend_by_packet.new.self c.self.inside.count q i.body i.count c.extend_by_packet.ensures.value in
    let P : ℕ → Type 0 = λ b. b < 256 in
    let field_small : All P c.args.field.now = All-from_get_or P c.args.field.now 0 (λ k h. (c.type_inv.field k).fits) in
    let stamp_small : All P c.args.stamp.now = All-from_get_or P c.args.stamp.now 0 (λ k h. (c.type_inv.stamp k).fits) in
    let packet : IsPacket q = record {
      some = omega (arith, c.requires.not_empty, length-append c.args.field.now (c.args.stamp.now ++ rest));
      fits = c.requires.fits;
      bytes = All-append P c.args.field.now (c.args.stamp.now ++ rest) field_small (All-append P c.args.stamp.now rest stamp_small c.extend_by_packet.ensures.each);
    } in
    record {
      body = c.extend_by_packet.ensures.value ∙ ap (λ b. b ++ length q ∷ q) i.body ∙ sym (body_of-push qs q) ∙ ap body_of (sym e);
      count = rw e (omega (arith, length-append qs (q ∷ []), i.count));
      room = omega arith;
      each = rw e (All-push IsPacket qs q i.each packet);
    }

pub returns-clause-ok : goal.returns-clause-ok
returns-clause-ok c =
    let q : List ℕ = copied_packet c.args.field.now c.args.stamp.now c.args.memory c.args.stretches.now c.args.offsets.now in
    packets_of_body-push c.self.inside.body c.extend_by_packet.new.self c.self.inside.count q c.self.invariant.body c.self.invariant.count c.extend_by_packet.ensures.value
    ∙ ap (λ qs. qs ++ q ∷ []) c.self.view_is
