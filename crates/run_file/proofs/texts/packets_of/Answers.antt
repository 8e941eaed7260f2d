use Rattle.std.proofs.Common.{◌≡◌, ◌++◌, ◌∷◌, [], length, map, None, Some, option_map, vec_items, refl, sym, ap, ◌∙◌, rules, inr}
use Rattle.run_file.specs.RunFile.{IsPacketText}
use Rattle.run_file.specs.StepOf.{packet_of}
use Rattle.run_file.specs.Inner.{text_in}
use Rattle.run_file.proofs.ReadLemmas.{first_bad, length-map-any, map-push, read_more}
use Rattle.run_file.proofs.RunLemmas.{no_packet, packet_read}
use Rattle.run_file.proofs.texts.packets_of.Goals as goal

-- the text is that of no packet, and its place is how many were read
pub returns-in_default-read-clause-err : goal.returns-in_default-read-clause-err
returns-in_default-read-clause-err c =
    let read : None ≡ packet_of (text_in c.value-item.result) =
    ap (option_map vec_items) (sym c.in_default-read.is) ∙ c.in-Ok-packet_of.ensures ∙ ap packet_of c.text_in.ensures in
    let count : c.len.result ≡ length c.loop-value.packets.items = search (rules, c.len.ensures) in
    let size = count ∙ sym (length-map-any vec_items c.loop-value.packets.items) in
    inr (
      c.len.result,
      refl,
      first_bad IsPacketText text_in c.args.values.now c.loop-value.value-index c.value-item.result
          (map vec_items c.loop-value.packets.items) c.len.result size c.loop-value-test.true c.value-item.is c.loop-value.invariant
          (no_packet (text_in c.value-item.result) (sym read)),
    )

-- one more packet was read
pub loop-value-preserved : goal.loop-value-preserved
loop-value-preserved c =
    let read : Some (vec_items c.in-Some.packet) ≡ packet_of (text_in c.value-item.result) =
    ap (option_map vec_items) (sym c.in-Some.is) ∙ c.in-Ok-packet_of.ensures ∙ ap packet_of c.text_in.ensures in
    let pushed : c.push.new.self.items ≡ c.loop-value.packets.items ++ c.in-Some.packet ∷ [] = search (rules, c.push.ensures.items) in
    let at_end = ap (map vec_items) pushed ∙ map-push vec_items c.loop-value.packets.items c.in-Some.packet in
    read_more IsPacketText text_in c.args.values.now c.loop-value.value-index c.value-item.result
    (map vec_items c.loop-value.packets.items) (map vec_items c.push.new.self.items) (vec_items c.in-Some.packet)
    c.loop-value-test.true c.value-item.is c.loop-value.invariant
    (packet_read (text_in c.value-item.result) (vec_items c.in-Some.packet) (sym read)) at_end
