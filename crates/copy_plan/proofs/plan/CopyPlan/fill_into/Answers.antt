use Rattle.std.proofs.Common.{◌≡◌, ◌++◌, [], ◌∷◌, length, map, arith, ap, sym, ◌∙◌}
use Rattle.std.proofs.lemmas.List.FromFn.{length-map-range_with_len, map-range_with_len_more}
use Rattle.std.specs.List.{range_with_len}
use Rattle.copy_plan.specs.Memory.{image_in}
use Rattle.copy_plan.specs.Packet.{packet, packets}
use Rattle.copy_plan.proofs.plan.CopyPlan.fill_into.Goals as goal

-- it has eight ODTs at most
pub append_packet-requires-clause-room : goal.append_packet-requires-clause-room
append_packet-requires-clause-room c =
    omega (arith, ap length c.loop-k.invariant, length-map-range_with_len (packet c.args.self.now (image_in c.args.self.now.channel c.args.self.now.segments c.args.memory) c.args.stamp c.args.overload) 0 c.loop-k.k, c.odts-k-end.ensures.value, c.requires.by_value.few)

-- one packet more
pub loop-k-preserved : goal.loop-k-preserved
loop-k-preserved c =
    c.append_packet.ensures
    ∙ ap (λ qs. qs ++ packet c.args.self.now (image_in c.args.self.now.channel c.args.self.now.segments c.args.memory) c.args.stamp c.args.overload c.loop-k.k ∷ []) c.loop-k.invariant
    ∙ sym (map-range_with_len_more (packet c.args.self.now (image_in c.args.self.now.channel c.args.self.now.segments c.args.memory) c.args.stamp c.args.overload) 0 c.loop-k.k c.loop-k.k (omega arith))

-- those of all ODTs
pub returns : goal.returns
unfolding packets
returns c =
    let all : c.loop-k.k ≡ length c.args.self.now.odts = omega (arith, c.odts-k-end.ensures.value) in
    c.loop-k.invariant ∙ ap (λ n. map (packet c.args.self.now (image_in c.args.self.now.channel c.args.self.now.segments c.args.memory) c.args.stamp c.args.overload) (range_with_len 0 n)) all
