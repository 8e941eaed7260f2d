use Rattle.std.proofs.Common.{arith, sym}
use Rattle.sampler.proofs.FirstTracks.{rise-length, first-sampler, first-stands}
use Rattle.sampler.proofs.sampler.Sampler.in_these.Goals as goal

pub new-lists-requires : goal.new-lists-requires
new-lists-requires g c = omega (arith, rise-length c.args.channel c.args.segments.items 0 c.args.plans.items c.requires.rising c.requires.plans_of (omega arith))

pub invariant_of-result : goal.invariant_of-result
invariant_of-result g c =
    rw (c.new-lists.ensures.plans, c.at.ensures)
    (first-sampler c.args.channel c.image_len.result c.args.running c.args.segments.items c.args.plans.items c.new-lists.result.tracks c.soonest-soonest.result (g.S.SendEnd.limit c.args.end) (rw c.as_slice.ensures.value at c.image_len.ensures) c.requires.plans_of c.requires.rising c.requires.keep c.new-lists.ensures.places c.new-lists.ensures.tracks (rw (sym c.new-lists.ensures.plans) c.soonest-soonest.ensures))

pub returns-clause-stands : goal.returns-clause-stands
returns-clause-stands g c =
    rw (c.new-lists.ensures.plans, c.at.ensures)
    (first-stands g.S.SendEnd g.S.End.RingEnd c.args.channel c.args.segments.items c.args.running c.args.plans.items c.args.end c.new-lists.result.tracks c.requires.plans_of c.new-lists.ensures.tracks c.requires.nothing_sent)
