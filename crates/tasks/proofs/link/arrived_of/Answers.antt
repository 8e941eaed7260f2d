use Rattle.std.proofs.Common.{◌∙◌, ap, subst, sym}
use Rattle.sampler.specs.State.{SamplerState}
use Rattle.channel_ring.specs.Orders.{TakeState}
use Rattle.tasks.specs.Links.{is_out}
use Rattle.tasks.specs.Ways.{LeavesBy}
use Rattle.tasks.proofs.LineLemmas.{is-first}
use Rattle.tasks.proofs.link.arrived_of.Goals as goal

-- the oldest that is out is this one
pub returns-clause-some : goal.returns-clause-some
returns-clause-some g c =
    let k = c.in_ok-left.ensures.some in
    let out = sym c.is_out.ensures ∙ c.if-not-is_out.false in
    let f = is-first c.args.line.now.out c.take.new.self.out c.requires.oldest.0 c.args.away.now k.value
    c.requires.oldest.1 k.oldest (ap is_out c.in-Some.is ∙ out) in
    let left = c.in_ok-left.left in (
      c.in-Some.away,
      c.in-Some.is,
      record {
        out = out;
        by_rule = subst (λ (r : TakeState). LeavesBy g.S.SendEnd g.S.End.RingEnd c.in-Some.away.sampler r left)
            (f.went c.in-Some.away c.in-Some.is)
            (subst (λ (s : SamplerState _). LeavesBy g.S.SendEnd g.S.End.RingEnd s k.value.orders left)
            (f.sampler c.in-Some.away c.in-Some.is) k.by_rule);
        came = k.came;
        known = k.known;
      },
    )
