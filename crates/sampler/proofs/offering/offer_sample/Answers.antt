use Rattle.sampler.proofs.offering.offer_sample.Goals as goal

pub offer_sample-requires : goal.offer_sample-requires
offer_sample-requires g c =
    record { fits = c.of-sample.ensures.keeps (g.S.SendEnd.limit c.args.end.now) c.requires.keeps }
