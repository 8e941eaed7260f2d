use Rattle.std.proofs.Common.{ap, arith, inr, ◌∙◌}
use Rattle.std.proofs.lemmas.List.{take_all}
use Rattle.std.specs.Net.Addr.{segments_of}
use Rattle.capture_recording.proofs.ip_data.v6_of.Goals as goal

pub returns : goal.returns
returns c =
    inr (
      c.requires,
      c.from_octets.ensures
          ∙ ap segments_of (c.in_ok-octets.ensures.cases.same ∙ take_all 16 c.args.bytes.now (omega (arith, c.requires))),
    )
