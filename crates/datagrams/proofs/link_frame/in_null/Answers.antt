use Rattle.std.proofs.Common.{arith}
use Rattle.capture.proofs.FieldLemmas.{rest-is}
use Rattle.datagrams.proofs.link_frame.in_null.Goals as goal

pub returns-clause-some : goal.returns-clause-some
returns-clause-some c = record {
  long = omega (arith, c.if-frame-lt4.false);
  family = c.has_family.ensures.0 c.if-not-has_family.false;
  behind = rest-is 4 c.args.frame.now;
}
