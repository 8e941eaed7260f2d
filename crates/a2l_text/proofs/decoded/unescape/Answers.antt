use Rattle.a2l_text.specs.Texts.{unescaped}
use Rattle.a2l_text.proofs.DecodedLemmas.{all_said}
use Rattle.a2l_text.proofs.decoded.unescape.Goals as goal

-- nothing is left
pub returns : goal.returns
returns c = all_said c.loop-byte.bytes.items c.loop-byte.rest.now (unescaped c.args.quoted.now) c.loop-byte.invariant c.in_default.ensures.byte
