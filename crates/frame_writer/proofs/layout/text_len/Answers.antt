use Rattle.std.proofs.Common.{ap, arith, length}
use Rattle.frame_writer.proofs.LayoutLemmas.{text_len-body}
use Rattle.frame_writer.proofs.layout.text_len.Goals as goal

pub returns-clause-value : goal.returns-clause-value
returns-clause-value c = omega (arith, text_len-body c.args.packets.now, ap length c.body.ensures.value, c.len.ensures.value)
