use Rattle.std.proofs.Common.{refl}
use Rattle.a2l_text.proofs.blocks.Blocks.new.Goals as goal

pub returns : goal.returns
returns c = rw (c.new-2.ensures.items, c.new-3.ensures.items, c.new.ensures.rest) refl
