use Rattle.std.proofs.Common.{arith}
use Rattle.curve_picture.proofs.WholeLemmas.{no_slot, one_slot_more, whole_kept}
use Rattle.curve_picture.proofs.row.Row.whole.Goals as goal

-- no bin was joined yet
pub loop-bin-init : goal.loop-bin-init
loop-bin-init c = λ width seen stands. no_slot width seen

-- one bin more is joined
pub loop-bin-preserved : goal.loop-bin-preserved
loop-bin-preserved c = λ width seen stands.
    rw c.joined-whole.ensures
    (one_slot_more c.args.self.now width c.loop-bin.bin-index c.loop-bin.whole seen c.loop-bin-test.true stands (c.loop-bin.invariant width seen stands))

-- all bins were joined
pub returns : goal.returns
returns c = λ width seen stands.
    whole_kept width c.loop-bin.bin-index c.loop-bin.whole seen (omega arith) (c.loop-bin.invariant width seen stands)
