use Rattle.std.proofs.Common.{◌+◌, arith, length}
use Rattle.std.proofs.lemmas.Slice.{drop-put_mid}
use Rattle.frame_writer.proofs.layout.place.Goals as goal

-- behind the part that was written all is as it was
pub returns-clause-behind : goal.returns-clause-behind
returns-clause-behind c =
    drop-put_mid c.args.at _ c.args.room.now c.copy_from_slice.new.self (c.args.at + length c.args.bytes.now) (omega arith) (omega (arith, c.requires.room)) (omega (arith, c.copy_from_slice.ensures.len))
