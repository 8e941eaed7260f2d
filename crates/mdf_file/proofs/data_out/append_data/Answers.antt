use Rattle.mdf_blocks.proofs.BlockLemmas.{on_ok}
use Rattle.mdf_file.proofs.StandingLemmas.{data_known}
use Rattle.mdf_file.proofs.data_out.append_data.Goals as goal
use Rattle.std.proofs.Common.{refl}

-- the head, the records, and the fill
pub returns : goal.returns
returns g c =
    let known = g.O.MdfOut.known in
    on_ok c.append_fill.result
    (data_known (known c.args.out.now) (known c.append.new.self) (known c.append-2.new.self)
    (known c.append_fill.new.out) c.data_head.result c.args.records.now
    (c.data_head.ensures c.args.records.now refl) c.in_ok-append.ensures.appended
    c.in_ok-append-2.ensures.appended)
    c.append_fill.ensures
