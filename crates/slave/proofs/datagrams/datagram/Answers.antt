use Rattle.session.specs.Standing.{given_by}
use Rattle.slave.proofs.ReceivingLemmas.{datagram-bad, datagram-ok}
use Rattle.slave.proofs.datagrams.datagram.Goals as goal

-- the datagram is what a stream took of which no byte had come
pub returns-in-Ok-clause-hears : goal.returns-in-Ok-clause-hears
returns-in-Ok-clause-hears c =
    let took = c.in-Ok.ensures in
    datagram-ok c.new-stream.result c.read.new.self c.args.slave.now c.read.new.slave (given_by c.args.clock c.args.memory.now) c.in-Ok.taken c.args.bytes.now c.new-stream.ensures.fresh c.new-stream.ensures.max_cto took.stays_open took.ends took.ok

pub returns-in-Err-clause-hears : goal.returns-in-Err-clause-hears
returns-in-Err-clause-hears c =
    datagram-bad c.new-stream.result c.read.new.self c.args.slave.now c.read.new.slave (given_by c.args.clock c.args.memory.now) c.args.bytes.now c.new-stream.ensures.fresh c.new-stream.ensures.max_cto c.in-Err.ensures.bad
