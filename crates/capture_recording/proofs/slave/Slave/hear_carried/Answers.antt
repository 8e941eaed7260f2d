use Rattle.capture_recording.specs.Talks.{data_of}
use Rattle.capture_recording.proofs.ResultLemmas.{on-ok-by}
use Rattle.capture_recording.proofs.SlavesLemmas.{hears-datagram}
use Rattle.capture_recording.proofs.slave.Slave.hear_carried.Goals as goal

-- no segment is what the datagram says
pub returns-clause-heard : goal.returns-clause-heard
returns-clause-heard g c =
    let d = c.hear_datagram in
    on-ok-by d.result
    (hears-datagram g.S.SampleSink.told (data_of c.args.carried.now) c.args.talk.is_of_master c.args.self.now d.new.self)
    d.ensures.heard d.ensures.stays

pub returns-clause-many : goal.returns-clause-many
returns-clause-many g c = λ full other. c.hear_datagram.ensures.many full
