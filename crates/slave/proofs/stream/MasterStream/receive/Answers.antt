use Rattle.slave.proofs.stream.MasterStream.receive.Goals as goal

-- a frame was bad, and then the slave disconnected
pub returns-in-Err-clause-bad : goal.returns-in-Err-clause-bad
returns-in-Err-clause-bad c = λ _. record {
  between = c.read.new.slave;
  breaks_off = c.in-Err.ensures.bad;
  disconnects = c.disconnect.ensures.disconnects;
  outbox = c.disconnect.ensures.outbox_stays;
  counted = c.disconnect.ensures.acts_stay;
  next = c.disconnect.ensures.next_stays;
  profile = c.disconnect.ensures.profile_stays;
}

-- what was read is what is answered
pub returns-in-Ok-clause-ok : goal.returns-in-Ok-clause-ok
returns-in-Ok-clause-ok c = c.in-Ok.ensures.ok

pub returns-in-Ok-clause-all : goal.returns-in-Ok-clause-all
returns-in-Ok-clause-all c = c.in-Ok.ensures.all

pub returns-in-Ok-clause-ends : goal.returns-in-Ok-clause-ends
returns-in-Ok-clause-ends c = c.in-Ok.ensures.ends
