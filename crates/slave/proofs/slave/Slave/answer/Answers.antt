use Rattle.session.specs.Standing.{given_by}
use Rattle.slave.proofs.AnsweringLemmas.{answered-by}
use Rattle.slave.proofs.slave.Slave.answer.Goals as goal

pub returns-clause-answers : goal.returns-clause-answers
returns-clause-answers c =
    answered-by c.args.self.now _ c.settle.new.self c.lay.new.self c.answer-reply.new.self c.args.packet.now (given_by c.args.clock c.args.memory.now) c.running-before.result c.running-now.result c.answer-reply.result c.self.view_is
    c.answer-reply.ensures.reply c.answer-reply.ensures.profile_stays c.running-before.ensures.value c.running-now.ensures.value c.settle.ensures.settles c.settle.ensures.rest_stays
    c.lay.ensures.lays c.lay.ensures.rest_stays
