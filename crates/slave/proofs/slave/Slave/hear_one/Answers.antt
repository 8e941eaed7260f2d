use Rattle.std.proofs.Common.{ap, subst, sym, ◌∙◌}
use Rattle.session.specs.Standing.{SessionStandsAfter, given_by}
use Rattle.session.specs.Starts.{starts}
use Rattle.slave.proofs.HearingLemmas.{heard, refused}
use Rattle.slave.proofs.WeightLemmas.{fits-of}
use Rattle.slave.proofs.slave.Slave.hear_one.Goals as goal

pub returns-in-Ok-clause-heard : goal.returns-in-Ok-clause-heard
returns-in-Ok-clause-heard c =
    let view = ap (λ s. s.session) c.self.view_is in
    heard c.args.self.now c.prepare.new.self c.answer.new.self c.starts_of-lists.result c.args.packet.now (given_by c.args.clock c.args.memory.now) c.in-Ok.ensures.ok c.prepare.ensures.session_stays (c.answer.ensures.acts_stay ∙ c.prepare.ensures.acts_stay) (fits-of c.args.self.now _ c.self.view_is c.self.invariant.1)
    (λ past stands l below. c.starts_of-lists.ensures.value past (subst (λ s. SessionStandsAfter s past) (sym view) stands) l below ∙ ap (λ s. starts s.profile past c.args.packet.now l) view)
    c.answer.ensures.answers

pub returns-in-Err-clause-heard : goal.returns-in-Err-clause-heard
returns-in-Err-clause-heard c =
    let view = ap (λ s. s.session) c.self.view_is in
    refused c.args.self.now c.prepare.new.self c.refuse.new.self c.starts_of-lists.result c.args.packet.now (given_by c.args.clock c.args.memory.now) c.in-Err.code c.in-Err.ensures.err c.prepare.ensures.session_stays c.prepare.ensures.acts_stay (fits-of c.args.self.now _ c.self.view_is c.self.invariant.1)
    (λ past stands l below. c.starts_of-lists.ensures.value past (subst (λ s. SessionStandsAfter s past) (sym view) stands) l below ∙ ap (λ s. starts s.profile past c.args.packet.now l) view)
    c.refuse.ensures.lays c.refuse.ensures.rest_stays
