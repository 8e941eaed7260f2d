use Rattle.std.proofs.Common.{◌∙◌, ap, sym}
use Rattle.tasks.specs.Links.{LinkState, hand_refusal}
use Rattle.tasks.proofs.HandLemmas.{answers-busy, err-with, refused-none}
use Rattle.tasks.proofs.link.TaskLink.hand_out.Goals as goal

-- the link itself had no cause to refuse
pub returns-in-Ok-clause-answer : goal.returns-in-Ok-clause-answer
returns-in-Ok-clause-answer g c =
    let ended = sym c.newest_takes_orders.ensures ∙ c.if-newest_takes_orders.false in
    let room = sym c.are_two_out.ensures ∙ c.if-are_two_out.false in
    let none = sym (ap (λ (l : LinkState _). hand_refusal l) c.self.view_is) ∙ refused-none _ _ ended room in
    answers-busy _ c.put.result none c.put.ensures.busy

pub returns-in-Ok-clause-back : goal.returns-in-Ok-clause-back
returns-in-Ok-clause-back g c = err-with (λ e is. is ∙ c.in-Ok.ensures.handed) c.put.result c.put.ensures.back
