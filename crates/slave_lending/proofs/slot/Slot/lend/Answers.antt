use Rattle.std.proofs.Common.{Some, ap, sym, ◌∙◌}
use Rattle.std.specs.Option.{is_some}
use Rattle.slave_lending.proofs.SlotLemmas.{here-line, none-back}
use Rattle.slave_lending.proofs.slot.Slot.lend.Goals as goal

-- the task that goes is the one that was here
pub returns-in-Ok-clause-task : goal.returns-in-Ok-clause-task
returns-in-Ok-clause-task c =
    let here = sym c.in-Some.ensures.value ∙ ap (λ t. Some t) (sym c.in-Ok.ensures.value) in
    let back = none-back c.self.inside.here (is_some c.self.inside.coming) c.self.inside.back
    c.in-Some.task c.in-Some.ensures.value c.self.invariant.0 in
    let line = sym (here-line c.self.inside.here c.in-Some.task _ c.in-Some.ensures.value c.self.invariant.1)
    ∙ ap (λ t. t.ring) (sym c.in-Ok.ensures.value) in
    sym c.self.view_is ∙ (λ i. record { ring = line i; here = here i; back = back i })

pub returns-in-Ok-clause-away : goal.returns-in-Ok-clause-away
returns-in-Ok-clause-away c =
    let none = c.in-Some.ensures.after in
    let back = none-back c.self.inside.here (is_some c.self.inside.coming) c.self.inside.back
    c.in-Some.task c.in-Some.ensures.value c.self.invariant.0 in
    λ i. record { ring = ap (λ s. s.ring) c.self.view_is i; here = none i; back = back i }

pub returns-in-Err-clause-refused : goal.returns-in-Err-clause-refused
returns-in-Err-clause-refused c =
    let here = sym c.in-Some.ensures.value in
    let back = none-back c.self.inside.here (is_some c.self.inside.coming) c.self.inside.back
    c.in-Some.task c.in-Some.ensures.value c.self.invariant.0 in
    let line = sym (here-line c.self.inside.here c.in-Some.task _ c.in-Some.ensures.value c.self.invariant.1) in
    (c.in-Some.task, sym c.self.view_is ∙ (λ i. record { ring = line i; here = here i; back = back i }))
