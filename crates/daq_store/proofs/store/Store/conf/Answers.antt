-- what is set of a list is there exactly where the list is
use Rattle.std.proofs.Common.{◌≡◌, ◌∙◌, ◌<◌, length, true, false, sym, ap, arith, is_some}
use Rattle.std.proofs.lemmas.Bool.Decides.{nat_tests}
use Rattle.std.proofs.lemmas.Grind.{common_steps}
use Rattle.daq_store.specs.Inner.Effects.{shows_list}
use Rattle.daq_store.proofs.StandingLemmas.{conf_after, is_list_stands}
use Rattle.daq_store.proofs.store.Store.conf.Goals as goal

pub returns-in_err-list-clause-there_after : goal.returns-in_err-list-clause-there_after
returns-in_err-list-clause-there_after c = λ calls h.
    let out : shows_list c.args.self.now c.args.list ≡ false = grind (arith, nat_tests, common_steps) in
    ap is_some c.from_residual.ensures ∙ sym (is_list_stands c.args.self.now calls c.args.list h ∙ out)

pub returns-clause-there_after : goal.returns-clause-there_after
returns-clause-there_after c = λ calls h.
    let there : shows_list c.args.self.now c.args.list ≡ true = grind (arith, nat_tests, common_steps) in
    sym (is_list_stands c.args.self.now calls c.args.list h ∙ there)

pub returns-clause-value_after : goal.returns-clause-value_after
returns-clause-value_after c = λ calls h.
    let inside : c.args.list < length c.args.self.now.lists = grind (arith, common_steps) in
    c.in_ok-list.ensures.conf ∙ conf_after c.args.self.now calls c.args.list h inside
