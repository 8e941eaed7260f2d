-- what is shown of a list is read off the calls
use Rattle.std.proofs.Common.{◌≡◌, ◌∙◌, sym, arith}
use Rattle.std.proofs.lemmas.Grind.{common_steps}
use Rattle.daq_store.specs.Standing.{shows_selected}
use Rattle.daq_store.proofs.StandingLemmas.{chosen_stands}
use Rattle.daq_store.proofs.store.Store.selected.Goals as goal

pub returns-clause-after : goal.returns-clause-after
returns-clause-after c = λ calls h.
    let value : c.is_some_and.result ≡ shows_selected c.args.self.now c.args.list = grind (arith, common_steps) in
    value ∙ sym (chosen_stands c.args.self.now calls c.args.list h)
