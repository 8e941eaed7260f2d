-- some list runs where some list of the store does
use Rattle.std.proofs.Common.{◌∙◌, sym}
use Rattle.daq_store.proofs.StandingLemmas.{any_stands}
use Rattle.daq_store.proofs.store.Store.any_running.Goals as goal

pub returns : goal.returns
returns c = λ calls h. c.some_runs.ensures ∙ sym (any_stands c.args.self.now calls (λ x. x.running) h)
