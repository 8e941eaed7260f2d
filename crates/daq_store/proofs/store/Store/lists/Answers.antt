-- the number of lists is read off the calls
use Rattle.std.proofs.Common.{◌≡◌, ◌∙◌, length, rules}
use Rattle.daq_store.proofs.StandingLemmas.{count_stands}
use Rattle.daq_store.proofs.store.Store.lists.Goals as goal

pub returns-clause-after : goal.returns-clause-after
returns-clause-after c = λ calls h.
    let value : c.len.result ≡ length c.args.self.now.lists = search rules in
    value ∙ count_stands c.args.self.now calls h
