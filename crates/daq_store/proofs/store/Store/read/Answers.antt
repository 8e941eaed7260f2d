-- the first check that fails is the answer, the entry is the one at the pointer, and the pointer moves on
use Rattle.std.proofs.Common.{◌∙◌, ap, sym}
use Rattle.daq_store.specs.declared.command.Command.TheVariants.{ReadDaq}
use Rattle.daq_store.specs.Answer.{read_reply}
use Rattle.daq_store.proofs.FaultLemmas.{answer_passes, refuses_code}
use Rattle.daq_store.proofs.EffectLemmas.{moved_on_stands, pointed_stands}
use Rattle.daq_store.proofs.store.Store.read.Goals as goal

pub returns-in_err-list-clause-refused : goal.returns-in_err-list-clause-refused
returns-in_err-list-clause-refused c =
    refuses_code _ ReadDaq _ _ c.from_residual.ensures.1 c.in_err-list.ensures.fails

pub returns-clause-accepted : goal.returns-clause-accepted
returns-clause-accepted c = λ calls h.
    let here = c.in_ok-list.ensures.place in
    let there = c.in_ok-list.ensures.there in
    let shown = pointed_stands c.args.self.now calls _ _ _ h here there in (
      answer_passes c.args.self.now calls ReadDaq h c.in_ok-list.ensures.passes ∙ ap read_reply (shown ∙ sym c.entry_at-value.ensures),
      rw c.move_on.ensures (moved_on_stands c.args.self.now calls _ _ _ h here there),
    )
