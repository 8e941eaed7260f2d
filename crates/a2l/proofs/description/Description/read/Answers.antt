use Rattle.a2l_text.specs.States.{state_of}
use Rattle.a2l.specs.Drafts.{draft_seen}
use Rattle.a2l.proofs.ReadLemmas.{describes, describes_only, nothing_from, unless_out}
use Rattle.a2l.proofs.description.Description.read.Goals as goal

pub returns-in-Ok-clause-found : goal.returns-in-Ok-clause-found
returns-in-Ok-clause-found c = describes c.args.text.now (state_of c.new-blocks.result) (draft_seen c.in-Ok.draft) c.new-blocks.ensures c.in-Ok.ensures.ok

pub returns-in-Ok-clause-only : goal.returns-in-Ok-clause-only
returns-in-Ok-clause-only c = describes_only c.args.text.now _ (describes c.args.text.now (state_of c.new-blocks.result) (draft_seen c.in-Ok.draft) c.new-blocks.ensures c.in-Ok.ensures.ok)

pub returns-clause-refused : goal.returns-clause-refused
returns-clause-refused c = λ small.
    unless_out c.fault_of.result c.in-Err.fault _ c.fault_of.ensures (nothing_from c.in-Err.fault c.args.text.now (state_of c.new-blocks.result) c.new-blocks.ensures c.in-Err.ensures.err)
