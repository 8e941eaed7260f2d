use Rattle.daq_reader.proofs.ListsLemmas.{added}
use Rattle.daq_reader.proofs.reader.Reader.add.Goals as goal

-- a list that has read nothing yet
pub returns-clause-stands : goal.returns-clause-stands
returns-clause-stands c = λ h. rw (c.in_ok-push.ensures.items, c.in_ok-new.ensures) (added c.self.inside.lists.items c.args.shape c.odts.ensures.plan.some (rw c.self.view_is h))
