use Rattle.captured_samples.proofs.list_states.ListStates.read.Goals as goal

pub returns-clause-told : goal.returns-clause-told
returns-clause-told g c start ls e = c.add_all.ensures.told _ (c.in_ok-keep.ensures start ls e)
