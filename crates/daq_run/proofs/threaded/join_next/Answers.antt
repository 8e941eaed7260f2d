use Rattle.daq_run.proofs.threaded.join_next.Goals as goal

-- what is left of the sampler of this thread is appended
pub returns-clause-left : goal.returns-clause-left
returns-clause-left g c = record {
  left = c.in-Some.end;
  appended = c.push_reserved.ensures.items;
  is_left = c.in-Some.ensures.left;
}
