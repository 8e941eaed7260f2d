use Rattle.std.proofs.Common.{◌++◌, [], ◌∷◌, ap, ◌∙◌, arith, replicate}
use Rattle.std.proofs.lemmas.List.{replicate-append-replicate}
use Rattle.daq_store.proofs.list_conf.empty_odts.Goals as goal

-- one more was pushed
pub loop-preserved : goal.loop-preserved
loop-preserved c = record {
  items = c.push_reserved.ensures.items
      ∙ ap (λ odts. odts ++ c.new.result ∷ []) c.loop.invariant.items
      ∙ ap (λ odt. replicate c.loop.counter [] ++ odt ∷ []) c.new.ensures
      ∙ replicate-append-replicate c.loop.counter 1 [];
  len = omega (arith, c.push_reserved.ensures.len, c.loop.invariant.len);
  room = c.push_reserved.ensures.capacity ∙ c.loop.invariant.room;
}
