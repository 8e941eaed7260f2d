use Rattle.std.proofs.Common.{◌++◌, [], ◌∷◌, false, ap, ◌∙◌, arith, replicate}
use Rattle.std.proofs.lemmas.List.{replicate-append-replicate}
use Rattle.daq_store.specs.declared.list_state.ListState.{ListState}
use Rattle.daq_store.specs.Configuration.{Configuration}
use Rattle.daq_store.specs.Inner.Effects.{fresh_state}
use Rattle.daq_store.proofs.list_state.fresh_lists.Goals as goal

-- the state of a list with this configuration that neither runs nor is selected
abbrev stopped_with : Configuration → ListState
stopped_with conf = record { conf = conf; running = false; selected = false }

-- one more was pushed
pub loop-preserved : goal.loop-preserved
loop-preserved c = record {
  items = c.push_reserved.ensures.items
      ∙ ap (λ lists. lists ++ stopped_with c.new.result ∷ []) c.loop.invariant.items
      ∙ ap (λ conf. replicate c.loop.counter (fresh_state c.args.form) ++ stopped_with conf ∷ []) c.new.ensures
      ∙ replicate-append-replicate c.loop.counter 1 (fresh_state c.args.form);
  len = omega (arith, c.push_reserved.ensures.len, c.loop.invariant.len);
  room = c.push_reserved.ensures.capacity ∙ c.loop.invariant.room;
}
