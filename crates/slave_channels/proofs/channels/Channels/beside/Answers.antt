use Rattle.std.proofs.Common.{◌≤◌, ◌<◌, length, ap, sym, subst, ◌∙◌}
use Rattle.std.specs.Prelude.{slice_get}
use Rattle.std.proofs.lemmas.List.{length-set}
use Rattle.xcp_base.specs.declared.limits.TheConstants.{MAX_CHANNELS}
use Rattle.slave_channels.proofs.EachLemmas.{only-set, read_at}
use Rattle.slave_channels.proofs.channels.Channels.beside.Goals as goal

-- as many as before
pub invariant_of-self : goal.invariant_of-self
invariant_of-self c = subst (λ n. n ≤ MAX_CHANNELS) (sym (length-set c.self.inside.all.items c.args.c c.beside.new.self)) c.self.invariant

-- it is that channel's line
pub beside-requires : goal.beside-requires
beside-requires c =
    let below = subst (λ xs. c.args.c < length xs) (sym c.self.view_is) c.requires.channel in
    record {
      one_line = sym (c.requires.one_line c.index_mut.result.now
          (ap (λ xs. slice_get xs c.args.c) (sym c.self.view_is) ∙ read_at c.self.inside.all.items c.args.c c.index_mut.result.now c.index_mut.ensures.value below));
    }

-- only that channel looked
pub returns-clause-beside : goal.returns-clause-beside
returns-clause-beside c =
    let e = c.beside.ensures in
    only-set _ c.args.c _ _ c.index_mut.result.now c.beside.new.self c.self.view_is c.index_mut.ensures.value c.requires.channel
    (record { all = e.all; no_more = e.no_more; rest = e.rest_stays })
