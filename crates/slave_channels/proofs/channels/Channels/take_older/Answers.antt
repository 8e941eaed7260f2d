use Rattle.std.proofs.Common.{◌≤◌, sym, subst}
use Rattle.std.proofs.lemmas.List.{length-set}
use Rattle.xcp_base.specs.declared.limits.TheConstants.{MAX_CHANNELS}
use Rattle.slave_channels.proofs.EachLemmas.{only-set}
use Rattle.slave_channels.proofs.channels.Channels.take_older.Goals as goal

-- as many as before
pub invariant_of-self : goal.invariant_of-self
invariant_of-self c = subst (λ n. n ≤ MAX_CHANNELS) (sym (length-set c.self.inside.all.items c.args.c c.take_older.new.self)) c.self.invariant

-- only that channel was asked
pub returns : goal.returns
returns c =
    let e = c.take_older.ensures in
    record {
      back =
          only-set _ c.args.c _ _ c.index_mut.result.now c.take_older.new.self c.self.view_is c.index_mut.ensures.value c.requires.channel
          (record { back = e.back; some = e.some; none = e.none; link = e.link; newer = e.newer_stays });
    }
