use Rattle.std.proofs.Common.{◌≡◌, ℕ, ◌<◌, ◌≤◌, get_or, le_refl, length, ap, arith, sym, subst, ◌∙◌}
use Rattle.std.proofs.lemmas.Grind.{get_or_default_zero}
use Rattle.std.proofs.lemmas.Option.{slice_get-get_or}
use Rattle.xcp_base.specs.Lists.{has_list}
use Rattle.xcp_base.specs.declared.limits.TheConstants.{MAX_CHANNELS}
use Rattle.tasks.specs.Links.{CanStart}
use Rattle.slave_channels.specs.Calls.{Starts, StartsAt}
use Rattle.slave_channels.proofs.EachLemmas.{front-all, front-next, front-seen, read_at}
use Rattle.slave_channels.proofs.CallLemmas.{at-place}
use Rattle.slave_channels.proofs.channels.Channels.start_checked.Goals as goal

-- as many as before
pub invariant_of-self : goal.invariant_of-self
invariant_of-self c =
    let view : length c.self.inside.all.items ≡ length c.args.self.now = ap length c.self.view_is in
    subst (λ n. n ≤ MAX_CHANNELS) (view ∙ sym c.loop-c.invariant.as_many) c.self.invariant

-- no channel yet
pub loop-c-init : goal.loop-c-init
loop-c-init c = front-seen (StartsAt c.args.lists.now) c.self.inside.all.items c.args.self.now c.self.view_is

-- one channel more
pub loop-c-preserved : goal.loop-c-preserved
loop-c-preserved c =
    let view : length c.self.inside.all.items ≡ length c.args.self.now = ap length c.self.view_is in
    let here : c.loop-c.c < length c.args.self.now = omega (arith, c.loop-c-test.true, c.loop-c.auto.c-end, c.len-c-end.ensures, c.self.inside.all.ok.0, view) in
    let within : c.loop-c.c < length c.args.lists.now = omega (arith, here, c.requires.lists) in
    let set : c.index-lists-c.result ≡ get_or c.args.lists.now c.loop-c.c 0 = c.index-lists-c.is ∙ get_or_default_zero c.args.lists.now c.loop-c.c c.index-lists-c.result within in
    let starts = λ (n : ℕ). Starts n c.index_mut.result.now c.start_one.new.channel in
    front-next (StartsAt c.args.lists.now) c.loop-c.c _ _ c.index_mut.result.now c.start_one.new.channel c.index_mut.ensures.value (omega (arith, here, c.loop-c.invariant.as_many)) c.loop-c.invariant
    (at-place starts c.args.lists.now c.loop-c.c within (subst starts set c.start_one.ensures.starts))

-- no channel behind was changed yet
pub start_one-requires : goal.start_one-requires
start_one-requires c =
    let view : length c.self.inside.all.items ≡ length c.args.self.now = ap length c.self.view_is in
    let here : c.loop-c.c < length c.args.self.now = omega (arith, c.loop-c-test.true, c.loop-c.auto.c-end, c.len-c-end.ensures, c.self.inside.all.ok.0, view) in
    let within : c.loop-c.c < length c.args.lists.now = omega (arith, here, c.requires.lists) in
    let set : c.index-lists-c.result ≡ get_or c.args.lists.now c.loop-c.c 0 = c.index-lists-c.is ∙ get_or_default_zero c.args.lists.now c.loop-c.c c.index-lists-c.result within in
    let at = sym (c.loop-c.invariant.rest c.loop-c.c (le_refl c.loop-c.c))
    ∙ read_at c.loop-c.self-inside.all.items c.loop-c.c c.index_mut.result.now c.index_mut.ensures.value (omega (arith, here, c.loop-c.invariant.as_many)) in
    record {
      checked = λ some.
          subst (λ n. CanStart c.index_mut.result.now.link.newer (has_list n)) (sym set)
          (c.requires.checked c.loop-c.c _ c.index_mut.result.now (slice_get-get_or c.args.lists.now c.loop-c.c 0 within) at (λ none. some (set ∙ none)));
    }

-- these are all
pub returns : goal.returns
returns c =
    let view : length c.self.inside.all.items ≡ length c.args.self.now = ap length c.self.view_is in
    let all : length c.args.self.now ≤ c.loop-c.c = omega (arith, c.loop-c-test.false, c.loop-c.auto.c-end, c.len-c-end.ensures, c.self.inside.all.ok.0, view) in
    record { starts = front-all (StartsAt c.args.lists.now) c.loop-c.c _ _ c.loop-c.invariant all }
