use Rattle.std.proofs.Common.{◌≢◌, ◌<◌, List, Some, ap, arith, length, refl, subst, sym, true≢false, ◌∙◌}
use Rattle.std.specs.Prelude.{slice_get}
use Rattle.std.proofs.Common.{slice_set}
use Rattle.std.proofs.lemmas.List.{set-get_or}
use Rattle.std.proofs.lemmas.Option.{same_Some, slice_get_within}
use Rattle.slave_channels.specs.Channels.{ChannelState, number_of}
use Rattle.slave_channels.proofs.EachLemmas.{only-set, read_at}
use Rattle.slave_channels.proofs.channels.Channels.unsent.Goals as goal

-- what is written back is what was there
pub returns-clause-stays : goal.returns-clause-stays
returns-clause-stays c = λ other.
    let xs = c.self.inside.all.items in
    ap (slice_set xs c.args.c) (c.unsent.ensures.stays other ∙ c.in-Some.ensures.value) ∙ set-get_or xs c.args.c c.in-Some.channel.now ∙ c.self.view_is

-- there is no such event channel
pub returns-in_default-clause-none : goal.returns-in_default-clause-none
returns-in_default-clause-none c is ch at =
    let here = slice_get_within c.args.self.now c.args.c ch at in
    let there : c.args.c < length c.self.inside.all.items
    = subst (λ (xs : List ChannelState). c.args.c < length xs) (sym c.self.view_is) here in
    absurd (true≢false (sym (c.in_default.ensures.variant.1
    (omega (arith, there, c.self.inside.all.ok.0)))))

-- its part goes on, and no other's
pub returns-clause-told : goal.returns-clause-told
returns-clause-told c is =
    only-set _ c.args.c _ _ c.in-Some.channel.now c.unsent.new.self c.self.view_is
    c.in-Some.ensures.value
    (subst (λ (xs : List ChannelState). c.args.c < length xs) c.self.view_is
    (omega (arith, c.in-Some.ensures.variant.0 refl, c.self.inside.all.ok.0)))
    (c.unsent.ensures.told is)

-- it keeps none of that measurement
pub returns-clause-none : goal.returns-clause-none
returns-clause-none c is ch at =
    let there = read_at c.self.inside.all.items c.args.c c.in-Some.channel.now
    c.in-Some.ensures.value
    (omega (arith, c.in-Some.ensures.variant.0 refl, c.self.inside.all.ok.0)) in
    let same = same_Some c.in-Some.channel.now ch
    (sym there ∙ ap (λ (xs : List ChannelState). slice_get xs c.args.c) c.self.view_is ∙ at) in
    subst (λ (x : ChannelState). (number_of x.newer ≢ Some c.args.number)
    × (number_of x.older ≢ Some c.args.number)) same
    (c.unsent.ensures.not_newer is, c.unsent.ensures.not_older is)
