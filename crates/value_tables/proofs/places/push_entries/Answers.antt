use Rattle.std.proofs.Common.{◌≡◌, ◌++◌, ◌∙◌, ap, arith, length}
use Rattle.std.specs.List.{flat_map, range_with_len}
use Rattle.value_tables.specs.Places.{listed_in}
use Rattle.value_tables.proofs.PlaceLemmas.{listed_are_joined, numbers_more}
use Rattle.value_tables.proofs.places.push_entries.Goals as goal

-- the bytes of one ODT more
pub loop-k-preserved : goal.loop-k-preserved
loop-k-preserved c =
    let shown = c.args.sample.now in
    numbers_more c.push_odt.new.out.items c.loop-k.out.items c.args.out.now.items (listed_in shown.plan shown.sample) c.loop-k.k c.loop-k.invariant
    c.in_ok-push_odt.ensures

-- those of all ODTs are the sample's
pub returns-clause-joined : goal.returns-clause-joined
returns-clause-joined c =
    let shown = c.args.sample.now in
    let out = c.args.out.now.items in
    let plan : length c.shape.result.now.odts ≡ length shown.plan.odts = ap (λ plan. length plan.odts) c.shape.ensures.shape in
    let all : c.loop-k.k ≡ length shown.plan.odts = omega (arith, c.loop-k.auto.k-end, c.loop-k-test.false, c.odts-k-end.ensures.value, plan) in
    c.loop-k.invariant
    ∙ ap (λ n. out ++ flat_map (listed_in shown.plan shown.sample) (range_with_len 0 n)) all
    ∙ ap (λ bytes. out ++ bytes) (listed_are_joined shown.plan shown.sample c.shape.ensures.sample)
