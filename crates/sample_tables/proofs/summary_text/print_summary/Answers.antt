use Rattle.std.proofs.Common.{◌≡◌, ◌<◌, ◌≤◌, ◌++◌, arith, ap, length, rules, subst, sym, take, ◌∙◌, append_assoc, ◌+◌}
use Rattle.std.specs.Prelude.{flat_map}
use Rattle.std.specs.List.{enumerate_from}
use Rattle.std.specs.Io.KnownBytes.{Appends}
use Rattle.std.proofs.KnownBytes.{Appends-trans}
use Rattle.sample_tables.specs.Tables.{head_line, list_line, table_text, tally_line}
use Rattle.sample_tables.proofs.PrintedLemmas.{behind_none, enumerated_all, enumerated_more, there}
use Rattle.sample_tables.proofs.summary_text.print_summary.Goals as goal

-- the head alone
pub loop-place-init : goal.loop-place-init
loop-place-init g c =
    subst (λ t. Appends (g.W.Write.contents c.args.out.now) (g.W.Write.contents c.print_head.new.out) t)
    (behind_none head_line (list_line c.args.summary.now.samples) c.args.shapes.now) c.in_ok-print_head.ensures

-- the line of one list more
pub loop-place-preserved : goal.loop-place-preserved
loop-place-preserved g c =
    let f = list_line c.args.summary.now.samples in
    let shapes = c.args.shapes.now in
    let place = c.loop-place.place in
    let plan = c.index-shapes-place.result in
    let within : place < length shapes = c.loop-place-test.true in
    let counted : place < c.args.summary.now.lists = omega (arith, within, c.requires) in
    let line : tally_line plan c.tally.result ≡ f (place, plan) = ap (tally_line plan) (c.tally.ensures counted) in
    let before = flat_map f (take place (enumerate_from 0 shapes)) in
    let text : (head_line ++ before) ++ tally_line plan c.tally.result ≡ head_line ++ flat_map f (take (place + 1) (enumerate_from 0 shapes)) =
    append_assoc head_line before (tally_line plan c.tally.result)
    ∙ ap (λ t. head_line ++ t) (ap (λ t. before ++ t) line ∙ sym (enumerated_more f shapes place plan (there shapes place plan within c.index-shapes-place.is))) in
    subst (λ t. Appends (g.W.Write.contents c.args.out.now) (g.W.Write.contents c.print_list.new.out) t) text
    (Appends-trans _ _ _ _ _ c.loop-place.invariant c.in_ok-print_list.ensures)

-- and so those of all
pub returns : goal.returns
returns g c =
    let f = list_line c.args.summary.now.samples in
    let shapes = c.args.shapes.now in
    let all : length shapes ≤ c.loop-place.place = c.loop-place-test.false in
    let printed : Appends (g.W.Write.contents c.args.out.now) (g.W.Write.contents c.loop-place.out) (table_text shapes c.args.summary.now.samples) =
    subst (λ t. Appends (g.W.Write.contents c.args.out.now) (g.W.Write.contents c.loop-place.out) (head_line ++ t)) (enumerated_all f shapes c.loop-place.place all) c.loop-place.invariant in
    search rules
