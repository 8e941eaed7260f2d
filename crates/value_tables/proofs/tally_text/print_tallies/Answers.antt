use Rattle.std.proofs.Common.{◌≡◌, ◌++◌, ◌∙◌, List, ℕ, Some, ap, refl, rules, slice_get, subst, sym}
use Rattle.std.specs.Prelude.{reverse}
use Rattle.std.specs.Io.KnownBytes.{Appends}
use Rattle.sample_tables.proofs.PrintedLemmas.{there}
use Rattle.value_tables.specs.TallyText.{IsLineOf, IsTable, head_line, joined}
use Rattle.value_tables.specs.ValueTallies.{numbers_of}
use Rattle.value_tables.specs.declared.column.Column.{Column}
use Rattle.value_tables.proofs.LineLemmas.{HasLines, lines_all, lines_more, lines_none}
use Rattle.value_tables.proofs.tally_text.print_tallies.Goals as goal

-- the head alone
pub loop-c-init : goal.loop-c-init
loop-c-init g c =
    lines_none (IsLineOf c.args.tallies.now.plans (reverse c.args.tallies.now.samples)) head_line (g.W.Write.contents c.args.out.now) (g.W.Write.contents c.print_head.new.out) c.in_ok-print_head.ensures

-- the line of one column more
pub loop-c-preserved : goal.loop-c-preserved
loop-c-preserved g c =
    let contents = g.W.Write.contents in
    let tallies = c.args.tallies.now in
    let earlier = reverse tallies.samples in
    let columns = c.columns-columns.result.now in
    let column = c.index-columns-c.result in
    let at : slice_get columns c.loop-c.c ≡ Some column = there columns c.loop-c.c column c.loop-c-test.true c.index-columns-c.is in
    let listed : slice_get tallies.columns c.loop-c.c ≡ Some column = ap (λ cs. slice_get cs c.loop-c.c) (sym c.columns-columns.ensures) ∙ at in
    let line = c.in_ok-print_line.ensures (numbers_of tallies.plans column earlier) (c.in-Some.ensures.value column listed) in
    lines_more (IsLineOf tallies.plans earlier) head_line (contents c.args.out.now) (contents c.loop-c.out) (contents c.print_line.new.out) columns c.loop-c.c column at c.loop-c.invariant line

-- and so those of all
pub returns : goal.returns
returns g c =
    let contents = g.W.Write.contents in
    let tallies = c.args.tallies.now in
    let line = IsLineOf tallies.plans (reverse tallies.samples) in
    let has = lines_all line head_line (contents c.args.out.now) (contents c.loop-c.out) (contents c.flush.new.self) c.columns-columns.result.now c.loop-c.c c.loop-c-test.false c.loop-c.invariant c.flush.ensures.bytes in
    let all = subst (λ (cs : List Column). HasLines line head_line (contents c.args.out.now) (contents c.flush.new.self) cs) c.columns-columns.ensures has in
    let table : (text : List ℕ) × IsTable tallies.plans tallies.columns tallies.samples text × Appends (contents c.args.out.now) (contents c.flush.new.self) text = (head_line ++ joined all.0, (all.0, all.1, refl), all.2) in
    search rules
