use Rattle.std.proofs.Common.{[], ◌∷◌, rules}
use Rattle.std.specs.Prelude.{OnOk}
use Rattle.std.specs.Io.KnownBytes.{Appends}
use Rattle.std.proofs.KnownBytes.{Appends-trans}
use Rattle.sample_tables.specs.Tables.{tally_text}
use Rattle.sample_tables.proofs.PrintedLemmas.{with_ok}
use Rattle.sample_tables.proofs.summary_text.print_tally.Goals as goal

-- each part stands behind the one before
pub returns : goal.returns
returns g c =
    let before = g.W.Write.contents c.args.out.now in
    let mid = g.W.Write.contents c.print_ticks-2.new.out in
    let after = g.W.Write.contents c.writeln.new.self in
    let line : OnOk c.writeln.result (Appends before after (tally_text c.args.list c.args.channel c.args.tally)) =
    with_ok c.writeln.result (Appends mid after (10 ∷ [])) (Appends before after (tally_text c.args.list c.args.channel c.args.tally))
    (λ end.
    let two = Appends-trans _ _ _ _ _ c.in_ok-print_number.ensures c.in_ok-print_channel.ensures in
    let three = Appends-trans _ _ _ _ _ two c.in_ok-print_count.ensures in
    let four = Appends-trans _ _ _ _ _ three c.in_ok-print_count-2.ensures in
    let five = Appends-trans _ _ _ _ _ four c.in_ok-print_ticks.ensures in
    let six = Appends-trans _ _ _ _ _ five c.in_ok-print_ticks-2.ensures in
    Appends-trans _ _ _ _ _ six end)
    c.writeln.ensures.bytes in
    search rules
