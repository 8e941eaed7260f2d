use Rattle.std.proofs.Common.{◌++◌, ℕ, ap, subst}
use Rattle.std.specs.Fmt.{decimal}
use Rattle.std.specs.Prelude.{Option}
use Rattle.std.specs.Float.{Float}
use Rattle.std.proofs.KnownBytes.{Appends-trans}
use Rattle.sample_tables.specs.Tables.{right_aligned}
use Rattle.sample_tables.proofs.PrintedLemmas.{with_ok}
use Rattle.value_tables.specs.TallyText.{IsNumberCell, name_text}
use Rattle.value_tables.specs.ValueRows.{head_of}
use Rattle.value_tables.proofs.tally_text.print_line.Goals as goal

-- each cell stands behind the one before
pub returns : goal.returns
returns g c values is =
    let least = c.in_ok-print_number.ensures in
    let greatest = c.in_ok-print_number-2.ensures in
    let mean = c.in_ok-print_number-3.ensures in
    let name = name_text (head_of c.args.column.now) in
    with_ok c.print_name.result _ _
    (λ end. (
      right_aligned 11 (decimal c.count.result) ++ least.0 ++ greatest.0 ++ mean.0 ++ name,
      record {
        least = c.least.result;
        greatest = c.greatest.result;
        is_least = c.least.ensures values is;
        is_greatest = c.greatest.ensures values is;
        least_cell = least.0;
        greatest_cell = greatest.0;
        mean_cell = mean.0;
        is_least_cell = least.1;
        is_greatest_cell = greatest.1;
        is_mean_cell = subst (λ (m : Option Float). IsNumberCell c.args.column.now.encoding.data_type m mean.0) (c.mean.ensures values is) mean.1;
        text = ap (λ (n : ℕ). right_aligned 11 (decimal n) ++ least.0 ++ greatest.0 ++ mean.0 ++ name) (c.count.ensures values is);
      },
      Appends-trans _ _ _ _ _ (Appends-trans _ _ _ _ _ (Appends-trans _ _ _ _ _ (Appends-trans _ _ _ _ _ c.in_ok-print_count.ensures least.2) greatest.2) mean.2) end,
    ))
    c.print_name.ensures
