use Rattle.std.proofs.Common.{refl}
use Rattle.std.proofs.lemmas.Option.{slice_get_read}
use Rattle.mdf_blocks.proofs.table_places.text_of.Goals as goal

-- its numbers are those of the row
pub returns : goal.returns
returns c =
    let there = slice_get_read c.args.rows.now _ c.args.row c.index-rows-row.result refl
    c.requires c.index-rows-row.is in (
      record {
        row = c.index-rows-row.result;
        there = there;
        least = refl;
        greatest = refl;
      },
      refl,
    )
