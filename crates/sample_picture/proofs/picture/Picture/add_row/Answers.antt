use Rattle.sample_picture.specs.Shown.{Gathered}
use Rattle.sample_picture.proofs.RowsLemmas.{with_row_stands}
use Rattle.sample_picture.proofs.picture.Picture.add_row.Goals as goal

-- the row more has no sample yet
pub returns-clause-stands : goal.returns-clause-stands
returns-clause-stands c = λ given h.
    let p : Gathered =
    record {
      rows = c.self.inside.rows.items;
      width = c.self.inside.grid.width;
      first = c.self.inside.grid.first;
      last = c.self.inside.grid.last;
    } in
    rw (c.in_ok-push.ensures.items, c.new.ensures) (with_row_stands p c.args.list c.args.channel given (rw c.self.view_is h))
