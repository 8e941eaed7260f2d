-- What a handle of a slave or of a task ends as, once a `&mut` to what it holds has ended.
use Rattle.std.specs.Prelude.{Option, Some}
use Rattle.std.specs.Borrow.{Fml, LendsIf, MutBor}
use Rattle.c_slave.specs.contracts.content.Content as content
use Rattle.c_slave.specs.contracts.handle.Handle as handle

-- the same handle, with this in the box
abbrev pub with_held : handle.the_row.Denot → content.the_row.Denot → handle.the_row.Denot
with_held h x = record { at = h.at; full = h.full; held = Some x }

-- it holds what was last written through the reference; and where there is none it stays as it was
abbrev pub lends_held : MutBor handle.the_row.Denot → Option (MutBor content.the_row.Denot) → Fml
lends_held h r = LendsIf handle.the_row content.the_row h r (with_held h.now) h.now
