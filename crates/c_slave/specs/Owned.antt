-- What a handle of a slave or of a task owns: the box that it points to, or nothing.
use Rattle.std.specs.Prelude.{Bool}
use Rattle.std.specs.declared.option.Option.{Option}
use Rattle.std.specs.Coded.{Coded, coded_option}
use base.Fml.{Fml}
use denote.RawPtr.{Ptr}
use Rattle.c_engine.specs.Owned.{owns_box}
use Rattle.c_slave.specs.contracts.content.Content as content

-- the code of what a handle holds
abbrev pub coded_held : Coded (Option content.the_row.Denot)
coded_held = coded_option content.the_row.coded

-- a full handle owns the box of what it holds; an empty one holds nothing
abbrev pub owns_held : Bool → Ptr → Option content.the_row.Denot → Fml
owns_held = owns_box content.the_row
