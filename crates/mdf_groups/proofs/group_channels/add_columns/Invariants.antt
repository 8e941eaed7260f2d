use Rattle.std.proofs.Common.{map, string_bytes, take}
use Rattle.mdf_file.specs.Describing.{told_channel}
use Rattle.mdf_groups.specs.Channels.{AddsChannels}
use Rattle.mdf_groups.proofs.group_channels.add_columns.Given as goal

-- the channels of the columns so far stand behind what was there
abbrev pub invariant-loop-i : goal.invariant-loop-i
invariant-loop-i l =
    AddsChannels (take l.i l.columns) (take l.i l.places) (take l.i (map string_bytes l.names))
    (map told_channel l.fn.channels.items) (map told_channel l.channels.items)
