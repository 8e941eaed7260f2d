use Rattle.std.proofs.Common.{◌-◌, drop, length, map}
use Rattle.mdf_blocks.specs.Told.{TellsChannels}
use Rattle.mdf_file.specs.Adding.{Adds}
use Rattle.mdf_file.specs.Describing.{told_channel}
use Rattle.mdf_file.proofs.channels.add_channels.Given as goal

-- the last channels are told
abbrev pub invariant-loop-behind : goal.invariant-loop-behind
invariant-loop-behind l =
    Adds l.base l.fn.out.items l.out.items
    (λ bytes. TellsChannels bytes l.next
    (map told_channel (drop (length l.channels - l.behind) l.channels)))
