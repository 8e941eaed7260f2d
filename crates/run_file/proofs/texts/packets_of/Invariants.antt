use Rattle.std.proofs.Common.{map, take, vec_items}
use Rattle.run_file.specs.Reading.{AreTextsOf}
use Rattle.run_file.specs.RunFile.{IsPacketText}
use Rattle.run_file.specs.Inner.{text_in}
use Rattle.run_file.proofs.texts.packets_of.Given as goal

-- the packets so far are those of the texts so far
abbrev pub invariant-loop-value : goal.invariant-loop-value
invariant-loop-value l = AreTextsOf IsPacketText (map text_in (take l.value-index l.values)) (map vec_items l.packets.items)
