use Rattle.std.proofs.Common.{◌<◌, ◌^◌, All, map, string_bytes, take}
use Rattle.std.specs.Option.{option_map}
use Rattle.mdf_blocks.specs.Told.{TellsTexts}
use Rattle.mdf_file.specs.Adding.{Adds}
use Rattle.mdf_file.proofs.texts.add_texts.Given as goal

-- the texts so far are told
abbrev pub invariant-loop-text : goal.invariant-loop-text
invariant-loop-text l =
    Adds l.base l.fn.out.items l.out.items
    (λ bytes. TellsTexts bytes l.links.items
    (map (option_map string_bytes) (take l.text-index l.texts)))
    × All (λ n. n < 2 ^ 64) l.links.items
