use Rattle.mdf_blocks.proofs.ListLemmas.{id_letters_are}
use Rattle.mdf_blocks.proofs.id_bytes.with_letters.Goals as goal

-- each letter stands in its place
pub returns : goal.returns
returns c =
    id_letters_are c.args.file.now c.args.program.now c.to_le_bytes.result c.args.flags
    c.told-file c.told-program c.to_le_bytes.ensures
