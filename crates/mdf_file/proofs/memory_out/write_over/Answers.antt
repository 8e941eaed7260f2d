use Rattle.std.proofs.Common.{◌++◌, List, ℕ, ap, drop, length}
use Rattle.mdf_file.proofs.memory_out.write_over.Goals as goal

-- the first bytes are those
pub returns : goal.returns
returns c =
    ap (λ (bs : List ℕ). bs ++ drop (length c.args.front.now) c.args.bytes.now)
    c.copy_from_slice.ensures.after
