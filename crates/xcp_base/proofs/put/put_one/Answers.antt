use Rattle.std.proofs.Common.{◌<◌, ℕ, [], ◌∷◌}
use Rattle.std.proofs.lemmas.List.Elements.{All-from_get_or}
use Rattle.xcp_base.proofs.CopiedLemmas.{copied_at_small}
use Rattle.xcp_base.proofs.put.put_one.Goals as goal

-- what is copied of bytes are bytes
pub returns-clause-each : goal.returns-clause-each
returns-clause-each c =
    let small = All-from_get_or (λ (b : ℕ). b < 256) c.args.bytes.now 0 (λ k h. (c.type_inv.bytes k).fits) in
    copied_at_small c.args.bytes.now c.args.size (c.args.offset ∷ []) small
