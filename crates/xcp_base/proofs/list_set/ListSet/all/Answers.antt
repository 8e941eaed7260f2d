use Rattle.std.proofs.Common.{nat_eq, ap}
use Rattle.std.proofs.lemmas.Nat.Bits.{bit_at_ones}
use Rattle.xcp_base.proofs.list_set.ListSet.all.Goals as goal

-- all sixteen bits are set
pub returns : goal.returns
returns c = λ l below. ap (λ n. nat_eq n 1) (bit_at_ones 16 l below)
