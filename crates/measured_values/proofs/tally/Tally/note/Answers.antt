use Rattle.std.proofs.Common.{sym}
use Rattle.measured_values.proofs.TallyLemmas.{IsTally-nan, IsTally-number}
use Rattle.measured_values.proofs.tally.Tally.note.Goals as goal

-- a NaN changes the count alone
pub returns-then-is_nan : goal.returns-then-is_nan
returns-then-is_nan c = λ values so_far.
    let nan = sym c.if-is_nan.ensures.value in
    IsTally-nan c.args.self.now c.args.value values _ so_far nan c.saturating_add-self.ensures

-- a number may be the new least and the new greatest
pub returns : goal.returns
returns c = λ values so_far.
    let number = sym c.if-is_nan.ensures.value in
    IsTally-number c.args.self.now c.args.value c.lower.result c.higher.result values _ _ so_far
    number c.saturating_add-self.ensures c.saturating_add-self-2.ensures c.lower.ensures
    c.higher.ensures
