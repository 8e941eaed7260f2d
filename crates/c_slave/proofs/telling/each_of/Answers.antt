use Rattle.std.proofs.Common.{◌≡◌, ◌+◌, ◌-◌, subst, arith}
use Rattle.c_slave.specs.Measurements.{IsOfMeasurement, IsOfOlder}
use Rattle.c_slave.proofs.TellingLemmas.{each-of-four}
use Rattle.c_slave.proofs.telling.each_of.Goals as goal

-- each of the four is that of its number
pub returns : goal.returns
returns c =
    let account = c.args.account.now in
    let whole = c.args.complete.now.last in
    let at : c.saturating_sub-first.result ≡ account.end - 4 = omega (arith, c.end-end.ensures, c.saturating_sub-first.ensures) in
    let one : c.saturating_add.result ≡ account.end - 4 + 1 = omega (arith, c.end-end.ensures, c.end-end.type_inv, c.saturating_add.ensures, at) in
    let two : c.saturating_add-2.result ≡ account.end - 4 + 2 = omega (arith, c.end-end.ensures, c.end-end.type_inv, c.saturating_add-2.ensures, at) in
    let three : c.saturating_add-3.result ≡ account.end - 4 + 3 = omega (arith, c.end-end.ensures, c.end-end.type_inv, c.saturating_add-3.ensures, at) in
    record {
      count = omega (arith, c.end-end.ensures, at);
      last = λ i less.
          each-of-four account whole c.measurement.result c.measurement-2.result c.measurement-3.result c.measurement-4.result c.has_all.result c.has_all-2.result c.has_all-3.result c.has_all-4.result
          c.has_all.ensures c.has_all-2.ensures c.has_all-3.ensures c.has_all-4.ensures
          (subst (λ n. IsOfMeasurement account n c.has_all.result c.measurement.result) at c.measurement.ensures)
          (subst (λ n. IsOfMeasurement account n c.has_all-2.result c.measurement-2.result) one c.measurement-2.ensures)
          (subst (λ n. IsOfMeasurement account n c.has_all-3.result c.measurement-3.result) two c.measurement-3.ensures)
          (subst (λ n. IsOfMeasurement account n c.has_all-4.result c.measurement-4.result) three c.measurement-4.ensures)
          i (omega (arith, less, c.end-end.ensures, at));
      older = subst (λ n. IsOfOlder account n c.args.complete.now.older c.older.result) at c.older.ensures;
    }
