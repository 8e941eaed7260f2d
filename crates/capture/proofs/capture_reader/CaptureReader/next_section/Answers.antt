use Rattle.std.proofs.Common.{◌≤◌, refl, sym, subst, true≢false}
use Rattle.capture.specs.Inner.{IsWhole}
use Rattle.capture.specs.Units.{RefusesStep}
use Rattle.capture.proofs.NextLemmas.{handed-on, section-has, section-none, section-refuses}
use Rattle.capture.proofs.capture_reader.CaptureReader.next_section.Goals as goal

-- no block begins here, or it is too long
pub returns-in_err-len-clause-err : goal.returns-in_err-len-clause-err
returns-in_err-len-clause-err c =
    let old = c.args.self.now in
    let bytes = c.args.bytes.now in
    handed-on c.from_residual.result (RefusesStep old bytes) _ c.from_residual.ensures.1
    (section-refuses old bytes c.requires.head _ c.order_of-order.result c.requires.may c.requires.some c.order_of-order.ensures c.in_err-len.ensures.err)

-- it isn't there whole
pub returns-in-Wants-clause-ok : goal.returns-in-Wants-clause-ok
returns-in-Wants-clause-ok c =
    let old = c.args.self.now in
    let bytes = c.args.bytes.now in
    let order = c.order_of-order.result in
    let e = subst (IsWhole order bytes) c.in-Wants.is c.in_ok-len.ensures.ok in
    (e.0, e.1, refl, section-has old bytes c.requires.head (λ n. c.in-Wants.len ≤ n) order c.requires.may c.requires.some c.order_of-order.ensures e.2)

-- it is of another version
pub returns-then-not-is_of_version_1-clause-err : goal.returns-then-not-is_of_version_1-clause-err
returns-then-not-is_of_version_1-clause-err c =
    let old = c.args.self.now in
    let bytes = c.args.bytes.now in
    let order = c.order_of-order.result in
    let e = subst (IsWhole order bytes) c.in-Block.is c.in_ok-len.ensures.ok in
    section-none old bytes c.requires.head order c.in-Block.len c.requires.may c.requires.some c.order_of-order.ensures e.1 e.2
    (λ h. true≢false (sym (c.if-not-is_of_version_1.ensures.1 h)))
