use Rattle.std.proofs.Common.{◌≡◌, ◌+◌, ◌-◌, ◌≤◌, length, drop, refl, sym, ap, subst, inl, arith, IfSome, is_some, take}
use Rattle.std.proofs.Math.ListN.{drop_of_length-le}
use Rattle.capture.specs.Options.{AreOptions, AtEnd, IsOption, filled}
use Rattle.capture.proofs.FieldLemmas.{rest-is}
use Rattle.capture.proofs.OptionLemmas.{read-all, read-more, read-none}
use Rattle.capture.proofs.options.option_value.Goals as goal

pub loop-at-init : goal.loop-at-init
loop-at-init c = read-none c.args.order c.args.bytes.now c.args.code

-- what stands here is no option
pub returns-in_err-option-clause-none : goal.returns-in_err-option-clause-none
returns-in_err-option-clause-none c err options are =
    let rest = c.loop-at.invariant.later options are in
    c.in_err-option.ensures.none refl rest.0 (subst (λ xs. AreOptions c.args.order xs rest.0) (sym (rest-is c.loop-at.at c.args.bytes.now)) rest.1)

-- the end of the options
pub returns-in_default-clause-ok : goal.returns-in_default-clause-ok
returns-in_default-clause-ok c =
    read-all c.args.order c.args.bytes.now c.args.code c.loop-at.at _ c.loop-at.invariant
    (subst (AtEnd c.args.order) (rest-is c.loop-at.at c.args.bytes.now) (c.in_ok-option.ensures.end (ap is_some c.in_default.is)))

pub loop-at-preserved : goal.loop-at-preserved
loop-at-preserved c =
    let bytes = c.args.bytes.now in
    let at = c.loop-at.at in
    let rest = take (length bytes - at) (drop at bytes) in
    let it = c.in-Some.option in
    let some = subst (λ o. IfSome o (λ found.
    IsOption c.args.order rest (found.code, found.value.now)
    × (found.len ≡ 4 + filled (length found.value.now)) × (found.len ≤ length rest))) c.in-Some.is c.in_ok-option.ensures.some in
    read-more c.args.order bytes c.args.code at it.len _ _ (it.code, it.value.now) c.loop-at.invariant
    (subst (λ xs. IsOption c.args.order xs (it.code, it.value.now)) (rest-is at bytes) some.0) some.1
    (omega (arith, some.2, ap length (rest-is at bytes))) c.first_of-found.ensures

-- the end of the bytes
pub returns-clause-ok : goal.returns-clause-ok
returns-clause-ok c =
    read-all c.args.order c.args.bytes.now c.args.code c.loop-at.at _ c.loop-at.invariant
    (inl (drop_of_length-le c.args.bytes.now (omega (arith, c.loop-at-test.false))))
