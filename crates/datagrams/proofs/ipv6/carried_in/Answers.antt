use Rattle.std.proofs.Common.{◌+◌, [], drop, refl, sym, ap, subst, ◌∙◌, add-zero, get_or, true≢false}
use Rattle.std.proofs.lemmas.List.{get_or-drop}
use Rattle.capture.proofs.FieldLemmas.{rest-is}
use Rattle.datagrams.specs.Inner.{HasWalked}
use Rattle.datagrams.specs.Ipv6.{HasExtension, IsChain}
use Rattle.datagrams.proofs.ChainLemmas.{carried-there, none-last, none-whole, walked-more}
use Rattle.datagrams.proofs.ipv6.carried_in.Goals as goal

-- a header that isn't there whole
pub returns-in_err-len-clause-none : goal.returns-in_err-len-clause-none
returns-in_err-len-clause-none c none lens carried chain =
    let bytes = c.args.bytes.now in
    let at = c.loop-next.at in
    let here = c.loop-next.invariant.rest lens carried chain in
    none-whole c.loop-next.next (drop at bytes) here.0 carried (c.is_extension.ensures.0 c.loop-next-test.true)
    (λ len e. c.in_err-len.ensures.none refl len (subst (λ b. HasExtension c.loop-next.next b len) (sym (rest-is at bytes)) e)) here.1

pub loop-next-preserved : goal.loop-next-preserved
loop-next-preserved c =
    let bytes = c.args.bytes.now in
    let at = c.loop-next.at in
    let some : HasExtension c.loop-next.next (drop at bytes) c.in_ok-len.len =
    subst (λ b. HasExtension c.loop-next.next b c.in_ok-len.len) (rest-is at bytes) c.in_ok-len.ensures.some in
    subst (λ n. HasWalked c.args.first bytes n (at + c.in_ok-len.len)) (get_or-drop at bytes 0 0 ∙ ap (λ n. get_or bytes n 0) (add-zero at))
    (walked-more c.args.first bytes c.loop-next.next at c.in_ok-len.len c.loop-next.invariant some)

pub returns-clause-some : goal.returns-clause-some
returns-clause-some c = carried-there c.args.first c.args.bytes.now c.loop-next.next c.loop-next.at c.last_in.result c.loop-next.invariant c.last_in.ensures.some

-- nothing stands behind the headers
pub returns-clause-none : goal.returns-clause-none
returns-clause-none c none lens carried chain =
    let bytes = c.args.bytes.now in
    let at = c.loop-next.at in
    let here = c.loop-next.invariant.rest lens carried chain in
    none-last c.loop-next.next (drop at bytes) here.0 carried (λ is. true≢false (sym (c.loop-next-test.ensures.1 is)))
    (λ ends. c.last_in.ensures.none none carried (subst (λ b. IsChain c.loop-next.next b [] carried) (sym (rest-is at bytes)) ends)) here.1
