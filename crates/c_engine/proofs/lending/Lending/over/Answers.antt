use Rattle.std.proofs.Common.{◌≡◌, ◌∙◌, ◌++◌, ap, arith, drop, length, reverse, sym, take}
use Rattle.std.proofs.lemmas.Grind.{common_steps}
use Rattle.std.proofs.lemmas.List.{reverse-reverse}
use Rattle.c_engine.proofs.LendingLemmas.{none-came}
use Rattle.c_engine.proofs.lending.Lending.over.Goals as goal

-- turned twice they are those that came in, of which none is out and none came back
pub invariant_of-result : goal.invariant_of-result
invariant_of-result g c =
    let new = c.reverse.new.self in
    let old = c.args.samplers.items in
    let items : take c.args.samplers.len (new ++ drop (length new) old) ≡ new = grind (arith, common_steps) in
    let samplers = ap reverse (items ∙ c.reverse.ensures.after ∙ ap reverse c.as_mut_slice.ensures.value) ∙ reverse-reverse old in (
      grind (arith, common_steps),
      grind (arith, common_steps),
      grind (arith, common_steps),
      none-came g.R.Send.SendEnd g.R.Send.End.RingEnd _ _ _ _ c.requires.ends.0 c.requires.ways.0 (ap (λ v. v.items) c.of-began.ensures ∙ sym samplers),
    )

pub returns : goal.returns
returns g c =
    let new = c.reverse.new.self in
    let old = c.args.samplers.items in
    let items : take c.args.samplers.len (new ++ drop (length new) old) ≡ new = grind (arith, common_steps) in
    let samplers = ap reverse (items ∙ c.reverse.ensures.after ∙ ap reverse c.as_mut_slice.ensures.value) ∙ reverse-reverse old in
    let began = ap (λ v. v.items) c.of-began.ensures in
    λ i. record { began = began i; out = c.requires.ways.0 i; samplers = samplers i; ends = c.requires.ends.0 i }
