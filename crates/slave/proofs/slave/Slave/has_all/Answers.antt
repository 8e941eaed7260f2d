use Rattle.std.proofs.Common.{◌≡◌, Bool, true, false, not, refl, sym, subst}
use Rattle.std.proofs.lemmas.Bool.{false≢true}
use Rattle.slave_channels.specs.Calls.{KeepsNoneWithin, KeepsOneWithin}
use Rattle.slave.specs.Standing.{SlaveState}
use Rattle.slave.proofs.slave.Slave.has_all.Goals as goal

not-true : (b : Bool) → not b ≡ true → b ≡ false
not-true true e = absurd (false≢true e)
not-true false e = refl

not-false : (b : Bool) → not b ≡ false → b ≡ true
not-false true e = refl
not-false false e = absurd (false≢true (sym e))

-- what isn't kept came back
pub returns : goal.returns
returns c = record {
  yes = λ is. subst (λ (s : SlaveState). KeepsNoneWithin c.args.from c.args.to s.channels) c.self.view_is (c.has_parts_within.ensures.none (not-true c.has_parts_within.result is));
  no = λ is. subst (λ (s : SlaveState). KeepsOneWithin c.args.from c.args.to s.channels) c.self.view_is (c.has_parts_within.ensures.some (not-false c.has_parts_within.result is));
}
