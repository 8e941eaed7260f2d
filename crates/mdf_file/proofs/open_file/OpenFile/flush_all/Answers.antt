use Rattle.std.proofs.Common.{All, arith, ap, length, refl, subst, take_all}
use Rattle.std.proofs.lemmas.List.{length-map}
use Rattle.mdf_file.specs.Standing.{IsEmpty, seen}
use Rattle.mdf_file.proofs.StandingLemmas.{same_unfinished}
use Rattle.mdf_file.proofs.open_file.OpenFile.flush_all.Goals as goal

-- nothing was written yet
pub loop-number-init : goal.loop-number-init
loop-number-init g c = (
  c.requires.standing,
  same_unfinished _ _ _ c.requires.standing,
  λ k d lt. absurd (omega (arith, lt)),
  refl,
)

-- nothing waits any more of all groups
pub returns-clause-empty : goal.returns-clause-empty
returns-clause-empty g c =
    let groups = c.loop-number.self.groups.items in
    subst (All IsEmpty)
    (take_all c.loop-number.number groups
    (omega (
      arith,
      ap length c.loop-number.invariant.3,
      length-map groups seen,
      length-map c.args.self.now.groups.items seen,
    )))
    c.loop-number.invariant.2
