use Rattle.std.proofs.Common.{◌∙◌, inr, sym}
use Rattle.c_slave.proofs.CloseLemmas.{some-not-none}
use Rattle.c_slave.proofs.profiles.good_profile.Goals as goal

-- the profile is out of a limit
pub returns-in-Some-clause-err : goal.returns-in-Some-clause-err
returns-in-Some-clause-err c =
    inr (c.in_ok-profile.profile, c.in_ok-profile.ensures.ok, λ none. some-not-none (sym c.in-Some.is ∙ (c.fault.ensures ∙ none)))
