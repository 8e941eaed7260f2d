-- Each reply finds room in a frame.
use Rattle.std.proofs.Common.{ℕ, List, arith}
use Rattle.frame_writer.specs.Split.{Fits}
use Rattle.session.specs.declared.profile.Profile.{Profile}
use Rattle.session.specs.Profiles.{IsProfile}
use Rattle.session.proofs.FitLemmas.{IsReply}

pub reply-fits : (d : Profile) (q : List ℕ) → IsProfile d → IsReply d q → Fits q
reply-fits d q profile is = ((is.1 profile).0, omega (arith, (is.1 profile).1, profile.most))
