-- Why a slave isn't opened with a profile.
use Rattle.std.specs.Prelude.{◌≡◌, Some, None}
use Rattle.session.specs.Profiles.{profile_fault}
use Rattle.session.specs.declared.profile.Profile.{Profile}
use Rattle.slave.specs.declared.opening.OpenFault.{OpenFault}
use Rattle.slave.specs.declared.opening.OpenFault.TheVariants as fault

-- the profile is within its limits
abbrev pub CanOpen : Profile → Type 0
CanOpen d = profile_fault d ≡ None

-- the first limit that the profile is out of; or, of a profile within its limits, no memory
abbrev pub IsOpenRefusal : Profile → OpenFault → Type 0
IsOpenRefusal d (fault.Profile f) = profile_fault d ≡ Some f
IsOpenRefusal d fault.Memory = profile_fault d ≡ None
