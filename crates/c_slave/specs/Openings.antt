-- What ng_slave_open does to a handle.
use Rattle.std.specs.Prelude.{◌≡◌, ℕ, List, Option, Some, None, IsSome}
use Rattle.c_slave.specs.declared.content.Content.{Content}
use Rattle.c_slave.specs.declared.content.Content.TheVariants as held
use Rattle.c_engine.specs.declared.status.Status.{Status}
use Rattle.c_engine.specs.declared.status.Status.TheVariants as status
use Rattle.session.specs.declared.profile.Profile.{Profile}
use Rattle.slave_lending.specs.Lends.{IsOpenedWith}
use Rattle.c_slave.specs.Profiles.{IsGoodProfileOf, IsOutOfLimits}
use Rattle.c_slave.specs.declared.profile_in.EventIn.{EventIn}
use Rattle.c_slave.specs.declared.profile_in.ProfileIn.{ProfileIn}
use Rattle.c_slave.specs.declared.profile_in.SegmentIn.{SegmentIn}

-- a slave was opened with this profile
abbrev pub IsSlaveOf : Profile → Content → Type 0
IsSlaveOf d (held.Slave s) = IsOpenedWith d s
IsSlaveOf d _ = ⊥

-- the same, with the profile that was asked for
pub record SlaveOf (p : ProfileIn) (segments : List SegmentIn) (events : List EventIn)
    (a2l : List ℕ) (it : Content)
    : Type 0 where
  pub profile : Profile
  pub good : IsGoodProfileOf p segments events a2l profile
  pub opened : IsSlaveOf profile it

-- what ng_slave_open does to a handle
abbrev pub OpensSlave
    : Option Content → Option Content → ProfileIn → List SegmentIn → List EventIn → List ℕ
    → Status → Type 0
OpensSlave old new p segments events a2l status.Ok =
    (old ≡ None) × ((it : Content) × (new ≡ Some it) × SlaveOf p segments events a2l it)
OpensSlave old new p segments events a2l status.InUse = IsSome old × (new ≡ old)
OpensSlave old new p segments events a2l status.BadLimits =
    (old ≡ None) × (new ≡ old) × IsOutOfLimits p segments events a2l
OpensSlave old new p segments events a2l status.Memory = (old ≡ None) × (new ≡ old)
OpensSlave old new p segments events a2l _ = ⊥
