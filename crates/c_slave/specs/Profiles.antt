-- The profile that C asks for.
use Rattle.std.specs.Prelude.{◌≡◌, ◌≢◌, ◌⊎◌, ℕ, ◌==◌, if◌then◌else◌, List, [], ◌∷◌, map}
use Rattle.std.specs.Prelude.{Some, None}
use Rattle.c_engine.specs.Kinds.{kind_of}
use Rattle.c_engine.specs.declared.status.Status.{Status}
use Rattle.c_engine.specs.declared.status.Status.TheVariants as status
use Rattle.segments.specs.declared.segment.Segment.{Segment}
use Rattle.session.specs.Profiles.{profile_fault}
use Rattle.session.specs.declared.event_channel.EventChannel.{EventChannel}
use Rattle.session.specs.declared.profile.Profile.{Profile}
use Rattle.c_slave.specs.declared.profile_in.EventIn.{EventIn}
use Rattle.c_slave.specs.declared.profile_in.ProfileIn.{ProfileIn}
use Rattle.c_slave.specs.declared.profile_in.SegmentIn.{SegmentIn}

-- the bytes before the first zero byte
abbrev pub text_of : List ℕ → List ℕ
text_of [] = []
text_of (b ∷ bs) = if b == 0 then [] else b ∷ text_of bs

-- what is told of an event channel
pub record EventTold : Type 0 where
  pub capacity : ℕ
  pub name : List ℕ
  pub cycle : ℕ
  pub cycle_unit : ℕ
  pub priority : ℕ

-- by C, and by an event channel
abbrev pub told_in : EventIn → EventTold
told_in e = record {
  capacity = e.capacity;
  name = text_of e.name;
  cycle = e.cycle;
  cycle_unit = e.cycle_unit;
  priority = e.priority;
}

abbrev pub told_of : EventChannel → EventTold
told_of e = record {
  capacity = e.capacity;
  name = e.name.items;
  cycle = e.cycle;
  cycle_unit = e.cycle_unit;
  priority = e.priority;
}

-- a segment
abbrev pub segment_in : SegmentIn → Segment
segment_in s =
    record { extension = s.extension; base = s.base; len = s.len; events = s.events }

-- this is the profile that is asked for
pub record IsProfileOf (p : ProfileIn) (segments : List SegmentIn) (events : List EventIn)
    (a2l : List ℕ) (d : Profile)
    : Type 0 where
  pub memory : d.segments.items ≡ map segment_in segments
  pub id : kind_of p.id ≡ Some d.id
  pub stamp_size : d.stamp_size ≡ p.stamp_size
  pub unit : d.unit ≡ p.unit
  pub ticks : d.ticks ≡ p.ticks
  pub max_cto : d.max_cto ≡ p.max_cto
  pub max_dto : d.max_dto ≡ p.max_dto
  pub name : d.name.items ≡ text_of p.name
  pub channels : map told_of d.events.items ≡ map told_in events
  pub a2l_name : d.a2l_name.items ≡ text_of p.a2l_name
  pub epk : d.epk.items ≡ text_of p.epk
  pub a2l_is : d.a2l.items ≡ a2l

-- the same, and it is within its limits
pub record IsGoodProfileOf (p : ProfileIn) (segments : List SegmentIn) (events : List EventIn)
    (a2l : List ℕ) (d : Profile)
    : Type 0 where
  pub is : IsProfileOf p segments events a2l d
  pub within : profile_fault d ≡ None

-- there is no such identification field; or else the profile is out of a limit
abbrev pub IsOutOfLimits : ProfileIn → List SegmentIn → List EventIn → List ℕ → Type 0
IsOutOfLimits p segments events a2l =
    (kind_of p.id ≡ None)
    ⊎ ((d : Profile) × IsProfileOf p segments events a2l d × (profile_fault d ≢ None))

-- why there is no profile
abbrev pub RefusesProfile
    : ProfileIn → List SegmentIn → List EventIn → List ℕ → Status → Type 0
RefusesProfile p segments events a2l status.BadLimits = IsOutOfLimits p segments events a2l
RefusesProfile p segments events a2l status.Memory = Unit {0}
RefusesProfile p segments events a2l _ = ⊥
