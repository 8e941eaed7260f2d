-- The packets of several lists, told apart by their identification fields, and the samples that
-- were given back of them.
use Rattle.std.specs.Prelude.{◌≡◌, ℕ, suc, ◌<◌, ◌==◌, ◌&&◌, nat_le, Bool, if◌then◌else◌, All, List}
use Rattle.std.specs.Prelude.{[], ◌∷◌, ◌++◌, length, map, filter, slice_get, slice_set}
use Rattle.std.specs.Prelude.{Option, Some, None}
use Rattle.xcp_base.specs.Forms.{field_len}
use Rattle.copy_plan.specs.Config.{ListPlan}
use Rattle.daq_reader.specs.declared.packet_fault.PacketFault.{PacketFault}
use Rattle.daq_reader.specs.declared.packet_fault.PacketFault.TheVariants.{OtherList}
use Rattle.daq_reader.specs.Faults.{fault_of}
use Rattle.daq_reader.specs.Laws.{AreRead}
use Rattle.daq_reader.specs.Reading.{Reading, is_whole, under_way}
use Rattle.daq_reader.specs.Recorded.{AreOf, Begin, Recorded, is_of_list}

-- the packet has an identification field, which names the list
abbrev pub is_of : ListPlan → List ℕ → Bool
is_of plan q = nat_le (field_len plan.form.id) (length q) && is_of_list plan q

abbrev pub plans_of : List Reading → List ListPlan
plans_of lists = map (λ (a : Reading). a.plan) lists

-- the place of the first list that the packet is of; the number of the lists if there is none
abbrev pub place_in : List ListPlan → List ℕ → ℕ
place_in [] q = 0
place_in (plan ∷ plans) q = if is_of plan q then 0 else suc (place_in plans q)

-- no list has packets that wait for others
abbrev pub NoneWaits : List Reading → Type 0
NoneWaits lists = All (λ (a : Reading). under_way a ≡ []) lists

-- those of the packets that are of the list at a place, in order
abbrev pub of_place : List ListPlan → ℕ → List (List ℕ) → List (List ℕ)
of_place plans i qs = filter (λ (q : List ℕ). place_in plans q == i) qs

-- those of the samples that were given back for the list at a place, in order
abbrev pub given : ℕ → List (ℕ × Recorded) → List Recorded
given i samples =
    map (λ (s : ℕ × Recorded). s.1) (filter (λ (s : ℕ × Recorded). s.0 == i) samples)

-- after these packets these samples were given back: each packet is of some list, and those of each
-- list are the packets of its samples, whole, once and in order, and the packets that wait
pub record Stands (lists : List Reading) (qs : List (List ℕ)) (samples : List (ℕ × Recorded))
    : Type 0 where
  pub known : All (λ (q : List ℕ). place_in (plans_of lists) q < length lists) qs
  pub each :
      (i : ℕ) (a : Reading) → slice_get lists i ≡ Some a
      → AreRead a.plan (given i samples) (under_way a) (of_place (plans_of lists) i qs)

-- the same, with the sample that is whole at a place, if there is one
abbrev pub StandsWith :
    List Reading → List (List ℕ) → List (ℕ × Recorded) → Option ℕ → Type 0
StandsWith lists qs samples None = Stands lists qs samples
StandsWith lists qs samples (Some i) =
    (a : Reading) (r : Recorded) → slice_get lists i ≡ Some a → AreOf a.plan r a.packets
    → Stands lists qs (samples ++ (i, r) ∷ [])

-- the list that a packet is of takes it, and the others stay; `whole` is the list's place if its
-- sample is whole with it
pub record Takes (old now : List Reading) (q : List ℕ) (whole : Option ℕ) : Type 0 where
  -- fixed by `at` and `is`
  pub before : Reading
  pub after : Reading
  pub at : slice_get old (place_in (plans_of old) q) ≡ Some before
  pub begins : Begin before.plan (under_way before ++ q ∷ [])
  pub is : after ≡ record before { packets = under_way before ++ q ∷ [] }
  pub others : now ≡ slice_set old (place_in (plans_of old) q) after
  pub sample : whole ≡ (if is_whole after then Some (place_in (plans_of old) q) else None)

-- why a packet is refused: it is of no list; or it has a fault for the list that it is of
abbrev pub fault_at : Option Reading → List ℕ → Option PacketFault
fault_at None q = Some OtherList
fault_at (Some a) q = fault_of a.plan (length (under_way a)) q

abbrev pub refusal : List Reading → List ℕ → Option PacketFault
refusal lists q = fault_at (slice_get lists (place_in (plans_of lists) q)) q
