-- What the calls rest on: what is written of a sample is read as this sample, and as no other.
use Rattle.std.specs.Prelude.{◌≡◌, ℕ, ◌+◌, ◌*◌, ◌%◌, ◌<◌, ◌^◌, Bool, if◌then◌else◌, All}
use Rattle.std.specs.Prelude.{List, ◌++◌, length, map, flat_map, slice_range, Some, None}
use Rattle.xcp_base.specs.Forms.{stamp_bytes}
use Rattle.segments.specs.Image.{image_len}
use Rattle.copy_plan.specs.Config.{IsPlan, ListPlan, OdtEntry}
use Rattle.copy_plan.specs.Packet.{packets}
use Rattle.daq_reader.specs.Recorded.{AreOf, IsRecorded, Recorded, packets_of}

-- the sample that is made of an image: its overload indication, the lowest bytes of the timestamp
-- in a stamped list, and each entry's slice of the image
abbrev pub sample_of : ListPlan → List ℕ → ℕ → Bool → Recorded
sample_of plan image stamp overload = record {
  overload = overload;
  stamp = if plan.stamped then Some (stamp % 2 ^ (8 * stamp_bytes plan.form.stamp)) else None;
  elements = map
      (λ (es : List OdtEntry). map (λ (e : OdtEntry). slice_range image e.0 (e.0 + e.1)) es)
      plan.odts;
}

-- what a copy plan fills is the sample's packets
abbrev pub WrittenIsRead : Type 0
WrittenIsRead =
    (plan : ListPlan) (image : List ℕ) (stamp : ℕ) (overload : Bool) → IsPlan plan
    → length image ≡ image_len plan.segments
    → AreOf plan (sample_of plan image stamp overload) (packets plan image stamp overload)

-- packets are those of at most one sample of a list
abbrev pub SampleIsUnique : Type 0
SampleIsUnique =
    (plan : ListPlan) (r s : Recorded) (qs : List (List ℕ)) → IsPlan plan → AreOf plan r qs
    → AreOf plan s qs → r ≡ s

-- the packets of samples of a list, one after another, and fewer than a sample has
pub record AreRead (plan : ListPlan) (rs : List Recorded) (rest qs : List (List ℕ)) : Type 0 where
  pub each : All (IsRecorded plan) rs
  pub torn : length rest < length plan.odts
  pub whole : qs ≡ flat_map (packets_of plan) rs ++ rest

-- packets are those of at most one list of samples of a list, with one rest
abbrev pub ReadingIsUnique : Type 0
ReadingIsUnique =
    (plan : ListPlan) (rs ss : List Recorded) (xs ys qs : List (List ℕ)) → IsPlan plan
    → AreRead plan rs xs qs → AreRead plan ss ys qs → (rs ≡ ss) × (xs ≡ ys)
