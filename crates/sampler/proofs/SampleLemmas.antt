-- The packets of a plan's sample keep to the limits.
use Rattle.std.proofs.Common.{◌≡◌, ℕ, ◌<◌, ◌≤◌, Bool, List, [], length, arith, sym, subst}
use Rattle.std.proofs.lemmas.List.FromFn.{get_or-map-range_with_len, length-map-range_with_len}
use Rattle.std.specs.Prelude.{All}
use Rattle.xcp_base.specs.declared.id_kind.IdKind.{IdKind}
use Rattle.xcp_base.specs.declared.id_kind.IdKind.TheVariants.{Absolute, RelativeByte, RelativeWord}
use Rattle.xcp_base.specs.Forms.{field_len}
use Rattle.segments.specs.Image.{image_len}
use Rattle.channel_ring.specs.Making.{ArePackets, FitsSample, IsPacket, IsShort, SampleLimit, by_value}
use Rattle.copy_plan.specs.Config.{IsByValue, IsPlan, ListPlan}
use Rattle.copy_plan.specs.Packet.{packet, packets}
use Rattle.copy_plan.proofs.FrameLemmas.{frames_long}
use Rattle.copy_plan.proofs.PacketLemmas.{packet_has_len}
use Rattle.sampler.specs.Limits.{KeepsTo}

field_some : (id : IdKind) → 1 ≤ field_len id
field_some Absolute = omega arith
field_some RelativeByte = omega arith
field_some RelativeWord = omega arith

pub how_many : (plan : ListPlan) (image : List ℕ) (stamp : ℕ) (marked : Bool) → length (packets plan image stamp marked) ≡ length plan.odts
unfolding packets
how_many plan image stamp marked = length-map-range_with_len (packet plan image stamp marked) 0 (length plan.odts)

-- of which each packet is that of an ODT
each_packet : (P : List ℕ → Type 0) (plan : ListPlan) (image : List ℕ) (stamp : ℕ) (marked : Bool)
    → ((k : ℕ) → k < length plan.odts → P (packet plan image stamp marked k)) → All P (packets plan image stamp marked)
unfolding packets
each_packet P plan image stamp marked of_odt = λ k d h.
    let here : k < length plan.odts = omega (arith, h, length-map-range_with_len (packet plan image stamp marked) 0 (length plan.odts)) in
    subst P (sym (get_or-map-range_with_len (packet plan image stamp marked) 0 (length plan.odts) k k d here (omega arith))) (of_odt k here)

pub are_packets : (plan : ListPlan) (image : List ℕ) (stamp : ℕ) (marked : Bool) → IsPlan plan → length image ≡ image_len plan.segments → ArePackets (packets plan image stamp marked)
are_packets plan image stamp marked is fits =
    let many = how_many plan image stamp marked in
    record {
      some = omega (arith, many, is.some);
      few = omega (arith, many, is.limit);
      each = each_packet IsPacket plan image stamp marked (λ k here.
          let len = packet_has_len plan image stamp k marked fits is here in
          record { some = omega (arith, len, field_some plan.form.id); fits = omega (arith, len, is.short k here, is.form) });
    }

-- they keep to what the plan keeps to
pub fits_limit : (limit : SampleLimit) (plan : ListPlan) (image : List ℕ) (stamp : ℕ) (marked : Bool) → IsPlan plan → KeepsTo limit plan → length image ≡ image_len plan.segments → FitsSample limit (packets plan image stamp marked)
fits_limit limit plan image stamp marked is keeps fits =
    let many = how_many plan image stamp marked in
    record {
      few = omega (arith, many, keeps.few);
      short = each_packet (IsShort limit.packet) plan image stamp marked (λ k here. omega (arith, packet_has_len plan image stamp k marked fits is here, keeps.short k here));
      frames = omega (arith, keeps.frames, frames_long plan image stamp marked fits is);
    }

-- the packet of an ODT is as short as all are
short_at : (most : ℕ) (plan : ListPlan) (image : List ℕ) (stamp : ℕ) (marked : Bool) → All (IsShort most) (packets plan image stamp marked) → (k : ℕ) → k < length plan.odts → length (packet plan image stamp marked k) ≤ most
unfolding packets
short_at most plan image stamp marked all k here =
    subst (λ q. length q ≤ most) (get_or-map-range_with_len (packet plan image stamp marked) 0 (length plan.odts) k k [] here (omega arith))
    (all k [] (omega (arith, here, length-map-range_with_len (packet plan image stamp marked) 0 (length plan.odts))))

-- of a plan whose samples find room in a value of fixed size
pub by_value_plan : (plan : ListPlan) (image : List ℕ) (stamp : ℕ) (marked : Bool) → IsPlan plan → length image ≡ image_len plan.segments → FitsSample by_value (packets plan image stamp marked) → IsByValue plan
by_value_plan plan image stamp marked is fits all =
    let many = how_many plan image stamp marked in
    record {
      few = omega (arith, many, all.few);
      short = λ k here. omega (arith, packet_has_len plan image stamp k marked fits is here, short_at 64 plan image stamp marked all.short k here);
    }
