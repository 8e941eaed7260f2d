-- Worked examples of triggers, prescaler, overload, starts, stops, counts and of a drop, computed.
use Rattle.std.specs.Prelude.{◌≡◌, ℕ, ◌+◌, Bool, true, false, List, [], ◌∷◌, length, take, slice_get}
use Rattle.std.specs.Prelude.{Some, None}
use Rattle.std.proofs.Common.{refl, zero, suc, arith}
use Rattle.xcp_base.specs.declared.item.Item.{Item}
use Rattle.xcp_base.specs.declared.item.Item.TheVariants.{Sample, Marker}
use Rattle.segments.specs.Image.{image_segments}
use Rattle.copy_plan.specs.Config.{ListPlan}
use Rattle.xcp_base.specs.Forms.{usual_form}
use Rattle.copy_plan.specs.Packet.{packets, packet}
use Rattle.sampler.specs.History.{Event, Trigger, Start, Stop, Opening, due, due_at, is_due, with_past, runs_after, triggers_since_start}
use Rattle.sampler.specs.Past.{Past, first_past, one_more}
use Rattle.sampler.specs.Decisions.{overload_bit, overload_pending}
use Rattle.sampler.specs.Items.{items, items_at, samples_from, sample}
use Rattle.sampler.specs.Tracks.{counts_of, counts_after}
use Rattle.sampler.specs.State.{JoinedEnd}
use Rattle.sampler.specs.Standing.{EndStandsAfter, ExceedsCapacity}
use Rattle.sampler.proofs.Drops.{drops-more}
use Rattle.sampler.proofs.FirstTracks.{no_drops}

abbrev plain : ℕ → ℕ → ℕ → List (List (ℕ × ℕ)) → ListPlan
plain l p f odts = record { list = l; channel = 0; prescaler = p; first_pid = f; form = usual_form; stamped = false; odts = odts; segments = image_segments 2 }

-- a trigger with an image of two bytes
abbrev T : ℕ → ℕ → Event
T a b = Trigger (a ∷ b ∷ []) 0

-- a sample of list l with one packet
abbrev one_packet : ℕ → ℕ → List ℕ → Item
one_packet l n q = Sample (record { channel = 0; list = l; number = n; packets = q ∷ [] })

abbrev marker : ℕ → Item
marker l = Marker (record { channel = 0; list = l })

-- list 0 with the entry (0, 2) and prescaler p, running
abbrev one_list : ℕ → Opening
one_list p = record { channel = 0; plans = plain 0 p 0 (((0, 2) ∷ []) ∷ []) ∷ []; running = 1 }

-- list 0 with (0, 1) and list 1 with (1, 1), both running
abbrev two_lists : Opening
two_lists = record { channel = 0; plans = plain 0 1 0 (((0, 1) ∷ []) ∷ []) ∷ plain 1 1 1 (((1, 1) ∷ []) ∷ []) ∷ []; running = 3 }

-- list 0 with the ODTs (0, 1) and (1, 1)
abbrev two_odts : Opening
two_odts = record { channel = 0; plans = plain 0 1 0 (((0, 1) ∷ []) ∷ ((1, 1) ∷ []) ∷ []) ∷ []; running = 1 }

every_third_trigger_is_due : due (one_list 3) (T 0 0 ∷ T 1 1 ∷ T 2 2 ∷ T 3 3 ∷ T 4 4 ∷ T 5 5 ∷ T 6 6 ∷ []) ≡ (0, 0) ∷ (3, 0) ∷ (6, 0) ∷ []
unfolding due due_at is_due with_past runs_after triggers_since_start
every_third_trigger_is_due = refl

the_first_trigger_after_a_start_is_due : due (one_list 3) (T 0 0 ∷ T 1 1 ∷ Stop 0 ∷ Start 0 ∷ T 4 4 ∷ T 5 5 ∷ T 6 6 ∷ T 7 7 ∷ []) ≡ (0, 0) ∷ (4, 0) ∷ (7, 0) ∷ []
unfolding due due_at is_due with_past runs_after triggers_since_start
the_first_trigger_after_a_start_is_due = refl

two_drops_mark_the_next_sample_once : items (one_list 1) (T 1 1 ∷ T 2 2 ∷ T 3 3 ∷ T 4 4 ∷ T 5 5 ∷ []) (true ∷ false ∷ false ∷ true ∷ true ∷ []) ≡ one_packet 0 0 (0x00 ∷ 1 ∷ 1 ∷ []) ∷ one_packet 0 1 (0x80 ∷ 4 ∷ 4 ∷ []) ∷ one_packet 0 2 (0x00 ∷ 5 ∷ 5 ∷ []) ∷ []
unfolding items items_at samples_from sample overload_bit overload_pending due due_at is_due with_past runs_after triggers_since_start packets packet
two_drops_mark_the_next_sample_once = refl

-- the images aabb and 1122, a stop of list 0, ccdd, a start, eeff
abbrev shared_history : List Event
shared_history = T 0xAA 0xBB ∷ T 0x11 0x22 ∷ Stop 0 ∷ T 0xCC 0xDD ∷ Start 0 ∷ T 0xEE 0xFF ∷ []

-- list 1 loses its first two samples and its last one
abbrev shared_decisions : List Bool
shared_decisions = true ∷ false ∷ true ∷ false ∷ true ∷ true ∷ false ∷ []

lists_are_due_in_rising_order : due two_lists shared_history ≡ (0, 0) ∷ (0, 1) ∷ (1, 0) ∷ (1, 1) ∷ (3, 1) ∷ (5, 0) ∷ (5, 1) ∷ []
unfolding due due_at is_due with_past runs_after triggers_since_start
lists_are_due_in_rising_order = refl

each_list_has_its_own_overload : items two_lists shared_history shared_decisions ≡ one_packet 0 0 (0x00 ∷ 0xAA ∷ []) ∷ one_packet 0 1 (0x00 ∷ 0x11 ∷ []) ∷ marker 0 ∷ one_packet 1 2 (0x81 ∷ 0xDD ∷ []) ∷ one_packet 0 3 (0x00 ∷ 0xEE ∷ []) ∷ []
unfolding items items_at samples_from sample overload_bit overload_pending due due_at is_due with_past runs_after triggers_since_start packets packet
each_list_has_its_own_overload = refl

odt_0_alone_is_marked : items two_odts (T 0x11 0x11 ∷ T 0x22 0x22 ∷ T 0x33 0x44 ∷ []) (true ∷ false ∷ true ∷ []) ≡ Sample (record { channel = 0; list = 0; number = 0; packets = (0x00 ∷ 0x11 ∷ []) ∷ (0x01 ∷ 0x11 ∷ []) ∷ [] }) ∷ Sample (record { channel = 0; list = 0; number = 1; packets = (0x80 ∷ 0x33 ∷ []) ∷ (0x01 ∷ 0x44 ∷ []) ∷ [] }) ∷ []
unfolding items items_at samples_from sample overload_bit overload_pending due due_at is_due with_past runs_after triggers_since_start packets packet
odt_0_alone_is_marked = refl

a_pending_overload_outlives_stop_and_start : items (one_list 1) (T 1 1 ∷ T 2 2 ∷ Stop 0 ∷ Start 0 ∷ T 3 3 ∷ []) (true ∷ false ∷ true ∷ []) ≡ one_packet 0 0 (0x00 ∷ 1 ∷ 1 ∷ []) ∷ marker 0 ∷ one_packet 0 1 (0x80 ∷ 3 ∷ 3 ∷ []) ∷ []
unfolding items items_at samples_from sample overload_bit overload_pending due due_at is_due with_past runs_after triggers_since_start packets packet
a_pending_overload_outlives_stop_and_start = refl

a_stopped_list_is_due_at_no_trigger : items (one_list 1) (T 1 1 ∷ Stop 0 ∷ T 2 2 ∷ []) (true ∷ []) ≡ one_packet 0 0 (0x00 ∷ 1 ∷ 1 ∷ []) ∷ marker 0 ∷ []
unfolding items items_at samples_from sample overload_bit overload_pending due due_at is_due with_past runs_after triggers_since_start packets packet
a_stopped_list_is_due_at_no_trigger = refl

abbrev shared_past : Past
shared_past = record { opening = two_lists; history = shared_history; decisions = shared_decisions }

-- list 1 loses two samples before its first accepted one, and one behind it
each_list_has_its_own_counts : counts_after shared_past 1 ≡ Some (record { due = 4; accepted = 1; dropped = 3 })
unfolding counts_of due due_at is_due with_past runs_after triggers_since_start
each_list_has_its_own_counts = refl

a_list_of_another_channel_has_no_counts : counts_after shared_past 2 ≡ None
a_list_of_another_channel_has_no_counts = refl

-- one place: list 0 takes it, list 1 finds none
abbrev one_place : JoinedEnd
one_place = record {
  channel = 0;
  plans = two_lists.plans;
  counts = record { due = 1; accepted = 1; dropped = 0 } ∷ record { due = 1; accepted = 0; dropped = 1 } ∷ [];
  capacity = 1;
  cost = λ item. 1;
  sent = one_packet 0 0 (0x00 ∷ 0xAA ∷ []) ∷ [];
}

drop_at_one_place : (k : ℕ) (plan : ListPlan) →
    slice_get (due_at two_lists [] (T 0xAA 0xBB)) k ≡ Some plan →
    slice_get (true ∷ false ∷ []) (length (due two_lists []) + k) ≡ Some false →
    ExceedsCapacity 1 (λ item. 1) (items two_lists (T 0xAA 0xBB ∷ []) (take (length (due two_lists []) + k) (true ∷ false ∷ []))) (sample two_lists (T 0xAA 0xBB ∷ []) (true ∷ false ∷ []) (length (due two_lists []) + k) plan (0xAA ∷ 0xBB ∷ []) 0)
unfolding items items_at samples_from sample overload_bit overload_pending due due_at is_due with_past runs_after triggers_since_start packets packet
drop_at_one_place zero plan at dropped = absurd cc
drop_at_one_place (suc zero) plan at dropped = omega arith
drop_at_one_place (suc (suc k)) plan at dropped = absurd cc

-- so what is left of a sampler can stand after a history with a drop
an_end_stands_after_a_drop : EndStandsAfter one_place (one_more (first_past two_lists) (T 0xAA 0xBB) (true ∷ false ∷ []))
unfolding items items_at samples_from sample overload_bit overload_pending due due_at is_due with_past runs_after triggers_since_start packets packet counts_of
an_end_stands_after_a_drop = record {
  channel = refl;
  plans = refl;
  decisions = refl;
  sent = refl;
  counts = refl;
  drops = drops-more 1 (λ item. 1) (first_past two_lists) (T 0xAA 0xBB) (true ∷ false ∷ []) refl (no_drops 1 (λ item. 1) two_lists) drop_at_one_place;
}
