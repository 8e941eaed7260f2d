-- The record of a sample in a page.
use Rattle.std.proofs.Common.{◌≡◌, ℕ, ◌+◌, ◌-◌, ◌<◌, ◌≤◌, List, [], ◌∷◌, ◌++◌, length, drop, refl, sym, ap, ◌∙◌, subst, arith}
use Rattle.std.specs.Prelude.{Bool, true, false}
use Rattle.std.proofs.lemmas.Bool.{false≢true}
use Rattle.xcp_base.specs.Samples.{SampleParts}
use Rattle.xcp_base.specs.declared.item.Item.{Item}
use Rattle.xcp_base.specs.declared.item.Item.TheVariants as item
use Rattle.frame_ring.specs.Heads.{item_head}
use Rattle.frame_ring.specs.Reading.{flat, packets_in}
use Rattle.frame_ring.specs.Records.{IsItem, bytes_of, cost, record_of}
use Rattle.frame_ring.specs.declared.head.Head.{Head}
use Rattle.frame_ring.specs.declared.head.Head.TheVariants.{Marker, Sample}
use Rattle.frame_writer.specs.Frame.{unnumbered}
use Rattle.frame_ring.proofs.BlockLemmas.{flat-blocks}
use Rattle.frame_ring.proofs.RecordLemmas.{bytes_fill, frames_stand, sample_bytes, sample_cost}
use Rattle.circular_buffer.specs.Buffer.{Buffer, buffer, keep_last}
use Rattle.std.proofs.lemmas.List.{length-append}
use Rattle.frame_page.specs.Inner.{AreUnits, IsPage, IsUnit}
use Rattle.frame_page.specs.Laid.{Laid}
use Rattle.frame_page.specs.Pages.{PageState, laid_in, waits_in}
use Rattle.frame_page.specs.Queue.{QueueState}
use Rattle.frame_page.specs.declared.unit.Unit.{Unit}
use Rattle.frame_page.proofs.UnitLemmas.{read_front, units_more, waits_more, whole_front}

-- an item that has the head of a sample is one
pub record IsSampleWith (x : Item) (packets len : ℕ) : Type 0 where
  pub sample : SampleParts
  pub is : x ≡ item.Sample sample
  pub many : packets ≡ length sample.packets
  pub long : len ≡ length (unnumbered sample.packets)

packets_told : Head → ℕ
packets_told (Sample list packets len) = packets
packets_told (Marker list) = 0

len_told : Head → ℕ
len_told (Sample list packets len) = len
len_told (Marker list) = 0

is_sample : Head → Bool
is_sample (Sample list packets len) = true
is_sample (Marker list) = false

pub sample_with : (x : Item) (list packets len : ℕ) → Sample list packets len ≡ item_head x → IsSampleWith x packets len
unfolding packets_told len_told is_sample
sample_with (item.Sample s) list packets len e = record { sample = s; is = refl; many = ap packets_told e; long = ap len_told e }
sample_with (item.Marker m) list packets len e = absurd (false≢true (sym (ap is_sample e)))

-- the unit of a sample's record
abbrev pub unit_of : {O : Type 0} → O → SampleParts → Unit O
unit_of origin s = record {
  origin = origin;
  blocks = cost (item.Sample s);
  at = 16;
  len = length (unnumbered s.packets);
  count = length s.packets;
}

pub flat_record : (x : Item) → flat (record_of x) ≡ bytes_of x
flat_record x = let f = bytes_fill x in flat-blocks f.blocks (bytes_of x) f.exactly

module _ {O : Type 0} where
  pub record_unit : (origin : O) (s : SampleParts) → IsItem (item.Sample s) → IsUnit (record_of (item.Sample s)) (unit_of origin s)
  record_unit origin s is =
      record {
        long = refl;
        bytes = ap length (flat_record (item.Sample s)) ∙ omega (arith, sample_bytes s, sample_cost s);
        within = omega (arith, sample_cost s);
        some = is.packets.some;
        few = is.packets.few;
        frames = record {
          packets = s.packets;
          of = record { each = is.packets.each; are = frames_stand s (length (unnumbered s.packets)) refl; many = refl };
        };
      }

  pub record_laid : (origin : O) (s : SampleParts) → IsItem (item.Sample s) → laid_in (record_of (item.Sample s)) (unit_of origin s) ≡ record { origin = origin; packets = s.packets; blocks = cost (item.Sample s) }
  unfolding record_unit
  record_laid origin s is =
      let r = record_of (item.Sample s) in
      ap (λ b. record { origin = origin; packets = packets_in (length s.packets) (drop 16 (flat b)); blocks = cost (item.Sample s) }) (whole_front (length r) r refl)
      ∙ ap (λ packets. record { origin = origin; packets = packets; blocks = cost (item.Sample s) }) (read_front (drop 16 (flat r)) (length s.packets) (length (unnumbered s.packets)) (record_unit origin s is).frames)

  pub same_unit : (origin : O) (s : SampleParts) (blocks len count : ℕ) → blocks ≡ cost (item.Sample s) → len ≡ length (unnumbered s.packets) → count ≡ length s.packets
      → ◌≡◌ {A = Unit O} (record { origin = origin; blocks = blocks; at = 16; len = len; count = count }) (unit_of origin s)
  same_unit origin s blocks len count e f h = rw (e, f, h) refl

-- all are kept where there is room
pub keep_all : {X : Type 0} (n : ℕ) (xs : List X) → length xs ≤ n → keep_last n xs ≡ xs
keep_all n xs h =
    let none : length xs - n ≡ 0 = omega (arith, h) in
    ap (λ k. drop k xs) none

module _ {O : Type 0} where
  -- one unit more
  pub record OneMore (old new : QueueState) (units more : Buffer (Unit O)) (laid : Laid O) : Type 0 where
    pub page : IsPage new more
    pub waits : waits_in new.all more.items ≡ waits_in old.all units.items ++ laid ∷ []
    pub most : more.capacity ≡ units.capacity

  pub one_more : (old new : QueueState) (region : List (List ℕ)) (units more : Buffer (Unit O)) (u v : Unit O)
      → IsPage old units → IsUnit region u → v ≡ u → new ≡ record old { all = old.all ++ region }
      → length old.all + length region ≤ old.room → length units.items < units.capacity → more ≡ buffer (keep_last units.capacity (units.items ++ v ∷ [])) units.capacity
      → OneMore old new units more (laid_in region u)
  one_more old new region units more u v page is same laid fits room pushed =
      let all : keep_last units.capacity (units.items ++ v ∷ []) ≡ units.items ++ u ∷ [] =
      keep_all units.capacity (units.items ++ v ∷ []) (omega (arith, room, length-append units.items (v ∷ []))) ∙ ap (λ w. units.items ++ w ∷ []) same in
      let items : more.items ≡ units.items ++ u ∷ [] = ap (λ (b : Buffer (Unit O)). b.items) pushed ∙ all in
      let most : more.capacity ≡ units.capacity = ap (λ (b : Buffer (Unit O)). b.capacity) pushed in
      let blocks : new.all ≡ old.all ++ region = ap (λ (q : QueueState). q.all) laid in
      let long : new.room ≡ old.room = ap (λ (q : QueueState). q.room) laid in
      record {
        page = record {
          within = omega (arith, fits, long, ap length blocks, length-append old.all region);
          few = omega (arith, long, page.few);
          stand = subst (λ b. AreUnits b more.items) (sym blocks) (subst (AreUnits (old.all ++ region)) (sym items) (units_more old.all region units.items u page.stand is));
          room = omega (arith, most, room, ap length items, length-append units.items (u ∷ []));
        };
        waits = ap (λ b. waits_in b more.items) blocks ∙ ap (waits_in (old.all ++ region)) items ∙ waits_more old.all region units.items u page.stand is;
        most = most;
      }

  pub page_is : (waits w : List (Laid O)) (counter used u blocks b most m : ℕ) → waits ≡ w → used ≡ u → blocks ≡ b → most ≡ m
      → ◌≡◌ {A = PageState O} (record { waits = waits; counter = counter; used = used; blocks = blocks; most = most }) (record { waits = w; counter = counter; used = u; blocks = b; most = m })
  page_is waits w counter used u blocks b most m e f h k = rw (e, f, h, k) refl
