use Rattle.std.proofs.Common.{◌≡◌, ◌+◌, ◌≤◌, [], ◌∷◌, ◌++◌, length, sym, ap, ◌∙◌, subst, arith}
use Rattle.std.proofs.lemmas.List.{length-append}
use Rattle.xcp_base.specs.Samples.{SampleParts}
use Rattle.xcp_base.specs.declared.item.Item.TheVariants.{Sample}
use Rattle.frame_ring.specs.Heads.{item_head}
use Rattle.frame_ring.specs.Records.{IsItem, cost, record_of}
use Rattle.frame_ring.specs.States.{take_state}
use mathlib.Core.List.{IsPrefix}
use Rattle.frame_page.specs.Pages.{PageState, laid_in, waits_in}
use Rattle.frame_page.specs.Queue.{QueueState}
use Rattle.frame_page.proofs.TakeLemmas.{IsSampleWith, OneMore, one_more, page_is, record_laid, record_unit, same_unit, sample_with, unit_of}
use Rattle.frame_page.proofs.UnitLemmas.{how_many}
use Rattle.frame_page.proofs.page.FramePage.take_sample.Given.{Over}
use Rattle.frame_page.proofs.page.FramePage.take_sample.Goals as goal
use Rattle.frame_page.proofs.page.FramePage.take_sample.Goals.{After-push_back}

-- the item that was taken is the sample that the head told
told : (g : Over) (c : After-push_back g) → IsSampleWith c.take_record.ensures.takes.item c.args.packets c.args.len
told g c = sample_with c.take_record.ensures.takes.item c.requires.front.list c.args.packets c.args.len (sym c.requires.front.told ∙ c.take_record.ensures.takes.head_is)

blocks : (g : Over) (c : After-push_back g) → c.sample_blocks-blocks.result ≡ cost (Sample (told g c).sample)
blocks g c = c.sample_blocks-blocks.ensures.cost (told g c).sample (told g c).long

-- its record stands behind all that waited
behind : (g : Over) (c : After-push_back g) → c.take_record.new.self ≡ record c.self.inside.blocks { all = c.self.inside.blocks.all ++ record_of (Sample (told g c).sample) }
behind g c =
    c.take_record.ensures.rest
    ∙ ap (λ r. record c.self.inside.blocks { all = c.self.inside.blocks.all ++ r }) (c.take_record.ensures.takes.record_is ∙ ap record_of (told g c).is)

laid : (g : Over) (c : After-push_back g) → OneMore c.self.inside.blocks c.take_record.new.self c.self.inside.units c.push_back.new.self (laid_in (record_of (Sample (told g c).sample)) (unit_of c.args.origin (told g c).sample))
laid g c =
    let s = c.self.inside in
    let sample : SampleParts = (told g c).sample in
    let fits : length s.blocks.all + cost (Sample sample) ≤ s.blocks.room =
    omega (arith, blocks g c, c.requires.room, c.sample_blocks-blocks.ensures.value, ap (λ (p : PageState _). p.used) c.self.view_is, ap (λ (p : PageState _). p.blocks) c.self.view_is) in
    one_more s.blocks c.take_record.new.self (record_of (Sample sample)) s.units c.push_back.new.self (unit_of c.args.origin sample) _
    c.self.invariant (record_unit c.args.origin sample (subst IsItem (told g c).is c.take_record.ensures.takes.is_item))
    (same_unit c.args.origin sample c.sample_blocks-blocks.result c.args.len c.args.packets (blocks g c) (told g c).long (told g c).many)
    (behind g c)
    fits
    (omega (arith, c.requires.place, ap (λ (p : PageState _). length p.waits) c.self.view_is, ap (λ (p : PageState _). p.most) c.self.view_is, how_many s.blocks.all s.units.items))
    c.push_back.ensures.items

pub invariant_of-self : goal.invariant_of-self
invariant_of-self g c = (laid g (goal.at.invariant_of-self g c).After-push_back).page

pub returns : goal.returns
returns g c =
    let w = (goal.at.returns g c).After-push_back in
    let s = c.self.inside in
    let one = laid g w in
    let sample : SampleParts = (told g w).sample in
    let t = c.take_record.ensures.takes in
    let now : QueueState = c.take_record.new.self in
    let used : length now.all ≡ length s.blocks.all + cost (Sample sample) = ap (λ (q : QueueState). length q.all) (behind g w) ∙ length-append s.blocks.all (record_of (Sample sample)) in
    let then : PageState _ = record {
      waits = waits_in now.all c.push_back.new.self.items;
      counter = s.counter;
      used = length now.all;
      blocks = now.room;
      most = c.push_back.new.self.capacity;
    } in
    record {
      sample = sample;
      is_item = subst IsItem (told g w).is t.is_item;
      told = t.head_is ∙ ap item_head (told g w).is;
      received = t.received ∙ ap (λ x. (take_state c.args.ring.now).received ++ x ∷ []) (told g w).is;
      first = subst (λ x. IsPrefix (take_state c.args.ring.now).known (x ∷ (take_state c.take_record.new.ring).known)) (told g w).is t.first;
      ring = t.ring;
      page =
          subst (λ (old : PageState _). then ≡ record old { waits = old.waits ++ record { origin = c.args.origin; packets = sample.packets; blocks = cost (Sample sample) } ∷ []; used = old.used + cost (Sample sample) }) c.self.view_is
          (page_is _ _ s.counter _ _ _ _ _ _ (one.waits ∙ ap (λ l. waits_in s.blocks.all s.units.items ++ l ∷ []) (record_laid c.args.origin sample (subst IsItem (told g w).is t.is_item))) used (ap (λ (q : QueueState). q.room) (behind g w)) one.most);
    }
