use Rattle.std.proofs.Common.{◌≡◌, ℕ, ◌+◌, ◌-◌, ◌/◌, List, [], ◌∷◌, ◌++◌, length, take, refl, ap, ◌∙◌, subst, arith}
use Rattle.std.proofs.lemmas.List.{length-append}
use Rattle.std.specs.Simd.{first_chunks}
use Rattle.frame_ring.specs.Records.{blocks_for}
use Rattle.frame_ring.specs.Sending.{AreFramesOf}
use Rattle.frame_ring.proofs.BlockLemmas.{length-chunks}
use Rattle.frame_page.specs.Pages.{PageState, laid_in, waits_in}
use Rattle.frame_page.specs.Queue.{QueueState}
use Rattle.frame_page.specs.declared.unit.Unit.{Unit}
use Rattle.frame_page.proofs.PutLemmas.{put_is, put_laid, put_unit}
use Rattle.frame_page.proofs.TakeLemmas.{OneMore, one_more, page_is}
use Rattle.frame_page.proofs.UnitLemmas.{how_many}
use Rattle.frame_page.proofs.page.FramePage.put.Given.{Over}
use Rattle.frame_page.proofs.page.FramePage.put.Goals as goal
use Rattle.frame_page.proofs.page.FramePage.put.Goals.{After-push_back}

-- the blocks of the frames
abbrev many : (g : Over) (c : After-push_back g) → ℕ
many g c = blocks_for c.args.len

abbrev region : (g : Over) (c : After-push_back g) → List (List ℕ)
region g c = first_chunks 8 (many g c) c.args.bytes.now

copied : (g : Over) (c : After-push_back g) → c.first_blocks.result.now ≡ region g c
copied g c =
    let size : (c.args.len + 8 - 1) / 8 ≡ many g c = omega arith in
    c.first_blocks.ensures.blocks ∙ ap (λ n. first_chunks 8 n c.args.bytes.now) size

long : (g : Over) (c : After-push_back g) → length (region g c) ≡ many g c
long g c = length-chunks (many g c) c.args.bytes.now

-- they stand behind all that waited
behind : (g : Over) (c : After-push_back g) → c.push.new.self ≡ record c.self.inside.blocks { all = c.self.inside.blocks.all ++ region g c }
behind g c = c.push.ensures ∙ ap (λ b. record c.self.inside.blocks { all = c.self.inside.blocks.all ++ b }) (copied g c)

same_unit : {O : Type 0} (origin : O) (blocks len count : ℕ) → blocks ≡ blocks_for len → ◌≡◌ {A = Unit O} (record { origin = origin; blocks = blocks; at = 0; len = len; count = count }) (put_unit origin len count)
same_unit origin blocks len count e = rw e refl

laid : (g : Over) (c : After-push_back g) (packets : List (List ℕ)) → AreFramesOf (take c.args.len c.args.bytes.now) c.args.count packets
    → OneMore c.self.inside.blocks c.push.new.self c.self.inside.units c.push_back.new.self (laid_in (region g c) (put_unit c.args.origin c.args.len c.args.count))
laid g c packets of =
    let s = c.self.inside in
    one_more s.blocks c.push.new.self (region g c) s.units c.push_back.new.self (put_unit c.args.origin c.args.len c.args.count) _
    c.self.invariant (put_is c.args.origin packets c.args.bytes.now c.args.len c.args.count c.requires.some c.requires.few c.requires.whole of)
    (same_unit c.args.origin ((c.args.len + 8 - 1) / 8) c.args.len c.args.count (omega arith))
    (behind g c)
    (omega (arith, c.requires.room, long g c, ap (λ (p : PageState _). p.used) c.self.view_is, ap (λ (p : PageState _). p.blocks) c.self.view_is))
    (omega (arith, c.requires.place, ap (λ (p : PageState _). length p.waits) c.self.view_is, ap (λ (p : PageState _). p.most) c.self.view_is, how_many s.blocks.all s.units.items))
    c.push_back.ensures.items

pub invariant_of-self : goal.invariant_of-self
invariant_of-self g c = (laid g (goal.at.invariant_of-self g c).After-push_back c.requires.frames.packets c.requires.frames.of).page

pub returns : goal.returns
returns g c = λ packets of.
    let w = (goal.at.returns g c).After-push_back in
    let s = c.self.inside in
    let one = laid g w packets of in
    let waits : waits_in c.push.new.self.all c.push_back.new.self.items ≡ waits_in s.blocks.all s.units.items ++ record { origin = c.args.origin; packets = packets; blocks = blocks_for c.args.len } ∷ [] =
    one.waits ∙ ap (λ l. waits_in s.blocks.all s.units.items ++ l ∷ []) (put_laid c.args.origin packets c.args.bytes.now c.args.len c.args.count c.requires.some c.requires.few c.requires.whole of) in
    let used : length c.push.new.self.all ≡ length s.blocks.all + blocks_for c.args.len =
    ap (λ (q : QueueState). length q.all) (behind g w) ∙ length-append s.blocks.all (region g w) ∙ ap (λ n. length s.blocks.all + n) (long g w) in
    subst (λ (old : PageState _). ◌≡◌ {A = PageState _} (record { waits = waits_in c.push.new.self.all c.push_back.new.self.items; counter = s.counter; used = length c.push.new.self.all; blocks = c.push.new.self.room; most = c.push_back.new.self.capacity }) (record old { waits = old.waits ++ record { origin = c.args.origin; packets = packets; blocks = blocks_for c.args.len } ∷ []; used = old.used + blocks_for c.args.len })) c.self.view_is
    (page_is _ _ s.counter _ _ _ _ _ _ waits used (ap (λ (q : QueueState). q.room) (behind g w)) one.most)
