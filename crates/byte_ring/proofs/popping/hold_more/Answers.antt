use Rattle.std.proofs.Common.{arith, ◌≡◌, ◌+◌, ◌-◌, ◌∙◌, ap, length, length-append, take}
use borrow.Rule.Slice.PartMut.{put_mid}
use Rattle.rtrb.specs.Ring.{known_items}
use Rattle.byte_ring.proofs.HeldLemmas.{part-longer, pulls_sure}
use Rattle.byte_ring.proofs.popping.hold_more.Goals as goal

-- what was popped stands behind what was held
pub returns-clause-pulls : goal.returns-clause-pulls
returns-clause-pulls c =
    let f = c.args.front.now in
    let k = c.args.count in
    let got = c.pop_part.new.part in
    let e = c.pop_part.ensures in
    let same : f.held + k - f.held ≡ k = omega arith in
    let long : length got ≡ k = omega (arith, same) in
    record {
      got = got;
      popped = e.popped;
      held =
          ap (λ n. take (f.held + k) (put_mid f.held n f.bytes got)) same
          ∙ part-longer f.held k f.bytes got (omega (arith, f.within)) long;
      ahead = pulls_sure f.ahead k (known_items c.args.consumer.now) e.known.0 got (known_items c.pop_part.new.consumer) e.known.1 long c.requires.few c.requires.there;
    }

-- as many are there for sure as were not popped
pub returns-clause-there : goal.returns-clause-there
returns-clause-there c =
    let e = c.pop_part.ensures in
    omega (arith, c.requires.there, c.requires.few, ap length e.known.1, length-append (known_items c.args.consumer.now) e.known.0, length-append c.pop_part.new.part (known_items c.pop_part.new.consumer))
