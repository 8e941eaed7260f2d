use Rattle.std.proofs.Common.{◌≡◌, ℕ, ◌+◌, ◌-◌, ◌≤◌, List, length, sym, ap, ◌∙◌, subst, arith}
use Rattle.std.proofs.lemmas.List.{with_items_is}
use Rattle.std.specs.Vec.{with_items}
use borrow.Rule.Slice.PartMut.{put_mid}
use Rattle.frame_ring.proofs.IntoLemmas.{length_with_part, pops_into}
use Rattle.frame_ring.proofs.frame_take.popped.Goals as goal

pub returns : goal.returns
returns c =
    let page = c.args.place.0 in
    let at : ℕ = c.args.place.1 in
    let n : ℕ = c.args.place.2 in
    let blocks : List (List ℕ) = c.pop_blocks.new.blocks in
    let given : List (List ℕ) = put_mid at (at + n - at) c.deref_mut.result.now blocks in
    let same : c.deref_mut.result.now ≡ page.items = c.deref_mut.ensures.value in
    let size : at + n - at ≡ n = omega arith in
    let many : length blocks ≡ n = c.pop_blocks.ensures.len ∙ omega (arith, c.requires.room, ap length same) in
    let is : given ≡ put_mid at n page.items blocks = ap (λ k. put_mid at k c.deref_mut.result.now blocks) size ∙ ap (λ xs. put_mid at n xs blocks) same in
    let long : length given ≡ length page.items = ap length is ∙ length_with_part at n page.items blocks c.requires.room many in
    record {
      pops = pops_into c.args.consumer c.pop_blocks.new.consumer at n page.items _ blocks
          (with_items_is page given (long ∙ sym (ap length same) ∙ c.deref_mut.ensures.len) ∙ is)
          c.requires.room many c.pop_blocks.ensures.ring c.pop_blocks.ensures.popped c.pop_blocks.ensures.known c.pop_blocks.ensures.allowed;
    }
