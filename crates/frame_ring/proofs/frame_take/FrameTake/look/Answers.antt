use Rattle.std.proofs.Common.{◌∙◌, ap, sym, subst, arith, [], ◌∷◌}
use mathlib.Core.List.{IsPrefix}
use Rattle.rtrb.specs.Ring.{known_items}
use Rattle.frame_ring.specs.Heads.{IsHeadOf, head_blocks, head_of}
use Rattle.frame_ring.proofs.EndLemmas.{first_there, looks, looks_twice, none_there, prefix_then, too_few}
use Rattle.frame_ring.proofs.frame_take.FrameTake.look.Goals as goal

pub returns-then-is_empty-clause-none : goal.returns-then-is_empty-clause-none
returns-then-is_empty-clause-none c = λ _. none_there (known_items c.is_empty.new.self) (c.is_empty.ensures.value.0 c.if-is_empty.true)

pub returns-then-not-is_there-clause-none : goal.returns-then-not-is_there-clause-none
returns-then-not-is_there-clause-none c = λ _.
    let b = c.peek_known.result.now in
    let known = known_items c.is_there.new.consumer in
    let first : IsPrefix (b ∷ []) known = prefix_then (b ∷ []) (known_items c.is_empty.new.self) known c.peek_known.ensures c.is_there.ensures.looked.2 in
    too_few b known first (omega (arith, c.is_there.ensures.no c.if-not-is_there.true, c.blocks-2.ensures, ap head_blocks c.head_of-head.ensures.value))

pub returns-then-not-is_there-clause-looked : goal.returns-then-not-is_there-clause-looked
returns-then-not-is_there-clause-looked c =
    let now = c.is_there.new.consumer in
    let was = c.args.self.now.consumer in
    looks was now (looks_twice was c.is_empty.new.self now c.is_empty.ensures.looked c.is_there.ensures.looked)

pub returns-clause-some : goal.returns-clause-some
returns-clause-some c =
    let b = c.peek_known.result.now in
    let known = known_items c.is_there.new.consumer in
    let first : IsPrefix (b ∷ []) known = prefix_then (b ∷ []) (known_items c.is_empty.new.self) known c.peek_known.ensures c.is_there.ensures.looked.2 in
    let is = first_there b known c.head_of-head.ensures.len first (omega (arith, c.is_there.ensures.yes c.if-not-is_there.false, c.blocks-2.ensures, ap head_blocks c.head_of-head.ensures.value)) in
    record {
      told = c.head_of-head.ensures.value ∙ ap head_of (sym is.front);
      item = is.item;
      first = is.first;
      names = subst (λ head. IsHeadOf head is.item) (sym c.head_of-head.ensures.value) is.names;
    }

pub returns-clause-looked : goal.returns-clause-looked
returns-clause-looked c =
    let now = c.is_there.new.consumer in
    let was = c.args.self.now.consumer in
    looks was now (looks_twice was c.is_empty.new.self now c.is_empty.ensures.looked c.is_there.ensures.looked)
