use Rattle.std.proofs.Common.{◌≡◌, ◌+◌, ◌<◌, ◌++◌, ℕ, List, length, take, drop, sym, ap, ◌∙◌, append_assoc, append-nil, arith, length-append, get_or}
use Rattle.std.proofs.lemmas.List.Elements.{All-append, All-nil}
use Rattle.xcp_base.specs.declared.memory_view.MemoryView.{MemoryView}
use Rattle.xcp_base.specs.declared.stretch.Stretch.{Stretch}
use Rattle.xcp_base.specs.Copied.{copied_at, copied_from}
use Rattle.xcp_base.proofs.StretchLemmas.{copied_from-end, copied_from-next, next_parts, next_spans}
use Rattle.xcp_base.proofs.put.put_stretches.Goals as goal

-- so many spans are there
pub split_at-requires : goal.split_at-requires
split_at-requires c =
    let none : Stretch = record { segment = 0; start = 0; size = 0; count = 0 } in
    (next_parts c.args.stretches.now c.loop-stretch.stretch-index none c.loop-stretch.rest.now c.loop-stretch-test.true c.loop-stretch.invariant.0).few

-- they lie within the bytes of their segment
pub put_stretch-at-requires-clause-inside : goal.put_stretch-at-requires-clause-inside
put_stretch-at-requires-clause-inside c =
    let none : Stretch = record { segment = 0; start = 0; size = 0; count = 0 } in
    let are = next_spans c.args.memory c.args.stretches.now c.loop-stretch.stretch-index none c.loop-stretch.rest.now c.loop-stretch-test.true c.loop-stretch.invariant.1 in
    rw (c.split_at.ensures.front, c.part.ensures.bytes) are.0

-- what they copy is a part of what is still to be copied
pub put_stretch-at-requires-clause-room : goal.put_stretch-at-requires-clause-room
put_stretch-at-requires-clause-room c =
    let none : Stretch = record { segment = 0; start = 0; size = 0; count = 0 } in
    let memory : MemoryView = c.args.memory in
    let more : List Stretch = drop (c.loop-stretch.stretch-index + 1) c.args.stretches.now in
    let these : List ℕ = copied_at c.part.result.now (get_or c.args.stretches.now c.loop-stretch.stretch-index none).size c.split_at.result.0.now in
    let those : List ℕ = copied_from memory more c.split_at.result.1.now in
    let both : copied_from memory (drop c.loop-stretch.stretch-index c.args.stretches.now) c.loop-stretch.rest.now ≡ these ++ those
    = rw (c.part.ensures.bytes, c.split_at.ensures.front, c.split_at.ensures.back) (copied_from-next memory c.args.stretches.now c.loop-stretch.stretch-index none c.loop-stretch.rest.now c.loop-stretch-test.true) in
    omega (arith, c.requires.room, c.loop-stretch.invariant.2, ap length both, length-append these those)

-- what they copy is written, what those behind them copy is still to be
pub loop-stretch-preserved : goal.loop-stretch-preserved
loop-stretch-preserved c =
    let none : Stretch = record { segment = 0; start = 0; size = 0; count = 0 } in
    let memory : MemoryView = c.args.memory in
    let stretches : List Stretch = c.args.stretches.now in
    let i : ℕ = c.loop-stretch.stretch-index in
    let rest : List ℕ = c.loop-stretch.rest.now in
    let these : List ℕ = copied_at c.part.result.now (get_or stretches i none).size c.split_at.result.0.now in
    let those : List ℕ = copied_from memory (drop (i + 1) stretches) c.split_at.result.1.now in
    let both : copied_from memory (drop i stretches) rest ≡ these ++ those
    = rw (c.part.ensures.bytes, c.split_at.ensures.front, c.split_at.ensures.back) (copied_from-next memory stretches i none rest c.loop-stretch-test.true) in (
      rw c.split_at.ensures.back (next_parts stretches i none rest c.loop-stretch-test.true c.loop-stretch.invariant.0).behind,
      rw c.split_at.ensures.back (next_spans memory stretches i none rest c.loop-stretch-test.true c.loop-stretch.invariant.1).1,
      omega (arith, c.loop-stretch.invariant.2, c.put_stretch-at.ensures.end, ap length both, length-append these those),
      ap (λ bytes. bytes ++ those) c.put_stretch-at.ensures.front
          ∙ append_assoc (take c.loop-stretch.at c.loop-stretch.cells) these those
          ∙ ap (λ bytes. take c.loop-stretch.at c.loop-stretch.cells ++ bytes) (sym both)
          ∙ c.loop-stretch.invariant.3,
      λ small. c.loop-stretch.invariant.4 (rw both (All-append (λ (b : ℕ). b < 256) these those c.put_stretch-at.ensures.each small)),
      c.put_stretch-at.ensures.len ∙ c.loop-stretch.invariant.5,
    )

-- no stretch is left
pub returns-clause-end : goal.returns-clause-end
returns-clause-end c =
    let none = copied_from-end c.args.memory c.args.stretches.now c.loop-stretch.stretch-index c.loop-stretch.rest.now c.loop-stretch-test.false in
    omega (arith, c.loop-stretch.invariant.2, ap length none)

pub returns-clause-front : goal.returns-clause-front
returns-clause-front c =
    let none = copied_from-end c.args.memory c.args.stretches.now c.loop-stretch.stretch-index c.loop-stretch.rest.now c.loop-stretch-test.false in
    sym (append-nil (take c.loop-stretch.at c.loop-stretch.cells))
    ∙ ap (λ bytes. take c.loop-stretch.at c.loop-stretch.cells ++ bytes) (sym none)
    ∙ c.loop-stretch.invariant.3

pub returns-clause-each : goal.returns-clause-each
returns-clause-each c =
    let none = copied_from-end c.args.memory c.args.stretches.now c.loop-stretch.stretch-index c.loop-stretch.rest.now c.loop-stretch-test.false in
    c.loop-stretch.invariant.4 (rw none (All-nil (λ (b : ℕ). b < 256)))
