use Rattle.std.proofs.Common.{◌+◌, ◌++◌, length, take, sym, ap, ◌∙◌, arith}
use Rattle.xcp_base.specs.declared.stretch.Stretch.{Stretch}
use Rattle.xcp_base.proofs.StretchLemmas.{one_span}
use Rattle.xcp_base.proofs.put.put_copied.Goals as goal

-- where one span is all that is copied, it is what the span copies
pub put_one-requires-clause-inside : goal.put_one-requires-clause-inside
put_one-requires-clause-inside c =
    let none : Stretch = record { segment = 0; start = 0; size = 0; count = 0 } in
    let one = one_span c.args.memory c.args.stretches.now c.args.offsets.now none c.part.result.now c.part.ensures.bytes (c.is_one.ensures.yes c.if-is_one.true) c.requires.counts c.requires.inside in
    one.inside

pub put_one-requires-clause-room : goal.put_one-requires-clause-room
put_one-requires-clause-room c =
    let none : Stretch = record { segment = 0; start = 0; size = 0; count = 0 } in
    let one = one_span c.args.memory c.args.stretches.now c.args.offsets.now none c.part.result.now c.part.ensures.bytes (c.is_one.ensures.yes c.if-is_one.true) c.requires.counts c.requires.inside in
    omega (arith, c.requires.room, ap length one.all)

pub returns-then-is_one-clause-end : goal.returns-then-is_one-clause-end
returns-then-is_one-clause-end c =
    let none : Stretch = record { segment = 0; start = 0; size = 0; count = 0 } in
    let one = one_span c.args.memory c.args.stretches.now c.args.offsets.now none c.part.result.now c.part.ensures.bytes (c.is_one.ensures.yes c.if-is_one.true) c.requires.counts c.requires.inside in
    c.put_one.ensures.end ∙ ap (λ bytes. c.args.from + length bytes) (sym one.all)

pub returns-then-is_one-clause-front : goal.returns-then-is_one-clause-front
returns-then-is_one-clause-front c =
    let none : Stretch = record { segment = 0; start = 0; size = 0; count = 0 } in
    let one = one_span c.args.memory c.args.stretches.now c.args.offsets.now none c.part.result.now c.part.ensures.bytes (c.is_one.ensures.yes c.if-is_one.true) c.requires.counts c.requires.inside in
    c.put_one.ensures.front ∙ ap (λ bytes. take c.args.from c.args.cells.now ++ bytes) (sym one.all)

pub returns-then-is_one-clause-each : goal.returns-then-is_one-clause-each
returns-then-is_one-clause-each c =
    let none : Stretch = record { segment = 0; start = 0; size = 0; count = 0 } in
    let one = one_span c.args.memory c.args.stretches.now c.args.offsets.now none c.part.result.now c.part.ensures.bytes (c.is_one.ensures.yes c.if-is_one.true) c.requires.counts c.requires.inside in
    rw one.all c.put_one.ensures.each
