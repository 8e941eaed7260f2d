use Rattle.std.proofs.Common.{◌≡◌, Some, None, bit_or, sym, ap, ◌∙◌, rules}
use Rattle.toml.specs.View.{view}
use Rattle.run_file.specs.Keys.{number_in}
use Rattle.session_file.specs.declared.limits.TheConstants.{LAST_CHANNEL}
use Rattle.session_file.proofs.MemoryLemmas.{readers_more, readers_none}
use Rattle.session_file.proofs.memory.readers_in.Goals as goal

pub returns-in_default : goal.returns-in_default
returns-in_default c =
    let none : number_in 0 LAST_CHANNEL (view c.value-item.result) ≡ None = search (rules, c.number_in.ensures.value, c.in_default.is) in
    sym (readers_none c.args.values.now c.loop-value.value-index c.value-item.result c.loop-value-test.true
    (ap (λ v. number_in 0 LAST_CHANNEL (view v)) (sym c.value-item.is) ∙ none))

pub loop-value-preserved : goal.loop-value-preserved
loop-value-preserved c =
    let read : number_in 0 LAST_CHANNEL (view c.value-item.result) ≡ Some c.in-Some.channel = search (rules, c.number_in.ensures.value, c.in-Some.is) in
    readers_more c.args.values.now c.loop-value.value-index c.value-item.result c.loop-value.readers c.in-Some.channel
    c.loop-value-test.true c.value-item.is c.loop-value.invariant read
    ∙ ap (λ s. Some (bit_or c.loop-value.readers s)) (sym c.reader-readers.ensures)
