use Rattle.std.proofs.Common.{◌≡◌, ◌<◌, length, sym, arith}
use Rattle.std.proofs.lemmas.Bool.{ltb-false, ltb-true}
use Rattle.a2l_text.specs.TokenOf.{token_of}
use Rattle.a2l_text.specs.States.{state_of}
use Rattle.a2l_text.proofs.StepLemmas.{reaches_part, reaches_on, reaches_none, after_word, after_word_part, ends_on, stops_on, word_none, all_ended_done, still_done}
use Rattle.a2l_text.proofs.blocks.Blocks.next_part.Goals as goal

-- the word that was read is taken, and its step ends a part
pub returns-in-Some-2-clause-ok : goal.returns-in-Some-2-clause-ok
returns-in-Some-2-clause-ok c =
    let s = state_of c.loop-word.self in
    let takes = rw c.in-Some.is at c.in_ok-word.ensures.ok in
    let step = rw c.in-Some-2.is at c.in_ok-part.ensures.ok in
    reaches_part c.in-Some-2.part _ _ s _ c.loop-word.invariant.0 (after_word_part c.in-Some-2.part s _ (token_of c.in-Some.word) _ takes step)

-- it ends no part, and reading goes on
pub loop-word-preserved : goal.loop-word-preserved
loop-word-preserved c =
    let s = state_of c.loop-word.self in
    let takes = rw c.in-Some.is at c.in_ok-word.ensures.ok in
    let step = reaches_none _ _ _ _ c.in_default-2.not-Some c.in_ok-part.ensures.ok in (
      reaches_on _ _ s _ c.loop-word.invariant.0 (after_word s _ (token_of c.in-Some.word) _ takes step),
      omega (arith, takes.shorter, c.in_ok-part.ensures.no_longer, c.loop-word.invariant.1),
    )

-- no word is left, and no block is open
pub returns-in-None-clause-ok : goal.returns-in-None-clause-ok
returns-in-None-clause-ok c =
    let s = state_of c.loop-word.self in
    let none = word_none _ _ _ c.in_default.not-Some c.in_ok-word.ensures.ok in
    let empty = ltb-false _ _ (sym c.in-None.ensures.item.0) in
    let all : length c.loop-word.self.around.items ≡ 0 = omega (arith, empty, c.deref.ensures.len, c.loop-word.self.around.ok.0) in
    ends_on _ _ s c.loop-word.invariant.0 (all_ended_done s.role c.loop-word.self.around.items s.gathered s.ahead none all)

-- no word is left, and a block is open
pub returns-in-Some-last-clause-err : goal.returns-in-Some-last-clause-err
returns-in-Some-last-clause-err c =
    let s = state_of c.loop-word.self in
    let none = word_none _ _ _ c.in_default.not-Some c.in_ok-word.ensures.ok in
    let some = ltb-true _ _ (sym c.in-Some-last.ensures.item.0) in
    let left : 0 < length c.loop-word.self.around.items = omega (arith, some, c.deref.ensures.len, c.loop-word.self.around.ok.0) in
    stops_on c.awaits_end.result _ _ s c.loop-word.invariant.0 (still_done c.awaits_end.result s.role c.loop-word.self.around.items s.gathered s.ahead none left)
