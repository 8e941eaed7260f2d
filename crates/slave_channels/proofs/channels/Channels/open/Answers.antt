use Rattle.std.proofs.Common.{◌≡◌, ◌≢◌, ◌<◌, ◌≤◌, ℕ, zero, suc, List, [], ◌∷◌, arith, get_or, length, refl, subst, sym, ◌∙◌}
use Rattle.std.specs.Prelude.{Some, slice_get}
use Rattle.std.proofs.lemmas.Bool.{false≢true}
use Rattle.std.proofs.lemmas.Option.{same_Some}
use Rattle.std.proofs.lemmas.Grind.{get_or_default_zero}
use Rattle.tasks.specs.Links.{hand_refusal}
use Rattle.slave_channels.specs.Calls.{OpensAt, OpensIfAny}
use Rattle.slave_channels.specs.Each.{IsOnlyAt}
use Rattle.slave_channels.proofs.EachLemmas.{front-all, front-only, read_at}
use Rattle.slave_channels.proofs.CallLemmas.{none-refuses, not-refused, opened-ended, opens-at}
use Rattle.slave_channels.proofs.channels.Channels.open.Goals as goal

-- those that were opened have ended
pub returns-in-Err-clause-err : goal.returns-in-Err-clause-err
returns-in-Err-clause-err c =
    opened-ended c.args.store.now c.args.number c.args.caps.now c.args.lists.now c.loop-c.c _ c.loop-c.self _ _
    c.in-Err.ensures.err c.loop-c.invariant.0 c.end_below.ensures.ends

some-there : {A : Type 0} (xs : List A) (c : ℕ) → c < length xs → (x : A) × (slice_get xs c ≡ Some x)
some-there [] c here = absurd (omega (arith, here))
some-there (x ∷ xs) zero here = (x, refl)
some-there (x ∷ xs) (suc c) here = some-there xs c (omega (arith, here))

-- the one that was refused is as it was
pub returns-in-Err-clause-refusal : goal.returns-in-Err-clause-refusal
returns-in-Err-clause-refusal c =
    let here : c.loop-c.c < length c.args.self.now = omega (arith, c.loop-c-test.true, c.loop-c.auto.c-end, c.len-c-end.ensures.value) in
    let within : c.loop-c.c < length c.args.lists.now = omega (arith, here, c.requires.lists) in
    let there = some-there c.args.self.now c.loop-c.c here in
    let some : c.index-lists-c.result ≢ 0 = λ e. false≢true (c.in-Err.ensures.always e) in
    record {
      channel = c.loop-c.c;
      set = c.index-lists-c.result;
      state = there.0;
      lists_are = read_at c.args.lists.now c.loop-c.c c.index-lists-c.result c.index-lists-c.is within;
      some = some;
      state_is = there.1;
      answers = c.in-Err.ensures.answer there.0 (c.loop-c.invariant.0.rest c.loop-c.c (omega arith) ∙ there.1) some;
      before = c.loop-c.invariant.1;
    }

-- one channel more
pub loop-c-preserved : goal.loop-c-preserved
loop-c-preserved c =
    let here : c.loop-c.c < length c.args.self.now = omega (arith, c.loop-c-test.true, c.loop-c.auto.c-end, c.len-c-end.ensures.value) in
    let within : c.loop-c.c < length c.args.lists.now = omega (arith, here, c.requires.lists) in
    let set : c.index-lists-c.result ≡ get_or c.args.lists.now c.loop-c.c 0 = c.index-lists-c.is ∙ get_or_default_zero c.args.lists.now c.loop-c.c c.index-lists-c.result within in
    let same : (n : ℕ) → slice_get c.args.lists.now c.loop-c.c ≡ Some n → c.index-lists-c.result ≡ n =
    λ n is. same_Some c.index-lists-c.result n (sym (read_at c.args.lists.now c.loop-c.c c.index-lists-c.result c.index-lists-c.is within) ∙ is) in (
      front-only (OpensAt c.args.store.now c.args.number c.args.caps.now c.args.lists.now) _ c.loop-c.c _ c.loop-c.self _
          (opens-at c.args.store.now c.args.number c.args.caps.now c.args.lists.now c.loop-c.c (omega (arith, here, c.requires.caps)) within)
          c.loop-c.invariant.0
          (subst (λ n. IsOnlyAt (OpensIfAny c.args.store.now c.args.number c.loop-c.c (get_or c.args.caps.now c.loop-c.c 0) n) c.loop-c.c c.loop-c.self c.open_at.new.self) set c.in_default.ensures.ok),
      none-refuses c.args.lists.now c.args.self.now c.loop-c.c
          (λ n state is some at.
          not-refused (hand_refusal state.link) _
          (c.in_default.ensures.answer state (c.loop-c.invariant.0.rest c.loop-c.c (omega arith) ∙ at) (λ e. some (sym (same n is) ∙ e))))
          c.loop-c.invariant.1,
    )

-- these are all
pub returns-clause-ok : goal.returns-clause-ok
returns-clause-ok c =
    let all : length c.args.self.now ≤ c.loop-c.c = omega (arith, c.loop-c-test.false, c.loop-c.auto.c-end, c.len-c-end.ensures.value) in
    front-all (OpensAt c.args.store.now c.args.number c.args.caps.now c.args.lists.now) c.loop-c.c _ _ c.loop-c.invariant.0 all
