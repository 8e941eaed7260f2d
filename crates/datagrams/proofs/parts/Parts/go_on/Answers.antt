use Rattle.std.proofs.Common.{◌≡◌, ◌<◌, ◌≤◌, ◌^◌, is_some, sym, ap, subst, ◌∙◌, get_or, length, set}
use Rattle.std.specs.List.{remove}
use Rattle.datagrams.specs.Inner.{GainsPiece, IsWholeWith, piece_shown}
use Rattle.datagrams.specs.Waiting.{KeptOf, PartsOf, WholeOf}
use Rattle.datagrams.specs.Whole.{whole_of}
use Rattle.datagrams.proofs.WaitLemmas.{makes-whole, same-place, waits-on}
use Rattle.datagrams.proofs.parts.Parts.go_on.Goals as goal

-- it is whole with the piece
pub returns-in-Some-clause-ok : goal.returns-in-Some-clause-ok
returns-in-Some-clause-ok c = λ key waits f a.
    let piece = piece_shown c.args.piece in
    let kept = ap (λ (s : PartsOf). s.waiting) c.self.view_is in
    let here : c.index.result.now ≡ f.here = same-place c.args.self.now.waiting c.args.place f.here c.index.result.now f.at (c.index.ensures ∙ ap (λ xs. get_or xs c.args.place c.index.result.now) kept) in
    let gone : c.remove-waiting.result ≡ f.here = same-place c.args.self.now.waiting c.args.place f.here c.remove-waiting.result f.at (c.remove-waiting.ensures.value ∙ ap (λ xs. get_or xs c.args.place c.remove-waiting.result) kept) in
    let whole : IsWholeWith c.index.result.now piece c.in-Some.payload.items = rw c.in-Some.is at c.in_ok-payload.ensures.whole in
    let out = c.into_whole.ensures in
    makes-whole key waits c.args.place piece (whole_of c.into_whole.result) c.args.self.now _ f a
    (subst (λ k. IsWholeWith k piece c.into_whole.result.payload.items) here (subst (λ bytes. IsWholeWith c.index.result.now piece bytes) (sym (ap (λ (d : WholeOf). d.payload) out)) whole))
    (ap (λ (d : WholeOf). d.from) out ∙ ap (λ (k : KeptOf). k.key.from) gone, ap (λ (d : WholeOf). d.to) out ∙ ap (λ (k : KeptOf). k.key.to) gone, ap (λ (d : WholeOf). d.protocol) out ∙ ap (λ (k : KeptOf). k.key.protocol) gone)
    (c.remove-waiting.ensures.items ∙ ap (λ xs. remove xs c.args.place) kept) (ap (λ (s : PartsOf). s.dropped) c.self.view_is)

-- it waits on
pub returns-clause-ok : goal.returns-clause-ok
returns-clause-ok c = λ key waits f a.
    let kept = ap (λ (s : PartsOf). s.waiting) c.self.view_is in
    let dropped = ap (λ (s : PartsOf). s.dropped) c.self.view_is in
    let here : c.index.result.now ≡ f.here = same-place c.args.self.now.waiting c.args.place f.here c.index.result.now f.at (c.index.ensures ∙ ap (λ xs. get_or xs c.args.place c.index.result.now) kept) in
    let at : c.index_mut-waiting.result.now ≡ f.here = same-place c.args.self.now.waiting c.args.place f.here c.index_mut-waiting.result.now f.at (c.index_mut-waiting.ensures.value ∙ ap (λ xs. get_or xs c.args.place c.index_mut-waiting.result.now) kept) in
    waits-on key waits c.args.place (piece_shown c.args.piece) c.add.new.self c.args.self.now _ f a
    (λ bytes whole. c.in_ok-payload.ensures.missing (ap is_some c.in_default.is) bytes (subst (λ k. IsWholeWith k (piece_shown c.args.piece) bytes) (sym here) whole))
    (subst (λ k. GainsPiece k c.add.new.self (piece_shown c.args.piece)) at c.in_ok-add.ensures.ok)
    (ap (λ xs. set xs c.args.place c.add.new.self) kept) dropped
    (subst (λ xs. length xs ≤ 64) kept c.self.invariant.0) (subst (λ n. n < 2 ^ 64) dropped c.self.invariant.1)
