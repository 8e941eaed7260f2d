use Rattle.std.proofs.Common.{◌≡◌, ℕ, ◌++◌, List, ap, sym, subst, ◌∙◌}
use Rattle.std.proofs.KnownBytes.{Consumes-nil, Consumes-trans}
use Rattle.std.specs.Io.KnownBytes.{Consumes}
use Rattle.xcpread.proofs.held_capture.held_from.Goals as goal

pub loop-init : goal.loop-init
loop-init g c =
    let input = g.I.Read.remaining c.args.input.now in
    subst (λ (bs : List ℕ). Consumes input input bs) (sym c.new-held.ensures.items) (Consumes-nil input)

pub loop-preserved : goal.loop-preserved
loop-preserved g c =
    let old = g.I.Read.remaining c.args.input.now in
    let new = g.I.Read.remaining c.front_from.new.input in
    let both : c.extend_from_slice.new.self.items ≡ c.loop.held.items ++ c.in-Ok.piece.items =
    c.in_ok-extend_from_slice.ensures.items ∙ ap (λ (bs : List ℕ). c.loop.held.items ++ bs) c.deref.ensures.value in
    subst (λ (bs : List ℕ). Consumes old new bs) (sym both)
    (Consumes-trans old _ new c.loop.held.items c.in-Ok.piece.items c.loop.invariant c.in-Ok.ensures.taken)

pub returns-then-len-lt-PIECE-clause-whole : goal.returns-then-len-lt-PIECE-clause-whole
returns-then-len-lt-PIECE-clause-whole g c =
    let old = g.I.Read.remaining c.args.input.now in
    let new = g.I.Read.remaining c.front_from.new.input in
    let both : c.extend_from_slice.new.self.items ≡ c.loop.held.items ++ c.in-Ok.piece.items =
    c.in_ok-extend_from_slice.ensures.items ∙ ap (λ (bs : List ℕ). c.loop.held.items ++ bs) c.deref.ensures.value in
    subst (λ (bs : List ℕ). Consumes old new bs) (sym both)
    (Consumes-trans old _ new c.loop.held.items c.in-Ok.piece.items c.loop.invariant c.in-Ok.ensures.taken)
