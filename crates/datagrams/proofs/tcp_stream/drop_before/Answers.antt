use Rattle.std.proofs.Common.{◌≡◌, ◌<◌, false, Some, length, refl, sym, subst, ◌∙◌, arith}
use Rattle.std.specs.List.{filter, slice_get}
use Rattle.std.proofs.lemmas.Option.{slice_get_read}
use Rattle.datagrams.specs.TcpStreams.{goes_beyond}
use Rattle.datagrams.proofs.StreamLemmas.{filter-all, filter-remove, get-remove}
use Rattle.datagrams.proofs.tcp_stream.drop_before.Goals as goal

-- the one at this place is let go of
pub loop-i-preserved : goal.loop-i-preserved
loop-i-preserved c =
    let kept = c.loop-i.came.items in
    let i = c.loop-i.i in
    let test = goes_beyond c.args.number in
    let within : i < length kept = omega arith in
    let here : slice_get kept i ≡ Some c.index.result.now = slice_get_read kept (length kept) i c.index.result.now refl within c.index.ensures in
    let out : test c.index.result.now ≡ false = sym c.goes_beyond.ensures ∙ c.if-goes_beyond.false in
    record {
      same = subst (λ xs. filter test xs ≡ filter test c.args.came.now.items) (sym c.remove-before.ensures.items) (filter-remove test kept i c.index.result.now here out ∙ c.loop-i.invariant.same);
      stay = λ j d l at. c.loop-i.invariant.stay j d l (sym (get-remove kept i j l) ∙ subst (λ xs. slice_get xs j ≡ Some d) c.remove-before.ensures.items at);
    }

-- all that are left stay
pub returns : goal.returns
returns c = sym (filter-all (goes_beyond c.args.number) c.loop-i.came.items c.loop-i.i c.loop-i.invariant.stay (omega arith)) ∙ c.loop-i.invariant.same
