use Rattle.std.proofs.Common.{◌≡◌, ◌+◌, ◌<◌, ◌++◌, Some, sym, ap, subst, ◌∙◌, length, slice_range, arith}
use Rattle.std.proofs.lemmas.Option.{get_or_from_slice_get}
use Rattle.datagrams.specs.Inner.{HasFirst}
use Rattle.datagrams.specs.TcpStreams.{StretchOf, ahead_of}
use Rattle.datagrams.proofs.StreamLemmas.{is-run}
use Rattle.datagrams.proofs.tcp_stream.hand_out.Goals as goal

-- of what stands at the place, so many bytes from the number on
pub returns-clause-ok : goal.returns-clause-ok
returns-clause-ok c =
    let came = c.args.came.now in
    let number = c.args.number in
    let here = c.index-came-place.result in
    let same : here ≡ c.requires.here = c.index-came-place.is ∙ get_or_from_slice_get came c.args.place c.requires.here here c.requires.at in
    let first : HasFirst came number c.args.place = record {
      here = here;
      at = c.requires.at ∙ ap Some (sym same);
      within = subst (λ (x : StretchOf). ahead_of x.number number < length x.bytes) (sym same) c.requires.within;
      before = c.requires.before;
    } in
    is-run came c.args.place number c.len_before-len.result c.args.out.now.items c.append_to.new.out.items first
    (omega (arith, c.place_of-from.ensures.value, c.len.ensures.value, c.len_before-len.ensures.few, first.within)) c.len.ensures.few c.len_before-len.ensures.some c.len_before-len.ensures.none
    (subst (λ from. c.append_to.new.out.items ≡ c.args.out.now.items ++ slice_range here.bytes from (from + c.len_before-len.result)) c.place_of-from.ensures.value c.in_ok-append_to.ensures.ok)
