use Rattle.std.proofs.Common.{◌≡◌, ◌<◌, ◌+◌, ◌∙◌, ℕ, List, [], ◌∷◌, ◌++◌, length, map, max, take, get_or, sym, ap, arith, Option, unwrap_or}
use Rattle.std.proofs.lemmas.List.{map_more}
use Rattle.std.proofs.lemmas.Option.{slice_get-get_or}
use Rattle.daq_store.specs.declared.entry.Entry.{Entry}
use Rattle.session.specs.Replies.{most_of}
use Rattle.session.proofs.ReplyLemmas.{most_of-push}
use Rattle.session.proofs.looks.most_entries.Goals as goal

-- the most with the entries of one ODT more
pub loop-odt-preserved : goal.loop-odt-preserved
loop-odt-preserved c =
    let i : ℕ = c.loop-odt.odt in
    let odts : List (List (Option Entry)) = c.args.conf.now.odts in
    let before = c.loop-odt.invariant in
    let inside : i < length odts = omega (arith, c.loop-odt-test.true, c.odts-odt-end.ensures.count) in
    let here : List (Option Entry) = get_or odts i [] in
    let done : List ℕ = map length (take i odts) in
    let more : map length (take (i + 1) odts) ≡ done ++ length here ∷ [] = map_more length odts i [] inside in
    let got = ap (λ (o : Option (List (Option Entry))). length (unwrap_or o [])) (slice_get-get_or odts i [] inside) in
    let both : max c.loop-odt.most c.entries.result ≡ max (most_of done) (length here) =
    ap (λ n. max n c.entries.result) before.is ∙ ap (max (most_of done)) (c.entries.ensures.count ∙ got) in
    record {
      is = c.greater-most.ensures ∙ both ∙ sym (most_of-push done (length here)) ∙ ap most_of (sym more);
      few = omega (arith, c.greater-most.ensures, before.few, c.entries.ensures.limit);
    }
