use Rattle.std.proofs.Common.{◌≡◌, List, ◌++◌, ◌∷◌, [], map, take, sym, ap, ◌∙◌}
use Rattle.std.proofs.lemmas.List.{map_more, map_push}
use Rattle.a2l_entries.specs.TableSaid.{Row, row_seen}
use Rattle.a2l.proofs.resolving.copy_of_rows.Goals as goal

-- one more row is copied
pub loop-row-preserved : goal.loop-row-preserved
loop-row-preserved c =
    let rows = c.args.rows.now in
    let i = c.loop-row.row-index in
    let copy = row_seen c.in_ok-copy.copy in
    let pushed : map row_seen c.push.new.self.items ≡ map row_seen c.loop-row.copies.items ++ copy ∷ [] = rw c.in_ok-push.ensures.items (map_push row_seen c.loop-row.copies.items c.in_ok-copy.copy) in
    pushed
    ∙ ap (λ (l : List Row). l ++ copy ∷ []) c.loop-row.invariant
    ∙ ap (λ (r : Row). map row_seen (take i rows) ++ r ∷ []) (c.in_ok-copy.ensures ∙ ap row_seen c.row-item.is)
    ∙ sym (map_more row_seen rows i c.row-item.result c.loop-row-test.true)
