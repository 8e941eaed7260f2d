use Rattle.std.proofs.Common.{◌∙◌, ◌++◌, ap, map, sym}
use Rattle.tasks.specs.Links.{LinkState, is_out}
use Rattle.tasks.specs.Ways.{left_of}
use Rattle.tasks.proofs.LineLemmas.{none-coming, none-out}
use Rattle.tasks.proofs.link.TaskLink.beside.Goals as goal

-- nothing is out, so nothing is to come
pub returns-clause-no_more : goal.returns-clause-no_more
returns-clause-no_more g c older newer =
    let v = c.self.view_is in
    ap (map (left_of g.S.End.RingEnd))
    (none-coming c.self.inside.line.came c.beside.new.self.coming c.end.inside.line.gave c.end.inside.line.fetched c.self.inside.line.out
    (ap (λ l. l.came ++ c.beside.new.self.coming) (sym c.beside.ensures.rest_stays) ∙ c.beside.ensures.all)
    c.beside.ensures.fetched
    (c.self.invariant ∙ none-out c.self.inside.older c.self.inside.newer
    (ap (λ (k : LinkState _). is_out k.older) v ∙ older) (ap (λ (k : LinkState _). is_out k.newer) v ∙ newer))
    c.end.invariant)
