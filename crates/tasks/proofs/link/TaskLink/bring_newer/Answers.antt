use Rattle.std.proofs.Common.{◌∙◌, ap, inl, refl, sym}
use Rattle.tasks.specs.Links.{LinkState}
use Rattle.tasks.proofs.LineLemmas.{comes-of}
use Rattle.tasks.proofs.TurnLemmas.{some-with}
use Rattle.tasks.proofs.link.TaskLink.bring_newer.Goals as goal

pub returns-then-is_out-clause-some : goal.returns-then-is_out-clause-some
returns-then-is_out-clause-some g c =
    let v = c.self.view_is in
    some-with (λ left n. (
      n.0,
      sym (ap (λ (k : LinkState _). k.newer) v) ∙ n.1,
      comes-of g.S.SendEnd g.S.End.RingEnd c.args.self.now _ n.0 c.self.inside.line c.self.inside.line left
          (inl (n.2, refl))
          (sym (ap (λ (k : LinkState _). k.came) v)) (sym (ap (λ (k : LinkState _). k.coming) v)) refl refl,
    )) c.finished_of.result c.finished_of.ensures.some

pub returns-clause-some : goal.returns-clause-some
returns-clause-some g c =
    let v = c.self.view_is in
    some-with (λ left n. (
      n.0,
      sym (ap (λ (k : LinkState _). k.newer) v) ∙ n.1,
      comes-of g.S.SendEnd g.S.End.RingEnd c.args.self.now _ n.0 c.self.inside.line c.bring.new.line left n.2
          (sym (ap (λ (k : LinkState _). k.came) v)) (sym (ap (λ (k : LinkState _). k.coming) v)) refl refl,
    )) c.bring.result c.bring.ensures.some
