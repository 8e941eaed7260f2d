use Rattle.std.proofs.Common.{◌∙◌, ap, map, sym}
use Rattle.hand_over.specs.Lines.{LenderState}
use Rattle.tasks.specs.Inner.{out_of}
use Rattle.tasks.specs.Links.{LinkState}
use Rattle.tasks.specs.Ways.{left_of}
use Rattle.tasks.proofs.LineLemmas.{is-last, out-recalled}
use Rattle.tasks.proofs.link.TaskLink.recall.Goals as goal

pub recall_to-requires : goal.recall_to-requires
recall_to-requires g c a is =
    let l = is-last c.self.inside.line.out c.recall.new.self.out (out_of c.self.inside.older)
    c.self.inside.newer c.in-Some.handed c.self.invariant c.in-Some.ensures.last
    (sym c.is_out.ensures ∙ c.if-not-is_out.false) in
    λ i. record { sampler = l.sampler a is i; orders = l.went a is i }

pub invariant_of-self-2 : goal.invariant_of-self-2
invariant_of-self-2 g c =
    let l = is-last c.self.inside.line.out c.recall.new.self.out (out_of c.self.inside.older)
    c.self.inside.newer c.in-Some.handed c.self.invariant c.in-Some.ensures.last
    (sym c.is_out.ensures ∙ c.if-not-is_out.false) in
    out-recalled _ _ c.self.inside.newer _ l.away l.there c.recall_to.ensures.recalled l.rest

pub returns-clause-yes : goal.returns-clause-yes
returns-clause-yes g c is =
    let l = is-last c.self.inside.line.out c.recall.new.self.out (out_of c.self.inside.older)
    c.self.inside.newer c.in-Some.handed c.self.invariant c.in-Some.ensures.last
    (sym c.is_out.ensures ∙ c.if-not-is_out.false) in
    let v = c.self.view_is in
    let r = c.in-Some.ensures.rest_stays in
    record {
      before = l.away;
      was = sym (ap (λ (k : LinkState _). k.newer) v) ∙ l.there;
      rest = λ i. record {
        ring = (ap (λ (z : LenderState _ _). z.ring) r ∙ ap (λ (k : LinkState _). k.ring) v) i;
        came = (ap (λ (z : LenderState _ _). map (left_of g.S.End.RingEnd) z.came) r ∙ ap (λ (k : LinkState _). k.came) v) i;
        coming = (ap (λ (z : LenderState _ _). map (left_of g.S.End.RingEnd) z.coming) r ∙ ap (λ (k : LinkState _). k.coming) v) i;
        older = ap (λ (k : LinkState _). k.older) v i;
        newer = c.recall_to.ensures.recalled l.away l.there i;
      };
    }
