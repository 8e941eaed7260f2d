use Rattle.std.proofs.Common.{◌≡◌, ◌++◌, arith, ap, length, subst, sym, ◌∙◌}
use Rattle.xcp_base.proofs.BodyLemmas.{Reads, reads}
use Rattle.xcp_base.proofs.packets.Packets.read_body.Goals as goal

-- at most eight packets take 520 bytes at most
pub extend-requires : goal.extend-requires
extend-requires c =
    let r = reads c.args.count c.args.body.now (c.is_body_of.ensures.yes c.if-not-is_body_of.false) in
    omega (arith, r.short, c.if-count-gt-MAX_ODTS.false, ap length c.clear.ensures)

-- the bytes are those that were handed in
pub invariant_of-self : goal.invariant_of-self
invariant_of-self c =
    let is : c.extend.new.self ≡ c.args.body.now = c.extend.ensures ∙ ap (λ l. l ++ c.args.body.now) c.clear.ensures in
    let r = subst (Reads c.args.count) (sym is) (reads c.args.count c.args.body.now (c.is_body_of.ensures.yes c.if-not-is_body_of.false)) in
    record { body = r.body; count = r.count; room = c.if-count-gt-MAX_ODTS.false; each = r.each }

pub returns-clause-yes : goal.returns-clause-yes
returns-clause-yes c = λ _.
    let is : c.extend.new.self ≡ c.args.body.now = c.extend.ensures ∙ ap (λ l. l ++ c.args.body.now) c.clear.ensures in
    let r = subst (Reads c.args.count) (sym is) (reads c.args.count c.args.body.now (c.is_body_of.ensures.yes c.if-not-is_body_of.false)) in
    record { body = sym is ∙ r.body; count = r.count; few = c.if-count-gt-MAX_ODTS.false; each = r.each }
