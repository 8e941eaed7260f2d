use Rattle.std.proofs.Common.{◌∙◌, Some, ap, inl, refl, sym}
use Rattle.c_slave.proofs.CloseLemmas.{closes-held}
use Rattle.c_slave.proofs.closing.close_slave_by.Goals as goal

-- what may be closed is closed
pub returns : goal.returns
returns c = inl (
  refl,
  c.take.ensures.left,
  closes-held _
      (c.in-Some.ensures.taken ∙ ap Some (sym c.as_mut.ensures.value)) c.in_default-may_close_in.ensures.ok
      (sym c.into_inner.ensures ∙ c.in-Slave.is) c.close.ensures,
)
