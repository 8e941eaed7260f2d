use Rattle.std.proofs.Common.{◌∙◌, Some, ap, sym}
use Rattle.c_engine.proofs.CloseLemmas.{closes-bytes, closes-items}
use Rattle.c_engine.proofs.OnLemmas.{bytes, items}
use Rattle.c_engine.proofs.closing.close_by.Goals as goal

-- what may be closed is closed
pub returns-in-Engine : goal.returns-in-Engine
returns-in-Engine c = (
  c.take.ensures.left,
  closes-items items bytes _ c.close.result
      (c.in-Some.ensures.taken ∙ ap Some (sym c.as_mut.ensures.value)) c.in_default-may_close_in.ensures.ok
      (sym c.into_inner.ensures ∙ c.in-Engine.is) c.close.ensures.account c.close.ensures.taken,
)

pub returns-in-ByteEngine : goal.returns-in-ByteEngine
returns-in-ByteEngine c = (
  c.take.ensures.left,
  closes-bytes items bytes _ c.close-in-ByteEngine.result
      (c.in-Some.ensures.taken ∙ ap Some (sym c.as_mut.ensures.value)) c.in_default-may_close_in.ensures.ok
      (sym c.into_inner.ensures ∙ c.in-ByteEngine.is) c.close-in-ByteEngine.ensures.account c.close-in-ByteEngine.ensures.taken,
)
