use Rattle.std.proofs.Common.{◌∙◌, subst, sym}
use Rattle.c_engine.specs.Engines.{LendsOut}
use Rattle.c_engine.specs.declared.content.Content.TheVariants as held
use Rattle.c_engine.proofs.EngineLemmas.{hands-back, hands-none, hands-one}
use Rattle.c_engine.proofs.OnLemmas.{same-sampler}
use Rattle.c_engine.proofs.handing.hand_out.Goals as goal

-- a sampler goes out
pub returns-in-Ok-put_boxed : goal.returns-in-Ok-put_boxed
returns-in-Ok-put_boxed c = hands-one held.Sampler c.in-Ok-put_boxed.ensures.ok c.in-Ok.ensures.ok

-- none does
pub returns-in-Err : goal.returns-in-Err
returns-in-Err c = hands-none held.Sampler c.in-Err.status c.requires.empty c.in-Err.ensures.err

-- the one that comes back is the one that went out
pub take_back-requires : goal.take_back-requires
take_back-requires c = (
  c.args.engine.now,
  subst (λ s. LendsOut c.args.engine.now c.next_of.new.engine s) (same-sampler (sym c.in-Err-put_boxed.ensures.back ∙ c.in-Sampler.is)) c.in-Ok.ensures.ok,
)

pub returns-in-Sampler : goal.returns-in-Sampler
returns-in-Sampler c =
    hands-back held.Sampler (c.in-Err-put_boxed.ensures.err ∙ c.requires.empty) c.in-Ok.ensures.ok (c.take_back.ensures _ (
    subst (λ s. LendsOut c.args.engine.now c.next_of.new.engine s) (same-sampler (sym c.in-Err-put_boxed.ensures.back ∙ c.in-Sampler.is)) c.in-Ok.ensures.ok))
