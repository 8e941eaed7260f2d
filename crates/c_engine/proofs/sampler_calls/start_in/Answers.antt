use Rattle.c_engine.proofs.OnLemmas.{on_byte_sampler, on_sampler}
use Rattle.c_engine.proofs.sampler_calls.start_in.Goals as goal

-- what holds of the sampler holds of the content that it is
pub returns-in-Sampler : goal.returns-in-Sampler
returns-in-Sampler c = on_sampler _ _ _ _ c.in-Sampler.is c.start.ensures

pub returns-in-ByteSampler : goal.returns-in-ByteSampler
returns-in-ByteSampler c = on_byte_sampler _ _ _ _ c.in-ByteSampler.is c.start-in-ByteSampler.ensures
