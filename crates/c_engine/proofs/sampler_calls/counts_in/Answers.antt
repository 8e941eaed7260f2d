use Rattle.std.proofs.Common.{refl}
use Rattle.c_engine.proofs.OnLemmas.{on_byte_sampler, on_sampler}
use Rattle.c_engine.proofs.sampler_calls.counts_in.Goals as goal

-- what holds of the sampler holds of the content that it is
pub returns-in-Sampler : goal.returns-in-Sampler
returns-in-Sampler c = on_sampler _ _ _ _ c.in-Sampler.is (refl, c.counts_of.ensures)

pub returns-in-ByteSampler : goal.returns-in-ByteSampler
returns-in-ByteSampler c = on_byte_sampler _ _ _ _ c.in-ByteSampler.is (refl, c.counts_of-in-ByteSampler.ensures)
