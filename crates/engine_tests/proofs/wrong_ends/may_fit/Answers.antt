use Rattle.std.proofs.Common.{◌≡◌, ℕ, List, length, map, sym, ap, ◌∙◌, arith}
use Rattle.std.proofs.lemmas.List.{length-map}
use Rattle.sampler.specs.State.{SamplerEndState}
use Rattle.daq_engine.specs.Configuration.{upto}
use Rattle.daq_engine.proofs.EndLemmas.{length-upto}
use Rattle.engine_tests.proofs.wrong_ends.may_fit.Given.{Over}
use Rattle.engine_tests.proofs.wrong_ends.may_fit.Goals as goal

as_long : (g : Over) (ends : List (SamplerEndState g.row.E.Denot)) (n : ℕ) → map (λ (e : SamplerEndState g.row.E.Denot). e.channel) ends ≡ upto 0 n → length ends ≡ n
as_long g ends n e = sym (length-map ends (λ (e : SamplerEndState g.row.E.Denot). e.channel)) ∙ ap length e ∙ length-upto 0 n

-- they are of another number than the rings
pub returns-then-ends-rings : goal.returns-then-ends-rings
returns-then-ends-rings g c = λ e. absurd (omega (arith, as_long g c.args.ends.now c.args.rings e))
