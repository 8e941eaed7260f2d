-- How much room the samples of plans want.
use Rattle.std.proofs.Common.{ℕ, zero, suc, ◌*◌, ◌+◌, ◌<◌, ◌≤◌, length, arith}
use Rattle.xcp_base.specs.declared.limits.TheConstants.{MAX_ODTS_IN_ALL, MAX_PACKET}
use Rattle.xcp_base.specs.Packets.{packet_len}
use Rattle.copy_plan.specs.Config.{IsPlan, ListPlan, elements_len}
use Rattle.copy_plan.specs.Frames.{frames_len, frames_upto}
use Rattle.frame_ring.specs.Ends.{limit_of}
use Rattle.sampler.specs.Limits.{KeepsTo}

-- frames of packets that are at most so long
frames_short : (plan : ListPlan) (n : ℕ) → ((k : ℕ) → k < n → packet_len plan.form plan.stamped k (elements_len plan k) ≤ MAX_PACKET) → frames_upto plan n ≤ n * (4 + MAX_PACKET)
frames_short plan zero short = omega arith
frames_short plan (suc n) short = omega (arith, short n (omega arith), frames_short plan n (λ k here. short k (omega (arith, here))))

-- the frames of a sample of a plan
pub frames_bound : (plan : ListPlan) → IsPlan plan → frames_len plan ≤ MAX_ODTS_IN_ALL * (4 + MAX_PACKET)
frames_bound plan is = omega (arith, frames_short plan (length plan.odts) (λ k here. omega (arith, is.short k here, is.form.1)), is.limit)

-- what keeps to some room keeps to more
pub keeps_to_more : (m n : ℕ) (plan : ListPlan) → m ≤ n → KeepsTo (limit_of m) plan → KeepsTo (limit_of n) plan
keeps_to_more m n plan more keeps = record { few = keeps.few; short = keeps.short; frames = omega (arith, keeps.frames, more) }
