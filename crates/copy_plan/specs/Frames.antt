-- The frames of a sample, before they are numbered.
use Rattle.std.specs.Prelude.{ℕ, zero, suc, ◌+◌, length}
use Rattle.xcp_base.specs.Packets.{packet_len}
use Rattle.copy_plan.specs.Config.{ListPlan, elements_len}

-- the bytes of the frame of ODT k: LEN, CTR, packet
abbrev pub frame_len : ListPlan → ℕ → ℕ
frame_len plan k = 4 + packet_len plan.form plan.stamped k (elements_len plan k)

-- those of the frames of the first n ODTs
abbrev pub frames_upto : ListPlan → ℕ → ℕ
frames_upto plan zero = 0
frames_upto plan (suc k) = frames_upto plan k + frame_len plan k

-- those of the frames of a sample
abbrev pub frames_len : ListPlan → ℕ
frames_len plan = frames_upto plan (length plan.odts)
