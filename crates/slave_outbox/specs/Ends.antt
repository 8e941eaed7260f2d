-- What is left of a sampler over a ring of frames.
use Rattle.frame_ring.specs.contracts.frame_left.FrameLeftRingEnd.TheImpl.{ghosts}
use Rattle.frame_ring.specs.declared.frame_left.FrameLeft.{FrameLeft}
use Rattle.sampler.specs.State.{JoinedEnd, SamplerEndState, joined}

-- the same, with what its ring sent
abbrev pub left_state : SamplerEndState FrameLeft → JoinedEnd
left_state end = joined ghosts end
