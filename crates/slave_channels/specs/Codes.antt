-- How proofs tell the states of an event channel apart.
use Rattle.std.specs.Coded.{Coded, codes}
use Rattle.frame_ring.specs.contracts.frame_send.FrameSend as send
use Rattle.frame_ring.specs.contracts.frame_left.FrameLeft as left
use Rattle.frame_ring.specs.declared.frame_send.FrameSend.{FrameSend}
use Rattle.frame_ring.specs.declared.frame_left.FrameLeft.{FrameLeft}

-- a send end of a ring, and what is left of one
abbrev pub send_code : Coded FrameSend
send_code = send.the_row.coded

abbrev pub left_code : Coded FrameLeft
left_code = left.the_row.coded

-- the states that are made of these
pub ruleset end_codes = (codes, send_code, left_code)
