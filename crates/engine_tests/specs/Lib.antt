pub mod WholeRun
pub mod OnePacket
