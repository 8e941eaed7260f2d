use Rattle.c_engine.proofs.OnLemmas.{on_byte_engine, on_engine}
use Rattle.c_engine.proofs.handing.hand_out_of.Goals as goal

-- what holds of the engine holds of the content that it is
pub returns-in-Engine : goal.returns-in-Engine
returns-in-Engine c = on_engine _ _ _ _ c.in-Engine.is c.hand_out.ensures

pub returns-in-ByteEngine : goal.returns-in-ByteEngine
returns-in-ByteEngine c = on_byte_engine _ _ _ _ c.in-ByteEngine.is c.hand_out_bytes.ensures
