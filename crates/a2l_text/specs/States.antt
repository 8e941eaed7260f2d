-- What contracts see of `Blocks`: its role, the open blocks, the words gathered, the text ahead.
use Rattle.std.specs.Prelude.{map, reverse}
use Rattle.a2l_text.specs.State.{rest_of}
use Rattle.a2l_text.specs.Ahead.{Open}
use Rattle.a2l_text.specs.Steps.{State, token_at}
use Rattle.a2l_text.specs.declared.blocks.OpenBlock.{OpenBlock}
use Rattle.a2l_text.specs.declared.blocks.Blocks.{Blocks}

-- an open block, as the code keeps it
abbrev pub open_of : OpenBlock → Open
open_of o = record { name = o.name.now; outer = o.outer }

-- the code keeps the innermost block last, a state has it first
abbrev pub state_of : Blocks → State
state_of b = record {
  role = b.role;
  around = reverse (map open_of b.around.items);
  gathered = map token_at b.gathered.items;
  ahead = rest_of b.words;
}
