-- What a `&mut` into the lists of the store leaves in them.
use Rattle.std.specs.Prelude.{ℕ}
use Rattle.std.specs.Borrow.{Lends, MutBor, Fml}
use Rattle.std.specs.Vec.{with_item}
use Rattle.std.specs.declared.alloc.Global.{Global}
use Rattle.std.specs.declared.vec.Vec.{Vec}
use Rattle.std.specs.contracts.alloc.Global as global
use Rattle.std.specs.contracts.vec.Vec as vec
use Rattle.std.specs.contracts.impls.GlobalAllocator.TheImpl.{ghosts}
use Rattle.daq_store.specs.declared.list_state.ListState.{ListState}
use Rattle.daq_store.specs.contracts.list_state.ListState as state

-- what is last left behind the second reference stands in the place of list l
abbrev pub LendsList : MutBor (Vec ListState Global) → ℕ → MutBor ListState → Fml
LendsList lists l list =
    Lends (vec.the_row state.the_row global.the_row ghosts) state.the_row lists list
    (with_item lists.now l)
