-- What contracts see of a slave that lends its tasks.
use Rattle.std.specs.Prelude.{List}
use Rattle.frame_writer.specs.Reading.{ReaderState}
use Rattle.slave.specs.Standing.{SlaveState}
use Rattle.slave_lending.specs.Slots.{SlotState}

-- the slave, the stream of its master, and the tasks of its event channels, in their order
pub record LendingSlaveState : Type 0 where
  pub slave : SlaveState
  pub stream : ReaderState
  pub tasks : List SlotState
