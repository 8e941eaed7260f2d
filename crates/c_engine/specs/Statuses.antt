-- The numbers of `ng_status` in `nerthogal.h`.
use Rattle.std.specs.Prelude.{ℕ}
use Rattle.c_engine.specs.declared.status.Status.{Status}
use Rattle.c_engine.specs.declared.status.Status.TheVariants as status

-- the number of a status
abbrev pub number_of : Status → ℕ
number_of status.Ok = 0
number_of status.Empty = 1
number_of status.InUse = 2
number_of status.BadLimits = 3
number_of status.SmallBuffer = 4
number_of status.Memory = 5
number_of status.BadCaps = 6
number_of status.NothingRunning = 7
number_of status.NoSampler = 8
number_of status.WrongImage = 9
number_of status.Spent = 10
number_of status.NotOfChannel = 11
number_of status.Running = 12
number_of status.NotRunning = 13
number_of status.NoRoom = 14
number_of status.Unfinished = 15
number_of status.NoEngine = 16
number_of status.NoTask = 17
number_of status.BadFrame = 18
number_of status.WrongMemory = 19
