-- Which commands and replies the two halves of `carry_out` tell apart.
use Rattle.daq_store.specs.declared.command.Command.{Command}
use Rattle.daq_store.specs.declared.command.Command.TheVariants.{ReadDaq, StartStopDaqList}
use Rattle.daq_store.specs.declared.reply.Reply.{Reply}
use Rattle.daq_store.specs.declared.reply.Reply.TheVariants.{Error}
use Rattle.daq_store.specs.Standing.{Accepts, StoreState}

-- a command whose positive reply has nothing more
abbrev pub IsPlain : Command → Type 0
IsPlain (StartStopDaqList mode list) = ⊥
IsPlain ReadDaq = ⊥
IsPlain _ = Unit {0}

-- a reply that is no error
abbrev pub IsPositive : Reply → Type 0
IsPositive (Error code) = ⊥
IsPositive _ = Unit {0}

-- the call was accepted with this reply
abbrev pub IsAccepted : StoreState → StoreState → Command → Reply → Type 0
IsAccepted old new call reply = IsPositive reply × Accepts old new call reply
