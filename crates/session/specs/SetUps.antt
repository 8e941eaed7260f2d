-- What of a DAQ list is to be as it was: all that is set of it, but the priority.
use Rattle.std.specs.Prelude.{Option, Some, None}
use Rattle.daq_store.specs.declared.mode.Mode.{Mode}
use Rattle.daq_store.specs.Configuration.{Configuration}
use Rattle.session.specs.declared.mode_set_up.ModeSetUp.{ModeSetUp}

-- a mode with priority 0, if one was set
abbrev pub but_priority : Option Mode → Option Mode
but_priority None = None
but_priority (Some m) = Some (record m { priority = 0 })

-- a list with priority 0: two lists are set up alike where these are equal
abbrev pub set_up_of : Configuration → Configuration
set_up_of c = record c { mode = but_priority c.mode }

-- a mode, as it is held
abbrev pub mode_held : Option ModeSetUp → Option Mode
mode_held None = None
mode_held (Some m) =
    Some (record {
      channel = m.channel;
      prescaler = m.prescaler;
      stamped = m.stamped;
      priority = 0;
    })
