use Rattle.std.proofs.Common.{◌≡◌, ◌+◌, drop}
use Rattle.daq_reader.specs.Lists.{place_in, plans_of}
use Rattle.daq_reader.proofs.reader.place_in.Given as goal

-- none of the lists so far is named
abbrev pub invariant-loop-place : goal.invariant-loop-place
invariant-loop-place l = place_in (plans_of l.lists) l.packet ≡ l.place + place_in (plans_of (drop l.place l.lists)) l.packet
