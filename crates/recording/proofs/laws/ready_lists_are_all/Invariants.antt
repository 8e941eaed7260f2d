use Rattle.std.proofs.Common.{◌≡◌, ℕ, ◌<◌, true}
use Rattle.daq_store.specs.Configuration.{channel_of, is_ready}
use Rattle.daq_store.specs.Standing.{conf_of}
use Rattle.recording.proofs.laws.ready_lists_are_all.Given as goal

-- the lists so far, where they are ready, are of the store's channels
abbrev pub invariant-loop-l : goal.invariant-loop-l
invariant-loop-l l =
    (k : ℕ) → k < l.l → is_ready l.store.profile.segments (conf_of l.store k) ≡ true
    → channel_of (conf_of l.store k).mode < l.store.profile.channels
