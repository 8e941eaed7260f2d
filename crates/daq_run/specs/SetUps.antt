-- The set-up of a run.
use Rattle.std.specs.Prelude.{◌≡◌, ℕ, List, [], ◌∷◌, ◌++◌}
use Rattle.xcp_base.specs.declared.limits.TheConstants.{MAX_ODTS, RUN_ENTRIES}
use Rattle.segments.specs.Image.{image_segments}
use Rattle.daq_store.specs.Calls.{Profile}
use Rattle.daq_store.specs.Replies.{calls_after_packets, replies}
use Rattle.daq_store.specs.Standing.{StoreStandsAfter, StoreState}
use Rattle.frame_writer.specs.Frame.{text}
use Rattle.frame_writer.specs.Shown.{OutState, after_bytes}
use Rattle.frame_writer.specs.Writing.{AfterText, WriterState, fresh_writer}
use Rattle.run_file.specs.RunFile.{RunData}
use Rattle.daq_run.specs.Setup.{NeedsMemory}

-- what the store of a run is made for
abbrev pub profile_of : RunData → Profile
profile_of run =
    record {
      channels = run.channels;
      most_odts = MAX_ODTS;
      most_entries = RUN_ENTRIES;
      segments = image_segments run.image_len;
      form = run.form;
    }

-- the replies to these command packets, to a store that was fresh
abbrev pub first_replies : RunData → List (List ℕ) → List (List ℕ)
first_replies run packets = replies (profile_of run) [] packets

-- the replies of a run, one to each packet of its set-up
abbrev pub replies_of : RunData → List (List ℕ)
replies_of run = first_replies run run.setup

-- the store of a run after these packets
pub record IsStoreAfter (run : RunData) (s : StoreState) (packets : List (List ℕ))
    : Type 0 where
  pub profile : s.profile ≡ profile_of run
  pub stands : StoreStandsAfter s (calls_after_packets (profile_of run) [] packets)

-- all packets of a run were carried out, and their replies written as the first frames
pub record IsSetUp (run : RunData) (before : OutState) (s : StoreState) (w : WriterState)
    : Type 0 where
  pub store : IsStoreAfter run s run.setup
  pub replied : AfterText (fresh_writer before) w (replies_of run)

-- the packets before one were carried out and answered. That one needs memory: it was not carried
-- out, and not answered
pub record StopsInSetUp (run : RunData) (before after : OutState) : Type 0 where
  -- fixed by `split` and `written`
  pub done : List (List ℕ)
  pub packet : List ℕ
  pub left : List (List ℕ)
  pub split : run.setup ≡ done ++ packet ∷ left
  -- fixed by `stands`
  pub store : StoreState
  pub stands : IsStoreAfter run store done
  pub needs : NeedsMemory store packet
  pub written : after ≡ after_bytes before (text 0 (first_replies run done))
