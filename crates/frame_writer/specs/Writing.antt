-- What a frame writer shows, and what it leaves.
use Rattle.std.specs.Prelude.{◌≡◌, ℕ, ◌+◌, ◌%◌, Bool, false, true, List, ◌∷◌, ◌++◌, length}
use Rattle.frame_writer.specs.declared.out.Out.{Ghosts}
use Rattle.frame_writer.specs.declared.writer.FrameWriter.{FrameWriter}
use Rattle.frame_writer.specs.Frame.{frame, text}
use Rattle.frame_writer.specs.Shown.{BreaksOff, OutState, after_bytes, shown}

-- the writer that a frame writer has
abbrev pub out_of : {O : Type 0} → FrameWriter O → O
out_of w = w.out

-- whether it is closed
abbrev pub is_closed : {O : Type 0} → FrameWriter O → Bool
is_closed w = w.closed

-- what its writer shows, the counter of the next frame, and whether it is closed
pub record WriterState : Type 0 where
  pub out : OutState
  pub counter : ℕ
  pub closed : Bool

abbrev pub state_of : {O : Type 0} → Ghosts O → FrameWriter O → WriterState
state_of O w = record { out = shown O (out_of w); counter = w.counter; closed = is_closed w }

-- nothing was sent yet
abbrev pub fresh_writer : OutState → WriterState
fresh_writer out = record { out = out; counter = 0; closed = false }

-- the packet q was sent
abbrev pub after_frame : WriterState → List ℕ → WriterState
after_frame a q = record {
  out = after_bytes a.out (frame a.counter q);
  counter = (a.counter + 1) % 65536;
  closed = a.closed;
}

-- the writer failed within these bytes, and the frame writer is closed from now on
pub record FailsWithin (a b : WriterState) (bytes : List ℕ) : Type 0 where
  pub out : BreaksOff a.out b.out bytes
  pub counter : b.counter ≡ a.counter
  pub was_open : a.closed ≡ false
  pub closed : b.closed ≡ true

-- the packets were sent, one after another
pub record AfterText (a b : WriterState) (qs : List (List ℕ)) : Type 0 where
  pub out : b.out ≡ after_bytes a.out (text a.counter qs)
  pub counter : b.counter % 65536 ≡ (a.counter + length qs) % 65536
  pub closed : b.closed ≡ a.closed

-- what the packets leave that were sent, one after another
abbrev pub after_text : WriterState → List (List ℕ) → WriterState
after_text a qs = record {
  out = after_bytes a.out (text a.counter qs);
  counter = (a.counter + length qs) % 65536;
  closed = a.closed;
}

-- the frames of the first packets were written whole, and the writer failed within the next one's:
-- what is left is what it would be had each packet been sent by itself
pub record FailsWithinText (a b : WriterState) (qs : List (List ℕ)) : Type 0 where
  -- fixed by `packets`, and by how many bytes there are in `fails`
  pub whole : List (List ℕ)
  pub torn : List ℕ
  pub unsent : List (List ℕ)
  pub packets : qs ≡ whole ++ torn ∷ unsent
  pub fails : FailsWithin (after_text a whole) b (frame (after_text a whole).counter torn)
