-- What follows from the definitions.
use Rattle.std.specs.Prelude.{◌≡◌, ℕ, true, false, List, ◌∷◌, Some, None, Err, is_none, IfSome}
use Rattle.xcp_base.specs.declared.err_code.ErrCode.TheVariants.{OutOfRange}
use Rattle.segments.specs.Places.{segment_of}
use Rattle.daq_store.specs.declared.command.Command.{Command}
use Rattle.daq_store.specs.declared.command.Command.TheVariants.{SetDaqPtr, WriteDaq}
use Rattle.daq_store.specs.Answer.{is_active_at}
use Rattle.daq_store.specs.Commands.{dword}
use Rattle.daq_store.specs.Pointer.{pointer}
use Rattle.daq_store.specs.Shape.{has_entry}
use Rattle.session.specs.declared.profile.Profile.{Profile}
use Rattle.session.specs.Exchanges.{Exchange, master_reply, reply_in}
use Rattle.session.specs.Fields.{DWORD, IsReplyPacket, packet_of}
use Rattle.session.specs.Past.{Given, Past}
use Rattle.session.specs.Profiles.{profile_fault, segments_of}

-- the master is connected, and its DAQ pointer is at an entry of a list that doesn't run
pub record MayWrite (past : Past) : Type 0 where
  pub connected : past.connected ≡ true
  pub stopped : is_active_at past.calls (pointer past.calls) ≡ false
  pub pointed : is_none (pointer past.calls) ≡ false

-- WRITE_DAQ of bytes that lie in no segment is out of range
abbrev pub NowhereIsOutOfRange : Type 0
NowhereIsOutOfRange =
    (d : Profile) (past : Past) (given : Given) → MayWrite past
    → (bit size ext i j k l : ℕ) (more : List ℕ)
    → segment_of (segments_of d) ext (dword i j k l) size ≡ None
    → master_reply d past given (0xE1 ∷ bit ∷ size ∷ ext ∷ i ∷ j ∷ k ∷ l ∷ more)
    ≡ Some (packet_of (Err OutOfRange))

-- READ_DAQ behind SET_DAQ_PTR shows size, address extension and address that WRITE_DAQ wrote there
abbrev pub ShowsWhatIsWritten : Type 0
ShowsWhatIsWritten =
    (d : Profile) (past : Past) (given : Given) → past.connected ≡ true
    → (earlier : List Command) (list odt entry bit size ext addr : ℕ) (more : List ℕ)
    → has_entry earlier list odt entry ≡ true
    → past.calls
    ≡ SetDaqPtr list odt entry ∷ WriteDaq bit size ext addr ∷ SetDaqPtr list odt entry ∷ earlier
    → master_reply d past given (0xDB ∷ more) ≡ Some (0xFF ∷ 0xFF ∷ size ∷ ext ∷ DWORD addr)

-- each reply of a slave whose profile is within its limits begins as a reply does, and has at most
-- MAX_CTO bytes
abbrev pub RepliesFit : Type 0
RepliesFit =
    (d : Profile) (past : Past) (x : Exchange) → profile_fault d ≡ None
    → IfSome (reply_in d past x) (IsReplyPacket d.max_cto)
