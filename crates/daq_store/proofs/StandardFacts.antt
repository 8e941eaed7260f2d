-- Worked examples: what the definitions say of some lists of calls, each as it computes.
use Rattle.std.proofs.Common.{◌≡◌, ℕ, List, [], ◌∷◌, drop, refl, true, false, Some, None}
use Rattle.xcp_base.specs.declared.err_code.ErrCode.TheVariants.{DaqActive, OutOfRange, ModeNotValid, Sequence, DaqConfig, MemoryOverflow}
use Rattle.xcp_base.specs.declared.id_kind.IdKind.{IdKind}
use Rattle.xcp_base.specs.declared.id_kind.IdKind.TheVariants.{Absolute, RelativeByte, RelativeWord}
use Rattle.xcp_base.specs.declared.stamp_size.StampSize.TheVariants.{One, Two, Four}
use Rattle.xcp_base.specs.declared.packet_form.PacketForm.{PacketForm}
use Rattle.xcp_base.specs.Forms.{usual_form}
use Rattle.segments.specs.Image.{image_segments}
use Rattle.segments.specs.declared.segment.Segment.{Segment}
use Rattle.daq_store.specs.declared.command.Command.{Command}
use Rattle.daq_store.specs.declared.command.Command.TheVariants.{FreeDaq, AllocDaq, AllocOdt, AllocOdtEntry, SetDaqPtr, WriteDaq, SetDaqListMode, StartStopDaqList, StartStopSynch, ClearDaqList, ReadDaq}
use Rattle.daq_store.specs.declared.reply.Reply.{Reply}
use Rattle.daq_store.specs.declared.reply.Reply.TheVariants.{Positive, Started, Read, Error}
use Rattle.daq_store.specs.Calls.{Profile}
use Rattle.daq_store.specs.Shape.{odts_before}
use Rattle.daq_store.specs.Pointer.{pointer}
use Rattle.daq_store.specs.Entries.{last_write}
use Rattle.daq_store.specs.Modes.{mode_of}
use Rattle.daq_store.specs.Running.{is_running, is_selected}
use Rattle.daq_store.specs.Answer.{answers, calls_after}

-- one event channel, and images of so many bytes
abbrev images_of : ℕ → Profile
images_of n = record { channels = 1; most_odts = 8; most_entries = 32; segments = image_segments n; form = usual_form }

-- the calls that stand after a list of calls that were asked for, the first of which stands first here
abbrev stand_after : Profile → List Command → List Command → List Command
stand_after p calls [] = calls
stand_after p calls (call ∷ more) = stand_after p (calls_after p calls call) more

-- at most 124 ODTs over all lists
abbrev many_odts : List Command
many_odts =
    AllocDaq 17 ∷ AllocDaq 16 ∷ AllocOdt 0 9 ∷ AllocOdt 0 8 ∷ AllocOdt 1 8 ∷ AllocOdt 2 8 ∷ AllocOdt 3 8 ∷ AllocOdt 4 8
    ∷ AllocOdt 5 8 ∷ AllocOdt 6 8 ∷ AllocOdt 7 8 ∷ AllocOdt 8 8 ∷ AllocOdt 9 8 ∷ AllocOdt 10 8 ∷ AllocOdt 11 8
    ∷ AllocOdt 12 8 ∷ AllocOdt 13 8 ∷ AllocOdt 14 8 ∷ AllocOdt 15 5 ∷ AllocOdt 15 4 ∷ AllocOdtEntry 0 0 33
    ∷ AllocOdtEntry 0 0 32 ∷ []

at_most_124_odts :
    answers (images_of 4) [] many_odts
    ≡ Error MemoryOverflow ∷ Positive ∷ Error MemoryOverflow ∷ Positive ∷ Positive ∷ Positive ∷ Positive ∷ Positive
    ∷ Positive ∷ Positive ∷ Positive ∷ Positive ∷ Positive ∷ Positive ∷ Positive
    ∷ Positive ∷ Positive ∷ Positive ∷ Error MemoryOverflow ∷ Positive ∷ Error MemoryOverflow
    ∷ Positive ∷ []
at_most_124_odts = refl

first_pid_of_the_last : odts_before (stand_after (images_of 4) [] many_odts) 15 ≡ 0x78
first_pid_of_the_last = refl

-- with a relative ODT number all 128 that the lists may have, and FIRST_PID 0 for each list
abbrev relative_images_of : IdKind → ℕ → Profile
relative_images_of id n = record (images_of n) { form = record usual_form { id = id } }

abbrev all_odts : List Command
all_odts =
    AllocDaq 16 ∷ AllocOdt 0 9 ∷ AllocOdt 0 8 ∷ AllocOdt 1 8 ∷ AllocOdt 2 8 ∷ AllocOdt 3 8 ∷ AllocOdt 4 8 ∷ AllocOdt 5 8
    ∷ AllocOdt 6 8 ∷ AllocOdt 7 8 ∷ AllocOdt 8 8 ∷ AllocOdt 9 8 ∷ AllocOdt 10 8 ∷ AllocOdt 11 8 ∷ AllocOdt 12 8
    ∷ AllocOdt 13 8 ∷ AllocOdt 14 8 ∷ AllocOdt 15 8 ∷ StartStopDaqList 2 15 ∷ []

all_128_odts :
    answers (relative_images_of RelativeByte 4) [] all_odts
    ≡ Positive ∷ Error MemoryOverflow ∷ Positive ∷ Positive ∷ Positive ∷ Positive ∷ Positive ∷ Positive
    ∷ Positive ∷ Positive ∷ Positive ∷ Positive ∷ Positive ∷ Positive ∷ Positive
    ∷ Positive ∷ Positive ∷ Positive ∷ Started 0 ∷ []
all_128_odts = refl

-- allocations in their order
allocations_in_order :
    answers (images_of 4) []
    (AllocOdt 0 1 ∷ AllocDaq 1 ∷ AllocOdt 0 1 ∷ AllocOdtEntry 0 0 1 ∷ AllocOdt 0 1 ∷ AllocDaq 1 ∷ AllocOdtEntry 0 0 2 ∷ [])
    ≡ Error Sequence ∷ Positive ∷ Positive ∷ Positive ∷ Error Sequence ∷ Error Sequence ∷ Positive ∷ []
allocations_in_order = refl

-- one list with one ODT of one entry, and then writes
abbrev one_entry : List Command → List Command
one_entry more = AllocDaq 1 ∷ AllocOdt 0 1 ∷ AllocOdtEntry 0 0 1 ∷ more

abbrev some_writes : List Command
some_writes = one_entry (
    SetDaqPtr 0 0 0 ∷ WriteDaq 0xFF 2 0 2 ∷ WriteDaq 0xFF 2 0 2 ∷ SetDaqPtr 0 0 0 ∷ WriteDaq 0xFF 0 0 0 ∷ WriteDaq 3 1 0 0
    ∷ WriteDaq 0xFF 2 0 3 ∷ WriteDaq 0xFF 64 0 0 ∷ WriteDaq 0xFF 1 1 0 ∷ WriteDaq 0xFF 2 0 2 ∷ []
    )

writes_in_range :
    answers (images_of 4) [] some_writes
    ≡ Positive ∷ Positive ∷ Positive ∷ Positive ∷ Positive ∷ Error Sequence ∷ Positive ∷ Error OutOfRange ∷ Error OutOfRange
    ∷ Error OutOfRange ∷ Error OutOfRange ∷ Error OutOfRange ∷ Positive ∷ []
writes_in_range = refl

pointer_after_the_last : pointer (stand_after (images_of 4) [] some_writes) ≡ None
pointer_after_the_last = refl

entry_of_the_last_write :
    last_write (stand_after (images_of 4) [] some_writes) 0 0 0 ≡ Some (record { extension = 0; address = 2; size = 2 })
entry_of_the_last_write = refl

-- a packet of 64 bytes, and one of 65
abbrev one_packet : ℕ → ℕ → List Command
one_packet mode size = one_entry (
    SetDaqPtr 0 0 0 ∷ WriteDaq 0xFF size 0 0 ∷ SetDaqListMode mode 0 0 1 0 ∷ StartStopDaqList 1 0 ∷ []
    )

stamped_64_bytes :
    answers (images_of 64) [] (one_packet 0x10 59)
    ≡ Positive ∷ Positive ∷ Positive ∷ Positive ∷ Positive ∷ Positive ∷ Started 0 ∷ []
stamped_64_bytes = refl

stamped_65_bytes :
    answers (images_of 64) [] (one_packet 0x10 60)
    ≡ Positive ∷ Positive ∷ Positive ∷ Positive ∷ Positive ∷ Positive ∷ Error DaqConfig ∷ []
stamped_65_bytes = refl

unstamped_61_bytes :
    answers (images_of 64) [] (one_packet 0x00 60)
    ≡ Positive ∷ Positive ∷ Positive ∷ Positive ∷ Positive ∷ Positive ∷ Started 0 ∷ []
unstamped_61_bytes = refl

-- the longer identification field counts, and the shorter timestamp
abbrev last_answer : PacketForm → ℕ → ℕ → List Reply
last_answer form mode size = drop 6 (answers (record (images_of 64) { form = form }) [] (one_packet mode size))

list_numbers_count :
    (last_answer (record { id = RelativeByte; stamp = Four; max_dto = 64 }) 0x10 58 ≡ Started 0 ∷ [])
    × (last_answer (record { id = RelativeByte; stamp = Four; max_dto = 64 }) 0x10 59 ≡ Error DaqConfig ∷ [])
    × (last_answer (record { id = RelativeWord; stamp = Four; max_dto = 64 }) 0x10 57 ≡ Started 0 ∷ [])
    × (last_answer (record { id = RelativeWord; stamp = Four; max_dto = 64 }) 0x10 58 ≡ Error DaqConfig ∷ [])
list_numbers_count = (refl, refl, refl, refl)

short_timestamps_count :
    (last_answer (record { id = Absolute; stamp = One; max_dto = 64 }) 0x10 62 ≡ Started 0 ∷ [])
    × (last_answer (record { id = Absolute; stamp = One; max_dto = 64 }) 0x10 63 ≡ Error DaqConfig ∷ [])
    × (last_answer (record { id = Absolute; stamp = Two; max_dto = 64 }) 0x10 61 ≡ Started 0 ∷ [])
    × (last_answer (record { id = Absolute; stamp = Two; max_dto = 64 }) 0x10 62 ≡ Error DaqConfig ∷ [])
short_timestamps_count = (refl, refl, refl, refl)

unwritten_entry :
    answers (images_of 64) [] (one_entry (SetDaqListMode 0 0 0 1 0 ∷ StartStopDaqList 1 0 ∷ []))
    ≡ Positive ∷ Positive ∷ Positive ∷ Positive ∷ Error DaqConfig ∷ []
unwritten_entry = refl

no_mode :
    answers (images_of 64) [] (one_entry (SetDaqPtr 0 0 0 ∷ WriteDaq 0xFF 60 0 0 ∷ StartStopDaqList 1 0 ∷ []))
    ≡ Positive ∷ Positive ∷ Positive ∷ Positive ∷ Positive ∷ Error DaqConfig ∷ []
no_mode = refl

-- two lists, of which list 0 is ready, and both are selected
abbrev two_selected : List Command
two_selected =
    AllocDaq 2 ∷ AllocOdt 0 1 ∷ AllocOdt 1 1 ∷ AllocOdtEntry 0 0 1 ∷ AllocOdtEntry 1 0 1
    ∷ SetDaqPtr 0 0 0 ∷ WriteDaq 0xFF 1 0 0 ∷ SetDaqPtr 1 0 0 ∷ WriteDaq 0xFF 1 0 0
    ∷ SetDaqListMode 0 0 0 1 0 ∷ StartStopDaqList 2 0 ∷ StartStopDaqList 2 1 ∷ StartStopSynch 1 ∷ []

selected_together :
    answers (images_of 4) [] two_selected
    ≡ Positive ∷ Positive ∷ Positive ∷ Positive ∷ Positive ∷ Positive ∷ Positive ∷ Positive ∷ Positive ∷ Positive
    ∷ Started 0 ∷ Started 1 ∷ Error DaqConfig ∷ []
selected_together = refl

both_stay_selected : is_selected (stand_after (images_of 4) [] two_selected) 1 ≡ true
both_stay_selected = refl

none_runs : is_running (stand_after (images_of 4) [] two_selected) 0 ≡ false
none_runs = refl

-- and then list 0 alone
abbrev one_selected : List Command
one_selected = StartStopSynch 2 ∷ StartStopDaqList 2 0 ∷ StartStopSynch 1 ∷ StartStopSynch 3 ∷ StartStopDaqList 3 0 ∷ []

selected_alone :
    answers (images_of 4) (stand_after (images_of 4) [] two_selected) one_selected
    ≡ Positive ∷ Started 0 ∷ Positive ∷ Error ModeNotValid ∷ Error ModeNotValid ∷ []
selected_alone = refl

it_runs : is_running (stand_after (images_of 4) (stand_after (images_of 4) [] two_selected) one_selected) 0 ≡ true
it_runs = refl

-- modes of a list that is stopped, and what is refused while it runs
mode_and_then_running :
    answers (images_of 4) [] (one_entry (
    SetDaqPtr 0 0 0 ∷ WriteDaq 0xFF 1 0 0 ∷ SetDaqListMode 0 0 0 1 0
    ∷ SetDaqListMode 0x20 0 0 1 0 ∷ SetDaqListMode 0 0 0 0 0 ∷ SetDaqListMode 0 0 1 1 0 ∷ SetDaqListMode 0x20 0 0 0 0
    ∷ StartStopDaqList 1 0 ∷ SetDaqPtr 0 0 0 ∷ SetDaqListMode 0 0 0 1 0 ∷ AllocDaq 1 ∷ FreeDaq ∷ StartStopDaqList 1 0 ∷ []
    ))
    ≡ Positive ∷ Positive ∷ Positive ∷ Positive ∷ Positive ∷ Positive
    ∷ Error ModeNotValid ∷ Error OutOfRange ∷ Error OutOfRange ∷ Error OutOfRange
    ∷ Started 0 ∷ Error DaqActive ∷ Error DaqActive ∷ Error DaqActive ∷ Positive ∷ Error OutOfRange ∷ []
mode_and_then_running = refl

-- an ALLOC_DAQ forgets the mode
mode_over_alloc_daq :
    mode_of (stand_after (images_of 4) [] (AllocDaq 1 ∷ SetDaqListMode 0 0 0 1 0 ∷ AllocDaq 1 ∷ [])) 0 ≡ None
mode_over_alloc_daq = refl

-- READ_DAQ reads on through an ODT, also of a list that runs, and CLEAR_DAQ_LIST leaves two unwritten
-- entries and a list that can't be started
abbrev reads_and_clears : List Command
reads_and_clears =
    AllocDaq 1 ∷ AllocOdt 0 1 ∷ AllocOdtEntry 0 0 2 ∷ ReadDaq ∷ SetDaqPtr 0 0 0 ∷ ReadDaq ∷ WriteDaq 0xFF 1 0 3
    ∷ SetDaqPtr 0 0 0 ∷ WriteDaq 0xFF 2 0 1 ∷ SetDaqPtr 0 0 0 ∷ SetDaqListMode 0 0 0 1 0 ∷ StartStopDaqList 1 0
    ∷ ReadDaq ∷ ReadDaq ∷ ReadDaq ∷ ClearDaqList 1 ∷ ClearDaqList 0 ∷ StartStopDaqList 1 0 ∷ SetDaqPtr 0 0 1 ∷ ReadDaq
    ∷ ReadDaq ∷ []

reading_and_clearing :
    answers (images_of 4) [] reads_and_clears
    ≡ Positive ∷ Positive ∷ Positive ∷ Error Sequence ∷ Positive ∷ Read 0 0 0 ∷ Positive
    ∷ Positive ∷ Positive ∷ Positive ∷ Positive ∷ Started 0
    ∷ Read 2 0 1 ∷ Read 1 0 3 ∷ Error Sequence ∷ Error OutOfRange ∷ Positive ∷ Error DaqConfig ∷ Positive ∷ Read 0 0 0
    ∷ Error Sequence ∷ []
reading_and_clearing = refl

-- CLEAR_DAQ_LIST of another list leaves all but the pointer
abbrev clears_another : List Command
clears_another =
    AllocDaq 2 ∷ AllocOdt 0 1 ∷ AllocOdtEntry 0 0 2 ∷ SetDaqPtr 0 0 0 ∷ WriteDaq 0xFF 2 0 1
    ∷ SetDaqListMode 0 0 0 1 0 ∷ StartStopDaqList 2 0 ∷ ClearDaqList 1 ∷ []

the_pointer_is_undefined : pointer (stand_after (images_of 4) [] clears_another) ≡ None
the_pointer_is_undefined = refl

the_entry_stays : last_write (stand_after (images_of 4) [] clears_another) 0 0 0 ≡ Some (record { extension = 0; address = 1; size = 2 })
the_entry_stays = refl

the_selection_stays : is_selected (stand_after (images_of 4) [] clears_another) 0 ≡ true
the_selection_stays = refl

-- two event channels, two segments that touch, of extension 0 and for event channel 0 alone, and one of extension 1 for event
-- channel 1 alone
abbrev three_segments : List Segment
three_segments =
    record { extension = 0; base = 0x1000; len = 2; events = 0x01 }
    ∷ record { extension = 0; base = 0x1002; len = 2; events = 0x01 }
    ∷ record { extension = 1; base = 0x1000; len = 4; events = 0x02 } ∷ []

abbrev over_segments : Profile
over_segments = record { channels = 2; most_odts = 124; most_entries = 255; segments = three_segments; form = usual_form }

-- an entry lies in one segment, and READ_DAQ shows its extension
abbrev writes_at_seams : List Command
writes_at_seams = one_entry (
    SetDaqPtr 0 0 0 ∷ WriteDaq 0xFF 2 0 0x1001 ∷ WriteDaq 0xFF 2 0 0x1003 ∷ WriteDaq 0xFF 2 0 0xFFF ∷ WriteDaq 0xFF 2 2 0x1000
    ∷ WriteDaq 0xFF 5 1 0x1000 ∷ WriteDaq 0xFF 2 1 0x1000 ∷ SetDaqPtr 0 0 0 ∷ ReadDaq ∷ SetDaqPtr 0 0 0 ∷ WriteDaq 0xFF 2 0 0x1002
    ∷ SetDaqPtr 0 0 0 ∷ ReadDaq ∷ []
    )

written_in_one_segment :
    answers over_segments [] writes_at_seams
    ≡ Positive ∷ Positive ∷ Positive ∷ Positive ∷ Error OutOfRange ∷ Error OutOfRange ∷ Error OutOfRange ∷ Error OutOfRange
    ∷ Error OutOfRange ∷ Positive ∷ Positive ∷ Read 2 1 0x1000 ∷ Positive ∷ Positive ∷ Positive ∷ Read 2 0 0x1002 ∷ []
written_in_one_segment = refl

-- a list is ready if its event channel may read the segments of its entries
abbrev start_answers : ℕ → ℕ → List Reply
start_answers ext channel =
    drop 6 (answers over_segments [] (one_entry (
    SetDaqPtr 0 0 0 ∷ WriteDaq 0xFF 2 ext 0x1000 ∷ SetDaqListMode 0 0 channel 1 0 ∷ StartStopDaqList 1 0 ∷ StartStopDaqList 2 0
    ∷ StartStopSynch 1 ∷ []
    )))

readable_by_the_channel :
    (start_answers 1 0 ≡ Error DaqConfig ∷ Started 0 ∷ Error DaqConfig ∷ [])
    × (start_answers 1 1 ≡ Started 0 ∷ Started 0 ∷ Positive ∷ [])
    × (start_answers 0 0 ≡ Started 0 ∷ Started 0 ∷ Positive ∷ [])
    × (start_answers 0 1 ≡ Error DaqConfig ∷ Started 0 ∷ Error DaqConfig ∷ [])
readable_by_the_channel = (refl, refl, refl, refl)
