-- Which bytes the samples of a list are made of.
use Rattle.std.specs.Prelude.{◌≡◌, ℕ, ◌<◌, true, List, None, length, filter_map, flat_map}
use Rattle.std.specs.Prelude.{Option, Result, Ok, Err, []}
use Rattle.segments.specs.declared.read_fault.ReadFault.{ReadFault}
use Rattle.segments.specs.declared.segment.Segment.{Segment}
use Rattle.segments.specs.Faults.{segments_fault}
use Rattle.segments.specs.Image.{image_of}
use Rattle.segments.specs.Memory.{fits, read}
use Rattle.daq_store.specs.declared.entry.Entry.{Entry}
use Rattle.daq_store.specs.Configuration.{Configuration, IsWithinLimits, channel_of, is_ready}
use Rattle.daq_store.specs.Configuration.{odt_entries}
use Rattle.copy_plan.specs.Config.{odt, plan_of}
use Rattle.copy_plan.specs.Packet.{elements}

-- the bytes that were read
abbrev pub bytes_of : Result (List ℕ) ReadFault → List ℕ
bytes_of (Ok bytes) = bytes
bytes_of (Err fault) = []

-- the bytes at the extension and address of an entry
abbrev pub bytes_at : List Segment → List (List ℕ) → Entry → List ℕ
bytes_at segments memory x = bytes_of (read segments memory x.extension x.address x.size)

-- the elements of a list that is ready are, entry by entry, the bytes at its extension and address
-- in memory that fits, where the list's event channel may read them
abbrev pub ElementsAreMemory : Type 0
ElementsAreMemory =
    (channels l first_pid k : ℕ) (conf : Configuration) (segments : List Segment)
    (memory : List (List ℕ))
    → segments_fault channels segments ≡ None → IsWithinLimits conf
    → is_ready segments conf ≡ true → k < length conf.odts
    → fits (channel_of conf.mode) segments memory ≡ true
    → elements (image_of (channel_of conf.mode) segments memory)
    (odt (plan_of l conf first_pid segments) k)
    ≡ flat_map (bytes_at segments memory)
    (filter_map (λ (entry : Option Entry). entry) (odt_entries conf k))
