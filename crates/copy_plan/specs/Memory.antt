-- Memory as a trigger hands it in, and the image that it shows an event channel.
use Rattle.std.specs.Prelude.{◌≡◌, ℕ, true, List, length}
use Rattle.xcp_base.specs.declared.memory_view.MemoryView.{MemoryView}
use Rattle.xcp_base.specs.declared.memory_view.MemoryView.TheVariants.{Image, Parts}
use Rattle.segments.specs.declared.segment.Segment.{Segment}
use Rattle.segments.specs.Image.{image_len, image_of}
use Rattle.segments.specs.Memory.{fits, parts}

-- one image of all segments, or the bytes of each
abbrev pub image_in : ℕ → List Segment → MemoryView → List ℕ
image_in c segments (Image image) = image.now
image_in c segments (Parts memory) = image_of c segments (parts memory.now)

-- the image has its length, or of the segments that event channel c may read all bytes are there
abbrev pub FitsMemory : ℕ → List Segment → MemoryView → Type 0
FitsMemory c segments (Image image) = length image.now ≡ image_len segments
FitsMemory c segments (Parts memory) = fits c segments (parts memory.now) ≡ true
