-- What the samples of one DAQ list are made of (ASAM MCD-1 XCP, protocol layer, DAQ list, ODT, ODT
-- entry). An entry's bytes are those at its place in an image of all memory.
use Rattle.std.specs.Prelude.{◌≡◌, ℕ, ◌+◌, ◌<◌, ◌≤◌, Bool, true, All, List, [], length, map}
use Rattle.std.specs.Prelude.{filter_map, slice_index_or, sum_by, Option, option_map, unwrap_or}
use Rattle.xcp_base.specs.declared.limits.TheConstants.{MAX_CHANNELS, MAX_DTO, MAX_LISTS}
use Rattle.xcp_base.specs.declared.limits.TheConstants.{MAX_ODTS, MAX_ODTS_IN_ALL}
use Rattle.xcp_base.specs.declared.packet_form.PacketForm.{PacketForm}
use Rattle.xcp_base.specs.Forms.{FitsFirstPid, IsForm}
use Rattle.xcp_base.specs.Packets.{packet_len}
use Rattle.segments.specs.declared.segment.Segment.{Segment}
use Rattle.segments.specs.Image.{HaveImage, image_len, image_place, lies_in}
use Rattle.daq_store.specs.declared.entry.Entry.{Entry}
use Rattle.daq_store.specs.Configuration.{Configuration, channel_of, prescaler_of, is_stamped}

-- an ODT entry: its place in the image of all memory and its size in bytes
abbrev pub OdtEntry : Type 0
OdtEntry = ℕ × ℕ

-- the configuration of one ready DAQ list
pub record ListPlan : Type 0 where
  pub list : ℕ
  pub channel : ℕ
  pub prescaler : ℕ
  pub first_pid : ℕ
  pub form : PacketForm
  pub stamped : Bool
  pub odts : List (List OdtEntry)
  pub segments : List Segment

-- where an entry stands in the image, if event channel c may read it
abbrev pub placed : ℕ → List Segment → Entry → OdtEntry
placed c segments x =
    (unwrap_or (image_place c segments x.extension x.address x.size) 0, x.size)

-- the entries that are written
abbrev pub written_entries : ℕ → List Segment → List (Option Entry) → List OdtEntry
written_entries c segments entries =
    filter_map (λ entry. option_map (placed c segments) entry) entries

-- what the store has of list l, with its FIRST_PID and the form of its packets, for memory in these
-- segments
abbrev pub plan_of : ℕ → Configuration → ℕ → List Segment → ListPlan
plan_of l conf first_pid segments = record {
  list = l;
  channel = channel_of conf.mode;
  prescaler = prescaler_of conf.mode;
  first_pid = first_pid;
  form = conf.form;
  stamped = is_stamped conf.mode;
  odts = map (written_entries (channel_of conf.mode) segments) conf.odts;
  segments = segments;
}

-- the entries of ODT k
abbrev pub odt : ListPlan → ℕ → List OdtEntry
odt plan k = slice_index_or plan.odts k []

-- the bytes of the entries of ODT k
abbrev pub elements_len : ListPlan → ℕ → ℕ
elements_len plan k = sum_by (λ (e : OdtEntry). e.1) (odt plan k)

-- the entry ends within an image of so many bytes
abbrev pub IsInside : ℕ → OdtEntry → Type 0
IsInside len e = e.0 + e.1 ≤ len

-- the entry lies in a segment that event channel c may read
pub record IsReadable (c : ℕ) (segments : List Segment) (e : OdtEntry) : Type 0 where
  pub segment : ℕ
  pub lies : lies_in c segments e.0 (e.0 + e.1) segment ≡ true

-- what every plan keeps to
pub record IsPlan (plan : ListPlan) : Type 0 where
  pub list : plan.list < MAX_LISTS
  pub channel : plan.channel < MAX_CHANNELS
  pub prescaler : 0 < plan.prescaler
  pub some : 0 < length plan.odts
  pub form : IsForm plan.form
  pub limit : length plan.odts ≤ MAX_ODTS_IN_ALL
  pub pids : plan.first_pid + length plan.odts ≤ MAX_ODTS_IN_ALL
  pub first : FitsFirstPid plan.form.id (length plan.odts) plan.first_pid
  pub entries : (k : ℕ) → k < length plan.odts → 0 < length (odt plan k)
  pub image : HaveImage plan.segments
  pub inside :
      (k : ℕ) → k < length plan.odts → All (IsInside (image_len plan.segments)) (odt plan k)
  pub readable :
      (k : ℕ) → k < length plan.odts
      → All (IsReadable plan.channel plan.segments) (odt plan k)
  pub short :
      (k : ℕ) → k < length plan.odts
      → packet_len plan.form plan.stamped k (elements_len plan k) ≤ plan.form.max_dto

-- its samples find room in a value of fixed size: their packets are few and short
pub record IsByValue (plan : ListPlan) : Type 0 where
  pub few : length plan.odts ≤ MAX_ODTS
  pub short :
      (k : ℕ) → k < length plan.odts
      → packet_len plan.form plan.stamped k (elements_len plan k) ≤ MAX_DTO
