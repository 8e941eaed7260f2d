-- The blocks with their fields, in the order of the format's tables (ASAM MDF 4.1).
use Rattle.std.specs.Prelude.{ℕ, ◌+◌, ℤ, pos, Bool, if◌then◌else◌, codes}
use Rattle.std.specs.Prelude.{List, [], ◌∷◌, ◌++◌, Option, Some, None}
use Rattle.measured_values.specs.declared.byte_order.ByteOrder.{ByteOrder}
use Rattle.measured_values.specs.declared.byte_order.ByteOrder.TheVariants.{MsbFirst, MsbLast}
use Rattle.mdf_blocks.specs.Blocks.{block}
use Rattle.mdf_blocks.specs.Numbers.{int16, real, uint16, uint32, uint64, uint8, zeros}
use Rattle.mdf_blocks.specs.declared.axis.Axis.{Axis}
use Rattle.mdf_blocks.specs.declared.axis.Axis.TheVariants.{Index, Time}
use Rattle.mdf_blocks.specs.declared.channel.Channel.{Channel}
use Rattle.mdf_blocks.specs.declared.channel_group.ChannelGroup.{ChannelGroup}
use Rattle.mdf_blocks.specs.declared.channel_kind.ChannelKind.{ChannelKind}
use Rattle.mdf_blocks.specs.declared.channel_kind.ChannelKind.TheVariants.{Master, Value}
use Rattle.mdf_blocks.specs.declared.channel_kind.ChannelKind.TheVariants.{VirtualMaster}
use Rattle.mdf_blocks.specs.declared.data_group.DataGroup.{DataGroup}
use Rattle.mdf_blocks.specs.declared.file_header.FileHeader.{FileHeader}
use Rattle.mdf_blocks.specs.declared.file_history.FileHistory.{FileHistory}
use Rattle.mdf_blocks.specs.declared.file_state.FileState.{FileState}
use Rattle.mdf_blocks.specs.declared.file_state.FileState.TheVariants.{Finished, Unfinished}
use Rattle.mdf_blocks.specs.declared.value_format.ValueFormat.{ValueFormat}
use Rattle.mdf_blocks.specs.declared.value_format.ValueFormat.TheVariants.{Float as FloatOf}
use Rattle.mdf_blocks.specs.declared.value_format.ValueFormat.TheVariants.{Signed, Unsigned}
use Rattle.measured_values.specs.declared.value_limits.ValueLimits.{ValueLimits}
use Rattle.mdf_blocks.specs.declared.zone.Zone.{Zone}
use Rattle.mdf_blocks.specs.declared.zone.Zone.TheVariants.{Local, Offsets, Utc}

-- id_file
abbrev pub file_id : FileState → List ℕ
file_id Finished = codes "MDF     "
file_id (Unfinished cycles last_data last_list) = codes "UnFinMF "

abbrev pub flag : Bool → ℕ → ℕ
flag b n = if b then n else 0

-- id_unfin_flags: bit 0, the cycle counters of CG; bit 2, the length of the last DT; bit 4, the
-- last DL
abbrev pub unfinished_flags : FileState → ℕ
unfinished_flags Finished = 0
unfinished_flags (Unfinished cycles last_data last_list) =
    flag cycles 1 + flag last_data 4 + flag last_list 16

-- ID, which stands in front of all blocks
abbrev pub id_bytes : List ℕ → List ℕ → ℕ → List ℕ
id_bytes file program flags =
    file  -- id_file
    ++ codes "4.10    "  -- id_vers
    ++ program  -- id_prog
    ++ zeros 4  -- reserved
    ++ uint16 410  -- id_ver
    ++ zeros 30  -- reserved
    ++ uint16 flags  -- id_unfin_flags
    ++ uint16 0  -- id_custom_unfin_flags

abbrev pub id_block : FileState → List ℕ → List ℕ
id_block state program = id_bytes (file_id state) program (unfinished_flags state)

-- the time's offsets in minutes, and what is known of them: bit 0, it is local; bit 1, the offsets
-- are valid
abbrev pub zone_minutes : Zone → ℤ
zone_minutes Utc = pos 0
zone_minutes Local = pos 0
zone_minutes (Offsets zone daylight) = zone

abbrev pub daylight_minutes : Zone → ℤ
daylight_minutes Utc = pos 0
daylight_minutes Local = pos 0
daylight_minutes (Offsets zone daylight) = daylight

abbrev pub time_flags : Zone → ℕ
time_flags Utc = 0
time_flags Local = 1
time_flags (Offsets zone daylight) = 2

-- HD, which stands at 64
abbrev pub hd_links : FileHeader → List ℕ
hd_links h =
    h.first_group  -- hd_dg_first
    ∷ h.first_history  -- hd_fh_first
    ∷ 0  -- hd_ch_first
    ∷ 0  -- hd_at_first
    ∷ 0  -- hd_ev_first
    ∷ h.comment  -- hd_md_comment
    ∷ []

abbrev pub hd_body : FileHeader → List ℕ
hd_body h =
    uint64 h.start.nanoseconds  -- hd_start_time_ns
    ++ int16 (zone_minutes h.start.zone)  -- hd_tz_offset_min
    ++ int16 (daylight_minutes h.start.zone)  -- hd_dst_offset_min
    ++ uint8 (time_flags h.start.zone)  -- hd_time_flags
    ++ uint8 0  -- hd_time_class
    ++ uint8 0  -- hd_flags
    ++ zeros 1  -- reserved
    ++ zeros 8  -- hd_start_angle_rad
    ++ zeros 8  -- hd_start_distance_m

abbrev pub hd_block : FileHeader → List ℕ
hd_block h = block (codes "##HD") (hd_links h) (hd_body h)

-- FH
abbrev pub fh_links : FileHistory → List ℕ
fh_links h =
    h.next  -- fh_fh_next
    ∷ h.comment  -- fh_md_comment
    ∷ []

abbrev pub fh_body : FileHistory → List ℕ
fh_body h =
    uint64 h.time.nanoseconds  -- fh_time_ns
    ++ int16 (zone_minutes h.time.zone)  -- fh_tz_offset_min
    ++ int16 (daylight_minutes h.time.zone)  -- fh_dst_offset_min
    ++ uint8 (time_flags h.time.zone)  -- fh_time_flags
    ++ zeros 3  -- reserved

abbrev pub fh_block : FileHistory → List ℕ
fh_block h = block (codes "##FH") (fh_links h) (fh_body h)

-- DG, whose records have no id
abbrev pub dg_links : DataGroup → List ℕ
dg_links g =
    g.next  -- dg_dg_next
    ∷ g.channel_group  -- dg_cg_first
    ∷ g.records  -- dg_data
    ∷ g.comment  -- dg_md_comment
    ∷ []

abbrev pub dg_body : List ℕ
dg_body =
    uint8 0  -- dg_rec_id_size
    ++ zeros 7  -- reserved

abbrev pub dg_block : DataGroup → List ℕ
dg_block g = block (codes "##DG") (dg_links g) dg_body

-- CG, the only one of its data group
abbrev pub cg_links : ChannelGroup → List ℕ
cg_links g =
    0  -- cg_cg_next
    ∷ g.first_channel  -- cg_cn_first
    ∷ g.acquisition_name  -- cg_tx_acq_name
    ∷ 0  -- cg_si_acq_source
    ∷ 0  -- cg_sr_first
    ∷ g.comment  -- cg_md_comment
    ∷ []

abbrev pub cg_body : ChannelGroup → List ℕ
cg_body g =
    uint64 0  -- cg_record_id
    ++ uint64 g.cycles  -- cg_cycle_count
    ++ uint16 0  -- cg_flags
    ++ uint16 0  -- cg_path_separator
    ++ zeros 4  -- reserved
    ++ uint32 g.record_bytes  -- cg_data_bytes
    ++ uint32 0  -- cg_inval_bytes

abbrev pub cg_block : ChannelGroup → List ℕ
cg_block g = block (codes "##CG") (cg_links g) (cg_body g)

-- cn_type: 0, of a fixed length; 2, the master; 3, a virtual master
abbrev pub cn_type : ChannelKind → ℕ
cn_type Value = 0
cn_type (Master axis) = 2
cn_type (VirtualMaster axis) = 3

-- cn_sync_type: 0, none; 1, time; 4, index
abbrev pub sync_of : Axis → ℕ
sync_of Time = 1
sync_of Index = 4

abbrev pub cn_sync_type : ChannelKind → ℕ
cn_sync_type Value = 0
cn_sync_type (Master axis) = sync_of axis
cn_sync_type (VirtualMaster axis) = sync_of axis

-- cn_data_type: unsigned, signed and float, each by Intel and by Motorola
abbrev pub by_order : ByteOrder → ℕ → ℕ → ℕ
by_order MsbLast intel motorola = intel
by_order MsbFirst intel motorola = motorola

abbrev pub cn_data_type : ValueFormat → ℕ
cn_data_type (Unsigned order) = by_order order 0 1
cn_data_type (Signed order) = by_order order 2 3
cn_data_type (FloatOf order) = by_order order 4 5

-- cn_flags: bit 4, the limits are valid
abbrev pub cn_flags : Option ValueLimits → ℕ
cn_flags None = 0
cn_flags (Some limits) = 16

-- cn_limit_min and cn_limit_max
abbrev pub limit_bytes : Option ValueLimits → List ℕ
limit_bytes None = zeros 16
limit_bytes (Some limits) = real limits.least ++ real limits.greatest

-- CN
abbrev pub cn_links : Channel → List ℕ
cn_links c =
    c.next  -- cn_cn_next
    ∷ 0  -- cn_composition
    ∷ c.name  -- cn_tx_name
    ∷ 0  -- cn_si_source
    ∷ c.conversion  -- cn_cc_conversion
    ∷ 0  -- cn_data
    ∷ c.unit  -- cn_md_unit
    ∷ c.comment  -- cn_md_comment
    ∷ []

abbrev pub cn_body : Channel → List ℕ
cn_body c =
    uint8 (cn_type c.kind)  -- cn_type
    ++ uint8 (cn_sync_type c.kind)  -- cn_sync_type
    ++ uint8 (cn_data_type c.format)  -- cn_data_type
    ++ uint8 c.bit_offset  -- cn_bit_offset
    ++ uint32 c.byte_offset  -- cn_byte_offset
    ++ uint32 c.bit_count  -- cn_bit_count
    ++ uint32 (cn_flags c.limits)  -- cn_flags
    ++ uint32 0  -- cn_inval_bit_pos
    ++ uint8 0  -- cn_precision
    ++ zeros 1  -- reserved
    ++ uint16 0  -- cn_attachment_count
    ++ zeros 8  -- cn_val_range_min
    ++ zeros 8  -- cn_val_range_max
    ++ limit_bytes c.limits  -- cn_limit_min, cn_limit_max
    ++ zeros 8  -- cn_limit_ext_min
    ++ zeros 8  -- cn_limit_ext_max

abbrev pub cn_block : Channel → List ℕ
cn_block c = block (codes "##CN") (cn_links c) (cn_body c)
