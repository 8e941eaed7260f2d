-- A line, and the values of the keys, as the program holds them.
use Rattle.std.specs.Prelude.{◌≡◌, Some, codes, map, vec_items}
use Rattle.toml.specs.Data.{Members}
use Rattle.toml.specs.View.{items_view}
use Rattle.xcp_base.specs.declared.limits.TheConstants.{MAX_CTO, MAX_PACKET, MAX_UNIT, MIN_CTO}
use Rattle.xcp_base.specs.declared.limits.TheConstants.{MIN_DTO}
use Rattle.run_file.specs.Inner.{text_in}
use Rattle.run_file.specs.Keys.{at_key, id_of, number_in, stamp_of}
use Rattle.session_file.specs.declared.line.Line.{Line}
use Rattle.session_file.specs.declared.line.Line.TheVariants as held
use Rattle.session_file.specs.declared.memory_keys.MemoryKeys.{MemoryKeys}
use Rattle.session_file.specs.declared.memory_keys.MemoryKeys.TheVariants as told
use Rattle.session_file.specs.declared.values.PacketKeys.{PacketKeys}
use Rattle.session_file.specs.declared.values.TextKeys.{TextKeys}
use Rattle.session_file.specs.declared.values.Values.{Values}
use Rattle.session_file.specs.Keys.{KeyValues, MemoryData, image, packet_limit, segments}
use Rattle.session_file.specs.Keys.{text_or_empty}
use Rattle.session_file.specs.Lines.{LineData, master, memory, trigger, send, send_in, lose}
use Rattle.session_file.specs.Lines.{hang_up}

-- what a line does
abbrev pub line_data : Line → LineData
line_data (held.Master packet) = master packet.items
line_data (held.Trigger c s slices) = trigger c s (map vec_items slices.items)
line_data (held.Memory slices) = memory (map vec_items slices.items)
line_data held.Send = send
line_data (held.SendIn room) = send_in room
line_data held.Lose = lose
line_data held.HangUp = hang_up

-- what the keys tell of memory
abbrev pub memory_data : MemoryKeys → MemoryData
memory_data (told.Image len base) = image len base
memory_data (told.Segments values) = segments (items_view values.now)

-- the values of the keys
abbrev pub values_data : Values → KeyValues
values_data v = record {
  memory = memory_data v.memory;
  id = v.id;
  stamp = v.stamp;
  unit = v.unit;
  ticks = v.ticks;
  max_cto = v.max_cto;
  max_dto = v.max_dto;
  name = v.name.now;
  a2l_name = v.a2l_name.now;
  epk = v.epk.now;
  a2l = v.a2l.now;
  events = items_view v.events.now;
  script = map text_in v.script.now;
}

-- in the table these are the values of the keys that tell how packets look
pub record ArePacketKeys (ms : Members) (k : PacketKeys) : Type 0 where
  pub id_is : id_of ms ≡ Some k.id
  pub stamp_is : stamp_of ms ≡ Some k.stamp
  pub unit_is : at_key (number_in 0 MAX_UNIT) (codes "unit") ms ≡ Some k.unit
  pub ticks_are : at_key (number_in 1 65535) (codes "ticks") ms ≡ Some k.ticks
  pub max_cto_is : packet_limit MIN_CTO MAX_CTO (codes "max_cto") ms ≡ Some k.max_cto
  pub max_dto_is : packet_limit MIN_DTO MAX_PACKET (codes "max_dto") ms ≡ Some k.max_dto

-- in the table these are the values of the keys that are texts
pub record AreTextKeys (ms : Members) (k : TextKeys) : Type 0 where
  pub name_is : text_or_empty (codes "name") ms ≡ Some k.name.now
  pub a2l_name_is : text_or_empty (codes "a2l_name") ms ≡ Some k.a2l_name.now
  pub epk_is : text_or_empty (codes "epk") ms ≡ Some k.epk.now
  pub a2l_is : text_or_empty (codes "a2l") ms ≡ Some k.a2l.now
