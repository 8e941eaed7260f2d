-- How packets look until their slave says so itself, by what an A2L file tells.
use Rattle.std.specs.Prelude.{ℕ, ◌==◌, ◌&&◌, Bool, true, false, nat_lt}
use Rattle.std.specs.Prelude.{if◌then◌else◌}
use Rattle.std.specs.Option.{unwrap_or}
use Rattle.a2l_entries.specs.declared.told.Told.{Told}
use Rattle.a2l_entries.specs.declared.told.Told.TheVariants.{Nothing, Number, Unclear}
use Rattle.a2l_entries.specs.declared.packet_form.PacketForm.{PacketForm}
use Rattle.a2l_entries.specs.FormSaid.{number_told}
use Rattle.captured_session.specs.SetUps.{field_of, order_of}
use Rattle.captured_session.specs.declared.form.Form.{Form}

abbrev pub is_number : Told → Bool
is_number Nothing = false
is_number (Number n) = true
is_number Unclear = false

abbrev pub is_clear : Told → Bool
is_clear Nothing = true
is_clear (Number n) = true
is_clear Unclear = false

-- the number, and 0 if none is told
abbrev pub value_of : Told → ℕ
value_of told = unwrap_or (number_told told) 0

-- the same of a byte
abbrev pub byte_of : Told → ℕ
byte_of told = if nat_lt 255 (value_of told) then 0 else value_of told

-- The byte order counts with the granularity, and the identification field with the overload
-- indication, as a slave tells them in one reply. Nothing is told of packets if it isn't clear how
-- their timestamps look.
abbrev pub form_by : PacketForm → Form
form_by told = record {
  has_order = is_number told.order && is_number told.granularity;
  order = order_of (value_of told.order);
  granularity = byte_of told.granularity;
  has_field = is_number told.field && is_number told.overload && is_clear told.stamp;
  field = field_of (value_of told.field);
  has_overload = value_of told.overload == 1;
  has_stamp = is_number told.stamp;
  stamp = byte_of told.stamp;
  ticks = value_of told.ticks;
}
