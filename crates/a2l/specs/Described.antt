-- What an A2L file says of what can be measured.
use Rattle.std.specs.Prelude.{ℕ, List, [], ◌∷◌, ◌++◌, map, length, Option, Some, None}
use Rattle.std.specs.Prelude.{codes, string_bytes}
use Rattle.std.specs.Option.{option_map, unwrap_or}
use Rattle.measured_values.specs.declared.byte_order.ByteOrder.TheVariants.{MsbLast}
use Rattle.a2l_text.specs.Tokens.{Token}
use Rattle.a2l_text.specs.Trees.{Elements}
use Rattle.a2l_text.specs.Parts.{Section, parts}
use Rattle.a2l_text.specs.declared.part.Part.{Part}
use Rattle.a2l_text.specs.declared.part.Part.TheVariants as part
use Rattle.a2l_text.specs.declared.role.Role.TheVariants.{File}
use Rattle.measured_values.specs.declared.tick.Tick.{Tick}
use Rattle.a2l.specs.declared.description.Description.{Description}
use Rattle.a2l_entries.specs.Gives.{◌>>=◌}
use Rattle.a2l_entries.specs.MeasurementSaid.{instance_said, measurement_said}
use Rattle.a2l_entries.specs.TickSaid.{tick_said}
use Rattle.a2l_entries.specs.Keywords.{behind_keyword}
use Rattle.a2l_entries.specs.declared.packet_form.PacketForm.{PacketForm}
use Rattle.a2l_entries.specs.FormSaid.{form_and, form_with, nothing_told, stamps_said}
use Rattle.a2l.specs.ModuleSaid.{Told, no_parts, with_measured, with_part}
use Rattle.a2l.specs.Resolved.{Value, Conversions, described_measurement, described_method}
use Rattle.a2l.specs.Resolved.{name_if_left, values_of, methods_of, with_front}

pub record Described : Type 0 where
  pub values : List Value
  pub methods : List Conversions
  pub tick : Option Tick
  -- how packets look
  pub form : PacketForm
  -- the names of the measurements that aren't kept, and of the instances
  pub left_out : List (List ℕ)

abbrev pub description_seen : Description → Described
description_seen d = record {
  values = map described_measurement d.measurements.items;
  methods = map described_method d.methods.items;
  tick = d.tick;
  form = d.form;
  left_out = map (λ s. string_bytes s) d.left_out.items;
}

abbrev pub nothing : Described
nothing = record {
  values = [];
  methods = [];
  tick = None;
  form = nothing_told;
  left_out = [];
}

-- the first tick counts
abbrev pub first_tick : Option Tick → List Token → Option Tick
first_tick None ws = tick_said ws
first_tick (Some tick) ws = Some tick

-- with what a MODULE says
unfoldable pub with_module : Told → Described → Option Described
with_module told d = do
  values ← with_front d.values
      (values_of (unwrap_or told.order MsbLast) (length d.methods) told.methods told.measurements)
  methods ← with_front d.methods (methods_of told.tables told.methods)
  Some (record d { values = values; methods = methods })

-- with what a TIMESTAMP_SUPPORTED tells
unfoldable pub with_tick : List Token → Described → Option Described
with_tick ws d = do
  tick ← first_tick d.tick ws
  Some (record d { tick = Some tick; form = form_and d.form (stamps_said ws) })

-- the tick, by the words behind TIMESTAMP_SUPPORTED, if it is there
abbrev pub daq_tick : Option Tick → Option (List Token) → Option (Option Tick)
daq_tick known None = Some known
daq_tick known (Some ws) = option_map Some (first_tick known ws)

-- with what a DAQ tells
unfoldable pub with_daq : List Token → Described → Option Described
with_daq ws d = do
  tick ← daq_tick d.tick (behind_keyword (codes "TIMESTAMP_SUPPORTED") ws)
  Some (record d { tick = tick; form = form_with d.form ws })

-- with what a PROTOCOL_LAYER tells, or a DAQ of XCPplus
abbrev pub with_form : List Token → Described → Described
with_form ws d = record d { form = form_with d.form ws }

-- with what a MEASUREMENT says: it stands among those of its MODULE, and its name among those that
-- are left out if it isn't kept
unfoldable pub with_measurement : List Token → Told × Described → Option (Told × Described)
with_measurement ws s = do
  measured ← measurement_said ws
  Some (with_measured measured s.0, record s.1 { left_out = s.1.left_out ++ name_if_left measured })

-- an INSTANCE is left out
unfoldable pub with_instance : List Token → Described → Option Described
with_instance ws d = do
  name ← instance_said ws
  Some (record d { left_out = d.left_out ++ name ∷ [] })

-- one part more: what the parts of the same MODULE said so far, and the description so far
abbrev pub after_part : Part → List Token → Told × Described → Option (Told × Described)
after_part part.Module ws s = option_map (λ d. (no_parts, d)) (with_module s.0 s.1)
after_part part.Timestamp ws s = option_map (λ d. (s.0, d)) (with_tick ws s.1)
after_part part.Protocol ws s = Some (s.0, with_form ws s.1)
after_part part.Daq ws s = option_map (λ d. (s.0, d)) (with_daq ws s.1)
after_part part.PlusDaq ws s = Some (s.0, with_form ws s.1)
after_part part.Defaults ws s = option_map (λ told. (told, s.1)) (with_part part.Defaults ws s.0)
after_part part.Measurement ws s = with_measurement ws s
after_part part.Instance ws s = option_map (λ d. (s.0, d)) (with_instance ws s.1)
after_part part.Method ws s = option_map (λ told. (told, s.1)) (with_part part.Method ws s.0)
after_part part.Table ws s = option_map (λ told. (told, s.1)) (with_part part.Table ws s.0)
after_part part.Ranges ws s = option_map (λ told. (told, s.1)) (with_part part.Ranges ws s.0)

-- the description that parts make, one after another
unfoldable pub described_from : Told × Described → List Section → Option Described
described_from s [] = Some s.1
described_from s (section ∷ sections) =
    after_part section.part section.words s >>= λ next. described_from next sections

-- the description of a file of these elements
abbrev pub description_of : Elements → Option Described
description_of elements = described_from (no_parts, nothing) (parts File elements)
