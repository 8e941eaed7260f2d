-- What the blocks of a MODULE say, as they stand in it (ASAM MCD-2 MC, MODULE).
use Rattle.std.specs.Prelude.{List, [], ◌∷◌, ◌++◌, map, Option, Some, None}
use Rattle.std.specs.Option.{option_or}
use Rattle.a2l_text.specs.Tokens.{Token}
use Rattle.a2l_text.specs.declared.part.Part.{Part}
use Rattle.a2l_text.specs.declared.part.Part.TheVariants as part
use Rattle.measured_values.specs.declared.byte_order.ByteOrder.{ByteOrder}
use Rattle.a2l.specs.declared.module_parts.ModuleParts.{ModuleParts}
use Rattle.a2l_entries.specs.Gives.{◌>>=◌}
use Rattle.a2l_entries.specs.Keywords.{default_said}
use Rattle.a2l_entries.specs.MeasurementSaid.{Measured, measurement_seen}
use Rattle.a2l_entries.specs.MethodSaid.{Converted, method_seen, method_said}
use Rattle.a2l_entries.specs.TableSaid.{Named, table_seen, table_said, ranges_said}

pub record Told : Type 0 where
  -- the byte order of MOD_COMMON
  pub order : Option ByteOrder
  pub measurements : List Measured
  pub methods : List Converted
  pub tables : List Named

abbrev pub module_seen : ModuleParts → Told
module_seen m = record {
  order = m.order;
  measurements = map measurement_seen m.measurements.items;
  methods = map method_seen m.methods.items;
  tables = map table_seen m.tables.items;
}

abbrev pub no_parts : Told
no_parts = record { order = None; measurements = []; methods = []; tables = [] }

-- with a measurement more
abbrev pub with_measured : Measured → Told → Told
with_measured m told = record told { measurements = told.measurements ++ m ∷ [] }

-- with what one more part says that is no measurement
unfoldable pub with_part : Part → List Token → Told → Option Told
with_part part.Defaults ws told = do
  order ← default_said ws
  Some (record told { order = option_or told.order order })
with_part part.Measurement ws told = Some told
with_part part.Protocol ws told = Some told
with_part part.Daq ws told = Some told
with_part part.PlusDaq ws told = Some told
with_part part.Instance ws told = Some told
with_part part.Method ws told = do
  converted ← method_said ws
  Some (record told { methods = told.methods ++ converted ∷ [] })
with_part part.Table ws told = do
  named ← table_said ws
  Some (record told { tables = told.tables ++ named ∷ [] })
with_part part.Ranges ws told = do
  named ← ranges_said ws
  Some (record told { tables = told.tables ++ named ∷ [] })
with_part part.Timestamp ws told = Some told
with_part part.Module ws told = Some told
