-- What a MODULE says, each name replaced by what it names.
use Rattle.std.specs.Prelude.{ℕ, ◌+◌, List, [], ◌∷◌, ◌++◌, map, slice_get, Option, Some, None}
use Rattle.std.specs.Prelude.{if◌then◌else◌, is_some, string_bytes}
use Rattle.std.specs.Option.{option_map, option_and_then, option_to_list, unwrap_or}
use Rattle.std.specs.Float.Ieee.{Float}
use Rattle.measured_values.specs.declared.byte_order.ByteOrder.{ByteOrder}
use Rattle.measured_values.specs.declared.encoding.Encoding.{Encoding}
use Rattle.measured_values.specs.declared.conversion.Conversion.{Conversion}
use Rattle.measured_values.specs.declared.value_limits.ValueLimits.{ValueLimits}
use Rattle.measured_values.specs.declared.conversion.Conversion.TheVariants as conversion
use Rattle.a2l.specs.declared.description.Measurement.{Measurement}
use Rattle.a2l.specs.declared.description.Method.{Method}
use Rattle.a2l_entries.specs.Gives.{◌>>=◌}
use Rattle.a2l.specs.Names.{place_of}
use Rattle.a2l_entries.specs.MeasurementSaid.{Measured, operation_of, dims_of, has_shape, layout_of}
use Rattle.a2l_entries.specs.declared.layout.Layout.{Layout}
use Rattle.a2l_entries.specs.MethodSaid.{Converted, Formula, identical, linear, rational_of}
use Rattle.a2l_entries.specs.MethodSaid.{texts_named, other}
use Rattle.a2l_entries.specs.TableSaid.{Texts, Named, texts_seen}

-- ---- methods

pub data Rule : Type 0 where
  same : Rule
  line : (factor offset : Float) → Rule
  fraction : (b c f : Float) → Rule
  texts : (table : Texts) → Rule
  unknown : Rule

abbrev pub conversion_seen : Conversion → Rule
conversion_seen conversion.Identical = same
conversion_seen (conversion.Linear factor offset) = line factor offset
conversion_seen (conversion.Rational b c f) = fraction b c f
conversion_seen (conversion.Texts table) = texts (texts_seen table)
conversion_seen conversion.Other = unknown

pub record Conversions : Type 0 where
  pub name : List ℕ
  pub unit : List ℕ
  pub rule : Rule

abbrev pub described_method : Method → Conversions
described_method m = record {
  name = string_bytes m.name;
  unit = string_bytes m.unit;
  rule = conversion_seen m.conversion;
}

-- the first table of a name
abbrev pub table_named : List ℕ → List Named → Option Texts
table_named name tables =
    option_map (λ t. t.texts)
    (option_and_then (λ k. slice_get tables k) (place_of name (map (λ t. t.name) tables)))

unfoldable pub rule_of : List Named → Formula → Option Rule
rule_of tables identical = Some same
rule_of tables (linear factor offset) = Some (line factor offset)
rule_of tables (rational_of b c f) = Some (fraction b c f)
rule_of tables (texts_named name) = option_map texts (table_named name tables)
rule_of tables other = Some unknown

unfoldable pub method_of : List Named → Converted → Option Conversions
method_of tables m = do
  rule ← rule_of tables m.formula
  Some (record { name = m.name; unit = m.unit; rule = rule })

-- each of them; none if one has none
abbrev pub all_of : {A B : Type 0} → (A → Option B) → List A → Option (List B)
all_of f [] = Some []
all_of f (x ∷ xs) = do
  y ← f x
  ys ← all_of f xs
  Some (y ∷ ys)

-- ---- measurements

pub record Value : Type 0 where
  pub name : List ℕ
  pub identifier : List ℕ
  pub encoding : Encoding
  pub address : ℕ
  -- the place of its method
  pub method : Option ℕ
  pub unit : Option (List ℕ)
  pub limits : Option ValueLimits
  -- the dimensions of an array, and how its elements stand; of a single value none
  pub dims : List ℕ
  pub layout : Layout

abbrev pub described_measurement : Measurement → Value
described_measurement m = record {
  name = string_bytes m.name;
  identifier = string_bytes m.identifier;
  encoding = m.encoding;
  address = m.address;
  method = m.method;
  unit = option_map (λ s. string_bytes s) m.unit;
  limits = m.limits;
  dims = m.dims.items;
  layout = m.layout;
}

-- the place of a method by that of its name, where so many stand before those of the MODULE
abbrev pub method_place : ℕ → (List ℕ → Option ℕ) → Option (List ℕ) → Option (Option ℕ)
method_place before place None = Some None
method_place before place (Some name) = option_map (λ k. Some (before + k)) (place name)

-- the address of a measurement that is kept
abbrev pub kept_address : Measured → Option ℕ
kept_address m =
    if m.options.apart then None else (if has_shape m.options then m.options.address else None)

-- the name of a measurement that isn't kept
abbrev pub name_if_left : Measured → List (List ℕ)
name_if_left m = if is_some (kept_address m) then [] else m.name ∷ []

abbrev pub value_at : ByteOrder → Measured → Option ℕ → ℕ → Value
value_at order m method address = record {
  name = m.name;
  identifier = m.identifier;
  encoding = record {
    data_type = m.data_type;
    order = unwrap_or m.options.order order;
    mask = m.options.mask;
    operation = operation_of m.options;
  };
  address = address;
  method = method;
  unit = m.options.unit;
  limits = m.limits;
  dims = dims_of m.options;
  layout = layout_of m.options;
}

-- a measurement, if it is kept
unfoldable pub value_of : ByteOrder → ℕ → (List ℕ → Option ℕ) → Measured → Option (Option Value)
value_of order before place m = do
  method ← method_place before place m.method
  Some (option_map (value_at order m method) (kept_address m))

-- those that are there
abbrev pub present : {A : Type 0} → List (Option A) → List A
present [] = []
present (None ∷ os) = present os
present (Some x ∷ os) = x ∷ present os

-- the measurements of a MODULE that are kept, where so many methods stand before its own
unfoldable pub values_of : ByteOrder → ℕ → List Converted → List Measured → Option (List Value)
values_of order before methods measurements =
    option_map present (all_of
    (value_of order before (λ name. place_of name (map (λ m. m.name) methods))) measurements)

-- the methods of a MODULE
unfoldable pub methods_of : List Named → List Converted → Option (List Conversions)
methods_of tables methods = all_of (method_of tables) methods

-- behind those of the MODULEs before
abbrev pub with_front : {A : Type 0} → List A → Option (List A) → Option (List A)
with_front front others = option_map (λ xs. front ++ xs) others

-- a measurement that is kept, behind those before
abbrev pub kept_behind : {A : Type 0} → List A → Option (Option A) → Option (List A)
kept_behind front found = option_map (λ o. front ++ option_to_list o) found
