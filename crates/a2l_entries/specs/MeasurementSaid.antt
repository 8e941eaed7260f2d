-- What a block MEASUREMENT says (ASAM MCD-2 MC, MEASUREMENT).
use Rattle.std.specs.Prelude.{ℕ, ◌^◌, Bool, true, false, not, ◌||◌, ◌==◌, nat_lt}
use Rattle.std.specs.Prelude.{List, [], ◌∷◌, codes, Option, Some, None, if◌then◌else◌, string_bytes}
use Rattle.std.specs.Prelude.{◌&&◌, is_some, length, nat_le}
use Rattle.std.specs.Global.{Vec}
use Rattle.std.specs.Option.{option_map, option_or, unwrap_or}
use Rattle.std.specs.Float.Ieee.{Float, lt}
use Rattle.a2l_text.specs.Tokens.{Token}
use Rattle.measured_values.specs.declared.bit_operation.BitOperation.{BitOperation}
use Rattle.measured_values.specs.declared.byte_order.ByteOrder.{ByteOrder}
use Rattle.measured_values.specs.declared.data_type.DataType.{DataType}
use Rattle.measured_values.specs.declared.value_limits.ValueLimits.{ValueLimits}
use Rattle.a2l_entries.specs.declared.keywords.MeasurementKeyword.{MeasurementKeyword}
use Rattle.a2l_entries.specs.declared.keywords.MeasurementKeyword.TheVariants as option
use Rattle.a2l_entries.specs.declared.keywords.OperationKeyword.{OperationKeyword}
use Rattle.a2l_entries.specs.declared.keywords.OperationKeyword.TheVariants as operation
use Rattle.a2l_entries.specs.declared.measurement_options.MeasurementOptions.{MeasurementOptions}
use Rattle.a2l_entries.specs.declared.measurement_block.MeasurementBlock.{MeasurementBlock}
use Rattle.a2l_entries.specs.declared.said.Reference.{Reference}
use Rattle.a2l_entries.specs.Gives.{◌>>=◌}
use Rattle.a2l_entries.specs.Said.{first_of, name_said, text_said, number_said, integer_said}
use Rattle.a2l_entries.specs.Said.{name_first, identifier_first, number_first}
use Rattle.a2l_entries.specs.Scans.{scanned}
use Rattle.a2l_entries.specs.Keywords.{measurement_keyword, arguments_of, order_said}
use Rattle.a2l_entries.specs.Keywords.{data_type_said, is_keyword, layout_said}
use Rattle.a2l_entries.specs.Dimensions.{element_count, dimensions_said, trimmed}
use Rattle.a2l_entries.specs.declared.layout.Layout.{Layout}
use Rattle.a2l_entries.specs.declared.layout.Layout.TheVariants.{Columns, Rows}

-- what the options say
pub record Options : Type 0 where
  pub order : Option ByteOrder
  pub mask : Option ℕ
  -- a BIT_OPERATION stands there, with LEFT_SHIFT, RIGHT_SHIFT and SIGN_EXTEND
  pub operates : Bool
  pub left : Option ℕ
  pub right : Option ℕ
  pub extends_sign : Bool
  pub address : Option ℕ
  pub unit : Option (List ℕ)
  -- the dimensions of an array, by MATRIX_DIM and by ARRAY_SIZE
  pub dimensions : Option (List ℕ)
  pub size : Option (List ℕ)
  pub layout : Option Layout
  -- the address has an extension other than 0
  pub apart : Bool

abbrev pub items_of : Vec ℕ → List ℕ
items_of v = v.items

abbrev pub options_seen : MeasurementOptions → Options
options_seen o = record {
  order = o.order;
  mask = o.mask;
  operates = o.operates;
  left = o.left;
  right = o.right;
  extends_sign = o.extends_sign;
  address = o.address;
  unit = option_map (λ s. string_bytes s) o.unit;
  dimensions = option_map items_of o.dimensions;
  size = option_map items_of o.size;
  layout = o.layout;
  apart = o.apart;
}

abbrev pub no_options : Options
no_options = record {
  order = None;
  mask = None;
  operates = false;
  left = None;
  right = None;
  extends_sign = false;
  address = None;
  unit = None;
  dimensions = None;
  size = None;
  layout = None;
  apart = false;
}

-- these options, and others for what these leave open
abbrev pub options_or : Options → Options → Options
options_or a b = record {
  order = option_or a.order b.order;
  mask = option_or a.mask b.mask;
  operates = a.operates || b.operates;
  left = option_or a.left b.left;
  right = option_or a.right b.right;
  extends_sign = a.extends_sign || b.extends_sign;
  address = option_or a.address b.address;
  unit = option_or a.unit b.unit;
  dimensions = option_or a.dimensions b.dimensions;
  size = option_or a.size b.size;
  layout = option_or a.layout b.layout;
  apart = a.apart || b.apart;
}

-- what is done behind the mask: nothing is moved by what isn't said
abbrev pub operation_of : Options → Option BitOperation
operation_of o =
    if o.operates
    then Some (record {
      left = unwrap_or o.left 0;
      right = unwrap_or o.right 0;
      extends_sign = o.extends_sign;
    })
    else None

-- the dimensions of an array: MATRIX_DIM counts, and ARRAY_SIZE without it; of a single value none
abbrev pub dims_of : Options → List ℕ
dims_of o = unwrap_or (option_or o.dimensions o.size) []

abbrev pub layout_of : Options → Layout
layout_of o = unwrap_or o.layout Rows

-- which element stands where is known of rows, and of columns in two dimensions
abbrev pub has_order : Layout → ℕ → Bool
has_order Rows n = true
has_order Columns n = nat_le n 2

-- its elements, if it is an array, are as many as are read, and in an order that is known
abbrev pub has_shape : Options → Bool
has_shape o =
    is_some (element_count (dims_of o)) && has_order (layout_of o) (length (dims_of o))

abbrev pub mask_of : ℕ → Option ℕ
mask_of n = if n == 0 then None else Some n

unfoldable pub mask_said : Token → Option ℕ
mask_said w = integer_said w >>= mask_of

abbrev pub shift_of : ℕ → Option ℕ
shift_of n = if nat_lt 63 n then None else Some n

-- by how many bits a value is moved
unfoldable pub shift_said : Token → Option ℕ
shift_said w = integer_said w >>= shift_of

-- the same, as the first word says
abbrev pub shift_first : List Token → Option ℕ
shift_first ws = do
  first ← first_of ws
  shift_said first.0

abbrev pub address_of : ℕ → Option ℕ
address_of n = if nat_lt n (2 ^ 32) then Some n else None

unfoldable pub address_said : Token → Option ℕ
address_said w = integer_said w >>= address_of

abbrev pub is_extended : Option ℕ → Bool
is_extended None = true
is_extended (Some n) = not (n == 0)

-- an extension of an address is a number: is it other than 0?
unfoldable pub extended_said : Token → Option Bool
extended_said w = do
  number ← number_said w
  Some (is_extended (integer_said w))

-- what a word of BIT_OPERATION says, by the words behind it
unfoldable pub operation_said : OperationKeyword → List Token → Option Options
operation_said operation.Name ws = Some (record no_options { operates = true })
operation_said operation.Left ws = do
  first ← first_of ws
  shift ← shift_said first.0
  Some (record no_options { left = Some shift })
operation_said operation.Right ws = do
  first ← first_of ws
  shift ← shift_said first.0
  Some (record no_options { right = Some shift })
operation_said operation.Sign ws = Some (record no_options { extends_sign = true })

-- what an option says, by the words behind its keyword
unfoldable pub option_said : MeasurementKeyword → List Token → Option Options
option_said option.Order ws = do
  first ← first_of ws
  order ← order_said first.0
  Some (record no_options { order = Some order })
option_said option.Mask ws = do
  first ← first_of ws
  mask ← mask_said first.0
  Some (record no_options { mask = Some mask })
option_said (option.Operation keyword) ws = operation_said keyword ws
option_said option.Address ws = do
  first ← first_of ws
  address ← address_said first.0
  Some (record no_options { address = Some address })
option_said option.Unit ws = do
  first ← first_of ws
  unit ← text_said first.0
  Some (record no_options { unit = Some unit })
option_said option.Extension ws = do
  first ← first_of ws
  apart ← extended_said first.0
  Some (record no_options { apart = apart })
option_said option.Size ws = do
  first ← first_of ws
  size ← integer_said first.0
  Some (record no_options { size = Some (trimmed (size ∷ [])) })
option_said option.Dimensions ws =
    Some (record no_options { dimensions = Some (dimensions_said ws) })
option_said option.Layout ws = do
  first ← first_of ws
  layout ← layout_said first.0
  Some (record no_options { layout = Some layout })
option_said option.One ws = Some no_options
option_said option.Two ws = Some no_options
option_said option.Other ws = Some no_options

-- The options of words. Of two of one kind the first counts.
unfoldable pub options_said : List Token → Option Options
options_said ws =
    scanned no_options options_or (λ w. arguments_of (measurement_keyword w))
    (λ w behind. option_said (measurement_keyword w) behind) 0 ws

-- what a MEASUREMENT says
pub record Measured : Type 0 where
  pub name : List ℕ
  pub identifier : List ℕ
  pub data_type : DataType
  -- the name of its method, if it has one
  pub method : Option (List ℕ)
  pub limits : Option ValueLimits
  pub options : Options

abbrev pub name_of : Reference → List ℕ
name_of r = string_bytes r.name

abbrev pub measurement_seen : MeasurementBlock → Measured
measurement_seen m = record {
  name = string_bytes m.name;
  identifier = string_bytes m.identifier;
  data_type = m.data_type;
  method = option_map name_of m.method;
  limits = m.limits;
  options = options_seen m.options;
}

abbrev pub method_named : Token → Option (Option (List ℕ))
method_named w =
    if is_keyword (codes "NO_COMPU_METHOD") w
    then Some None
    else (name_said w >>= λ name. Some (Some name))

unfoldable pub method_first : List Token → Option (Option (List ℕ) × List Token)
method_first ws = do
  first ← first_of ws
  method ← method_named first.0
  Some (method, first.1)

-- the name of an INSTANCE
unfoldable pub instance_said : List Token → Option (List ℕ)
instance_said ws = do
  name ← name_first ws
  Some name.0

-- the limits, if the lower one is less than the upper one
abbrev pub limits_of : Float → Float → Option ValueLimits
limits_of least greatest =
    if lt least greatest then Some (record { least = least; greatest = greatest }) else None

-- the two limits, which stand behind the resolution and the accuracy
unfoldable pub limits_first : List Token → Option (Option ValueLimits × List Token)
limits_first ws = do
  resolution ← number_first ws
  accuracy ← number_first resolution.1
  least ← number_first accuracy.1
  greatest ← number_first least.1
  Some (limits_of least.0 greatest.0, greatest.1)

-- name, long identifier, data type, method, resolution, accuracy, limits and options
unfoldable pub measurement_said : List Token → Option Measured
measurement_said ws = do
  name ← name_first ws
  identifier ← identifier_first name.1
  word ← first_of identifier.1
  data_type ← data_type_said word.0
  method ← method_first word.1
  limits ← limits_first method.1
  options ← options_said limits.1
  Some (record {
    name = name.0;
    identifier = identifier.0;
    data_type = data_type;
    method = method.0;
    limits = limits.0;
    options = options;
  })
