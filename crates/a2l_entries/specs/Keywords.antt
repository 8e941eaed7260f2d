-- The keywords of blocks (ASAM MCD-2 MC), and how many words belong to each.
use Rattle.std.specs.Prelude.{ℕ, Bool, false, List, [], ◌∷◌, codes, bytes_eq, Option, Some}
use Rattle.std.specs.Prelude.{None, if◌then◌else◌}
use Rattle.std.specs.Option.{unwrap_or}
use Rattle.a2l_text.specs.Keywords.{meaning}
use Rattle.a2l_text.specs.Tokens.{Token, begin, end, include, plain, quoted}
use Rattle.measured_values.specs.declared.byte_order.ByteOrder.{ByteOrder}
use Rattle.measured_values.specs.declared.byte_order.ByteOrder.TheVariants.{MsbLast, MsbFirst}
use Rattle.measured_values.specs.declared.data_type.DataType.{DataType}
use Rattle.measured_values.specs.declared.data_type.DataType.TheVariants as data_type
use Rattle.a2l_entries.specs.declared.keywords.MeasurementKeyword.{MeasurementKeyword}
use Rattle.a2l_entries.specs.declared.keywords.MeasurementKeyword.TheVariants as option
use Rattle.a2l_entries.specs.declared.keywords.OperationKeyword.{OperationKeyword}
use Rattle.a2l_entries.specs.declared.keywords.OperationKeyword.TheVariants as operation
use Rattle.a2l_entries.specs.declared.keywords.MethodKeyword.{MethodKeyword}
use Rattle.a2l_entries.specs.declared.keywords.MethodKeyword.TheVariants as method
use Rattle.a2l_entries.specs.declared.keywords.MethodKind.{MethodKind}
use Rattle.a2l_entries.specs.declared.keywords.MethodKind.TheVariants as kind
use Rattle.a2l_entries.specs.declared.layout.Layout.{Layout}
use Rattle.a2l_entries.specs.declared.layout.Layout.TheVariants.{Rows, Columns}
use Rattle.a2l_entries.specs.Gives.{◌>>=◌}
use Rattle.a2l_entries.specs.Said.{plain_said, first_of}

-- the options of a MEASUREMENT, and of the BIT_OPERATION in it
abbrev pub measurement_keywords : List (List ℕ × MeasurementKeyword)
measurement_keywords =
    (codes "ECU_ADDRESS", option.Address)
    ∷ (codes "ECU_ADDRESS_EXTENSION", option.Extension)
    ∷ (codes "BYTE_ORDER", option.Order)
    ∷ (codes "BIT_MASK", option.Mask)
    ∷ (codes "PHYS_UNIT", option.Unit)
    ∷ (codes "ARRAY_SIZE", option.Size)
    ∷ (codes "MATRIX_DIM", option.Dimensions)
    ∷ (codes "BIT_OPERATION", option.Operation operation.Name)
    ∷ (codes "LEFT_SHIFT", option.Operation operation.Left)
    ∷ (codes "RIGHT_SHIFT", option.Operation operation.Right)
    ∷ (codes "SIGN_EXTEND", option.Operation operation.Sign)
    ∷ (codes "LAYOUT", option.Layout)
    ∷ (codes "DISPLAY_IDENTIFIER", option.One)
    ∷ (codes "ERROR_MASK", option.One)
    ∷ (codes "FORMAT", option.One)
    ∷ (codes "MODEL_LINK", option.One)
    ∷ (codes "REF_MEMORY_SEGMENT", option.One)
    ∷ (codes "MAX_REFRESH", option.Two)
    ∷ (codes "SYMBOL_LINK", option.Two)
    ∷ []

unfoldable pub measurement_keyword : Token → MeasurementKeyword
measurement_keyword begin = option.Other
measurement_keyword end = option.Other
measurement_keyword include = option.Other
measurement_keyword (plain bytes) = unwrap_or (meaning measurement_keywords bytes) option.Other
measurement_keyword (quoted bytes) = option.Other

abbrev pub operation_arguments_of : OperationKeyword → ℕ
operation_arguments_of operation.Name = 0
operation_arguments_of operation.Left = 1
operation_arguments_of operation.Right = 1
operation_arguments_of operation.Sign = 0

-- the numbers of MATRIX_DIM are no keywords, and passed over as such
abbrev pub arguments_of : MeasurementKeyword → ℕ
arguments_of option.Order = 1
arguments_of option.Mask = 1
arguments_of (option.Operation keyword) = operation_arguments_of keyword
arguments_of option.Address = 1
arguments_of option.Extension = 1
arguments_of option.Size = 1
arguments_of option.Dimensions = 0
arguments_of option.Layout = 1
arguments_of option.Unit = 1
arguments_of option.One = 1
arguments_of option.Two = 2
arguments_of option.Other = 0

abbrev pub method_keywords : List (List ℕ × MethodKeyword)
method_keywords =
    (codes "COEFFS", method.Coefficients)
    ∷ (codes "COEFFS_LINEAR", method.Linear)
    ∷ (codes "COMPU_TAB_REF", method.Table)
    ∷ (codes "REF_UNIT", method.One)
    ∷ (codes "STATUS_STRING_REF", method.One)
    ∷ []

unfoldable pub method_keyword : Token → MethodKeyword
method_keyword begin = method.Other
method_keyword end = method.Other
method_keyword include = method.Other
method_keyword (plain bytes) = unwrap_or (meaning method_keywords bytes) method.Other
method_keyword (quoted bytes) = method.Other

abbrev pub method_arguments_of : MethodKeyword → ℕ
method_arguments_of method.Coefficients = 6
method_arguments_of method.Linear = 2
method_arguments_of method.Table = 1
method_arguments_of method.One = 1
method_arguments_of method.Other = 0

abbrev pub method_kinds : List (List ℕ × MethodKind)
method_kinds =
    (codes "IDENTICAL", kind.Identical)
    ∷ (codes "LINEAR", kind.Linear)
    ∷ (codes "RAT_FUNC", kind.Rational)
    ∷ (codes "TAB_VERB", kind.Verbal)
    ∷ (codes "FORM", kind.Other)
    ∷ (codes "TAB_INTP", kind.Other)
    ∷ (codes "TAB_NOINTP", kind.Other)
    ∷ []

unfoldable pub kind_said : Token → Option MethodKind
kind_said w = plain_said w >>= meaning method_kinds

abbrev pub data_types : List (List ℕ × DataType)
data_types =
    (codes "UBYTE", data_type.UByte)
    ∷ (codes "SBYTE", data_type.SByte)
    ∷ (codes "UWORD", data_type.UWord)
    ∷ (codes "SWORD", data_type.SWord)
    ∷ (codes "ULONG", data_type.ULong)
    ∷ (codes "SLONG", data_type.SLong)
    ∷ (codes "A_UINT64", data_type.AUint64)
    ∷ (codes "A_INT64", data_type.AInt64)
    ∷ (codes "FLOAT16_IEEE", data_type.Float16)
    ∷ (codes "FLOAT32_IEEE", data_type.Float32)
    ∷ (codes "FLOAT64_IEEE", data_type.Float64)
    ∷ []

unfoldable pub data_type_said : Token → Option DataType
data_type_said w = plain_said w >>= meaning data_types

abbrev pub byte_orders : List (List ℕ × ByteOrder)
byte_orders = (codes "MSB_LAST", MsbLast) ∷ (codes "MSB_FIRST", MsbFirst) ∷ []

unfoldable pub order_said : Token → Option ByteOrder
order_said w = plain_said w >>= meaning byte_orders

abbrev pub layouts : List (List ℕ × Layout)
layouts = (codes "ROW_DIR", Rows) ∷ (codes "COLUMN_DIR", Columns) ∷ []

unfoldable pub layout_said : Token → Option Layout
layout_said w = plain_said w >>= meaning layouts

abbrev pub is_keyword : List ℕ → Token → Bool
is_keyword keyword begin = false
is_keyword keyword end = false
is_keyword keyword include = false
is_keyword keyword (plain bytes) = bytes_eq bytes keyword
is_keyword keyword (quoted bytes) = false

-- the words behind the first that is this keyword
abbrev pub behind_keyword : List ℕ → List Token → Option (List Token)
behind_keyword keyword [] = None
behind_keyword keyword (w ∷ ws) =
    if is_keyword keyword w then Some ws else behind_keyword keyword ws

-- MOD_COMMON: the byte order behind BYTE_ORDER
abbrev pub default_behind : Option (List Token) → Option (Option ByteOrder)
default_behind None = Some None
default_behind (Some ws) = do
  first ← first_of ws
  order ← order_said first.0
  Some (Some order)

unfoldable pub default_said : List Token → Option (Option ByteOrder)
default_said ws = default_behind (behind_keyword (codes "BYTE_ORDER") ws)
