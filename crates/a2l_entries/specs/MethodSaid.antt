-- What a block COMPU_METHOD says (ASAM MCD-2 MC, COMPU_METHOD).
use Rattle.std.specs.Prelude.{ℕ, Bool, false, not, List, Option}
use Rattle.std.specs.Prelude.{Some, None, if◌then◌else◌, string_bytes}
use Rattle.std.specs.Option.{option_map, option_or}
use Rattle.std.specs.Float.Ieee.{Float, eq, of_bits, binary64}
use Rattle.a2l_text.specs.Tokens.{Token}
use Rattle.a2l_entries.specs.declared.keywords.MethodKeyword.{MethodKeyword}
use Rattle.a2l_entries.specs.declared.keywords.MethodKeyword.TheVariants as option
use Rattle.a2l_entries.specs.declared.keywords.MethodKind.{MethodKind}
use Rattle.a2l_entries.specs.declared.keywords.MethodKind.TheVariants as kind
use Rattle.a2l_entries.specs.declared.method_options.Coefficients.{Coefficients}
use Rattle.a2l_entries.specs.declared.method_options.Line.{Line}
use Rattle.a2l_entries.specs.declared.method_options.MethodOptions.{MethodOptions}
use Rattle.a2l_entries.specs.declared.method_block.MethodBlock.{MethodBlock}
use Rattle.a2l_entries.specs.declared.method_block.Rule.{Rule}
use Rattle.a2l_entries.specs.declared.method_block.Rule.TheVariants as rule
use Rattle.a2l_entries.specs.Gives.{◌>>=◌}
use Rattle.a2l_entries.specs.Said.{first_of, name_said, name_first, text_first, behind_text}
use Rattle.a2l_entries.specs.Said.{number_first}
use Rattle.a2l_entries.specs.Scans.{scanned}
use Rattle.a2l_entries.specs.Keywords.{method_keyword, method_arguments_of, kind_said}
use Rattle.a2l_entries.specs.MeasurementSaid.{name_of}

-- what the options say
pub record Choices : Type 0 where
  pub coefficients : Option Coefficients
  pub line : Option Line
  pub table : Option (List ℕ)

abbrev pub method_options_seen : MethodOptions → Choices
method_options_seen o =
    record { coefficients = o.coefficients; line = o.line; table = option_map name_of o.table }

abbrev pub no_method_options : Choices
no_method_options = record { coefficients = None; line = None; table = None }

abbrev pub method_options_or : Choices → Choices → Choices
method_options_or a b = record {
  coefficients = option_or a.coefficients b.coefficients;
  line = option_or a.line b.line;
  table = option_or a.table b.table;
}

unfoldable pub coefficients_said : List Token → Option Coefficients
coefficients_said ws = do
  a ← number_first ws
  b ← number_first a.1
  c ← number_first b.1
  d ← number_first c.1
  e ← number_first d.1
  f ← number_first e.1
  Some (record { a = a.0; b = b.0; c = c.0; d = d.0; e = e.0; f = f.0 })

-- what an option says, by the words behind its keyword
unfoldable pub method_option_said : MethodKeyword → List Token → Option Choices
method_option_said option.Coefficients ws = do
  coefficients ← coefficients_said ws
  Some (record no_method_options { coefficients = Some coefficients })
method_option_said option.Linear ws = do
  factor ← number_first ws
  offset ← number_first factor.1
  Some (record no_method_options { line = Some (record { factor = factor.0; offset = offset.0 }) })
method_option_said option.Table ws = do
  first ← first_of ws
  name ← name_said first.0
  Some (record no_method_options { table = Some name })
method_option_said option.One ws = Some no_method_options
method_option_said option.Other ws = Some no_method_options

-- The options of words. Of two of one kind the first counts.
unfoldable pub method_options_said : List Token → Option Choices
method_options_said ws =
    scanned no_method_options method_options_or (λ w. method_arguments_of (method_keyword w))
    (λ w behind. method_option_said (method_keyword w) behind) 0 ws

-- how physical values come of raw ones
pub data Formula : Type 0 where
  identical : Formula
  linear : (factor offset : Float) → Formula
  rational_of : (b c f : Float) → Formula
  -- by the table of this name
  texts_named : (name : List ℕ) → Formula
  other : Formula

abbrev pub rule_seen : Rule → Formula
rule_seen rule.Identical = identical
rule_seen (rule.Linear factor offset) = linear factor offset
rule_seen (rule.Rational b c f) = rational_of b c f
rule_seen (rule.Texts reference) = texts_named (name_of reference)
rule_seen rule.Other = other

pub record Converted : Type 0 where
  pub name : List ℕ
  pub unit : List ℕ
  pub formula : Formula

abbrev pub method_seen : MethodBlock → Converted
method_seen m =
    record { name = string_bytes m.name; unit = string_bytes m.unit; formula = rule_seen m.rule }

abbrev pub is_zero : Float → Bool
is_zero x = eq x (of_bits binary64 0)

-- the coefficients make a straight line
abbrev pub is_straight : Coefficients → Bool
is_straight q =
    if is_zero q.a
    then (if is_zero q.d
    then (if is_zero q.e then (if is_zero q.b then false else not (is_zero q.f)) else false)
    else false)
    else false

-- the rule of coefficients: they are carried out if they make a straight line
abbrev pub rational : Coefficients → Formula
rational q = if is_straight q then rational_of q.b q.c q.f else other

abbrev pub linear_of : Line → Formula
linear_of line = linear line.factor line.offset

-- the rule of a method of a kind
unfoldable pub rule_said : MethodKind → Choices → Option Formula
rule_said kind.Identical choices = Some identical
rule_said kind.Linear choices = option_map linear_of choices.line
rule_said kind.Rational choices = option_map rational choices.coefficients
rule_said kind.Verbal choices = option_map texts_named choices.table
rule_said kind.Other choices = Some other

-- name, long identifier, kind, format, unit and options
unfoldable pub method_said : List Token → Option Converted
method_said ws = do
  name ← name_first ws
  left ← behind_text name.1
  word ← first_of left
  kind ← kind_said word.0
  behind ← behind_text word.1
  unit ← text_first behind
  choices ← method_options_said unit.1
  formula ← rule_said kind choices
  Some (record { name = name.0; unit = unit.0; formula = formula })
