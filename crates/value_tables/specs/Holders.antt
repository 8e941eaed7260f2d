-- Who has the bytes of values.
use Rattle.std.specs.Prelude.{ℕ, Bool, List, is_some}
use Rattle.std.specs.List.{list_any}
use Rattle.copy_plan.specs.Config.{ListPlan}
use Rattle.value_tables.specs.Sources.{source_of}

-- some list has all of so many bytes at an address
abbrev pub lists_hold : List ListPlan → ℕ → ℕ → Bool
lists_hold plans address size = list_any (λ plan. is_some (source_of plan address size)) plans
