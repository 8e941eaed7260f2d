-- DAQ lists with the columns that are shown of their samples.
use Rattle.std.specs.Prelude.{◌≡◌, List, map}
use Rattle.copy_plan.specs.Config.{ListPlan}
use Rattle.value_tables.specs.Values.{sources_for}
use Rattle.value_tables.specs.declared.column.Column.{Column}
use Rattle.value_tables.specs.declared.list_columns.ListColumns.{ListColumns}

abbrev pub plans_of : List ListColumns → List ListPlan
plans_of lists = map (λ (list : ListColumns). list.shape) lists

-- a list knows where its samples have the value of each column
abbrev pub HasSources : List Column → ListColumns → Type 0
HasSources columns list = list.sources.items ≡ sources_for columns list.shape
