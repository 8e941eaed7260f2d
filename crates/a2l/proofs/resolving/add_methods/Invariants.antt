use Rattle.std.proofs.Common.{◌≡◌, map, drop}
use Rattle.a2l_entries.specs.MethodSaid.{method_seen}
use Rattle.a2l_entries.specs.TableSaid.{table_seen}
use Rattle.a2l.specs.Resolved.{described_method, method_of, all_of, methods_of, with_front}
use Rattle.a2l.proofs.resolving.add_methods.Given as goal

-- the methods so far and those that are left are all
abbrev pub invariant-loop-method : goal.invariant-loop-method
invariant-loop-method l =
    with_front (map described_method l.out.items) (all_of (method_of (map table_seen l.tables)) (map method_seen (drop l.method-index l.methods)))
    ≡ with_front (map described_method l.fn.out.items) (methods_of (map table_seen l.tables) (map method_seen l.methods))
