use Rattle.std.proofs.Common.{◌≡◌, ◌++◌, ◌∷◌, [], map, refl}
use Rattle.std.proofs.lemmas.List.{map_push}
use Rattle.std.proofs.lemmas.Result.{err_from_is_err_and}
use Rattle.a2l_entries.specs.MethodSaid.{method_seen}
use Rattle.a2l_entries.specs.TableSaid.{table_seen}
use Rattle.a2l.specs.Resolved.{described_method, method_of, methods_of}
use Rattle.a2l.proofs.ResolveLemmas.{all_go_on, all_stop}
use Rattle.a2l.proofs.resolving.add_methods.Goals as goal

pub loop-method-init : goal.loop-method-init
unfolding methods_of
loop-method-init c = refl

-- a method that can't be described
pub returns-in_err-method : goal.returns-in_err-method
returns-in_err-method c =
    let p = err_from_is_err_and c.from_residual-in_err-method.result c.from_residual-in_err-method.ensures.1 in
    rw (p.1, p.2) (all_stop method_seen (method_of (map table_seen c.args.tables.now)) c.in_err-method.field-0.0 c.args.methods.now c.loop-method.method-index c.method-item.result (map described_method c.loop-method.out.items) _
    c.loop-method-test.true c.method-item.is c.in_err-method.ensures c.loop-method.invariant)

pub loop-method-preserved : goal.loop-method-preserved
loop-method-preserved c =
    let y = described_method c.in_ok-method.method in
    let e : map described_method c.push.new.self.items ≡ map described_method c.loop-method.out.items ++ y ∷ [] = rw c.in_ok-push.ensures.items (map_push _ c.loop-method.out.items c.in_ok-method.method) in
    rw e (all_go_on method_seen (method_of (map table_seen c.args.tables.now)) c.args.methods.now c.loop-method.method-index c.method-item.result (map described_method c.loop-method.out.items) y _
    c.loop-method-test.true c.method-item.is c.in_ok-method.ensures c.loop-method.invariant)
