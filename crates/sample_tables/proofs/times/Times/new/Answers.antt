use Rattle.std.proofs.Common.{◌≡◌, ◌<◌, List, Option, Some, length, refl, slice_get, subst, sym}
use Rattle.sample_tables.specs.declared.times.Stand.{Stand}
use Rattle.sample_tables.proofs.TimesLemmas.{none_known, none_yet}
use Rattle.sample_tables.proofs.times.Times.new.Goals as goal

-- no ticks came yet
pub returns-clause-knows : goal.returns-clause-knows
returns-clause-knows c =
    let none = c.in_ok-stands.ensures in
    record {
      last = refl;
      each = λ i below. subst (λ (ls : List (Option Stand)). slice_get ls i ≡ Some none_yet) (sym none)
          (none_known c.args.lists i (subst (λ (ls : List (Option Stand)). i < length ls) none below));
    }
