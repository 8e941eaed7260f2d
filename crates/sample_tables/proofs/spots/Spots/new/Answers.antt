use Rattle.std.proofs.Common.{◌∙◌, ℕ, List, [], ap, length, subst, sym}
use Rattle.std.proofs.lemmas.List.{length-replicate}
use Rattle.sample_tables.specs.Spots.{AreNumbers}
use Rattle.sample_tables.proofs.SpotLemmas.{no_numbers}
use Rattle.sample_tables.proofs.spots.Spots.new.Goals as goal

-- no sample came yet
pub returns : goal.returns
returns c = λ plans same. record {
  all = ap length c.in_ok-numbers.ensures ∙ length-replicate c.args.lists 0 ∙ sym same;
  all_times = c.in_ok-times.ensures.lists ∙ sym same;
  numbers = subst (λ (ns : List ℕ). AreNumbers ns []) (sym c.in_ok-numbers.ensures) (no_numbers c.args.lists);
  times = c.in_ok-times.ensures.knows;
}
