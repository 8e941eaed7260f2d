use Rattle.std.proofs.Common.{◌≡◌, ◌++◌, take}
use Rattle.std.specs.List.{flat_map}
use Rattle.mdf_groups.specs.Records.{own_bytes}
use Rattle.mdf_groups.proofs.record_form.push_own.Given as goal

-- the values so far stand behind what was there
abbrev pub invariant-loop-value : goal.invariant-loop-value
invariant-loop-value l =
    l.out.items ≡ l.fn.out.items ++ flat_map (own_bytes l.sample) (take l.value-index l.own)
