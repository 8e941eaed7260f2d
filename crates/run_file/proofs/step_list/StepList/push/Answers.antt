use Rattle.std.proofs.Common.{rules}
use Rattle.run_file.specs.StepOf.{with_image}
use Rattle.run_file.specs.Inner.{wording_data}
use Rattle.run_file.proofs.KeptLemmas.{kept_gains, kept_in_order, still_in_order}
use Rattle.run_file.proofs.step_list.StepList.push.Goals as goal

-- all images are in order, whether the step came or not
pub invariant_of-self-2 : goal.invariant_of-self-2
invariant_of-self-2 c =
    kept_in_order (with_image (wording_data c.args.step)) c.self.inside.images.items c.push_action.new.images.items c.self.inside.kept.items
    c.keep.new.kept.items _ c.keep.result c.keep.ensures.ok c.in_ok-action.ensures.ok (search (rules, c.len-from.ensures)) c.self.invariant
    c.keep.ensures.err

-- the step came to the others
pub returns-clause-ok : goal.returns-clause-ok
returns-clause-ok c =
    kept_gains (with_image (wording_data c.args.step)) c.self.inside.images.items c.push_action.new.images.items c.self.inside.kept.items
    c.keep.new.kept.items _ c.keep.result c.keep.ensures.ok c.in_ok-action.ensures.ok (search (rules, c.len-from.ensures)) c.self.invariant
    c.args.self.now c.self.view_is

-- only images came behind the others
pub invariant_of-self : goal.invariant_of-self
invariant_of-self c =
    still_in_order c.self.inside.images.items c.push_action.new.images.items c.self.inside.kept.items c.push_action.ensures.front c.self.invariant
