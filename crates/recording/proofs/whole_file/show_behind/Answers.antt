use Rattle.std.proofs.Common.{ap}
use Rattle.std.specs.Option.{option_copied}
use Rattle.recording.proofs.FileLemmas.{named_behind, named_fault}
use Rattle.recording.proofs.ShownLemmas.{of_writer}
use Rattle.recording.proofs.StopLemmas.{each_fault}
use Rattle.recording.proofs.whole_file.show_behind.Goals as goal

-- by name, if there is an A2L file
pub returns-in-Some-clause-shown : goal.returns-in-Some-clause-shown
returns-in-Some-clause-shown g c =
    of_writer c.show_values.result _ _ (λ w h. named_behind c.args.view _ _ c.values_of-values.result _ _ _ _ _ _ _ (ap option_copied c.in-Some.is) c.values_of-values.ensures h)
    c.show_values.ensures.shown

pub returns-in-Some-clause-fault : goal.returns-in-Some-clause-fault
returns-in-Some-clause-fault g c =
    each_fault c.show_values.result _ _ (λ f h. named_fault c.args.view _ _ c.values_of-values.result _ _ _ _ _ f (ap option_copied c.in-Some.is) c.values_of-values.ensures h)
    c.show_values.ensures.fault
