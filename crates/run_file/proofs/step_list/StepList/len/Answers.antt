use Rattle.std.proofs.Common.{◌≡◌, length, sym, ap, ◌∙◌, rules}
use Rattle.run_file.proofs.KeptLemmas.{length-kept_data}
use Rattle.run_file.proofs.step_list.StepList.len.Goals as goal

-- one step is kept for each
pub returns : goal.returns
returns c =
    let count : c.len.result ≡ length c.self.inside.kept.items = search (rules, c.len.ensures) in
    count ∙ sym (length-kept_data c.self.inside.images.items c.self.inside.kept.items) ∙ ap length c.self.view_is
