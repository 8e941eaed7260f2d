use Rattle.std.proofs.Common.{◌++◌, ◌∙◌, List, ℕ, ap, append_assoc}
use Rattle.mdf_blocks.proofs.BlockLemmas.{front_kept, on_err}
use Rattle.mdf_blocks.specs.Numbers.{uint8}
use Rattle.mdf_groups.specs.Records.{time_bytes}
use Rattle.mdf_groups.proofs.record_form.push_parts.Goals as goal

-- what was there stands in front of the parts that were written before
pub returns-clause-err : goal.returns-clause-err
returns-clause-err c =
    let old = c.args.out.now.items in
    let time = time_bytes c.args.time in
    let mark = uint8 c.args.mark in
    let sample = c.args.sample.now in
    on_err c.push_own.result
    (front_kept old (time ++ (mark ++ sample)) c.extend_from_slice.new.self.items
    c.push_own.new.out.items
    (c.in_ok-extend_from_slice.ensures.items
    ∙ ap (λ (zs : List ℕ). zs ++ sample) (c.in_ok-push.ensures.items
    ∙ ap (λ (zs : List ℕ). zs ++ mark) c.in_ok-push_time.ensures.ok)
    ∙ append_assoc (old ++ time) mark sample
    ∙ append_assoc old time (mark ++ sample)))
    c.push_own.ensures.err
