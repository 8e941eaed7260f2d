use Rattle.std.proofs.Common.{List, ℕ, ◌++◌, ◌∙◌, [], ◌∷◌, Some, ap, arith, length, string_bytes, subst}
use Rattle.mdf_blocks.specs.Told.{TellsHistories, ToldHistory}
use Rattle.mdf_blocks.specs.declared.file_state.FileState.TheVariants.{Finished}
use Rattle.mdf_file.specs.Adding.{Adds}
use Rattle.mdf_file.specs.Ending.{HoldRecords}
use Rattle.mdf_file.proofs.AddLemmas.{adds_written}
use Rattle.mdf_file.proofs.FileLemmas.{end_says, held_on, length-front}
use Rattle.mdf_file.proofs.ending.file_end.Goals as goal

-- an identification and a header
pub returns-clause-front : goal.returns-clause-front
returns-clause-front c =
    let about = c.args.about.now in
    ap length c.in_ok-front.ensures.1
    ∙ length-front Finished about.program (record {
      first_group = c.in_ok-first_group.first_group;
      first_history = c.in_ok-first_history.first_history;
      comment = 0;
      start = about.start;
    }) c.in_ok-front.ensures.0

-- the file tells its history and its groups
pub returns-clause-told : goal.returns-clause-told
returns-clause-told c before told base_is are held =
    let about = c.args.about.now in
    let begun = c.new-behind.result.items in
    let history = c.add_history.new.out.items in
    let first = c.in_ok-first_history.first_history in
    let entry : List ℕ → List ToldHistory = λ words.
    record { time = about.start; comment = Some words } ∷ [] in
    let hs : Adds 168 (before ++ begun) (before ++ history)
    (λ bytes. TellsHistories bytes first (entry (string_bytes about.comment))) =
    subst (λ (words : List ℕ). Adds 168 (before ++ begun) (before ++ history)
    (λ bytes. TellsHistories bytes first (entry words))) c.deref.ensures
    (adds_written 168 c.args.base before begun history _ base_is
    c.in_ok-first_history.ensures) in
    end_says Finished about.program c.in_ok-front.front.items before begun history
    c.add_groups.new.out.items (record {
      first_group = c.in_ok-first_group.first_group;
      first_history = first;
      comment = 0;
      start = about.start;
    }) (entry (string_bytes about.comment)) told c.in_ok-front.ensures.0
    (record {
      first_group = omega arith;
      first_history = omega arith;
      comment = omega arith;
      start = c.read_time.ensures;
    })
    c.in_ok-front.ensures.1 hs
    (c.in_ok-first_group.ensures.told 168 before told base_is are
    (held_on before begun history (λ bytes. HoldRecords bytes c.args.groups.now told)
    (λ bytes. TellsHistories bytes first (entry (string_bytes about.comment)))
    c.new-behind.ensures.items held hs))
