use Rattle.std.proofs.Common.{◌∙◌, List, ℕ, ap, length, subst, sym}
use Rattle.std.specs.Io.KnownBytes.{append_known}
use Rattle.mdf_blocks.specs.Tables.{hd_block}
use Rattle.mdf_blocks.specs.declared.file_header.FileHeader.{FileHeader}
use Rattle.mdf_file.specs.Standing.{IsStanding}
use Rattle.mdf_file.specs.Writing.{unfinished}
use Rattle.mdf_file.specs.declared.open_group.OpenGroup.{OpenGroup}
use Rattle.mdf_file.proofs.FileLemmas.{length-front}
use Rattle.mdf_file.proofs.StandingLemmas.{stands_unfinished}
use Rattle.mdf_file.proofs.TellingLemmas.{begin_stands}
use Rattle.mdf_file.proofs.open_file.OpenFile.begin.Goals as goal

-- what was written is what an unfinished file begins with
pub returns-clause-standing : goal.returns-clause-standing
returns-clause-standing g c =
    let known = g.O.MdfOut.known in
    let header : FileHeader = record {
      first_group = 0;
      first_history = 0;
      comment = 0;
      start = c.args.about.now.start;
    } in
    let is = c.in_ok-front.ensures in
    subst (λ (gs : List OpenGroup). IsStanding (known c.append.new.self) 168 gs)
    (sym c.new.ensures.items)
    (begin_stands (known c.args.out) (known c.append.new.self) c.in_ok-front.front.items
    c.args.about.now.program (hd_block header) c.requires.empty
    (c.in_ok-append.ensures.appended
    ∙ ap (λ (bs : List ℕ). append_known (known c.args.out) bs) c.deref.ensures.value)
    is.0 is.1
    (ap length is.1 ∙ length-front unfinished c.args.about.now.program header is.0))

pub returns-clause-unfinished : goal.returns-clause-unfinished
returns-clause-unfinished g c =
    stands_unfinished (g.O.MdfOut.known c.args.out) (g.O.MdfOut.known c.append.new.self) _ 168
    c.new.result.items c.in_ok-append.ensures.appended (returns-clause-standing g c)
