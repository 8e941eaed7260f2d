use Rattle.std.proofs.Common.{◌++◌, ◌∙◌, List, ℕ, ap, map, subst, sym}
use Rattle.std.specs.Io.KnownBytes.{append_known}
use Rattle.mdf_blocks.specs.Told.{ToldGroup}
use Rattle.mdf_file.specs.Ending.{AreOf, HoldRecords, told_file}
use Rattle.mdf_file.specs.Outs.{write_over}
use Rattle.mdf_file.specs.Standing.{seen}
use Rattle.mdf_file.specs.Writing.{told_groups}
use Rattle.mdf_file.specs.declared.streamed_group.StreamedGroup.{StreamedGroup}
use Rattle.mdf_file.proofs.TellingLemmas.{end_tells}
use Rattle.mdf_file.proofs.open_file.OpenFile.end.Goals as goal

-- the groups that have records stand behind these, and the front is that of a finished file
pub returns : goal.returns
returns g c =
    let known = g.O.MdfOut.known in
    let told : List ToldGroup = told_groups (map seen c.args.self.groups.items) in
    let given = c.in_ok-groups.ensures in
    let same = sym c.deref.ensures.value in
    end_tells (known c.args.self.out) (known c.append.new.self) (known c.write_front.new.self)
    c.args.self.place c.args.self.groups.items c.in_ok-end.end.front.items
    c.in_ok-end.end.behind.items (told_file c.args.about.now told)
    (c.in_ok-append.ensures.appended
    ∙ ap (λ (bs : List ℕ). append_known (known c.args.self.out) bs) c.deref-2.ensures.value)
    (c.in_ok-write_front.ensures.over
    ∙ ap (λ (bs : List ℕ). write_over bs (known c.append.new.self)) c.deref-3.ensures.value)
    c.in_ok-end.ensures.front c.requires.standing
    (λ before reaches held. c.in_ok-end.ensures.told before told reaches
    (subst (λ (gs : List StreamedGroup). AreOf gs told) same given.told)
    (λ front back long. subst (λ (gs : List StreamedGroup).
    HoldRecords (front ++ before ++ back) gs told) same
    (given.hold (front ++ before ++ back) (held front back long))))
