use Rattle.std.proofs.Common.{List, ℕ, arith, set, subst}
use Rattle.std.proofs.lemmas.List.{nil_from_length}
use Rattle.mdf_file.specs.Standing.{HasBlock}
use Rattle.mdf_file.proofs.StandingLemmas.{emptied, flush_stands, same_unfinished, seen_same}
use Rattle.mdf_file.proofs.StandingLemmas.{stands_unfinished}
use Rattle.mdf_file.proofs.open_file.OpenFile.flush.Goals as goal

-- nothing waits
pub returns-then-len-eq0-clause-unfinished : goal.returns-then-len-eq0-clause-unfinished
returns-then-len-eq0-clause-unfinished g c = same_unfinished _ _ _ c.requires.standing

pub returns-then-len-eq0-clause-empty : goal.returns-then-len-eq0-clause-empty
returns-then-len-eq0-clause-empty g c =
    emptied c.args.self.now.groups.items c.args.number c.index_mut-group.result.now
    c.requires.within (nil_from_length c.index_mut-group.result.now.buffer.items (omega arith))

-- the group is seen as before
pub returns-in_err-list_block-clause-seen : goal.returns-in_err-list_block-clause-seen
returns-in_err-list_block-clause-seen g c =
    seen_same c.args.number c.args.self.now.groups.items c.index_mut-group.result.now
    c.list_block.new.self c.index_mut-group.ensures.value c.list_block.ensures.same

pub returns-clause-seen : goal.returns-clause-seen
returns-clause-seen g c =
    seen_same c.args.number c.args.self.now.groups.items c.index_mut-group.result.now
    c.list_block.new.self c.index_mut-group.ensures.value c.list_block.ensures.same

-- what waited stands in a block, and is listed
pub returns-clause-standing : goal.returns-clause-standing
returns-clause-standing g c =
    let known = g.O.MdfOut.known in
    flush_stands (known c.args.self.now.out) (known c.append_block.new.out)
    c.args.self.now.place c.in_ok-next.next c.args.number c.args.self.now.groups.items
    c.index_mut-group.result.now c.list_block.new.self c.requires.within
    c.index_mut-group.ensures.value
    (subst (λ (own : List ℕ). HasBlock (known c.args.self.now.out) (known c.append_block.new.out)
    c.args.self.now.place c.in_ok-next.next own) c.deref.ensures.value c.in_ok-next.ensures)
    c.in_ok-list_block.ensures.ok c.requires.standing

pub returns-clause-unfinished : goal.returns-clause-unfinished
returns-clause-unfinished g c =
    stands_unfinished (g.O.MdfOut.known c.args.self.now.out)
    (g.O.MdfOut.known c.append_block.new.out) _ c.in_ok-next.next
    (set c.args.self.now.groups.items c.args.number c.list_block.new.self)
    c.in_ok-next.ensures.known (returns-clause-standing g c)

-- nothing waits any more
pub returns-clause-empty : goal.returns-clause-empty
returns-clause-empty g c =
    emptied c.args.self.now.groups.items c.args.number c.list_block.new.self c.requires.within
    c.in_ok-list_block.ensures.ok.empty
