use Rattle.std.proofs.Common.{◌≡◌, ◌∙◌, ℕ, Option, ap, refl, subst, sym}
use Rattle.copy_plan.specs.Config.{ListPlan}
use Rattle.xcp_base.specs.declared.stamp_size.StampSize.{StampSize}
use Rattle.sample_tables.specs.Times.{KnowsLast, stands_of, stands_with, time_at}
use Rattle.sample_tables.proofs.SpotLemmas.{is_spot, knows_none, knows_sample}
use Rattle.sample_tables.proofs.spots.Spots.next.Goals as goal

-- the list is there
pub next_number-number-requires : goal.next_number-number-requires
next_number-number-requires c = c.requires.numbers (rw c.in-Some.is refl)

pub next-time-requires : goal.next-time-requires
next-time-requires c = c.requires.times (rw c.in-Some.is refl)

-- a sample of no list has no time, and nothing is known of it
pub returns-in_default-clause-knows : goal.returns-in_default-clause-knows
returns-in_default-clause-knows c = λ plans earlier r knows of stamp.
    let none = rw c.in_default.is at of in
    knows_none c.args.self.now plans earlier c.args.place r knows (sym none)

-- the number and the time are those behind the earlier samples
pub returns-clause-spot : goal.returns-clause-spot
returns-clause-spot c = λ plans plan earlier r knows of there stamp.
    let some = rw c.in-Some.is at of in
    let same : c.in-Some.shape.now ≡ plan = cc (some, there) in
    let size : c.form.result.stamp ≡ plan.form.stamp = ap (λ f. f.stamp) c.form.ensures ∙ ap (λ (p : ListPlan). p.form.stamp) same in
    let before = stands_of plans earlier in
    let time = c.next-time.ensures.time before knows.times
    ∙ ap (λ z. time_at z c.args.place before c.args.stamp) size ∙ ap (λ o. time_at plan.form.stamp c.args.place before o) stamp in
    is_spot plans plan earlier c.args.place c.next_number-number.result c.next-time.result r there (c.next_number-number.ensures.number earlier knows.numbers) time

pub returns-clause-knows : goal.returns-clause-knows
returns-clause-knows c = λ plans earlier r knows of stamp.
    let some = rw c.in-Some.is at of in
    let plan = c.in-Some.shape.now in
    let size : c.form.result.stamp ≡ plan.form.stamp = ap (λ f. f.stamp) c.form.ensures in
    let before = stands_of plans earlier in
    let now = c.next-time.new.self in
    let times = subst (λ (o : Option ℕ). KnowsLast now (stands_with plan.form.stamp c.args.place before o)) stamp
    (subst (λ (z : StampSize). KnowsLast now (stands_with z c.args.place before c.args.stamp)) size (c.next-time.ensures.knows before knows.times)) in
    knows_sample c.args.self.now _ plans plan earlier c.args.place r knows (sym some) c.next_number-number.ensures.lists c.next-time.ensures.lists (c.next_number-number.ensures.numbers earlier r knows.numbers) times
