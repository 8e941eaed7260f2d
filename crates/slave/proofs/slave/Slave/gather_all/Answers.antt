use Rattle.std.proofs.Common.{◌≡◌, ◌*◌, ◌+◌, ◌<◌, List, refl, ap, length, sym, subst, ◌∙◌, arith}
use Rattle.std.specs.Prelude.{slice_get}
use Rattle.xcp_base.specs.declared.limits.TheConstants.{MAX_CHANNELS}
use Rattle.slave_channels.proofs.EachLemmas.{read_at, set_back}
use Rattle.tasks.specs.Tasks.{TaskEndState}
use Rattle.slave.specs.Inner.{GathersFirst}
use Rattle.slave.specs.Standing.{SlaveState}
use Rattle.slave.proofs.ClosingLemmas.{ends-many}
use Rattle.slave.proofs.CollectingLemmas.{collects-more, collects-nothing, collects-within}
use Rattle.slave.proofs.GatheringLemmas.{end-at, gathers-more, gathers-none, ring-at}
use Rattle.slave.proofs.slave.Slave.gather_all.Goals as goal

-- the end of the task of this event channel is of its line
pub gather-requires-clause-one_line : goal.gather-requires-clause-one_line
gather-requires-clause-one_line c =
    let inv = c.loop-c.invariant in
    let end = c.index_mut.result.now in
    let many = ends-many c.args.self.now c.args.ends.now.items c.requires.tasks in
    let inside : c.loop-c.c < length c.loop-c.ends.items = omega (arith, ap length inv.stay, many, c.loop-c-test.true, c.len-c-end.ensures.value, ap (λ (s : SlaveState). length s.channels) c.self.view_is) in
    let here = read_at c.loop-c.ends.items c.loop-c.c end c.index_mut.ensures.value inside in
    ring-at c.args.self.now.channels c.loop-c.self.channels c.loop-c.c end.ring end.ring inv.collects.goes.0 inv.collects.as_many refl
    (end-at c.args.self.now.channels c.args.ends.now.items c.loop-c.c end c.requires.tasks (ap (λ (xs : List (TaskEndState _)). slice_get xs c.loop-c.c) (sym inv.stay) ∙ here))

-- nothing was taken yet
pub loop-c-init : goal.loop-c-init
loop-c-init c = record {
  collects = collects-nothing c.args.self.now;
  first = gathers-none c.args.ends.now.items c.args.self.now;
  stay = refl;
}

pub loop-c-preserved : goal.loop-c-preserved
loop-c-preserved c =
    let inv = c.loop-c.invariant in
    let end = c.index_mut.result.now in
    let many = ends-many c.args.self.now c.args.ends.now.items c.requires.tasks in
    let inside : c.loop-c.c < length c.loop-c.ends.items = omega (arith, ap length inv.stay, many, c.loop-c-test.true, c.len-c-end.ensures.value, ap (λ (s : SlaveState). length s.channels) c.self.view_is) in
    let here = read_at c.loop-c.ends.items c.loop-c.c end c.index_mut.ensures.value inside in
    record {
      collects =
          collects-within (2 * c.loop-c.c + 2) (2 * (c.loop-c.c + 1)) c.args.self.now c.gather.new.self (omega arith)
          (collects-more (2 * c.loop-c.c) 2 c.args.self.now c.loop-c.self c.gather.new.self inv.collects c.gather.ensures.collects);
      first =
          gathers-more c.loop-c.c c.args.ends.now.items end c.args.self.now c.loop-c.self c.gather.new.self (ap (λ (xs : List (TaskEndState _)). slice_get xs c.loop-c.c) (sym inv.stay) ∙ here)
          inv.collects.session inv.first c.gather.ensures.gathers;
      stay = set_back c.loop-c.ends.items c.loop-c.c end c.gather.new.end c.index_mut.ensures.value c.gather.ensures.end_stays ∙ inv.stay;
    }

-- there are no more event channels than a slave may have
pub returns-clause-collects : goal.returns-clause-collects
returns-clause-collects c =
    collects-within (2 * c.loop-c.c) (2 * MAX_CHANNELS) c.args.self.now c.loop-c.self (omega (arith, c.loop-c.auto.c-end, c.len-c-end.ensures.limit)) c.loop-c.invariant.collects

pub returns-clause-gathers : goal.returns-clause-gathers
returns-clause-gathers c =
    let there = ap (λ (s : SlaveState). length s.channels) c.self.view_is in
    let all : c.loop-c.c ≡ length c.args.self.now.channels = omega (arith, c.loop-c.auto.c-end, c.loop-c-test.false, c.len-c-end.ensures.value, there) in
    subst (λ n. GathersFirst n c.args.ends.now.items c.args.self.now c.loop-c.self) all c.loop-c.invariant.first
