use Rattle.std.proofs.Common.{◌≡◌, ◌≤◌, ◌+◌, ℕ, Bool, List, [], ◌∷◌, ◌++◌, length, get_or, set, take, arith, ap, sym, ◌∙◌, refl, subst, length-take, ◌^◌, suc}
use Rattle.std.proofs.Math.Seq.{take-suc}
use Rattle.copy_plan.specs.Config.{ListPlan}
use Rattle.sampler.specs.Limits.{KeepsTo}
use Rattle.sampler.specs.Inner.AtTrigger.{HandlesLists, Row, Stage, due_now, first_stage, row_count, row_of, triggered}
use Rattle.sampler.specs.Inner.Moments.{MomentParts}
use Rattle.sampler.specs.declared.track.Track.{Track}
use Rattle.sampler.proofs.Handled.{handles-none, handles-more, track-at, channel-at, fit-at, plan-at, row_count-yes, row_count-no, row_count-le}
use Rattle.std.proofs.Math.Nat.{min-le_left, min-le_right}
use Rattle.std.proofs.lemmas.List.{length-set, take-set}
use Rattle.sampler.specs.Inner.Fits.{NoneDueBefore}
use Rattle.sampler.proofs.NextDue.{NoneDueBefore-more, due-below}
use Rattle.sampler.proofs.Places.{no_track}
use Rattle.sampler.proofs.at_trigger.sample_lists.Goals as goal
use Rattle.sampler.proofs.at_trigger.sample_lists.Goals.{then-accepted, else-accepted}

pub loop-place-init : goal.loop-place-init
loop-place-init g c =
    record {
      handled = handles-none g.S.SendEnd g.S.End.RingEnd c.args.moment.now c.args.end.now c.args.tracks.now c.args.number;
      soonest = tt;
      next_limit = omega arith;
      capacity = refl;
      limit = refl;
      ring = refl;
    }

pub sample_list-accepted-requires : goal.sample_list-accepted-requires
sample_list-accepted-requires g c = record {
  channel = ap (λ (p : ListPlan). p.channel) c.index-plans-place.is ∙ channel-at c.args.moment.now.channel c.args.moment.now.segments c.args.plans.now c.loop-place.place c.index-plans-place.result c.requires.plans_of (omega arith);
  segments = ap (λ (p : ListPlan). p.segments) c.index-plans-place.is ∙ plan-at c.args.moment.now.channel c.args.moment.now.segments c.args.plans.now c.loop-place.place c.index-plans-place.result c.requires.plans_of (omega arith);
  keeps = subst (λ m. KeepsTo m c.index-plans-place.result) (sym c.loop-place.invariant.limit) (subst (KeepsTo (g.S.SendEnd.limit c.args.end.now)) (sym c.index-plans-place.is) (c.requires.keep c.loop-place.place c.index-plans-place.result (omega arith)));
}

pub note-requires : goal.note-requires
note-requires g c =
    let there : get_or c.loop-place.tracks c.loop-place.place no_track ≡ get_or c.args.tracks.now c.loop-place.place no_track = track-at c.args.plans.now c.loop-place.place c.loop-place.invariant.handled (omega arith) c.requires.room in
    let fit = fit-at (2 ^ 59) c.args.plans.now c.args.tracks.now c.loop-place.place c.index-plans-place.result c.requires.fit (omega arith) in
    record {
      next = λ due. due-below c.args.moment.now.trigger (2 ^ 59) (get_or c.loop-place.tracks c.loop-place.place no_track) (sym (c.is_due-due.ensures ∙ ap (λ (m : MomentParts). due_now m.trigger (get_or c.loop-place.tracks c.loop-place.place no_track)) c.moment.view_is) ∙ due) c.requires.trigger;
      counts = omega (arith, fit.0, ap (λ (t : Track). t.counts.due) there);
      sum = ap (λ (t : Track). t.counts.accepted + t.counts.dropped) there ∙ fit.1 ∙ sym (ap (λ (t : Track). t.counts.due) there);
    }

pub loop-place-preserved : goal.loop-place-preserved
loop-place-preserved g c =
    let E = g.S.SendEnd in
    let R = g.S.End.RingEnd in
    let i : ℕ = c.loop-place.place in
    let plan : ListPlan = c.index-plans-place.result in
    let track : Track = get_or c.loop-place.tracks i no_track in
    let due : Bool = c.is_due-due.result in
    let row : Row = row_of plan track due c.sample_list-accepted.result in
    let first : Stage g.row.S.Denot = first_stage c.args.end.now c.args.tracks.now c.args.number in
    let mid : Stage g.row.S.Denot = record { end = c.loop-place.end; tracks = c.loop-place.tracks; taken = c.loop-place.taken; next = c.loop-place.next } in
    let last : Stage g.row.S.Denot = record { end = c.sample_list-accepted.new.end; tracks = set c.loop-place.tracks i c.note.new.self; taken = c.add.new.self; next = c.if-accepted.next } in
    let n : length (take i c.args.plans.now) ≡ i = simp length-take (omega arith) in
    let there : track ≡ get_or c.args.tracks.now i no_track = track-at c.args.plans.now i c.loop-place.invariant.handled (omega arith) c.requires.room in
    let one : suc i ≡ i + 1 = omega arith in
    let more : take i c.args.plans.now ++ plan ∷ [] ≡ take (i + 1) c.args.plans.now =
    ap (λ p. take i c.args.plans.now ++ p ∷ []) c.index-plans-place.is ∙ sym (take-suc c.args.plans.now i plan (omega arith)) ∙ ap (λ k. take k c.args.plans.now) one in
    let count : c.if-accepted.next ≡ c.loop-place.next + row_count row =
    elim c.if-accepted.branch [
      | then-accepted w ↦ omega (arith, w.next-is, row_count-yes plan track due c.sample_list-accepted.result w.if-accepted.true (c.sample_list-accepted.ensures.due w.if-accepted.true))
      | else-accepted w ↦ omega (arith, w.next-is, row_count-no plan track due c.sample_list-accepted.result w.if-accepted.false)
    ] in
    let P : List ListPlan → Type 0 = λ ps. HandlesLists E R c.args.moment.now ps first last in
    let noted : Track = get_or last.tracks i no_track in
    let sooner : c.min-soonest.result ≤ c.loop-place.soonest = omega (arith, c.min-soonest.ensures, min-le_left c.loop-place.soonest noted.next) in
    let here : c.min-soonest.result ≤ noted.next = omega (arith, c.min-soonest.ensures, min-le_right c.loop-place.soonest noted.next) in
    let before : NoneDueBefore c.loop-place.soonest (take i last.tracks) = subst (NoneDueBefore c.loop-place.soonest) (sym (take-set c.loop-place.tracks i c.note.new.self)) c.loop-place.invariant.soonest in
    record {
      soonest =
          subst (λ k. NoneDueBefore c.min-soonest.result (take k last.tracks)) one
          (NoneDueBefore-more c.min-soonest.result c.loop-place.soonest i last.tracks no_track sooner before (omega (arith, c.requires.room, length-set c.loop-place.tracks i c.note.new.self)) here);
      handled =
          subst P more (
          handles-more E R c.args.moment.now (take i c.args.plans.now) first mid last row
          c.loop-place.invariant.handled
          (omega (arith, n, c.requires.room))
          (there ∙ ap (λ k. get_or c.args.tracks.now k no_track) (sym n))
          (c.is_due-due.ensures ∙ ap (λ (m : MomentParts). due_now m.trigger track) c.moment.view_is)
          (ap (set c.loop-place.tracks i) c.note.ensures ∙ ap (λ k. set c.loop-place.tracks k (triggered plan track due c.sample_list-accepted.result)) (sym n))
          c.sample_list-accepted.ensures.sent
          c.sample_list-accepted.ensures.free
          c.sample_list-accepted.ensures.over_free
          (c.add.ensures track)
          count);
      next_limit = omega (arith, count, c.loop-place.invariant.next_limit, row_count-le row);
      capacity = c.sample_list-accepted.ensures.capacity_stays ∙ c.loop-place.invariant.capacity;
      limit = c.sample_list-accepted.ensures.limit_stays ∙ c.loop-place.invariant.limit;
      ring = c.sample_list-accepted.ensures.ring_stays ∙ c.loop-place.invariant.ring;
    }
