use Rattle.std.proofs.Common.{◌≡◌, ◌≤◌, ◌+◌, take}
use Rattle.sampler.specs.Inner.AtTrigger.{HandlesLists, first_stage}
use Rattle.sampler.specs.Inner.Fits.{NoneDueBefore}
use Rattle.sampler.proofs.at_trigger.sample_lists.Given as goal

abbrev pub invariant-loop-place : goal.invariant-loop-place
invariant-loop-place g l =
    let E = g.S.SendEnd in
    let R = g.S.End.RingEnd in
    record {
      handled : HandlesLists E R l.moment (take l.place l.plans) (first_stage l.fn.end l.fn.tracks l.number) (record { end = l.end; tracks = l.tracks; taken = l.taken; next = l.next });
      soonest : NoneDueBefore l.soonest (take l.place l.tracks);
      next_limit : l.next ≤ l.number + l.place;
      capacity : E.capacity l.end ≡ E.capacity l.fn.end;
      limit : E.limit l.end ≡ E.limit l.fn.end;
      ring : E.ring l.end ≡ E.ring l.fn.end;
    }
