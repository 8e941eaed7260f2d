use Rattle.std.proofs.Common.{◌≡◌, [], ◌∷◌, length, refl, sym, subst, ◌∙◌, arith, length-append}
use Rattle.std.specs.Prelude.{IsNone}
use Rattle.std.proofs.lemmas.Iterator.Adapters.{YieldsList-from_vec}
use Rattle.std.proofs.lemmas.Iterator.Consumers.{YieldsList-end, YieldsList-turn}
use Rattle.std.proofs.lemmas.List.{map-id, nil_from_length}
use Rattle.std.proofs.lemmas.Option.{slice_get_read}
use Rattle.transmitter.proofs.RingLemmas.{sent_joined}
use Rattle.daq_engine.specs.Samplers.{AreFinished}
use Rattle.daq_engine.proofs.FinishLemmas.{ends-more, none_finished, shown_more}
use Rattle.daq_engine.proofs.finishing.finish_all.Given.{Over}
use Rattle.daq_engine.proofs.finishing.finish_all.Goals as goal
use Rattle.daq_engine.proofs.finishing.finish_all.Goals.{In-None}

-- there is room for each
pub push_reserved-requires : goal.push_reserved-requires
push_reserved-requires g c =
    let samplers = c.args.samplers in
    let given = c.into_iter-sampler-iterator.ensures.into_iter_gives in
    let turn =
    YieldsList-turn (YieldsList-from_vec {s = c.into_iter-sampler-iterator.result} samplers.items given.0 (given.1 ∙ samplers.ok.0))
    c.loop-sampler.yielded c.loop-sampler.sampler-iterator c.loop-sampler.yielded_by c.next.result c.next.new.self c.in-Some.sampler c.in-Some.is c.next.ensures.steps in
    omega (arith, turn.0, c.requires.enough, c.loop-sampler.invariant.as_many, c.loop-sampler.invariant.room, samplers.ok.0)

-- none was finished yet
pub loop-sampler-init : goal.loop-sampler-init
loop-sampler-init g c =
    let none = nil_from_length c.args.room.items (sym c.args.room.ok.0 ∙ c.requires.empty) in
    record {
      finished = subst (AreFinished g.S.SendEnd g.S.End.RingEnd []) (sym none) (none_finished g.S.SendEnd g.S.End.RingEnd);
      as_many = c.requires.empty;
      room = refl;
    }

-- one sampler more
pub loop-sampler-preserved : goal.loop-sampler-preserved
loop-sampler-preserved g c =
    let send = g.S.SendEnd in
    let ring = g.S.End.RingEnd in
    let i = c.loop-sampler.invariant in
    let f = i.finished in
    let e = c.finish.ensures in
    let is = c.in_ok-end.was in
    let more = c.push_reserved.ensures.items in
    let xs = c.loop-sampler.ends.items in
    let zs = c.push_reserved.new.self.items in
    let ys = c.loop-sampler.yielded in
    let end = c.in_ok-end.end in
    let s = c.in-Some.sampler in
    record {
      finished = record {
        stand = λ past. ends-more send ring past ys s xs zs end c.finish.result more (sym c.loop-sampler.ends.ok.0 ∙ i.as_many) is e.stands (f.stand past);
        channels = shown_more (λ x. x.channel) (λ x. x.channel) xs zs ys c.finish.result end s more f.channels is e.channel;
        rings = shown_more (λ x. ring.ring x.end) (λ x. send.ring x.end) xs zs ys c.finish.result end s more f.rings is e.ring;
        capacities = shown_more (λ x. x.capacity) (λ x. send.capacity x.end) xs zs ys c.finish.result end s more f.capacities is e.capacity;
        sent = sym (sent_joined ring zs) ∙ shown_more (λ x. ring.all_sent x.end) (λ x. send.sent x.end) xs zs ys c.finish.result end s more (sent_joined ring xs ∙ f.sent) is e.sent;
      };
      as_many = omega (arith, i.as_many, length-append ys (s ∷ []), c.push_reserved.ensures.len);
      room = c.push_reserved.ensures.capacity ∙ i.room;
    }

-- all of them were finished
all_yielded : (g : Over) (c : In-None g) → c.loop-sampler.yielded ≡ c.args.samplers.items
all_yielded g c =
    let samplers = c.args.samplers in
    let given = c.into_iter-sampler-iterator.ensures.into_iter_gives in
    let seen =
    YieldsList-end (YieldsList-from_vec {s = c.into_iter-sampler-iterator.result} samplers.items given.0 (given.1 ∙ samplers.ok.0))
    c.loop-sampler.yielded c.loop-sampler.sampler-iterator c.loop-sampler.yielded_by c.next.result c.next.new.self c.in-None.is c.next.ensures.steps in
    sym (map-id c.loop-sampler.yielded) ∙ seen.0

pub returns-clause-finishes : goal.returns-clause-finishes
returns-clause-finishes g c =
    subst (λ ss. AreFinished g.S.SendEnd g.S.End.RingEnd ss c.loop-sampler.ends.items) (all_yielded g (goal.at.returns-clause-finishes g c).In-None) c.loop-sampler.invariant.finished

-- the end that was lost is that of a sampler
pub returns-in_err-end-clause-none : goal.returns-in_err-end-clause-none
returns-in_err-end-clause-none g c = λ none.
    let samplers = c.args.samplers in
    let given = c.into_iter-sampler-iterator.ensures.into_iter_gives in
    let s = c.in-Some.sampler in
    let turn =
    YieldsList-turn (YieldsList-from_vec {s = c.into_iter-sampler-iterator.result} samplers.items given.0 (given.1 ∙ samplers.ok.0))
    c.loop-sampler.yielded c.loop-sampler.sampler-iterator c.loop-sampler.yielded_by c.next.result c.next.new.self s c.in-Some.is c.next.ensures.steps in
    (length c.loop-sampler.yielded, s, slice_get_read samplers.items (length samplers.items) (length c.loop-sampler.yielded) s refl turn.0 turn.1, c.finish.ensures.none (subst IsNone (sym c.in_err-end.was) refl))
