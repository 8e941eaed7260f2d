use Rattle.std.proofs.Common.{◌≡◌, ◌∙◌, Some, ap, refl, slice_get, sym}
use Rattle.std.proofs.lemmas.Option.{slice_get-get_or}
use Rattle.sample_tables.specs.Times.{time_of}
use Rattle.sample_tables.proofs.TimesLemmas.{is_time, knows_more}
use Rattle.sample_tables.proofs.times.Times.next.Goals as goal

-- no ticks
pub returns-in_default-clause-time : goal.returns-in_default-clause-time
returns-in_default-clause-time c = λ earlier knows. rw c.in_default.is refl

pub returns-in_default-clause-knows : goal.returns-in_default-clause-knows
returns-in_default-clause-knows c = λ earlier knows. rw c.in_default.is knows

-- the time of ticks is the one behind the last ones
pub returns-clause-time : goal.returns-clause-time
returns-clause-time c = λ earlier knows.
    let t = c.args.self.now in
    let own = c.index-own.result.now in
    let at : slice_get t.lists.items c.args.place ≡ Some own = slice_get-get_or t.lists.items c.args.place own c.requires ∙ ap Some (sym c.index-own.ensures) in
    let time = is_time t c.args.place c.args.size c.in-Some.ticks c.time_behind-at.result own earlier knows c.requires at c.time_behind-at.ensures.value in
    rw c.in-Some.is (ap Some time)

pub returns-clause-knows : goal.returns-clause-knows
returns-clause-knows c = λ earlier knows.
    let t = c.args.self.now in
    let own = c.index-own.result.now in
    let at : slice_get t.lists.items c.args.place ≡ Some own = slice_get-get_or t.lists.items c.args.place own c.requires ∙ ap Some (sym c.index-own.ensures) in
    let time = is_time t c.args.place c.args.size c.in-Some.ticks c.time_behind-at.result own earlier knows c.requires at c.time_behind-at.ensures.value in
    rw c.in-Some.is (knows_more t _ c.args.place c.in-Some.ticks c.time_behind-at.result (time_of c.args.size c.args.place earlier c.in-Some.ticks) earlier knows c.requires time refl refl)
