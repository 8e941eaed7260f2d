use Rattle.std.proofs.Common.{◌≡◌, ℕ, List, ◌++◌, ◌∷◌, [], sym, ap, subst, ◌∙◌, Option, Some, None}
use Rattle.daq_reader.specs.Lists.{Stands, StandsWith}
use Rattle.daq_reader.specs.Reading.{is_whole}
use Rattle.daq_reader.specs.Recorded.{AreOf, Recorded}
use Rattle.daq_reader.proofs.ListsLemmas.{whole_at}
use Rattle.daq_reader.proofs.reading.read_packet.Goals as goal

-- no sample is whole yet
pub returns-in_default-clause-stands : goal.returns-in_default-clause-stands
returns-in_default-clause-stands g c = λ qs h.
    let none : c.in_ok-whole.whole ≡ None = c.in_default.is in
    subst (λ (o : Option ℕ). StandsWith c.take.new.self (qs ++ c.args.packet.now ∷ []) (g.S.Samples.handed c.args.samples.now) o) none (c.in_ok-whole.ensures.stands qs (g.S.Samples.handed c.args.samples.now) h)

-- the list that took the packet is there
pub unreachable-requires : goal.unreachable-requires
unreachable-requires g c =
    let there = whole_at c.args.reader.now c.take.new.self c.args.packet.now c.in_ok-whole.whole c.in-Some.place c.in_ok-whole.ensures.taken c.in-Some.is in
    let none = c.in_default-list.ensures in
    absurd (cc (none, there.at))

-- and its sample is whole
pub unreachable-requires-in_default-sample : goal.unreachable-requires-in_default-sample
unreachable-requires-in_default-sample g c =
    let there = whole_at c.args.reader.now c.take.new.self c.args.packet.now c.in_ok-whole.whole c.in-Some.place c.in_ok-whole.ensures.taken c.in-Some.is in
    let same : there.list ≡ c.in-Some-list.list.now = cc (c.in-Some-list.ensures, there.at) in
    let some = c.in_default-sample.ensures.some.1 (ap is_whole (sym same) ∙ there.whole) in
    absurd (cc (some))

pub returns-clause-stands : goal.returns-clause-stands
returns-clause-stands g c = λ qs h.
    let before : List (ℕ × Recorded) = g.S.Samples.handed c.args.samples.now in
    let with : StandsWith c.take.new.self (qs ++ c.args.packet.now ∷ []) before (Some c.in-Some.place)
    = subst (λ (o : Option ℕ). StandsWith c.take.new.self (qs ++ c.args.packet.now ∷ []) before o) c.in-Some.is (c.in_ok-whole.ensures.stands qs before h) in
    let of : AreOf c.in-Some-list.list.now.plan c.in-Some-sample.sample.sample c.in-Some-list.list.now.packets = c.in-Some-sample.ensures.value in
    subst (λ (gs : List (ℕ × Recorded)). Stands c.take.new.self (qs ++ c.args.packet.now ∷ []) gs) (sym c.hand.ensures.handed) (with c.in-Some-list.list.now c.in-Some-sample.sample.sample (sym c.in-Some-list.ensures) of)
