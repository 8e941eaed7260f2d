use Rattle.std.proofs.Common.{◌≡◌, ◌<◌, ℕ, List, length, set, true, false, if◌then◌else◌, arith, ap, sym, refl, ◌∙◌, Option, Some, None}
use Rattle.std.proofs.lemmas.List.{set-get_or}
use Rattle.std.proofs.lemmas.Result.{err_from_is_err_and}
use Rattle.daq_reader.specs.Lists.{Takes, place_in, plans_of, refusal}
use Rattle.daq_reader.specs.Reading.{Reading, is_whole}
use Rattle.daq_reader.proofs.ListsLemmas.{on_err, plans_taken, refused_at, refused_past, stands_after, takes_at}
use Rattle.daq_reader.proofs.reader.Reader.take.Goals as goal
use Rattle.daq_reader.proofs.reader.Reader.take.Goals.{In_err-whole, In_ok-whole}

-- the place is that of the list that the packet is of
placed : (c : In_ok-whole) → c.place_in-place.result ≡ place_in (plans_of c.self.inside.lists.items) c.args.packet.now
placed c = c.place_in-place.ensures.value ∙ ap (λ (xs : List Reading). place_in (plans_of xs) c.args.packet.now) c.deref.ensures.value

within : (c : In_ok-whole) → c.place_in-place.result < length c.self.inside.lists.items
within c = omega (arith, c.place_in-place.ensures.limit, c.if-place-len.false, c.len.ensures, ap length c.deref.ensures.value)

-- that list has taken it
taken_with : (c : In_ok-whole) (o : Option ℕ) → o ≡ (if is_whole c.take.new.self then Some c.place_in-place.result else None) → Takes c.args.self.now (set c.self.inside.lists.items c.place_in-place.result c.take.new.self) c.args.packet.now o
taken_with c o is =
    rw (← c.self.view_is) (takes_at c.self.inside.lists.items c.place_in-place.result c.index_mut.result.now c.take.new.self c.args.packet.now o c.index_mut.ensures.value (within c) (placed c) (c.in_ok-whole.ensures.succeeds.0 refl) c.in_ok-whole.ensures.ok is)

no_refusal : (c : In_ok-whole) → refusal c.args.self.now c.args.packet.now ≡ None
no_refusal c =
    rw (← c.self.view_is) (refused_at c.self.inside.lists.items c.place_in-place.result c.index_mut.result.now c.args.packet.now None c.index_mut.ensures.value (within c) (placed c) c.in_ok-whole.ensures.no_fault)

-- a packet that is of no list
pub returns-then-place-len-clause-fault : goal.returns-then-place-len-clause-fault
returns-then-place-len-clause-fault c =
    let lists : List Reading = c.self.inside.lists.items in
    let place = c.place_in-place.ensures.value ∙ ap (λ (xs : List Reading). place_in (plans_of xs) c.args.packet.now) c.deref.ensures.value in
    rw (← c.self.view_is) (refused_past lists c.args.packet.now (sym place ∙ c.if-place-len.true ∙ c.len.ensures ∙ sym c.deref.ensures.len ∙ ap length c.deref.ensures.value))

-- a packet that its list refuses, which stays as it was
stays : (c : In_err-whole) → set c.self.inside.lists.items c.place_in-place.result c.take.new.self ≡ c.args.self.now
stays c =
    ap (set c.self.inside.lists.items c.place_in-place.result) (c.in_err-whole.ensures.err ∙ c.index_mut.ensures.value)
    ∙ set-get_or c.self.inside.lists.items c.place_in-place.result c.index_mut.result.now
    ∙ c.self.view_is

pub returns-in_err-whole-clause-fault : goal.returns-in_err-whole-clause-fault
returns-in_err-whole-clause-fault c =
    let place = c.place_in-place.ensures.value ∙ ap (λ (xs : List Reading). place_in (plans_of xs) c.args.packet.now) c.deref.ensures.value in
    let within : c.place_in-place.result < length c.self.inside.lists.items
    = omega (arith, c.place_in-place.ensures.limit, c.if-place-len.false, c.len.ensures, ap length c.deref.ensures.value) in
    let refused = refused_at c.self.inside.lists.items c.place_in-place.result c.index_mut.result.now c.args.packet.now (Some c.in_err-whole.field-0.0) c.index_mut.ensures.value within place c.in_err-whole.ensures.fault in
    let p = err_from_is_err_and c.from_residual.result c.from_residual.ensures.1 in
    rw (p.1, p.2, ← c.self.view_is) refused

pub returns-in_err-whole-clause-err : goal.returns-in_err-whole-clause-err
returns-in_err-whole-clause-err c = on_err c.from_residual.result (stays (goal.at.returns-in_err-whole-clause-err c).In_err-whole)

pub returns-in_err-whole-clause-lists : goal.returns-in_err-whole-clause-lists
returns-in_err-whole-clause-lists c = ap plans_of (stays (goal.at.returns-in_err-whole-clause-lists c).In_err-whole)

-- a packet that leaves the sample torn
pub returns-then-not-whole-clause-taken : goal.returns-then-not-whole-clause-taken
returns-then-not-whole-clause-taken c =
    let torn : is_whole c.take.new.self ≡ false = sym c.in_ok-whole.ensures.whole ∙ c.if-not-whole.true in
    taken_with (goal.at.returns-then-not-whole-clause-taken c).In_ok-whole None (ap (λ v. if v then Some c.place_in-place.result else None) (sym torn))

pub returns-then-not-whole-clause-stands : goal.returns-then-not-whole-clause-stands
returns-then-not-whole-clause-stands c = λ qs samples h.
    let w : In_ok-whole = (goal.at.returns-then-not-whole-clause-stands c).In_ok-whole in
    let torn : is_whole c.take.new.self ≡ false = sym c.in_ok-whole.ensures.whole ∙ c.if-not-whole.true in
    stands_after c.args.self.now (set c.self.inside.lists.items c.place_in-place.result c.take.new.self) c.args.packet.now None qs samples (taken_with w None (ap (λ v. if v then Some c.place_in-place.result else None) (sym torn))) h

pub returns-then-not-whole-clause-no_fault : goal.returns-then-not-whole-clause-no_fault
returns-then-not-whole-clause-no_fault c = no_refusal (goal.at.returns-then-not-whole-clause-no_fault c).In_ok-whole

pub returns-then-not-whole-clause-lists : goal.returns-then-not-whole-clause-lists
returns-then-not-whole-clause-lists c =
    let w : In_ok-whole = (goal.at.returns-then-not-whole-clause-lists c).In_ok-whole in
    let torn : is_whole c.take.new.self ≡ false = sym c.in_ok-whole.ensures.whole ∙ c.if-not-whole.true in
    plans_taken c.args.self.now (set c.self.inside.lists.items c.place_in-place.result c.take.new.self) c.args.packet.now None (taken_with w None (ap (λ v. if v then Some c.place_in-place.result else None) (sym torn)))

-- a packet with which it is whole
pub returns-clause-taken : goal.returns-clause-taken
returns-clause-taken c =
    let whole : is_whole c.take.new.self ≡ true = sym c.in_ok-whole.ensures.whole ∙ c.if-not-whole.false in
    taken_with (goal.at.returns-clause-taken c).In_ok-whole (Some c.place_in-place.result) (ap (λ v. if v then Some c.place_in-place.result else None) (sym whole))

pub returns-clause-stands : goal.returns-clause-stands
returns-clause-stands c = λ qs samples h.
    let w : In_ok-whole = (goal.at.returns-clause-stands c).In_ok-whole in
    let whole : is_whole c.take.new.self ≡ true = sym c.in_ok-whole.ensures.whole ∙ c.if-not-whole.false in
    stands_after c.args.self.now (set c.self.inside.lists.items c.place_in-place.result c.take.new.self) c.args.packet.now (Some c.place_in-place.result) qs samples (taken_with w (Some c.place_in-place.result) (ap (λ v. if v then Some c.place_in-place.result else None) (sym whole))) h

pub returns-clause-no_fault : goal.returns-clause-no_fault
returns-clause-no_fault c = no_refusal (goal.at.returns-clause-no_fault c).In_ok-whole

pub returns-clause-lists : goal.returns-clause-lists
returns-clause-lists c =
    let w : In_ok-whole = (goal.at.returns-clause-lists c).In_ok-whole in
    let whole : is_whole c.take.new.self ≡ true = sym c.in_ok-whole.ensures.whole ∙ c.if-not-whole.false in
    plans_taken c.args.self.now (set c.self.inside.lists.items c.place_in-place.result c.take.new.self) c.args.packet.now (Some c.place_in-place.result) (taken_with w (Some c.place_in-place.result) (ap (λ v. if v then Some c.place_in-place.result else None) (sym whole)))
