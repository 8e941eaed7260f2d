use Rattle.std.proofs.Common.{◌≡◌, ◌∙◌, sym, ap, arith, Some, Option, ℕ}
use Rattle.std.specs.Prelude.{option_and_then, slice_get, unwrap_or}
use Rattle.std.proofs.lemmas.Option.{none-some}
use Rattle.segments.specs.Image.{image_place}
use Rattle.daq_store.specs.declared.entry.Entry.{Entry}
use Rattle.daq_store.specs.Configuration.{odt_entries}
use Rattle.copy_plan.proofs.WrittenLemmas.{WithinAt, ends_inside, lies_at_place, near_place, within_at}
use Rattle.copy_plan.proofs.spans.ends_of.Goals as goal
use Rattle.copy_plan.proofs.spans.ends_of.Goals.{After-image_place, After-written}

-- each entry is written
pub unreachable-requires : goal.unreachable-requires
unreachable-requires c =
    let at = within_at c.args.channel c.args.segments.now (odt_entries c.args.conf.now c.args.odt) c.args.entry c.requires.within c.requires.there in
    none-some at.entry (sym c.in_default.is ∙ c.written.ensures.value ∙ at.is)

some_entry : (x y : Entry) → Some x ≡ Some y → x ≡ y
some_entry x y e = cc

-- and has a place in the image
place_is : (c : After-image_place) (at : WithinAt c.args.channel c.args.segments.now (option_and_then (λ (entry : Option Entry). entry) (slice_get (odt_entries c.args.conf.now c.args.odt) c.args.entry))) → c.image_place.result ≡ Some at.at
place_is c at =
    let same : at.entry ≡ c.in-Some.written = some_entry at.entry c.in-Some.written (sym at.is ∙ sym c.written.ensures.value ∙ c.in-Some.is) in
    c.image_place.ensures.value ∙ ap (λ (x : Entry). image_place c.args.channel c.args.segments.now x.extension x.address x.size) (sym same) ∙ at.place

pub unreachable-requires-in_default-image_place : goal.unreachable-requires-in_default-image_place
unreachable-requires-in_default-image_place c =
    let at = within_at c.args.channel c.args.segments.now (odt_entries c.args.conf.now c.args.odt) c.args.entry c.requires.within c.requires.there in
    let w : After-image_place = (goal.at.unreachable-requires-in_default-image_place c).After-image_place in
    none-some at.at (sym c.in_default-image_place.is ∙ place_is w at)

some_number : (x y : ℕ) → Some x ≡ Some y → x ≡ y
some_number x y e = cc

-- it ends within the image
pub overflow_add-result : goal.overflow_add-result
overflow_add-result c =
    let e : image_place c.args.channel c.args.segments.now c.in-Some.written.extension c.in-Some.written.address c.in-Some.written.size ≡ Some c.in-Some-image_place.start = sym c.image_place.ensures.value ∙ c.in-Some-image_place.is in
    let l = lies_at_place c.args.channel c.args.segments.now c.in-Some.written c.in-Some-image_place.start e in
    let at : unwrap_or (image_place c.args.channel c.args.segments.now c.in-Some.written.extension c.in-Some.written.address c.in-Some.written.size) 0 ≡ c.in-Some-image_place.start = ap (λ (o : Option ℕ). unwrap_or o 0) e in
    omega (arith, at, c.requires.image.len, ends_inside c.args.channel c.args.segments.now _ _ l.segment l.lies)

-- it begins near, as its address has 32 bits
pub returns-clause-near : goal.returns-clause-near
returns-clause-near c =
    let e : image_place c.args.channel c.args.segments.now c.in-Some.written.extension c.in-Some.written.address c.in-Some.written.size ≡ Some c.in-Some-image_place.start = sym c.image_place.ensures.value ∙ c.in-Some-image_place.is in
    near_place c.args.channel c.args.segments.now c.in-Some.written c.in-Some-image_place.start e (omega arith)
