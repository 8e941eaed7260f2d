use Rattle.std.proofs.Common.{◌+◌, ◌-◌, ◌<◌, ◌∙◌, ap, arith, drop, get_or, length, suc, sym, take}
use Rattle.captured_session.specs.declared.element.Element.{Element}
use Rattle.capture_tables.proofs.PlaceLemmas.{parted}
use Rattle.capture_tables.proofs.values_at.place_among.Goals as goal

-- this entry is the first that has the bytes
pub returns-then-holds-clause-place : goal.returns-then-holds-clause-place
returns-then-holds-clause-place c =
    let es = c.args.entries.now in
    let k = c.loop-entry.entry-index in
    let none : Element = record { bit = 0; size = 0; extension = 0; address = 0 } in
    let within : k < length es = omega (arith, c.loop-entry-test.true) in record {
      before = take k es;
      entry = get_or es k none;
      behind = drop (suc k) es;
      split = parted es k none within;
      none = c.loop-entry.invariant.2;
      first = sym c.holds.ensures ∙ c.if-holds.true;
      at = ap (λ n. n + (c.args.address - (get_or es k none).address)) c.loop-entry.invariant.0;
    }
