use Rattle.std.proofs.Common.{ap, ◌∙◌, arith}
use Rattle.std.proofs.lemmas.Grind.{common_steps}
use Rattle.xcp_base.specs.declared.item.Item.TheVariants.{Marker}
use Rattle.byte_ring.specs.Records.{record_of}
use Rattle.byte_ring.proofs.DecodeLemmas.{front_of, is_marker, marker_record_is}
use Rattle.byte_ring.proofs.decode.read_item.Goals as goal

-- each record begins with a kind, an event channel and a DAQ list
pub returns-then-bytes-lt-MARKER_LEN-clause-no : goal.returns-then-bytes-lt-MARKER_LEN-clause-no
returns-then-bytes-lt-MARKER_LEN-clause-no c = λ _ x h is.
    let f = front_of x c.args.bytes.now h is in
    omega (arith, f.three)

pub returns-in_default-clause-no : goal.returns-in_default-clause-no
returns-in_default-clause-no c = λ _ x h is.
    let f = front_of x c.args.bytes.now h is in
    let within = c.in_default.ensures.there.1 f.channel in
    grind (arith, common_steps, within)

pub returns-in_default-new-clause-no : goal.returns-in_default-new-clause-no
returns-in_default-new-clause-no c = λ _ x h is.
    let f = front_of x c.args.bytes.now h is in
    let within = c.in_default-new.ensures.there.1 f.list in
    grind (arith, common_steps, within)

pub returns-then-bytes-ne-MARKER-clause-no : goal.returns-then-bytes-ne-MARKER-clause-no
returns-then-bytes-ne-MARKER-clause-no c = λ _ x h is.
    let m = is_marker c.args.bytes.now (front_of x c.args.bytes.now h is) (λ e. omega (arith, e)) in
    omega (arith, m.0)

pub returns-then-bytes-ne-MARKER_LEN-clause-no : goal.returns-then-bytes-ne-MARKER_LEN-clause-no
returns-then-bytes-ne-MARKER_LEN-clause-no c = λ _ x h is.
    let m = is_marker c.args.bytes.now (front_of x c.args.bytes.now h is) (λ e. omega (arith, e)) in
    omega (arith, m.1)

pub returns-clause-yes : goal.returns-clause-yes
returns-clause-yes c = λ _. ap (λ x. record_of (Marker x)) c.of.ensures ∙ rw (c.in-Some.ensures.value, c.in-Some-new.ensures.value) (marker_record_is c.args.bytes.now (omega arith) (omega arith))
