use Rattle.std.proofs.Common.{sym}
use Rattle.byte_ring.proofs.RecordLemmas.{reads, reads_the_longest}
use Rattle.byte_ring.proofs.laws.items_are_longest.Goals as goal

pub returns : goal.returns
returns c = λ bytes.
    let r = reads bytes in
    (record { each = r.each; front = (r.rest, sym r.is) }, λ xs s. reads_the_longest bytes s.front.0 xs s.each (sym s.front.1))
