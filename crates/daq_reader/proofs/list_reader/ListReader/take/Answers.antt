use Rattle.std.proofs.Common.{◌<◌, ℕ, refl}
use Rattle.std.specs.Prelude.{All}
use Rattle.std.proofs.lemmas.List.Elements.{All-from_get_or}
use Rattle.daq_reader.proofs.ReadingLemmas.{is_begun, not_begun}
use Rattle.daq_reader.proofs.list_reader.ListReader.take.Goals as goal

-- packets that begin those of a sample have no fault
pub returns-in-Some-clause-succeeds : goal.returns-in-Some-clause-succeeds
returns-in-Some-clause-succeeds c =
    ((λ ok. absurd (cc)), (λ begins. not_begun c.args.self.now c.next_odt-k.result c.args.packet.now c.in-Some.fault c.fault.ensures.reading c.next_odt-k.ensures.value c.in-Some.ensures.fault begins))

-- packets without fault begin those of a sample
pub returns-clause-succeeds : goal.returns-clause-succeeds
returns-clause-succeeds c =
    let small : All (λ (b : ℕ). b < 256) c.args.packet.now = All-from_get_or (λ (b : ℕ). b < 256) c.args.packet.now 0 (λ k h. (c.type_inv.packet k).fits) in
    ((λ ok. is_begun c.args.self.now c.next_odt-k.result c.args.packet.now c.fault.ensures.reading small c.next_odt-k.ensures.value c.in_default.ensures.fault), (λ begins. refl))
