use Rattle.std.proofs.Common.{◌∙◌, IfOk, ap, subst, sym}
use Rattle.std.specs.Result.{result_err}
use Rattle.daq_store.specs.Commands.{IsPacketOf}
use Rattle.daq_store.proofs.CommandLemmas.{packet_is_read, read_fault, read_is_packet}
use Rattle.daq_store.proofs.command.read.Goals as goal

-- the grammar and the function that computes from the bytes say the same
pub returns-clause-packet : goal.returns-clause-packet
returns-clause-packet c = λ call. (
  λ is.
      let read = read_is_packet c.args.packet.now (λ k. (c.type_inv.packet k).fits) in
      subst (λ r. IfOk r (IsPacketOf c.args.packet.now)) (sym c.fields_of.ensures ∙ is) read,
  λ p. c.fields_of.ensures ∙ packet_is_read c.args.packet.now call p,
)

pub returns-clause-fault : goal.returns-clause-fault
returns-clause-fault c = ap result_err c.fields_of.ensures ∙ read_fault c.args.packet.now
