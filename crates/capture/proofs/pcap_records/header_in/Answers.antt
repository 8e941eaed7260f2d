use Rattle.std.proofs.Common.{refl}
use Rattle.capture.proofs.pcap_records.header_in.Goals as goal

-- src/pcap_records.rt:28:29
pub returns-in_err-order-clause-none : goal.returns-in_err-order-clause-none
returns-in_err-order-clause-none c none h is = c.in_err-order.ensures.none refl h.order h.fraction is.magic
