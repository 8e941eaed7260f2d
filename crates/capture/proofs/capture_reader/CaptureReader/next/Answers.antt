use Rattle.std.proofs.lemmas.Result.{IfOk-weaker}
use Rattle.capture.proofs.StandingLemmas.{steps-lead}
use Rattle.capture.proofs.capture_reader.CaptureReader.next.Goals as goal

pub returns-in-None-clause-leads : goal.returns-in-None-clause-leads
returns-in-None-clause-leads c = IfOk-weaker c.begin.result _ _ (steps-lead c.args.self.now c.begin.new.self c.args.bytes.now) c.begin.ensures.ok

pub returns-in-Some-Pcap-clause-leads : goal.returns-in-Some-Pcap-clause-leads
returns-in-Some-Pcap-clause-leads c = IfOk-weaker c.next_record.result _ _ (steps-lead c.args.self.now c.args.self.now c.args.bytes.now) c.next_record.ensures.ok

pub returns-in-Some-Pcapng-clause-leads : goal.returns-in-Some-Pcapng-clause-leads
returns-in-Some-Pcapng-clause-leads c = IfOk-weaker c.next_block.result _ _ (steps-lead c.args.self.now c.next_block.new.self c.args.bytes.now) c.next_block.ensures.ok
