use Rattle.std.proofs.Common.{refl, sym, ap, slice_get, ◌∙◌}
use Rattle.capture.specs.Numbers.{field}
use Rattle.capture.specs.Units.{Known}
use Rattle.capture.proofs.SaidLemmas.{no-enhanced, no-interface, no-simple}
use Rattle.capture.proofs.capture_reader.CaptureReader.take_block.Goals as goal

pub returns-in_err-interface-in-InterfaceDescription-clause-err : goal.returns-in_err-interface-in-InterfaceDescription-clause-err
returns-in_err-interface-in-InterfaceDescription-clause-err c =
    let e = c.in_err-interface-in-InterfaceDescription.ensures in
    no-interface _ c.args.order c.args.self.now.interfaces c.args.block.now c.from_residual.result _ c.from_residual.ensures.1 e.err
    (sym c.kind_of.ensures ∙ c.in-InterfaceDescription.is) (e.none refl)

pub returns-in_err-enhanced_in-in-EnhancedPacket-clause-err : goal.returns-in_err-enhanced_in-in-EnhancedPacket-clause-err
returns-in_err-enhanced_in-in-EnhancedPacket-clause-err c =
    let e = c.in_err-enhanced_in-in-EnhancedPacket.ensures in
    let block = c.args.block.now in
    no-enhanced _ c.args.order c.args.self.now.interfaces block c.from_residual-in_err-enhanced_in-in-EnhancedPacket.result _ c.from_residual-in_err-enhanced_in-in-EnhancedPacket.ensures.1 e.err
    (sym c.kind_of.ensures ∙ c.in-EnhancedPacket.is)
    (λ i p at is. e.none refl i p (ap (λ xs. slice_get xs (field c.args.order 4 8 block)) (c.deref.ensures.value ∙ ap (λ (s : Known). s.interfaces) c.self.view_is) ∙ at) is)

pub returns-in_err-simple_in-in-SimplePacket-clause-err : goal.returns-in_err-simple_in-in-SimplePacket-clause-err
returns-in_err-simple_in-in-SimplePacket-clause-err c =
    let e = c.in_err-simple_in-in-SimplePacket.ensures in
    no-simple _ c.args.order c.args.self.now.interfaces c.args.block.now c.from_residual-in_err-simple_in-in-SimplePacket.result _ c.from_residual-in_err-simple_in-in-SimplePacket.ensures.1 e.err
    (sym c.kind_of.ensures ∙ c.in-SimplePacket.is)
    (λ i p at is. e.none refl i p (ap (λ xs. slice_get xs 0) (c.deref-in-SimplePacket.ensures.value ∙ ap (λ (s : Known). s.interfaces) c.self-in-SimplePacket.view_is) ∙ at) is)
