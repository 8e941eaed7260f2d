-- Blocks that say nothing, since they aren't what their types tell.
use Rattle.std.proofs.Common.{◌≡◌, ℕ, List, slice_get, Some, sym, subst, IfErr, Result}
use Rattle.std.proofs.lemmas.Result.{err_from_is_err_and}
use Rattle.std.specs.Result.{IsErrAnd}
use Rattle.measured_values.specs.declared.byte_order.ByteOrder.{ByteOrder}
use Rattle.capture.specs.Blocks.{IsEnhanced, IsInterface, IsSimple}
use Rattle.capture.specs.Inner.{SaysNone}
use Rattle.capture.specs.Numbers.{field}
use Rattle.capture.specs.Packets.{PacketOf}
use Rattle.capture.specs.declared.block_kind.BlockKind.{BlockKind}
use Rattle.capture.specs.declared.block_kind.BlockKind.TheVariants.{EnhancedPacket, InterfaceDescription, SimplePacket}
use Rattle.capture.specs.declared.capture_fault.CaptureFault.{CaptureFault}
use Rattle.capture.specs.declared.capture_fault.CaptureFault.TheVariants.{Bad}
use Rattle.capture.specs.declared.interface.Interface.{Interface}

module _ {T : Type 0} (kind : BlockKind) (order : ByteOrder) (old : List Interface) (b : List ℕ) (r : Result T CaptureFault) where
  -- a fault that is handed on is no other
  handed-on : (fault : CaptureFault) → IsErrAnd r (λ f. f ≡ fault) → fault ≡ Bad → SaysNone kind order old b Bad → IfErr r (SaysNone kind order old b)
  handed-on fault on bad none =
      let p = err_from_is_err_and r on in
      subst (λ x. IfErr x (SaysNone kind order old b)) (sym p.1) (
      subst (SaysNone kind order old b) (sym p.2) (subst (SaysNone kind order old b) (sym bad) none))

  pub no-interface : (fault : CaptureFault) → IsErrAnd r (λ f. f ≡ fault) → fault ≡ Bad → kind ≡ InterfaceDescription
      → ((i : Interface) → IsInterface order b i → ⊥) → IfErr r (SaysNone kind order old b)
  no-interface fault on bad is none =
      handed-on fault on bad (subst (λ k. SaysNone k order old b Bad) (sym is) (λ own new says. none says.0 says.3))

  pub no-enhanced : (fault : CaptureFault) → IsErrAnd r (λ f. f ≡ fault) → fault ≡ Bad → kind ≡ EnhancedPacket
      → ((i : Interface) (p : PacketOf) → slice_get old (field order 4 8 b) ≡ Some i → IsEnhanced order b i p → ⊥) → IfErr r (SaysNone kind order old b)
  no-enhanced fault on bad is none =
      handed-on fault on bad (subst (λ k. SaysNone k order old b Bad) (sym is) (λ own new says. none says.0 says.1 says.4 says.5))

  pub no-simple : (fault : CaptureFault) → IsErrAnd r (λ f. f ≡ fault) → fault ≡ Bad → kind ≡ SimplePacket
      → ((i : Interface) (p : PacketOf) → slice_get old 0 ≡ Some i → IsSimple order b i p → ⊥) → IfErr r (SaysNone kind order old b)
  no-simple fault on bad is none =
      handed-on fault on bad (subst (λ k. SaysNone k order old b Bad) (sym is) (λ own new says. none says.0 says.1 says.4 says.5))
