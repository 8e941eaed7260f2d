-- A turn at one ring.
use Rattle.std.proofs.Common.{◌≡◌, ℕ, ◌+◌, ◌<◌, inl, inr, List, [], ◌∷◌, length, get_or, set, slice_index, cond, eqb, get_or-set_same, get_or-set_other, ap, ◌∙◌, arith, subst}
use Rattle.std.proofs.lemmas.Grind.{common_steps}
use Rattle.std.proofs.lemmas.Bool.Decides.{nat_tests}
use mathlib.Core.List.{IsPrefix}
use Rattle.xcp_base.specs.declared.item.Item.{Item}
use Rattle.xcp_base.specs.declared.item.Item.TheVariants.{Sample}
use Rattle.xcp_base.specs.Samples.{SampleParts}
use Rattle.frame_writer.specs.declared.layout.TheConstants.{MAX_SAMPLE_BYTES}
use Rattle.frame_writer.specs.Frame.{text}
use Rattle.frame_writer.specs.Writing.{WriterState}
use Rattle.transmitter.specs.Fills.{FindsNoRoom}
use Rattle.transmitter.specs.Merge.{Takes, of_ring}
use Rattle.transmitter.specs.Inner.Turns.{LeavesSample, TakesFirst, TakesInHand, TurnMeans}
use Rattle.transmitter.specs.Written.{TransmitterState}
use Rattle.transmitter.specs.declared.turn.Turn.TheVariants.{Stays}
use Rattle.transmitter.proofs.PacketLemmas.{short_text}
use Rattle.transmitter.proofs.TakenLemmas.{same_first, takes-append}

-- behind a look, what was let go is the item that was first
pub takes_that : {r s t k l m : List (List Item)} (c : ℕ) (x y : Item) → Takes r s k l [] → IsPrefix (x ∷ []) (of_ring l c) → x ≡ y → TakesFirst c s t l m → Takes r t k m ((c, y) ∷ [])
takes_that {r} {s} {t} {k} {l} {m} c x y looked first is taken =
    let same : taken.0 ≡ y = same_first taken.0 x (of_ring l c) taken.1 first ∙ is in
    subst (λ z. Takes r t k m ((c, z) ∷ [])) same (takes-append r s t k l m [] ((c, taken.0) ∷ []) looked taken.2)

-- samples that are one item are one sample
pub of_samples : {r s : SampleParts} → ◌≡◌ {A = Item} (Sample r) (Sample s) → r ≡ s
of_samples e = cc

-- one sample more of a list
pub one_more : (w : List ℕ) (k l : ℕ) → k < length w → slice_index (set w k (get_or w k 0 + 1)) l ≡ slice_index w l + (0 + cond (eqb k l) 1 0)
one_more w k l h = grind (arith, nat_tests, common_steps, get_or-set_same, get_or-set_other)

-- where the writer may fail and there is always room, a sample that stays is in hand
pub in_hand : (c : ℕ) (a b : TransmitterState) → TurnMeans (Unit {0}) (λ _. ⊥) c a b Stays → TakesInHand c a b
in_hand c a b (inl w) = w.1
in_hand c a b (inr l) = absurd l.too_long

-- where the writer doesn't fail, it stays in its ring
pub in_ring : (long : List (List ℕ) → Type 0) (c : ℕ) (a b : TransmitterState) → TurnMeans ⊥ long c a b Stays → LeavesSample c long a b
in_ring long c a b (inl w) = absurd w.0
in_ring long c a b (inr l) = l

-- its frames don't fit, and no frames are longer than so
pub too_long : (c room end at : ℕ) (buffer : List ℕ) (a b : TransmitterState) → length buffer ≡ room → end ≡ at → LeavesSample c (λ qs. length buffer < at + length (text a.writer.counter qs)) a b → FindsNoRoom c b room end × (room < end + MAX_SAMPLE_BYTES)
too_long c room end at buffer a b len is l =
    let long : room < end + length (text a.writer.counter l.sample.packets) = omega (arith, l.too_long, len, is) in (
      record { sample = l.sample; first = l.first; too_long = rw (ap (λ (w : WriterState). w.counter) l.writer) long },
      omega (arith, long, l.few, short_text a.writer.counter l.sample.packets l.packets),
    )
