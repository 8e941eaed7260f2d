-- A step of an intake, by its parts.
use Rattle.std.proofs.Common.{◌≡◌, ℕ, ◌<◌, Bool, true, false, List, [], ◌∷◌, ◌++◌, length, sym, ap, ◌∙◌, subst}
use mathlib.Core.List.{IsPrefix}
use Rattle.xcp_base.specs.declared.item.Item.{Item}
use Rattle.xcp_base.specs.declared.item.Item.TheVariants.{Marker, Sample}
use Rattle.frame_ring.specs.Ends.{LooksForItems, TakeState}
use Rattle.frame_ring.specs.Heads.{head_of, item_head}
use Rattle.frame_ring.proofs.EndLemmas.{prefix_then}
use Rattle.frame_page.specs.Pages.{PageState}
use Rattle.slave_outbox.specs.Deeds.{Deed, passes}
use Rattle.slave_outbox.specs.Intakes.{IntakeState, StandsAfter, list_after}
use Rattle.slave_outbox.specs.IntakeInner.{LetsGo, LetsPass, Notes, TakesHead, lets_pass}
use Rattle.slave_outbox.specs.Steps.{HoldsNext, IsHeldBack, Passes, StepMeans}
use Rattle.slave_outbox.specs.declared.origin.Origin.{Origin}
use Rattle.slave_outbox.specs.declared.step.Step.{Step}
use Rattle.slave_outbox.specs.declared.step.Step.TheVariants.{Full, Marked, Nothing, Skipped, Wrote}
use Rattle.slave_outbox.proofs.DeedLemmas.{goes_on-marker, goes_on-skipped, goes_on-wrote, lets_pass-after, same_some}

-- whether the samples of a list pass is what is kept of it
passes-kept : (a : IntakeState) (l : ℕ) (may : Bool) → LetsPass a.lists l may → (deeds : List Deed) → StandsAfter a deeds → passes deeds l ≡ may
passes-kept a l may lets deeds stands =
    let same : list_after deeds l ≡ lets.kept = same_some _ _ (sym (stands.lists l lets.below) ∙ lets.found) in
    sym (lets_pass-after deeds l) ∙ ap lets_pass same ∙ sym lets.may_is

-- an intake behind a look at its ring, and behind a step
module _ (a b : IntakeState) (t : TakeState) (looked : LooksForItems a.end t) where
  gains : (x : Item) → LetsGo t b.end x → b.end.received ≡ a.end.received ++ x ∷ []
  gains x go = go.gains ∙ ap (λ xs. xs ++ x ∷ []) looked.received

  first_known : (x : Item) → LetsGo t b.end x → IsPrefix a.end.known (x ∷ b.end.known)
  first_known x go = prefix_then a.end.known t.known (x ∷ b.end.known) looked.grows go.first

  told : (x : Item) → LetsGo t b.end x → 0 < length a.end.known → head_of a.end.front ≡ item_head x
  told x go some = ap head_of (sym (looked.front some)) ∙ go.told

  -- a step is a look, what the first item comes to, and the note of it
  pub step-means : (p q : PageState Origin) (n c room : ℕ) (step : Step) → TakesHead t b.end a.lists p q n c room step → Notes a.lists b.lists step
      → StepMeans a b p q n c room step
  step-means p q n c room Nothing takes notes = absurd takes
  step-means p q n c room Full (s, len, next, lets, over, same, out) notes = (
    s,
    len,
    record { lists = notes; end = subst (λ e. LooksForItems a.end e) (sym same) looked },
    subst (λ e. HoldsNext e s len) (sym same) next,
    passes-kept a s.list true lets,
    over,
    out,
  )
  step-means p q n c room (Marked l) (x, go, is, below, out) notes = (
    x,
    record {
      goes_on = goes_on-marker a b x (subst (λ k. Notes a.lists b.lists (Marked k)) is notes) (gains (Marker x) go);
      gains = gains (Marker x) go;
      first_known = first_known (Marker x) go;
      told = told (Marker x) go;
      ring = go.ring ∙ looked.ring;
    },
    is,
    out,
  )
  step-means p q n c room (Skipped l) (s, go, is, lets, out) notes =
      let held : IsHeldBack a s.list = subst (λ k. IsHeldBack a k) is (passes-kept a l false lets) in (
        s,
        record {
          goes_on = goes_on-skipped a b s notes (gains (Sample s) go) held;
          gains = gains (Sample s) go;
          first_known = first_known (Sample s) go;
          told = told (Sample s) go;
          ring = go.ring ∙ looked.ring;
        },
        is,
        held,
        out,
      )
  step-means p q n c room (Wrote l len) (s, go, is, lets, lays) notes =
      let may : Passes a s.list = subst (λ k. Passes a k) is (passes-kept a l true lets) in (
        s,
        record {
          goes_on = goes_on-wrote a b s (subst (λ k. Notes a.lists b.lists (Wrote k len)) is notes) (gains (Sample s) go) may;
          gains = gains (Sample s) go;
          first_known = first_known (Sample s) go;
          told = told (Sample s) go;
          ring = go.ring ∙ looked.ring;
        },
        is,
        may,
        lays,
      )
