-- What a watch is told of steps.
use Rattle.std.proofs.Common.{ℕ, ◌+◌, List, [], ◌∷◌, ◌++◌, refl, sym, subst, arith, length-append}
use Rattle.channel_ring.specs.declared.ends.SendEnd.{Ghosts as SendGhosts}
use Rattle.channel_ring.specs.declared.ends.RingEnd.{Ghosts as EndGhosts}
use Rattle.daq_engine.specs.Engines.{EngineState}
use Rattle.daq_run.specs.Cames.{AreCames, IsCame, TellsCames}
use Rattle.daq_run.specs.Steps.{RunStep}
use Rattle.std.proofs.lemmas.List.Sums.{sum_by-append}
use Rattle.daq_run.specs.declared.came.Came.{Came}
use Rattle.daq_run.specs.Watched.{IsTold, TellsSteps, refusals}

module _ {W : Type 0} (notes : W → Came → W → Type 0) where
  told-more : (a b c : W) (cames : List Came) (came : Came) → IsTold notes a b cames → notes b came c → IsTold notes a c (cames ++ came ∷ [])
  told-more a b c [] came told n = (c, subst (λ w. notes w came c) (sym told) n, refl)
  told-more a b c (x ∷ xs) came (m, first, rest) n = (m, first, told-more m b c xs came rest n)

  -- nothing was told yet
  pub tells_none : (a : W) → TellsSteps notes a a 0 0
  tells_none a = record { cames = []; told = refl; each = refl; counted = refl }

  -- one step more was told
  pub tells_more : (a b c : W) (i refused : ℕ) (came : Came) → TellsSteps notes a b i refused → notes b came c → TellsSteps notes a c (i + 1) (refused + refusals came)
  tells_more a b c i refused came t n =
      let all = sum_by-append (λ (x : Came). refusals x) t.cames (came ∷ []) in
      let parts = length-append t.cames (came ∷ []) in
      record {
        cames = t.cames ++ came ∷ [];
        told = told-more a b c t.cames came t.told n;
        each = omega (arith, parts, t.each);
        counted = omega (arith, all, t.counted);
      }

module _ {S E W : Type 0} (send : SendGhosts S E) (ring : EndGhosts E) (notes : W → Came → W → Type 0) where
  cames-more : (a b d : EngineState S) (steps : List RunStep) (cames : List Came) (step : RunStep) (came : Came)
      → AreCames send ring a steps cames b → IsCame send ring b d step came → AreCames send ring a (steps ++ step ∷ []) (cames ++ came ∷ []) d
  cames-more a b d [] [] step came are is = (d, subst (λ (e : EngineState S). IsCame send ring e d step came) are is, refl)
  cames-more a b d [] (y ∷ ys) step came are is = absurd are
  cames-more a b d (x ∷ xs) [] step came are is = absurd are
  cames-more a b d (x ∷ xs) (y ∷ ys) step came (m, first, rest) is = (m, first, cames-more m b d xs ys step came rest is)

  -- no step was done yet
  pub tells_no_came : (a : EngineState S) (w : W) → TellsCames send ring notes a a w w [] 0
  tells_no_came a w = record { cames = []; told = refl; came = refl; counted = refl }

  -- one step more was done, and what came of it was told
  pub tells_came : (a b d : EngineState S) (u v w : W) (steps : List RunStep) (refused : ℕ) (step : RunStep) (came : Came)
      → TellsCames send ring notes a b u v steps refused → IsCame send ring b d step came → notes v came w
      → TellsCames send ring notes a d u w (steps ++ step ∷ []) (refused + refusals came)
  tells_came a b d u v w steps refused step came t is n =
      let all = sum_by-append (λ (x : Came). refusals x) t.cames (came ∷ []) in
      record {
        cames = t.cames ++ came ∷ [];
        told = told-more notes u v w t.cames came t.told n;
        came = cames-more a b d steps t.cames step came t.came is;
        counted = omega (arith, all, t.counted);
      }
