-- Up to how many bytes a measurement lays samples out.
use Rattle.std.proofs.Common.{◌≡◌, ℕ, ◌+◌, ◌<◌, if◌then◌else◌, List, [], ◌∷◌, ◌++◌, length, map, refl, ap, ◌∙◌}
use Rattle.std.specs.Prelude.{max}
use Rattle.copy_plan.specs.Config.{ListPlan}
use Rattle.copy_plan.specs.Frames.{frames_len}
use Rattle.daq_engine.specs.Openings.{list_plan}
use Rattle.daq_store.specs.Calls.{Profile as ListsProfile, numbers_below}
use Rattle.daq_store.specs.Configuration.{configuration, is_ready}
use Rattle.daq_store.specs.Standing.{StoreStandsAfter, StoreState}
use Rattle.daq_store.proofs.StandingLemmas.{conf_after, count_stands}
use Rattle.session.specs.Past.{Past}
use Rattle.session.specs.Profiles.{lists_of}
use Rattle.session.specs.Standing.{SessionStandsAfter, SessionState}
use Rattle.session.specs.declared.profile.Profile.{Profile}
use Rattle.slave_outbox.specs.declared.limits.TheConstants.{PAGE}
use Rattle.slave.specs.Openings.{plan_after}
use Rattle.slave.specs.Pages.{greatest, page_after, page_over, ready_frames, ready_frames_of}
use Rattle.slave.proofs.OpenedLemmas.{plan-by-calls}
use Rattle.slave.proofs.PlanLemmas.{map-next, map-same}

greatest-push : (n : ℕ) (xs : List ℕ) (x : ℕ) → greatest n (xs ++ x ∷ []) ≡ max (greatest n xs) x
greatest-push n [] x = refl
greatest-push n (y ∷ xs) x = greatest-push (max n y) xs x

-- the greatest of one more
pub greatest-next : (f : ℕ → ℕ) (n k : ℕ) → greatest n (map f (numbers_below (k + 1))) ≡ max (greatest n (map f (numbers_below k))) (f k)
greatest-next f n k = ap (greatest n) (map-next f k) ∙ greatest-push n (map f (numbers_below k)) (f k)

-- the frames of a list of a store, by the calls that led to it
frames-by : (d : Profile) (s : StoreState) (past : Past) (l : ℕ) → StoreStandsAfter s past.calls → s.profile ≡ lists_of d → l < length s.lists → ready_frames_of s l ≡ ready_frames d past l
frames-by d s past l stands same there =
    ap (λ k. if is_ready s.profile.segments k then frames_len (list_plan s l) else 0) (conf_after s past.calls l stands there)
    ∙ ap (λ (p : ListPlan). if is_ready s.profile.segments (configuration s.profile.form past.calls l) then frames_len p else 0) (plan-by-calls d s past l stands same there)
    ∙ ap (λ (p : ListsProfile). if is_ready p.segments (configuration p.form past.calls l) then frames_len (plan_after d past l) else 0) same

-- the page of a measurement that is opened over a store
pub page-by : (d : Profile) (s : SessionState) (past : Past) → s.store.profile ≡ lists_of d → SessionStandsAfter s past → page_over s.store ≡ page_after d past
page-by d s past same stands =
    ap (greatest PAGE)
    (map-same (ready_frames_of s.store) (ready_frames d past) (length s.store.lists) (λ l below. frames-by d s.store past l stands.store same below)
    ∙ ap (λ n. map (ready_frames d past) (numbers_below n)) (count_stands s.store past.calls stands.store))
