-- How DAQ lists were set up, and one more of the first numbers.
use Rattle.std.proofs.Common.{◌≡◌, ℕ, zero, suc, ◌+◌, ◌<◌, Bool, true, List, [], ◌∷◌, ◌++◌, length, map, slice_get, zero-add, refl, sym, ap, ◌∙◌, arith}
use Rattle.std.specs.Prelude.{Some}
use Rattle.std.proofs.lemmas.List.FromFn.{get_or-map-range_with_len, length-map-range_with_len}
use Rattle.std.proofs.lemmas.Option.{slice_get-get_or}
use Rattle.daq_store.proofs.StandingLemmas.{conf_after, count_stands, is_list_stands}
use Rattle.daq_store.proofs.TableLemmas.{below_from, below_is}
use Rattle.daq_store.specs.Configuration.{Configuration, configuration}
use Rattle.daq_store.specs.Shape.{is_list, list_count}
use Rattle.daq_store.specs.Calls.{Profile as ListsProfile}
use Rattle.daq_store.specs.Standing.{conf_of}
use Rattle.session.specs.Past.{Past}
use Rattle.session.specs.Profiles.{lists_of}
use Rattle.session.specs.SetUps.{set_up_of}
use Rattle.session.specs.Standing.{SessionStandsAfter, SessionState}
use Rattle.session.specs.declared.profile.Profile.{Profile}
use Rattle.slave.specs.Log.{Act, Opened, past_of}
use Rattle.slave.specs.Plans.{IsAsOpened, IsSame, plan_at, plan_of, set_up, set_ups}
use Rattle.std.specs.List.{range_with_len}
use Rattle.std.proofs.lemmas.List.{map-append}
use Rattle.daq_store.specs.Calls.{numbers_below}

range-next : (a n : ℕ) → range_with_len a (suc n) ≡ range_with_len a n ++ (a + n) ∷ []
range-next a zero = let e : a ≡ a + 0 = omega arith in ap (λ k. k ∷ []) e
range-next a (suc n) =
    let e : a + 1 + n ≡ a + suc n = omega arith in
    ap (λ xs. a ∷ xs) (range-next (a + 1) n) ∙ ap (λ k. a ∷ range_with_len (a + 1) n ++ k ∷ []) e

pub map-next : {X : Type 0} (f : ℕ → X) (n : ℕ) → map f (numbers_below (n + 1)) ≡ map f (numbers_below n) ++ f n ∷ []
map-next f n =
    let one : n + 1 ≡ suc n = omega arith in
    ap (λ k. map f (numbers_below k)) one ∙ ap (map f) (range-next 0 n) ∙ map-append f (numbers_below n) ((0 + n) ∷ [])
    ∙ ap (λ k. map f (numbers_below n) ++ f k ∷ []) (zero-add n)

pub map-same : {X : Type 0} (f g : ℕ → X) (n : ℕ) → ((l : ℕ) → l < n → f l ≡ g l) → map f (numbers_below n) ≡ map g (numbers_below n)
map-same f g zero same = refl
map-same f g (suc n) same =
    let one : suc n ≡ n + 1 = omega arith in
    ap (λ k. map f (numbers_below k)) one ∙ map-next f n
    ∙ ap (λ xs. xs ++ f n ∷ []) (map-same f g n (λ l below. same l (omega (arith, below)))) ∙ ap (λ x. map g (numbers_below n) ++ x ∷ []) (same n (omega arith))
    ∙ sym (ap (λ k. map g (numbers_below k)) one ∙ map-next g n)

-- what is set of a list that is there
shown-set-up : (d : Profile) (s : SessionState) (past : Past) (l : ℕ) → s.store.profile ≡ lists_of d → SessionStandsAfter s past → l < length s.store.lists → set_up_of (conf_of s.store l) ≡ set_up d past l
shown-set-up d s past l same stands below =
    ap set_up_of (conf_after s.store past.calls l stands.store below ∙ ap (λ (p : ListsProfile). configuration p.form past.calls l) same)

-- the plan that is made of a store
pub plan-by : (d : Profile) (s : SessionState) (past : Past) → s.store.profile ≡ lists_of d → SessionStandsAfter s past → plan_of s.store ≡ set_ups d past
plan-by d s past same stands =
    map-same (λ l. set_up_of (conf_of s.store l)) (set_up d past) (length s.store.lists) (λ l below. shown-set-up d s past l same stands below)
    ∙ ap (λ n. map (set_up d past) (numbers_below n)) (count_stands s.store past.calls stands.store)

-- a list stands as it did where the store and the plan say so
pub as-opened : (d : Profile) (s : SessionState) (plan : List Configuration) (log : List Act) (l : ℕ) → s.store.profile ≡ lists_of d → SessionStandsAfter s (past_of d log) → plan ≡ plan_at d log
    → IsSame plan s.store l → IsAsOpened d log l
as-opened d s plan log l same stands is l_same = (
  is_list_stands s.store (past_of d log).calls l stands.store ∙ below_is l (length s.store.lists) l_same.there,
  ap (λ xs. slice_get xs l) (sym is) ∙ l_same.same ∙ ap Some (shown-set-up d s (past_of d log) l same stands l_same.there),
)

pub is-same : (d : Profile) (s : SessionState) (plan : List Configuration) (log : List Act) (l : ℕ) → s.store.profile ≡ lists_of d → SessionStandsAfter s (past_of d log) → plan ≡ plan_at d log
    → IsAsOpened d log l → IsSame plan s.store l
is-same d s plan log l same stands is opened =
    let there : l < length s.store.lists = below_from l (length s.store.lists) (sym (is_list_stands s.store (past_of d log).calls l stands.store) ∙ opened.0) in
    record {
      there = there;
      same = ap (λ xs. slice_get xs l) is ∙ opened.1 ∙ ap Some (sym (shown-set-up d s (past_of d log) l same stands there));
    }

-- where a measurement was just opened, each list that is there stands as it did
pub just-opened : (d : Profile) (at : ℕ → Bool) (log : List Act) (l : ℕ) → is_list (past_of d log).calls l ≡ true → IsAsOpened d (Opened at ∷ log) l
just-opened d at log l there =
    let past = past_of d log in
    let n = list_count past.calls in
    let below : l < n = below_from l n there in
    let f = set_up d past in
    (there, slice_get-get_or (map f (numbers_below n)) l (f l) (omega (arith, length-map-range_with_len f 0 n, below)) ∙ ap Some (get_or-map-range_with_len f 0 n l l (f l) below (omega arith)))
