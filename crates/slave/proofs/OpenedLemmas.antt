-- What the parts of a measurement are opened with.
use Rattle.std.proofs.Common.{◌≡◌, ◌≢◌, ℕ, zero, suc, ◌+◌, ◌<◌, Bool, true, false, ◌&&◌, nat_eq, if◌then◌else◌, List, [], ◌∷◌, length, map, filter, refl, sym, ap, ◌∙◌, subst, arith, inl, inr}
use Rattle.std.specs.List.{range_with_len}
use Rattle.std.proofs.lemmas.Bool.Decides.{eqb_tells}
use Rattle.std.proofs.lemmas.List.{length-map}
use Rattle.xcp_base.specs.Forms.{first_pid_behind}
use Rattle.copy_plan.specs.Config.{plan_of as list_plan_of}
use Rattle.daq_store.specs.Calls.{Profile as ListsProfile, numbers_below}
use Rattle.daq_store.specs.Configuration.{channel_of, configuration, is_ready}
use Rattle.daq_store.specs.Shape.{list_count, odts_before}
use Rattle.daq_store.specs.Standing.{StoreStandsAfter, StoreState, first_pid_of}
use Rattle.daq_store.proofs.StandingLemmas.{active_stands, conf_after, count_stands, first_pid_stands}
use Rattle.daq_store.proofs.TableLemmas.{below_is}
use Rattle.daq_engine.specs.Openings.{IsOpeningOf, channel_plans, is_ready_on, list_plan}
use Rattle.sampler.specs.History.{Opening, is_list_of}
use Rattle.session.specs.Past.{Past}
use Rattle.session.specs.Profiles.{lists_of}
use Rattle.session.specs.Starts.{is_on, is_on_after}
use Rattle.session.specs.declared.event_channel.EventChannel.{EventChannel}
use Rattle.session.specs.declared.profile.Profile.{Profile}
use Rattle.slave.specs.Log.{Act, CameBack, Discarded, Heard, HungUp, Opened, Refused, Sent, Took, opened, past_of}
use Rattle.slave.specs.Openings.{IsOpeningAfter, capacities_in, past_at, plan_after, ready_plans}
use Rattle.slave.specs.Standing.{IsLog, NoneRuns}
use Rattle.slave.proofs.DeedLemmas.{opened-more}

-- as many capacities as event channels
pub capacities-many : (events : List EventChannel) → length (capacities_in events) ≡ length events
capacities-many events = length-map events (λ (x : EventChannel). x.capacity)

-- where a measurement is opened, and where another was
pub past-newest : (d : Profile) (at : ℕ → Bool) (log : List Act) → past_at d (opened log) (Opened at ∷ log) ≡ past_of d log
past-newest d at log =
    elim (eqb_tells (opened log) (opened log)) [
      | inl w ↦ ap (λ b. if b then past_of d log else past_at d (opened log) log) w.0
      | inr w ↦ absurd (w.1 refl)
    ]

pub past-other : (d : Profile) (m : ℕ) (at : ℕ → Bool) (log : List Act) → m ≢ opened log → past_at d m (Opened at ∷ log) ≡ past_at d m log
past-other d m at log other =
    elim (eqb_tells m (opened log)) [
      | inl w ↦ absurd (other w.1)
      | inr w ↦ ap (λ b. if b then past_of d log else past_at d m log) w.0
    ]

-- no list ran there
pub none-ran : (d : Profile) (m : ℕ) (log : List Act) → IsLog d log → m < opened log → NoneRuns (past_at d m log)
none-ran d m [] is there = absurd (omega (arith, there))
none-ran d m (Heard x ∷ log) is there = none-ran d m log is.2 there
none-ran d m (Refused packet code ∷ log) is there = none-ran d m log is.2 there
none-ran d m (Opened at ∷ log) is there =
    elim (eqb_tells m (opened log)) [
      | inl w ↦ subst NoneRuns (sym (ap (λ b. if b then past_of d log else past_at d m log) w.0)) is.0
      | inr w ↦ subst NoneRuns (sym (ap (λ b. if b then past_of d log else past_at d m log) w.0)) (none-ran d m log is.1 (omega (arith, there, opened-more at log, w.1)))
    ]
none-ran d m (Took n c x ∷ log) is there = none-ran d m log is.2 there
none-ran d m (CameBack n c past ∷ log) is there = none-ran d m log is.1 there
none-ran d m (Sent n ∷ log) is there = none-ran d m log is.1 there
none-ran d m (HungUp ∷ log) is there = none-ran d m log is there
none-ran d m (Discarded ∷ log) is there = none-ran d m log is there

-- the same of the same numbers
filtered-from : {X : Type 0} (f g : ℕ → X) (p q : ℕ → Bool) (a n : ℕ) → ((l : ℕ) → l < a + n → p l ≡ q l) → ((l : ℕ) → l < a + n → f l ≡ g l)
    → map f (filter p (range_with_len a n)) ≡ map g (filter q (range_with_len a n))
filtered-from f g p q a zero tests same = refl
filtered-from {X} f g p q a (suc n) tests same =
    let rest = filtered-from f g p q (a + 1) n (λ l below. tests l (omega (arith, below))) (λ l below. same l (omega (arith, below))) in
    one (p a) (q a) (tests a (omega arith)) (f a) (g a) (same a (omega arith)) (filter p (range_with_len (a + 1) n)) (filter q (range_with_len (a + 1) n)) rest where
      one : (b c : Bool) → b ≡ c → (x y : X) → x ≡ y → (ls ks : List ℕ) → map f ls ≡ map g ks → map f (if b then a ∷ ls else ls) ≡ map g (if c then a ∷ ks else ks)
      one true true t x y e ls ks r = ap (λ z. z ∷ map f ls) (same a (omega arith)) ∙ ap (λ zs. g a ∷ zs) r
      one true false t x y e ls ks r = absurd cc
      one false true t x y e ls ks r = absurd cc
      one false false t x y e ls ks r = r

-- a list of a store is ready on an event channel, and its plan, by the calls
ready-by : (d : Profile) (s : StoreState) (past : Past) (c l : ℕ) → StoreStandsAfter s past.calls → s.profile ≡ lists_of d → l < length s.lists → is_ready_on s c l ≡ is_on d past c l
ready-by d s past c l stands same there =
    let conf = conf_after s past.calls l stands there in
    ap (λ k. is_ready s.profile.segments k && nat_eq (channel_of k.mode) c) conf
    ∙ ap (λ b. (b && is_ready s.profile.segments (configuration s.profile.form past.calls l)) && nat_eq (channel_of (configuration s.profile.form past.calls l).mode) c) (sym (below_is l (list_count past.calls) (omega (arith, there, count_stands s past.calls stands))))
    ∙ ap (λ (p : ListsProfile). is_on_after p past.calls c l) same

pub plan-by-calls : (d : Profile) (s : StoreState) (past : Past) (l : ℕ) → StoreStandsAfter s past.calls → s.profile ≡ lists_of d → l < length s.lists → list_plan s l ≡ plan_after d past l
plan-by-calls d s past l stands same there =
    let pid = first_pid_stands s past.calls l stands (omega (arith, there, count_stands s past.calls stands)) in
    ap (λ k. list_plan_of l k (first_pid_of s l) s.profile.segments) (conf_after s past.calls l stands there)
    ∙ ap (λ k. list_plan_of l (configuration s.profile.form past.calls l) k s.profile.segments) pid
    ∙ ap (λ (p : ListsProfile). list_plan_of l (configuration p.form past.calls l) (first_pid_behind p.form.id (odts_before past.calls l)) p.segments) same

plans-by : (d : Profile) (s : StoreState) (past : Past) (c : ℕ) → StoreStandsAfter s past.calls → s.profile ≡ lists_of d → channel_plans s c ≡ ready_plans d past c
plans-by d s past c stands same =
    filtered-from (list_plan s) (plan_after d past) (is_ready_on s c) (is_on d past c) 0 (length s.lists)
    (λ l below. ready-by d s past c l stands same (omega (arith, below))) (λ l below. plan-by-calls d s past l stands same (omega (arith, below)))
    ∙ ap (λ n. map (plan_after d past) (filter (is_on d past c) (numbers_below n))) (count_stands s past.calls stands)

and-false : (b : Bool) → (b && false) ≡ false
and-false true = refl
and-false false = refl

-- the opening of a store, by the calls that led to it
pub opening-by : (d : Profile) (s : StoreState) (past : Past) (c : ℕ) (opening : Opening) → StoreStandsAfter s past.calls → s.profile ≡ lists_of d → NoneRuns past → IsOpeningOf s c opening → IsOpeningAfter d past c opening
opening-by d s past c opening stands same none is = record {
  channel = is.channel;
  plans = is.plans ∙ plans-by d s past c stands same;
  running = λ l below.
      is.running l ∙ ap (λ b. is_list_of opening l && b) (sym (active_stands s past.calls l stands) ∙ none l below) ∙ and-false (is_list_of opening l);
}
