-- The plans of the lists of an event channel, list by list.
use Rattle.std.proofs.Common.{inl, inr, ◌≡◌, ℕ, zero, suc, ◌+◌, ◌*◌, ◌<◌, ◌≤◌, Bool, true, false, ◌&&◌, ◌||◌, List, [], ◌∷◌, ◌++◌, map, length, filter, nat_eq, nat_le, get_or, sym, refl, ap, ◌∙◌, arith, cond, subst, All}
use Rattle.std.specs.List.{list_all, range_with_len}
use Rattle.std.proofs.lemmas.List.Elements.{All-head, All-tail, filter-append}
use Rattle.std.proofs.lemmas.List.{get_or-map, length-map, map-append}
use Rattle.xcp_base.specs.declared.limits.TheConstants.{MAX_DTO, MAX_ODTS, RUN_CHANNELS}
use Rattle.xcp_base.specs.Packets.{packet_len}
use Rattle.channel_ring.specs.Making.{IsUpTo, SampleLimit, by_value}
use Rattle.daq_store.specs.Calls.{numbers_below}
use Rattle.daq_store.specs.Standing.{StoreState}
use Rattle.daq_store.specs.Limited.{is_by_value}
use Rattle.copy_plan.specs.Config.{ListPlan, IsPlan, elements_len}
use Rattle.copy_plan.specs.Frames.{frames_upto}
use Rattle.std.proofs.Math.Bool.{and-false, and-true}
use Rattle.std.proofs.lemmas.Bool.Decides.{eqb_tells, nat_tests}
use Rattle.daq_store.specs.Configuration.{channel_of, is_ready}
use Rattle.daq_store.specs.Standing.{conf_of}
use Rattle.sampler.specs.Limits.{AllKeepTo, KeepsTo}
use Rattle.sampler.specs.State.{ArePlansOf, RiseFrom}
use Rattle.daq_engine.specs.Openings.{HasFewOdts, is_ready_on, list_plan, channel_plans, fit_caps_of}

-- the plans of event channel c among the lists below n
abbrev pub plans_below : StoreState → ℕ → ℕ → List ListPlan
plans_below s c n = map (list_plan s) (filter (is_ready_on s c) (numbers_below n))

-- one number more at the end
pub range-next : (a n : ℕ) → range_with_len a (suc n) ≡ range_with_len a n ++ (a + n) ∷ []
range-next a zero = let e : a ≡ a + 0 = omega arith in ap (λ k. k ∷ []) e
range-next a (suc n) =
    let e : a + 1 + n ≡ a + suc n = omega arith in
    ap (λ xs. a ∷ xs) (range-next (a + 1) n) ∙ ap (λ k. a ∷ range_with_len (a + 1) n ++ k ∷ []) e

-- the plans below n, and that of list n if it is of the channel
pub plans-next : (s : StoreState) (c n : ℕ) → plans_below s c n ++ map (list_plan s) (filter (is_ready_on s c) (n ∷ [])) ≡ plans_below s c (n + 1)
plans-next s c n =
    let one : suc n ≡ n + 1 = omega arith in
    let here : 0 + n ≡ n = omega arith in
    let p = is_ready_on s c in
    sym (ap (λ k. plans_below s c k) (sym one)
    ∙ ap (λ xs. map (list_plan s) (filter p xs)) (range-next 0 n)
    ∙ ap (λ k. map (list_plan s) (filter p (numbers_below n ++ k ∷ []))) here
    ∙ ap (map (list_plan s)) (filter-append p (numbers_below n) (n ∷ []))
    ∙ map-append (list_plan s) (filter p (numbers_below n)) (filter p (n ∷ [])))

-- a list is in one of two sets, and runs
pub or-and : (a b r : Bool) → ((a && r) || (b && r)) ≡ ((a || b) && r)
or-and true true true = refl
or-and true true false = refl
or-and true false true = refl
or-and true false false = refl
or-and false true true = refl
or-and false true false = refl
or-and false false true = refl
or-and false false false = refl

-- asked of a list and whether it is list k, or the other way round and of list k
pub and-eqb : (f : ℕ → Bool) (l k : ℕ) → (f l && nat_eq l k) ≡ (nat_eq l k && f k)
and-eqb f l k =
    elim (eqb_tells l k) [
      | inl v ↦ ap (λ b. f l && b) v.0 ∙ and-true (f l) ∙ ap f v.1 ∙ sym (ap (λ b. b && f k) v.0)
      | inr v ↦ ap (λ b. f l && b) v.0 ∙ and-false (f l) ∙ sym (ap (λ b. b && f k) v.0)
    ]

and_left : (a b : Bool) → (a && b) ≡ true → a ≡ true
and_left true b h = refl
and_left false b h = absurd cc

and_right : (a b : Bool) → (a && b) ≡ true → b ≡ true
and_right true b h = h
and_right false b h = absurd cc

-- the event channel of a list that is ready on it
pub channel-ready : (s : StoreState) (c l : ℕ) → is_ready_on s c l ≡ true → (list_plan s l).channel ≡ c
channel-ready s c l h =
    let e : nat_eq (channel_of (conf_of s l).mode) c ≡ true = and_right (is_ready s.profile.segments (conf_of s l)) (nat_eq (channel_of (conf_of s l).mode) c) h in
    grind (arith, nat_tests, e)

of_channel-step : (s : StoreState) (c l : ℕ) (b : Bool) (ls : List ℕ) → (is_ready_on s c l ≡ b)
    → (All IsPlan (map (list_plan s) ls) → ArePlansOf c s.profile.segments (map (list_plan s) ls))
    → All IsPlan (map (list_plan s) (cond b (l ∷ ls) ls)) → ArePlansOf c s.profile.segments (map (list_plan s) (cond b (l ∷ ls) ls))
of_channel-step s c l true ls e rest h =
    ((All-head IsPlan (list_plan s l) (map (list_plan s) ls) h, channel-ready s c l e, refl), rest (All-tail IsPlan (list_plan s l) (map (list_plan s) ls) h))
of_channel-step s c l false ls e rest h = rest h

of_channel-among : (s : StoreState) (c : ℕ) (ls : List ℕ) → All IsPlan (map (list_plan s) (filter (is_ready_on s c) ls))
    → ArePlansOf c s.profile.segments (map (list_plan s) (filter (is_ready_on s c) ls))
of_channel-among s c [] h = tt
of_channel-among s c (l ∷ ls) h = of_channel-step s c l (is_ready_on s c l) (filter (is_ready_on s c) ls) refl (of_channel-among s c ls) h

-- they are plans of the channel, for images of the store's length
pub of_channel : (s : StoreState) (c : ℕ) (plans : List ListPlan) → plans ≡ channel_plans s c → All IsPlan plans → ArePlansOf c s.profile.segments plans
of_channel s c plans e h =
    subst (ArePlansOf c s.profile.segments) (sym e)
    (of_channel-among s c (numbers_below (length s.lists)) (subst (λ ps. All IsPlan ps) e h))

lower : (least more : ℕ) (plans : List ListPlan) → least ≤ more → RiseFrom more plans → RiseFrom least plans
lower least more [] h r = tt
lower least more (plan ∷ plans) h r = (omega (arith, h, r.0), r.1)

rising-step : (s : StoreState) (b : Bool) (l : ℕ) (ls : List ℕ) → RiseFrom (l + 1) (map (list_plan s) ls) → RiseFrom l (map (list_plan s) (cond b (l ∷ ls) ls))
rising-step s true l ls r = (omega arith, r)
rising-step s false l ls r = lower l (l + 1) (map (list_plan s) ls) (omega arith) r

pub rising-from : (s : StoreState) (c a n : ℕ) → RiseFrom a (map (list_plan s) (filter (is_ready_on s c) (range_with_len a n)))
rising-from s c a zero = tt
rising-from s c a (suc n) = rising-step s (is_ready_on s c a) a (filter (is_ready_on s c) (range_with_len (a + 1) n)) (rising-from s c (a + 1) n)

-- their list numbers rise
pub rising : (s : StoreState) (c : ℕ) (plans : List ListPlan) → plans ≡ channel_plans s c → RiseFrom 0 plans
rising s c plans e = subst (RiseFrom 0) (sym e) (rising-from s c 0 (length s.lists))

-- capacities that fit are as many as the store asks, and it is by value
many_that_fit : (may_have : ℕ → Bool) (s : StoreState) (caps : List ℕ) → fit_caps_of may_have s caps ≡ true
    → (nat_eq (length caps) s.profile.channels && nat_le (length caps) RUN_CHANNELS && is_by_value s.profile) ≡ true
many_that_fit may_have s caps h =
    and_left (nat_eq (length caps) s.profile.channels && nat_le (length caps) RUN_CHANNELS && is_by_value s.profile) (list_all may_have caps) h

-- they are one for each event channel
pub one_for_each : (may_have : ℕ → Bool) (s : StoreState) (caps : List ℕ) → fit_caps_of may_have s caps ≡ true → length caps ≡ s.profile.channels
one_for_each may_have s caps h =
    let many = and_left (nat_eq (length caps) s.profile.channels && nat_le (length caps) RUN_CHANNELS) (is_by_value s.profile) (many_that_fit may_have s caps h) in
    let e : nat_eq (length caps) s.profile.channels ≡ true = and_left (nat_eq (length caps) s.profile.channels) (nat_le (length caps) RUN_CHANNELS) many in
    grind (arith, nat_tests, e)

-- there are at most 8
pub few_that_fit : (may_have : ℕ → Bool) (s : StoreState) (caps : List ℕ) → fit_caps_of may_have s caps ≡ true → length caps ≤ RUN_CHANNELS
few_that_fit may_have s caps h =
    let many = and_left (nat_eq (length caps) s.profile.channels && nat_le (length caps) RUN_CHANNELS) (is_by_value s.profile) (many_that_fit may_have s caps h) in
    let e : nat_le (length caps) RUN_CHANNELS ≡ true = and_right (nat_eq (length caps) s.profile.channels) (nat_le (length caps) RUN_CHANNELS) many in
    grind (arith, nat_tests, e)

-- and the store's samples find room in a value of fixed size
pub value_that_fits : (may_have : ℕ → Bool) (s : StoreState) (caps : List ℕ) → fit_caps_of may_have s caps ≡ true → is_by_value s.profile ≡ true
value_that_fits may_have s caps h =
    and_right (nat_eq (length caps) s.profile.channels && nat_le (length caps) RUN_CHANNELS) (is_by_value s.profile) (many_that_fit may_have s caps h)

-- packets that are at most 64 bytes long have frames of at most 68
frames_short : (plan : ListPlan) (n : ℕ) → ((k : ℕ) → k < n → packet_len plan.form plan.stamped k (elements_len plan k) ≤ MAX_DTO) → frames_upto plan n ≤ n * 68
frames_short plan zero h = omega arith
frames_short plan (suc n) h = omega (arith, h n (omega arith), frames_short plan n (λ k here. h k (omega (arith, here))))

-- a plan of few and short packets keeps to what is admitted by value
keeps_by_value : (limit : SampleLimit) (plan : ListPlan) → IsUpTo by_value limit → IsPlan plan → length plan.odts ≤ MAX_ODTS → plan.form.max_dto ≤ MAX_DTO
    → KeepsTo limit plan
keeps_by_value limit plan least is few form =
    record {
      few = omega (arith, few, least.count);
      short = λ k here. omega (arith, is.short k here, form, least.packet);
      frames = omega (arith, frames_short plan (length plan.odts) (λ k here. omega (arith, is.short k here, form)), few, least.frames);
    }

-- so do the plans of a store that is by value
pub keep_by_value : (limit : SampleLimit) (s : StoreState) (c : ℕ) (plans : List ListPlan) → IsUpTo by_value limit → is_by_value s.profile ≡ true
    → plans ≡ channel_plans s c → All IsPlan plans → All (HasFewOdts s.profile.most_odts) plans → AllKeepTo limit plans
keep_by_value limit s c plans least by e is few = λ k d inside.
    let ready : List ℕ = filter (is_ready_on s c) (numbers_below (length s.lists)) in
    let few_odts : s.profile.most_odts ≤ MAX_ODTS =
    let t = and_left (nat_le s.profile.most_odts MAX_ODTS) (nat_le s.profile.form.max_dto MAX_DTO) by in grind (arith, nat_tests, t) in
    let short : s.profile.form.max_dto ≤ MAX_DTO =
    let t = and_right (nat_le s.profile.most_odts MAX_ODTS) (nat_le s.profile.form.max_dto MAX_DTO) by in grind (arith, nat_tests, t) in
    let there : k < length ready = omega (arith, inside, ap length e, length-map ready (list_plan s)) in
    let here : get_or plans k d ≡ list_plan s (get_or ready k 0) = ap (λ ps. get_or ps k d) e ∙ get_or-map (list_plan s) ready k 0 d there in
    let form : (get_or plans k d).form.max_dto ≡ s.profile.form.max_dto = ap (λ (p : ListPlan). p.form.max_dto) here in
    keeps_by_value limit (get_or plans k d) least (is k d inside) (omega (arith, few k d inside, few_odts)) (omega (arith, form, short))
