-- From an engine that was opened, and samplers that did their steps in threads, to a run.
use Rattle.std.proofs.Common.{◌≡◌, ℕ, ◌<◌, ◌≤◌, inl, inr, true, false, List, [], ◌∷◌, length, map, Option, Some, None, refl, sym, ap, ap₂, subst, ◌∙◌, arith, length-append}
use Rattle.std.specs.Prelude.{◌==◌, cond, slice_get, slice_index, slice_index_or}
use Rattle.std.specs.Option.{option_map}
use Rattle.std.proofs.lemmas.List.{length-map}
use Rattle.std.proofs.lemmas.Option.{slice_get-map, slice_get_within}
use Rattle.xcp_base.specs.Samples.{SampleParts}
use Rattle.xcp_base.specs.declared.item.Item.{Item}
use Rattle.xcp_base.specs.declared.item.Item.TheVariants.{Sample}
use Rattle.xcp_base.specs.declared.limits.TheConstants.{MAX_TAKEN}
use Rattle.segments.specs.Image.{image_len}
use Rattle.channel_ring.specs.declared.ends.SendEnd.{Ghosts as SendGhosts}
use Rattle.channel_ring.specs.declared.ends.RingEnd.{Ghosts as EndGhosts}
use Rattle.frame_writer.specs.Shown.{OutState}
use Rattle.run_file.specs.RunFile.{RunData}
use Rattle.sampler.specs.History.{Opening, due}
use Rattle.sampler.specs.Standing.{DropsOnlyWhenFull}
use Rattle.sampler.specs.State.{JoinedEnd, SamplerEndState, SamplerState, joined, sent_by}
use Rattle.transmitter.specs.Looks.{AreOfRings}
use Rattle.transmitter.specs.Merge.{taken_from}
use Rattle.transmitter.specs.Written.{HasTaken, TransmitterState}
use Rattle.transmitter.proofs.TakenLemmas.{taken_from-append}
use Rattle.daq_engine.specs.Closed.{ClosesWith, HasClosed, WasDrained}
use Rattle.daq_engine.specs.Configuration.{IsConfiguration, upto}
use Rattle.daq_engine.specs.Engines.{EngineState}
use Rattle.daq_engine.specs.Headline.{AllStand, AreEndsOf}
use Rattle.daq_engine.specs.Openings.{IsOpeningOf}
use Rattle.daq_engine.specs.Order.{held_of}
use Rattle.daq_engine.specs.Samplers.{AreBeside}
use Rattle.daq_engine.specs.declared.report.Report.{Report}
use Rattle.daq_engine.proofs.EndLemmas.{get_or-upto}
use Rattle.daq_run.specs.Answers.{AreAnswered, Setting}
use Rattle.daq_run.specs.StepRuns.{sent_in, taken_in}
use Rattle.daq_run.specs.Samplings.{setting_of_sampler}
use Rattle.daq_run.specs.Steps.{asked_of, run_step}
use Rattle.daq_run.proofs.AskLemmas.{read_at, sampler_at}
use Rattle.daq_run.proofs.StepLemmas.{stay_still}
use Rattle.daq_run.specs.Faults.{StandsAtFault, StopsBehind}
use Rattle.daq_run.specs.Inner.Opened.{IsRunOpened}
use Rattle.daq_run.specs.Runs.{cost_in, settings_of_run}
use Rattle.daq_run.specs.Threads.{HasRunApart, StopsAmongThreads, ThreadsComeTo, ThreadsStandAtFault, refused_in}
use Rattle.daq_run.specs.Inner.Workers.{HaveWorked, KeepsTaking, MayComeLate}
use Rattle.daq_run.specs.declared.sim_fault.SimFault.{SimFault}
use Rattle.daq_run.specs.declared.sim_fault.SimFault.TheVariants.{EndLost, Memory, NoThread, NothingRunning, SetupWrite}
use Rattle.daq_run.proofs.AmpleLemmas.{ample}
use Rattle.daq_run.proofs.ApartLemmas.{Apart, apart}
use Rattle.daq_run.proofs.DrainLemmas.{end_beyond, few_at_last, none_beyond}
use Rattle.daq_run.proofs.ItemLemmas.{few_sent}
use Rattle.daq_run.proofs.RunLemmas.{as_many, setting}
use Rattle.daq_run.proofs.TakenLemmas.{eight_rings, few_of_each}

-- openings that are the same are of one configuration too
same_configuration : (n : ℕ) (openings others : ℕ → Opening) → ((c : ℕ) → others c ≡ openings c) → IsConfiguration n openings → IsConfiguration n others
same_configuration n openings others same conf = record {
  numbered = λ c within. subst (λ (o : Opening). o.channel ≡ c) (sym (same c)) (conf.numbered c within);
  ready = λ c i p within at. conf.ready c i p within (ap (λ (o : Opening). slice_get o.plans i) (sym (same c)) ∙ at);
  once = λ c e i j p q c_within e_within p_at q_at is.
      conf.once c e i j p q c_within e_within (ap (λ (o : Opening). slice_get o.plans i) (sym (same c)) ∙ p_at) (ap (λ (o : Opening). slice_get o.plans j) (sym (same e)) ∙ q_at) is;
  apart = λ c e i j p q c_within e_within p_at q_at is.
      conf.apart c e i j p q c_within e_within (ap (λ (o : Opening). slice_get o.plans i) (sym (same c)) ∙ p_at) (ap (λ (o : Opening). slice_get o.plans j) (sym (same e)) ∙ q_at) is;
}

few_held : (c : ℕ) (hand : Option SampleParts) → length (held_of c hand) ≤ 1
few_held c None = omega arith
few_held c (Some s) = elim (s.channel == c) as (λ b. length (cond b (Sample s ∷ []) []) ≤ 1) [ true ↦ omega arith | false ↦ omega arith ]

module _ {S E : Type 0} (send : SendGhosts S E) (ring : EndGhosts E) (run : RunData) (cost : ring.cost ≡ cost_in run.ring) (before : OutState)
    (a : EngineState S) (opened : IsRunOpened send ring run before a) (t : TransmitterState) (takes : KeepsTaking a.transmitter t) where
  -- there is a sampler for each channel
  pub many_samplers : length a.samplers ≡ run.channels
  many_samplers = as_many send ring run cost before a a opened (stay_still send ring a.samplers)

  -- what the transmitter took
  abbrev items : List (ℕ × Item)
  items = (takes.more opened.writer [] opened.stands.transmitter).0

  taken : HasTaken opened.writer t items
  taken = (takes.more opened.writer [] opened.stands.transmitter).1

  pub stops_among : (after : OutState) → after ≡ t.writer.out → StopsAmongThreads run before after
  stops_among after is = record {
    store = opened.store;
    writer = opened.writer;
    set_up = opened.set_up;
    running = opened.running;
    items = items;
    transmitter = t;
    taken = taken;
    written = is;
  }

  module _ (es : List (SamplerEndState E)) (refused : ℕ) (worked : HaveWorked send ring a.samplers (map run_step run.steps) es refused) where
    got : Apart send ring a.samplers (map run_step run.steps) es opened.openings refused
    got = apart send ring a.samplers (map run_step run.steps) es opened.openings refused worked opened.opened.stands

    abbrev ends : List JoinedEnd
    ends = map (joined ring) es

    many_ends : length es ≡ run.channels
    many_ends =
        sym (length-map es (λ (e : SamplerEndState E). e.channel)) ∙ (ap length got.channels ∙ (length-map a.samplers (λ (s : SamplerState S). s.channel) ∙ many_samplers))

    many_joined : length ends ≡ run.channels
    many_joined = length-map es (joined ring) ∙ many_ends

    -- the ends are those of the transmitter's rings
    pub of_rings : AreBeside send a.samplers a.transmitter → AreOfRings ring t es
    of_rings beside = takes.rings ∙ (beside.rings ∙ sym got.rings)

    pub are_ends : AreBeside send a.samplers a.transmitter → AreEndsOf t es
    are_ends beside =
        let many : length a.samplers ≡ length t.rings = sym (ap length (takes.rings ∙ beside.rings) ∙ length-map a.samplers (λ (s : SamplerState S). send.ring s.end)) in
        got.channels ∙ (beside.channels ∙ ap (upto 0) many)

    number : (c : ℕ) (s : SamplerState S) → c < run.channels → slice_get a.samplers c ≡ Some s → s.channel ≡ c
    number c s within at =
        let there : c < opened.store.profile.channels = subst (λ p. c < p.channels) (sym opened.set_up.store.profile) within in
        sym (read_at (λ (x : SamplerState S). x.channel) 0 a.samplers c s at)
        ∙ (ap (λ ns. slice_index_or ns c 0) opened.opened.channels ∙ (get_or-upto 0 opened.store.profile.channels c there ∙ omega arith))

    setting_here : (c : ℕ) (s : SamplerState S) → c < run.channels → slice_get a.samplers c ≡ Some s → setting_of_sampler send ring s ≡ settings_of_run run c
    setting_here c s within at =
        ap₂ (λ (i n : ℕ). record { image_len = i; capacity = n; cost = ring.cost }) (sym (read_at (λ (x : SamplerState S). image_len x.segments) 0 a.samplers c s at)) (sym (read_at (λ (x : SamplerState S). send.capacity x.end) 0 a.samplers c s at))
        ∙ setting send ring run cost before a a opened (stay_still send ring a.samplers) c within

    answered : (c : ℕ) → c < run.channels → AreAnswered (settings_of_run run c) (asked_of c (map run_step run.steps)) (got.told c) (got.past c)
    answered c within =
        let many = many_samplers in
        let one = sampler_at a.samplers c (omega (arith, within, many)) in
        subst (λ (s : Setting). AreAnswered s (asked_of c (map run_step run.steps)) (got.told c) (got.past c)) (setting_here c one.0 within one.1)
        (subst (λ k. AreAnswered (setting_of_sampler send ring one.0) (asked_of k (map run_step run.steps)) (got.told c) (got.past c)) (number c one.0 within one.1) (got.answered c one.0 one.1))

    opening : (c : ℕ) → c < run.channels → IsOpeningOf opened.store c (got.past c).opening
    opening c within =
        let there : c < opened.store.profile.channels = subst (λ p. c < p.channels) (sym opened.set_up.store.profile) within in
        subst (IsOpeningOf opened.store c) (sym (got.opened c)) (opened.opened.of_store c there)

    -- the end of a channel
    end_at : (c : ℕ) → c < run.channels → (e : SamplerEndState E) × (slice_get es c ≡ Some e)
    end_at c within = let many = many_ends in sampler_at es c (omega (arith, within, many))

    joined_at : (c : ℕ) (e : SamplerEndState E) → slice_get es c ≡ Some e → slice_get ends c ≡ Some (joined ring e)
    joined_at c e at = slice_get-map (joined ring) es c ∙ ap (option_map (joined ring)) at

    decided : (c : ℕ) → c < run.channels → length (got.past c).decisions ≡ length (due (got.past c).opening (got.past c).history)
    decided c within =
        let one = end_at c within in
        (got.stand c (joined ring one.0) (joined_at c one.0 one.1)).decisions

    drops : (c : ℕ) → c < run.channels → DropsOnlyWhenFull (settings_of_run run c).capacity (settings_of_run run c).cost (got.past c)
    drops c within =
        let one = end_at c within in
        let stands = got.stand c (joined ring one.0) (joined_at c one.0 one.1) in
        let capacity : one.0.capacity ≡ slice_index run.caps c = sym (read_at (λ (e : SamplerEndState E). e.capacity) 0 es c one.0 one.1) ∙ ap (λ ns. slice_index ns c) (got.capacities ∙ opened.opened.capacities) in
        subst (λ f. DropsOnlyWhenFull (slice_index run.caps c) f (got.past c)) cost (subst (λ n. DropsOnlyWhenFull n ring.cost (got.past c)) capacity stands.drops)

    configuration : IsConfiguration run.channels (λ c. (got.past c).opening)
    configuration =
        subst (λ n. IsConfiguration n (λ c. (got.past c).opening)) (ap (λ p. p.channels) opened.set_up.store.profile)
        (same_configuration opened.store.profile.channels opened.openings (λ c. (got.past c).opening) got.opened opened.opened.configuration)

    all_stand : AllStand ends got.past
    all_stand = record {
      configuration = subst (λ n. IsConfiguration n (λ c. (got.past c).opening)) (sym many_joined) configuration;
      stand = got.stand;
    }

    pub has_run : HasRunApart run before refused
    has_run = record {
      writer = opened.writer;
      past = got.past;
      has_pasts = record {
        store = opened.store;
        keeps = opened.keeps;
        set_up = opened.set_up;
        some_list_runs = opened.running;
        openings = opening;
        configuration = configuration;
        decided = decided;
        drops = drops;
      };
      told = got.told;
      answered = answered;
      counted = got.counted ∙ ap (λ n. refused_in n got.told) many_samplers;
      ample = λ c within holds. ample (settings_of_run run c) (asked_of c (map run_step run.steps)) (got.told c) (got.past c) holds (answered c within) (decided c within) (drops c within);
      items = items;
      transmitter = t;
      taken = taken;
    }

    -- what each channel sent is little
    few : (c : ℕ) → c < length ends → length (sent_in (got.past c)) ≤ 16000000
    few c at =
        let many = many_joined in
        let within : c < run.channels = omega (arith, at, many) in
        let steps = length-map run.steps run_step in
        let l = opened.limits.steps in
        few_sent (settings_of_run run c) c (map run_step run.steps) (got.told c) (got.past c) opened.store (answered c within) (opening c within) opened.keeps.lists (omega (arith, steps, l))

    module _ (report : Report) (after : OutState) (closes : ClosesWith run.drain t ends report after) (received : length t.received ≡ length t.rings) (beside : AreBeside send a.samplers a.transmitter) where
      closed : HasClosed run.drain opened.writer items t ends got.past report after
      closed = closes opened.writer items got.past taken all_stand

      many_received : length t.received ≡ run.channels
      many_received = received ∙ (ap length (takes.rings ∙ beside.rings) ∙ (length-map a.samplers (λ (s : SamplerState S). send.ring s.end) ∙ many_samplers))

      -- so what the transmitter took meanwhile is little too
      few_from : (c : ℕ) (at : Option JoinedEnd) → slice_get ends c ≡ at → length (taken_from c items) ≤ 16000001
      few_from c None is =
          let beyond = end_beyond ends c is in
          let many = many_joined in
          let all = many_received in
          omega (arith, ap length (taken.merge.each c ∙ none_beyond t.received c (omega (arith, beyond, many, all))))
      few_from c (Some e) is =
          let keeps = closed.headline.settled.each c e is in
          let front = keeps.order.prefix in
          let later = ap length (sym (taken_from-append c items closed.more) ∙ closed.taken.merge.each c) in
          let parts = length-append (taken_from c items) (taken_from c closed.more) in
          let own = few c (slice_get_within ends c e is) in
          omega (arith, later, parts, ap length keeps.order.all_received, length-append keeps.front (held_of c closed.last.hand), few_held c closed.last.hand, ap length front.1, length-append keeps.front front.0, own)

      few_before : t.taken ≤ 128000008
      few_before =
          let eight = opened.limits.channels in
          let all = many_received in
          let few_all = few_of_each 8 16000001 items (λ c above. taken.merge.each c ∙ none_beyond t.received c (omega (arith, above, all, eight))) (λ c. few_from c (slice_get ends c) refl) in
          omega (arith, few_all, eight_rings, taken.taken)

      few_drained : run.drain ≡ true → closed.last.taken < MAX_TAKEN
      few_drained wanted =
          let many = many_joined in
          let eight = opened.limits.channels in
          few_at_last ends got.past (omega (arith, many, eight)) (λ c e at. (got.stand c e at).sent) few t closed.last few_before
          (subst (λ d. WasDrained d (sent_by ends) t closed.last) wanted closed.drained)

      pub threads_come_to : ThreadsComeTo run before refused report after
      unfolding has_run
      threads_come_to = record {
        has_run = has_run;
        closed = record {
          ends = ends;
          as_many = many_joined;
          sent = λ c e at. (got.stand c e at).sent;
          closed = closed;
          few_taken = few_drained;
          nothing_left = λ wanted good. closed.nothing_left wanted good (few_drained wanted);
        };
      }

-- a fault that comes late
pub late_at : (run : RunData) (before after : OutState) (fault : SimFault) → MayComeLate fault → StopsAmongThreads run before after → ThreadsStandAtFault run before after fault
late_at run before after Memory late among = inr (inr among)
late_at run before after NothingRunning late among = absurd late
late_at run before after SetupWrite late among = absurd late
late_at run before after EndLost late among = among
late_at run before after NoThread late among = among

among_behind : (run : RunData) (before after : OutState) → StopsBehind run before after → StopsAmongThreads run before after
among_behind run before after b = record {
  store = b.has_run.has_pasts.store;
  writer = b.has_run.writer;
  set_up = b.has_run.has_pasts.set_up;
  running = b.has_run.has_pasts.some_list_runs;
  items = taken_in b.has_run.done;
  transmitter = b.has_run.transmitter;
  taken = b.has_run.taken;
  written = b.written;
}

-- one that came before
pub early_at : (run : RunData) (before after : OutState) (fault : SimFault) → StandsAtFault run before after fault → ThreadsStandAtFault run before after fault
early_at run before after Memory (inl stops) = inl stops
early_at run before after Memory (inr (inl stops)) = inr (inl stops)
early_at run before after Memory (inr (inr stops)) = inr (inr (among_behind run before after stops))
early_at run before after NothingRunning stops = stops
early_at run before after SetupWrite stops = stops
early_at run before after EndLost stops = among_behind run before after stops
early_at run before after NoThread stops = absurd stops
