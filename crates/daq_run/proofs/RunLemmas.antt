-- From an engine that was opened and did its steps to a run.
use Rattle.std.proofs.Common.{◌≡◌, ◌⊎◌, ℕ, ◌*◌, ◌<◌, ◌≤◌, inl, inr, All, true, List, length, map, take, Some, sym, ap, ap₂, subst, ◌∙◌, arith}
use Rattle.std.specs.Prelude.{slice_get, slice_index}
use Rattle.std.proofs.lemmas.List.{get_or-map, length-map}
use Rattle.std.proofs.lemmas.List.Elements.{All-get_or}
use Rattle.std.proofs.lemmas.Option.{slice_get_within}
use Rattle.std.proofs.Math.Nat.{mul-le-mul_left, mul-le-mul_right}
use Rattle.xcp_base.specs.declared.item.Item.{Item}
use Rattle.xcp_base.specs.declared.limits.TheConstants.{MAX_TAKEN}
use Rattle.segments.specs.Image.{image_len}
use Rattle.channel_ring.specs.declared.ends.SendEnd.{Ghosts as SendGhosts}
use Rattle.channel_ring.specs.declared.ends.RingEnd.{Ghosts as EndGhosts}
use Rattle.frame_writer.specs.Shown.{OutState}
use Rattle.run_file.specs.RunFile.{RunData}
use Rattle.sampler.specs.State.{JoinedEnd, SamplerState, sent_by}
use Rattle.sampler.specs.Standing.{DropsOnlyWhenFull}
use Rattle.transmitter.specs.Merge.{of_ring}
use Rattle.daq_engine.specs.Closed.{WasDrained}
use Rattle.daq_engine.specs.Closings.{ClosesEngine}
use Rattle.daq_engine.specs.Configuration.{IsConfiguration}
use Rattle.daq_engine.specs.Engines.{EngineState, Standing}
use Rattle.daq_engine.specs.Openings.{IsOpeningOf}
use Rattle.daq_engine.specs.Samplers.{StayThose}
use Rattle.daq_engine.specs.declared.report.Report.{Report}
use Rattle.daq_engine.proofs.BesideLemmas.{as_many_stay}
use Rattle.daq_engine.proofs.EndLemmas.{length-upto, sent_at}
use Rattle.daq_run.specs.Answers.{AreAnswered, Setting}
use Rattle.daq_run.specs.StepRuns.{AreDone, HasDone, TakesFront, past_after, sent_in, settings_of_samplers, taken_in, told_of}
use Rattle.daq_run.specs.Steps.{asked_of, run_step}
use Rattle.daq_run.proofs.AskLemmas.{read_at, sampler_at}
use Rattle.daq_run.proofs.StepLemmas.{decided, few_taken, sent_stands}
use Rattle.daq_run.specs.Faults.{StandsAtFault, StopsBehind}
use Rattle.daq_run.specs.Inner.Opened.{IsRunOpened}
use Rattle.daq_run.specs.Runs.{ComesTo, HasRun, cost_in, settings_of_run}
use Rattle.daq_run.specs.declared.sim_fault.SimFault.{SimFault}
use Rattle.daq_run.specs.declared.sim_fault.SimFault.TheVariants.{EndLost, Memory}
use Rattle.daq_run.proofs.DrainLemmas.{few_at_last}
use Rattle.daq_run.proofs.ItemLemmas.{few_sent}

-- what all of some have, one of them has
all_at : {X : Type 0} (f : X → ℕ) (n : ℕ) (xs : List X) (k : ℕ) → All (λ x. f x ≡ n) xs → k < length xs → slice_index (map f xs) k ≡ n
all_at f n xs k all within =
    let one = sampler_at xs k within in
    get_or-map f xs k one.0 0 within ∙ All-get_or (λ x. f x ≡ n) xs k one.0 within all

module _ {S E : Type 0} (send : SendGhosts S E) (ring : EndGhosts E) (run : RunData) (cost : ring.cost ≡ cost_in run.ring) (before : OutState)
    (a b : EngineState S) (opened : IsRunOpened send ring run before a) (stay : StayThose send a.samplers b.samplers) where
  pub as_many : length b.samplers ≡ run.channels
  as_many =
      as_many_stay send a.samplers b.samplers stay
      ∙ (sym (length-map a.samplers (λ (s : SamplerState S). s.channel)) ∙ (ap length opened.opened.channels ∙ (length-upto 0 opened.store.profile.channels ∙ ap (λ p. p.channels) opened.set_up.store.profile)))

  -- the samplers go by what the run says
  pub setting : (c : ℕ) → c < run.channels → settings_of_samplers send ring b.samplers c ≡ settings_of_run run c
  setting c within =
      let images : slice_index (map (λ (s : SamplerState S). image_len s.segments) b.samplers) c ≡ run.image_len =
      ap (λ xs. slice_index xs c) stay.image_lens
      ∙ (all_at (λ (s : SamplerState S). image_len s.segments) (image_len opened.store.profile.segments) a.samplers c (λ k e h. ap image_len (opened.opened.segments k e h)) (let many = as_many_stay send a.samplers b.samplers stay in let n = as_many in omega (arith, within, many, n))
      ∙ ap (λ p. image_len p.segments) opened.set_up.store.profile) in
      let caps = ap (λ xs. slice_index xs c) (stay.capacities ∙ opened.opened.capacities) in
      ap (λ n. record { image_len = n; capacity = slice_index (map (λ (s : SamplerState S). send.capacity s.end) b.samplers) c; cost = ring.cost }) images
      ∙ (ap (λ n. record { image_len = run.image_len; capacity = n; cost = ring.cost }) caps
      ∙ ap (λ f. record { image_len = run.image_len; capacity = slice_index run.caps c; cost = f }) cost)

  module _ (refused : ℕ) (h : HasDone send ring b opened.writer opened.openings (map run_step run.steps) refused) where
    opening : (c : ℕ) → c < run.channels → IsOpeningOf opened.store c (h.past c).opening
    opening c within =
        let there : c < opened.store.profile.channels = subst (λ p. c < p.channels) (sym opened.set_up.store.profile) within in
        subst (IsOpeningOf opened.store c) (sym (h.opened c)) (opened.opened.of_store c there)

    within_samplers : (c : ℕ) → c < run.channels → c < length b.samplers
    within_samplers c within = subst (λ n. c < n) (sym as_many) within

    drops : (c : ℕ) → c < run.channels → DropsOnlyWhenFull (settings_of_run run c).capacity (settings_of_run run c).cost (h.past c)
    drops c within =
        let one = sampler_at b.samplers c (within_samplers c within) in
        let stands = h.stands.samplers c one.0 one.1 in
        let own : slice_index (map (λ (s : SamplerState S). send.capacity s.end) b.samplers) c ≡ send.capacity one.0.end = read_at (λ (s : SamplerState S). send.capacity s.end) 0 b.samplers c one.0 one.1 in
        subst (λ (s : Setting). DropsOnlyWhenFull s.capacity s.cost (h.past c)) (setting c within) (subst (λ n. DropsOnlyWhenFull n ring.cost (h.past c)) (sym own) stands.drops)

    -- what was done is what was done of the run
    are_done : AreDone run.channels (settings_of_run run) (map run_step run.steps) b.transmitter.writer.closed h.past h.done
    are_done = record {
      steps_done = h.are_done.steps_done;
      answered = λ c within.
          subst (λ (s : Setting). AreAnswered s (asked_of c (map run_step run.steps)) (told_of c h.done) (h.past c)) (setting c within) (h.are_done.answered c (within_samplers c within));
      pumped = λ i qs at.
          subst (λ n. TakesFront n (λ c. sent_in (past_after h.past h.done i c)) (taken_in (take i h.done)) b.transmitter.writer.closed qs) as_many (h.are_done.pumped i qs at);
    }

    pub has_run : HasRun run before refused
    has_run = record {
      writer = opened.writer;
      past = h.past;
      has_pasts = record {
        store = opened.store;
        keeps = opened.keeps;
        set_up = opened.set_up;
        some_list_runs = opened.running;
        openings = opening;
        configuration = subst (λ n. IsConfiguration n (λ c. (h.past c).opening)) as_many h.stands.configuration;
        decided = λ c within. decided send ring b (record { start = opened.writer; past = h.past; taken = taken_in h.done }) h.stands c (within_samplers c within);
        drops = drops;
      };
      done = h.done;
      counted = h.counted;
      transmitter = b.transmitter;
      taken = h.stands.transmitter;
      are_done = are_done;
    }

    abbrev standing : Standing
    standing = record { start = opened.writer; past = h.past; taken = taken_in h.done }

    module _ (report : Report) (after : OutState) (closes : ClosesEngine send ring run.drain b standing report after) where
      abbrev ends : List JoinedEnd
      ends = closes.ends

      within_ends : (c : ℕ) (e : JoinedEnd) → slice_get ends c ≡ Some e → c < run.channels
      within_ends c e at = let within = slice_get_within ends c e at in let many = closes.as_many in let all = as_many in omega (arith, within, many, all)

      sent : (c : ℕ) (e : JoinedEnd) → slice_get ends c ≡ Some e → e.sent ≡ sent_in (h.past c)
      sent c e at =
          sym (sent_at ends c e at)
          ∙ (ap (λ (lists : List (List Item)). of_ring lists c) closes.sent ∙ sent_stands send ring b standing h.stands c (within_samplers c (within_ends c e at)))

      -- what each channel sent, and the pumps took, is little
      few : (c : ℕ) → c < length ends → length (sent_in (h.past c)) ≤ 16000000
      few c at =
          let many = closes.as_many in
          let all = as_many in
          let within : c < run.channels = omega (arith, at, many, all) in
          let steps = length-map run.steps run_step in
          let l = opened.limits.steps in
          few_sent (settings_of_run run c) c (map run_step run.steps) (told_of c h.done) (h.past c) opened.store (are_done.answered c within) (opening c within) opened.keeps.lists (omega (arith, steps, l))

      few_before : b.transmitter.taken ≤ 8000000
      few_before =
          let taken = few_taken (length b.samplers) (settings_of_samplers send ring b.samplers) (map run_step run.steps) b.transmitter.writer.closed h.past h.done h.are_done in
          let steps = length-map run.steps run_step in
          let rows = mul-le-mul_right (length run.steps) opened.limits.channels in
          let columns = mul-le-mul_left 8 opened.limits.steps in
          let one : length b.samplers * length (map run_step run.steps) ≡ run.channels * length run.steps = ap₂ (λ m n. m * n) as_many steps in
          let all = h.stands.transmitter.taken in
          omega (arith, all, taken, one, rows, columns)

      few_drained : run.drain ≡ true → closes.closed.last.taken < MAX_TAKEN
      few_drained wanted =
          let many = closes.as_many in
          let all = as_many in
          let eight = opened.limits.channels in
          let before = few_before in
          few_at_last ends h.past (omega (arith, many, all, eight)) sent few b.transmitter closes.closed.last (omega (arith, before))
          (subst (λ d. WasDrained d (sent_by ends) b.transmitter closes.closed.last) wanted closes.closed.drained)

      pub comes_to : ComesTo run before refused report after
      unfolding has_run
      comes_to = record {
        has_run = has_run;
        closed = record {
          ends = ends;
          as_many = closes.as_many ∙ as_many;
          sent = sent;
          closed = closes.closed;
          few_taken = few_drained;
          nothing_left = λ wanted good. closes.closed.nothing_left wanted good (few_drained wanted);
        };
      }

    -- the steps were done, and the engine is given back
    pub stops_behind : (after : OutState) → after ≡ b.transmitter.writer.out → StopsBehind run before after
    unfolding has_run
    stops_behind after is = record { refused = refused; has_run = has_run; written = is }

pub stops_at : (run : RunData) (before after : OutState) (fault : SimFault) → (fault ≡ Memory) ⊎ (fault ≡ EndLost) → StopsBehind run before after → StandsAtFault run before after fault
stops_at run before after fault (inl is) behind = subst (StandsAtFault run before after) (sym is) (inr (inr behind))
stops_at run before after fault (inr is) behind = subst (StandsAtFault run before after) (sym is) behind
