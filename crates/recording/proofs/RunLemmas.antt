-- What a run wrote is read back.
use Rattle.std.proofs.Common.{◌≡◌, ℕ, zero, suc, ◌+◌, ◌%◌, ◌<◌, ◌≤◌, inl, inr, Bool, List, [], ◌∷◌, ◌++◌, length, map, take, refl, sym, ap, subst, ◌∙◌, arith, append_assoc, nat_eq}
use Rattle.std.specs.Prelude.{IfSome, Option, None, Some, count_by, if◌then◌else◌, slice_get, unwrap_or, option_map}
use Rattle.std.proofs.lemmas.Bool.Decides.{eqb_tells}
use Rattle.std.proofs.lemmas.List.Elements.{All-get_or}
use Rattle.std.proofs.lemmas.Option.{get_or_from_slice_get, same_Some}
use Rattle.xcp_base.specs.Samples.{SampleParts}
use Rattle.xcp_base.specs.declared.item.Item.{Item}
use Rattle.segments.specs.Image.{image_len}
use Rattle.copy_plan.specs.Config.{ListPlan}
use Rattle.daq_store.specs.declared.mode.Mode.{Mode}
use Rattle.daq_store.specs.declared.list_state.ListState.{ListState}
use Rattle.xcp_base.specs.declared.limits.TheConstants.{MAX_TRIGGERS}
use Rattle.daq_store.specs.Configuration.{channel_of, fresh_conf}
use Rattle.daq_store.specs.Standing.{HasChannel, IsStore, StoreState, conf_of}
use Rattle.frame_writer.specs.Frame.{text}
use Rattle.frame_writer.specs.Shown.{OutState}
use Rattle.frame_writer.specs.Writing.{WriterState}
use Rattle.frame_writer.proofs.TextLemmas.{text-mod}
use Rattle.run_file.specs.RunFile.{RunData}
use Rattle.sampler.specs.History.{Event, Trigger, is_trigger}
use Rattle.sampler.specs.Past.{Past}
use Rattle.sampler.specs.Refusals.{trigger_refusal}
use Rattle.sampler.specs.declared.faults.TriggerFault.TheVariants.{Spent, WrongImage}
use Rattle.transmitter.specs.Written.{TransmitterState}
use Rattle.daq_engine.specs.Configuration.{IsConfiguration}
use Rattle.daq_engine.specs.Frames.{IsTornAt}
use Rattle.daq_engine.specs.Openings.{is_ready_on, list_plan}
use Rattle.daq_run.specs.declared.cause.Cause.TheVariants.{Trigger as OfTrigger}
use Rattle.daq_engine.specs.declared.report.Report.{Report}
use Rattle.daq_run.specs.StepRuns.{taken_in, told_of}
use Rattle.daq_run.specs.Steps.{asked_of, run_step}
use Rattle.daq_run.specs.Answers.{Answered, AreAnswered, accepted, until}
use Rattle.daq_run.specs.Runs.{HasPasts, IsClosed, settings_of_run}
use Rattle.daq_run.specs.SetUps.{IsStoreAfter, replies_of}
use Rattle.daq_run.proofs.ClosingLemmas.{all_received, hand_empty}
use Rattle.daq_run.proofs.OpeningLemmas.{store_same}
use Rattle.recording.specs.Accepted.{HasImages}
use Rattle.recording.specs.Laws.{IsReadBack}
use Rattle.recording.specs.Plans.{AreAllPlans, plans_in}
use Rattle.recording.specs.Runs.{IsRunReadBack, WrittenInThreadsIsReadBack, WrittenRunIsReadBack}
use Rattle.recording.proofs.JoinLemmas.{written_is_read_back}
use Rattle.recording.proofs.StoreLemmas.{all_plans, found}

-- the channel of a list of a store, whether a mode was set or not, is one that the store has
channel_within : (n : ℕ) (mode : Option Mode) → 1 ≤ n → IfSome mode (λ m. m.channel < n) → channel_of mode < n
channel_within n None some is = omega (arith, some)
channel_within n (Some m) some is = is

named : (s : StoreState) → IsStore s → (l : ℕ) → l < length s.lists → channel_of (conf_of s l).mode < s.profile.channels
named s keeps l within =
    let x = there s.lists l within in
    let own : HasChannel s.profile.channels x.0 = subst (HasChannel s.profile.channels) (get_or_from_slice_get s.lists l x.0 x.0 x.1) (All-get_or (HasChannel s.profile.channels) s.lists l x.0 within keeps.modes) in
    let mode : (conf_of s l).mode ≡ x.0.conf.mode = ap (λ (o : Option ListState). (unwrap_or (option_map (λ (y : ListState). y.conf) o) (fresh_conf s.profile.form)).mode) x.1 in
    subst (λ m. channel_of m < s.profile.channels) (sym mode) (channel_within s.profile.channels x.0.conf.mode keeps.channels.0 own)
  where
    there : {X : Type 0} (xs : List X) (k : ℕ) → k < length xs → (x : X) × (slice_get xs k ≡ Some x)
    there [] k h = absurd (omega (arith, h))
    there (x ∷ xs) zero h = (x, refl)
    there (x ∷ xs) (suc k) h = there xs k (omega (arith, h))

-- what was accepted was asked for, and answered so
was_asked : (told : List Answered) (place : ℕ) (e : Event) → slice_get (accepted told) place ≡ Some e → (i : ℕ) × (slice_get told i ≡ Some (e, None))
was_asked [] place e at = absurd cc
was_asked ((f, None) ∷ told) zero e at = (0, ap (λ g. Some (g, None)) (same_Some f e at))
was_asked ((f, None) ∷ told) (suc place) e at = let later = was_asked told place e at in (suc later.0, later.1)
was_asked ((f, Some cause) ∷ told) place e at = let later = was_asked told place e at in (suc later.0, later.1)

-- a trigger that was accepted had an image of the right length
right_image : (len : ℕ) (past : Past) (image : List ℕ) → option_map OfTrigger (trigger_refusal len past image) ≡ None → length image ≡ len
right_image len past image none = elim (eqb_tells (length image) len) [
  | inl w ↦ w.1
  | inr w ↦ absurd (let wrong = ap (λ (b : Bool). option_map OfTrigger (if b then (if nat_eq (count_by is_trigger past.history) MAX_TRIGGERS then Some Spent else None) else Some WrongImage)) w.0 in cc)
]

-- a run that was set up, whose channels came to these pasts by such answers, and that was closed
module _ (run : RunData) (before after : OutState) (writer : WriterState) (past : ℕ → Past) (told : ℕ → List Answered) (taken : List (ℕ × Item)) (t : TransmitterState) (report : Report)
    (has : HasPasts run before writer past)
    (answered : (c : ℕ) → c < run.channels → AreAnswered (settings_of_run run c) (asked_of c (map run_step run.steps)) (told c) (past c))
    (closed : IsClosed run writer past taken t report after) where
  plan_len : (c i : ℕ) (plan : ListPlan) → c < run.channels → slice_get (past c).opening.plans i ≡ Some plan → image_len plan.segments ≡ run.image_len
  plan_len c i plan within at =
      let s = has.store in
      let r = found (list_plan s) (is_ready_on s c) 0 (length s.lists) i plan (ap (λ ps. slice_get ps i) (sym (has.openings c within).plans) ∙ at) in
      ap (λ (x : ListPlan). image_len x.segments) r.4 ∙ ap (λ q. image_len q.segments) has.set_up.store.profile

  images : (c : ℕ) → c < run.channels → HasImages (past c)
  images c within place i stamp image plan there at =
      let a = answered c within in
      let asked = was_asked (told c) place (Trigger image stamp) (ap (λ h. slice_get h place) (sym a.history) ∙ there) in
      right_image run.image_len (until (past c) (accepted (take asked.0 (told c)))) image (a.each asked.0 (Trigger image stamp) None asked.1)
      ∙ sym (plan_len c i plan within at)

  channels_own : has.store.profile.channels ≡ run.channels
  channels_own = ap (λ q. q.channels) has.set_up.store.profile

  plans_own : AreAllPlans run.channels past (plans_in has.store)
  plans_own =
      subst (λ n. AreAllPlans n past (plans_in has.store)) channels_own
      (all_plans has.store (λ l inside ready. named has.store has.keeps l inside) past (λ c here. has.openings c (subst (λ n. c < n) channels_own here)))

  back : IsReadBack run.channels past (plans_in has.store) writer closed.closed.last report.failed
  back =
      let many : length closed.ends ≡ run.channels = closed.as_many in
      subst (λ n. IsReadBack n past (plans_in has.store) writer closed.closed.last report.failed) many
      (written_is_read_back writer closed.closed.last closed.ends past report (plans_in has.store)
      (subst (λ n. IsConfiguration n (λ c. (past c).opening)) (sym many) has.configuration) closed.closed.headline
      (λ c here. images c (subst (λ n. c < n) many here)) (subst (λ n. AreAllPlans n past (plans_in has.store)) (sym many) plans_own))

  torn_at : (m n : ℕ) (hand : Option SampleParts) (bytes : List ℕ) → m % 65536 ≡ n % 65536 → IsTornAt m hand bytes → IsTornAt n hand bytes
  torn_at m n None bytes same torn = torn
  torn_at m n (Some s) bytes same torn =
      let is : text m s.packets ≡ text n s.packets = text-mod m n s.packets same in
      (torn.0, subst (λ t. torn.0 < length t) is torn.1, torn.2 ∙ ap (take torn.0) is)

  run_is_read_back : IsRunReadBack run before after report past closed.closed.last has.store
  run_is_read_back =
      let b = back in
      let replied = has.set_up.replied in
      let n = length (replies_of run) in
      let counter : writer.counter % 65536 ≡ (0 + n) % 65536 = replied.counter in
      let r = b.read.recording in
      record {
        samples = b.samples;
        whole = b.whole;
        behind = b.behind;
        gained =
            ap (λ (s : OutState). s.contents) (sym closed.closed.written)
            ∙ (b.gained
            ∙ (ap (λ (s : OutState). s.contents ++ (b.whole ++ b.behind)) replied.out
            ∙ append_assoc before.contents (text 0 (replies_of run)) (b.whole ++ b.behind)));
        read = record {
          recording = record {
            packets = r.packets;
            legal = r.legal;
            bytes = r.bytes ∙ text-mod writer.counter (n % 65536) r.packets (omega (arith, counter));
            are = r.are;
          };
          of_lists = b.read.of_lists;
          first = b.read.first;
        };
        all_given = λ wanted good i c k plan at within there.
            b.all_given i c k plan at within there (all_received run writer past taken t report after closed good wanted c within) (hand_empty run writer past taken t report after closed good);
        none_behind = b.none_behind;
        torn = λ failed. torn_at (writer.counter + length r.packets) (n + length r.packets) closed.closed.last.hand b.behind (omega (arith, counter)) (b.torn failed);
      }

  -- and so it is for each store that the set-up leaves
  for_each_store : (store : StoreState) → IsStoreAfter run store run.setup → IsRunReadBack run before after report past closed.closed.last store
  for_each_store store stands =
      subst (λ s. IsRunReadBack run before after report past closed.closed.last s) (store_same run run.setup has.store store has.set_up.store stands) run_is_read_back

pub written_run_is_read_back : WrittenRunIsReadBack
written_run_is_read_back run before after refused report store r stands =
    let h = r.has_run in
    for_each_store run before after h.writer h.past (λ c. told_of c h.done) (taken_in h.done) h.transmitter report h.has_pasts h.are_done.answered r.closed store stands

pub written_in_threads_is_read_back : WrittenInThreadsIsReadBack
written_in_threads_is_read_back run before after refused report store r stands =
    let h = r.has_run in
    for_each_store run before after h.writer h.past h.told h.items h.transmitter report h.has_pasts h.answered r.closed store stands
