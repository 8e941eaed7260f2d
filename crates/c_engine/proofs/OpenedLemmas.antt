-- What an engine was opened with, after its calls and at its end.
use Rattle.std.proofs.Common.{◌≡◌, ◌≢◌, ℕ, List, length, refl, sym, ap, subst, ◌∙◌, false, Option, Some, None}
use Rattle.std.specs.Prelude.{slice_get, IfOk, IfErr, OnErr, Result, Ok, Err}
use Rattle.std.proofs.lemmas.List.{length-map}
use Rattle.frame_writer.specs.declared.out.Out.{Ghosts as OutGhosts}
use Rattle.frame_writer.specs.declared.sink_out.SinkOut.{SinkOut}
use Rattle.channel_ring.specs.declared.ends.SendEnd.{Ghosts as SendGhosts}
use Rattle.channel_ring.specs.declared.ends.RingEnd.{Ghosts as EndGhosts}
use Rattle.channel_ring.specs.declared.ends.TakeEnd.{Ghosts as TakeGhosts}
use Rattle.daq_store.specs.Standing.{StoreState}
use Rattle.frame_writer.specs.Writing.{WriterState}
use Rattle.sampler.specs.History.{Opening}
use Rattle.sampler.specs.State.{SamplerState, joined}
use Rattle.transmitter.specs.Looks.{Looked}
use Rattle.xcp_base.specs.declared.item.Item.{Item}
use Rattle.transmitter.specs.Pumps.{IsPump, Leads}
use Rattle.transmitter.specs.Sinks.{FillsFront, RefusesFill}
use Rattle.transmitter.specs.Written.{HasTaken, HasWritten, TransmitterState}
use Rattle.transmitter.specs.declared.faults.PumpFault.{PumpFault}
use Rattle.transmitter.specs.declared.faults.PumpFault.TheVariants as fault
use Rattle.transmitter.specs.declared.pumped.Pumped.{Pumped}
use Rattle.transmitter.specs.declared.pumped_all.PumpedAll.{PumpedAll}
use Rattle.transmitter.proofs.DrainLemmas.{with_known}
use Rattle.daq_engine.specs.Configuration.{IsConfiguration, upto}
use Rattle.daq_engine.specs.Headline.{AllStand, HasHeadline}
use Rattle.daq_engine.specs.Openings.{AreOpened, IsPaired}
use Rattle.daq_engine.specs.declared.report.Report.{Report}
use Rattle.c_engine.specs.Ends.{HasHeadlineSince, ends_in, state_in}
use Rattle.c_engine.specs.Lendings.{AreBack, LendingState, WasOpened, channels_in, rings_in}
use Rattle.c_engine.specs.Lends.{LendsNext}
use Rattle.c_engine.specs.States.{EngineState}
use Rattle.c_engine.proofs.LendingLemmas.{all-pasts, length-back, length-upto}

-- a configuration of the same openings
same-configuration : (n : ℕ) (f g : ℕ → Opening) → ((c : ℕ) → f c ≡ g c) → IsConfiguration n g → IsConfiguration n f
same-configuration n f g same conf = record {
  numbered = λ c below. ap (λ (o : Opening). o.channel) (same c) ∙ conf.numbered c below;
  ready = λ c i p below at. conf.ready c i p below (ap (λ (o : Opening). slice_get o.plans i) (sym (same c)) ∙ at);
  once = λ c e i j p q below below2 at at2.
      conf.once c e i j p q below below2
      (ap (λ (o : Opening). slice_get o.plans i) (sym (same c)) ∙ at) (ap (λ (o : Opening). slice_get o.plans j) (sym (same e)) ∙ at2);
  apart = λ c e i j p q below below2 at at2.
      conf.apart c e i j p q below below2
      (ap (λ (o : Opening). slice_get o.plans i) (sym (same c)) ∙ at) (ap (λ (o : Opening). slice_get o.plans j) (sym (same e)) ∙ at2);
}

module _ {S E : Type 0} (send : SendGhosts S E) (ring : EndGhosts E) where
  -- it was opened with the same after it took items
  opened-led : (began : List (SamplerState S)) (a b : TransmitterState) (qs : List (ℕ × Item))
      → Leads a qs b → WasOpened send ring began a → WasOpened send ring began b
  opened-led began a b qs leads opened = record {
    openings = opened.openings;
    configuration = opened.configuration;
    stand = opened.stand;
    start = opened.start;
    items = _;
    taken = leads.stands opened.start opened.items opened.taken;
  }

  -- and so after a pump
  pub opened-pumped : (began : List (SamplerState S)) (a b : TransmitterState) (answer : Result Pumped PumpFault)
      → IsPump a b answer → WasOpened send ring began a → WasOpened send ring began b
  opened-pumped began a b answer pump opened = opened-led began a b pump.taken pump.leads opened

  -- and after a look
  pub opened-looked : (began : List (SamplerState S)) (a b : TransmitterState)
      → Looked a b → WasOpened send ring began a → WasOpened send ring began b
  opened-looked began a b looked opened = record {
    openings = opened.openings;
    configuration = opened.configuration;
    stand = opened.stand;
    start = opened.start;
    items = opened.items;
    taken = subst (λ (t : TransmitterState). HasTaken opened.start t opened.items) (sym looked)
        (with_known opened.start a b.known opened.items opened.taken);
  }

  -- and at the opening
  pub opened-first : (s : StoreState) (caps : List ℕ) (samplers : List (SamplerState S)) (start : WriterState) (t : TransmitterState) (openings : ℕ → Opening)
      → AreOpened send ring s caps samplers openings → IsPaired send samplers start t → WasOpened send ring samplers t
  opened-first s caps samplers start t openings opened paired =
      let many : s.profile.channels ≡ length samplers
      = sym (length-upto 0 s.profile.channels) ∙ ap length (sym opened.channels) ∙ length-map samplers (λ (x : SamplerState S). x.channel) in
      record {
        openings = openings;
        configuration = subst (λ n. IsConfiguration n openings) many opened.configuration;
        stand = opened.stands;
        start = start;
        items = _;
        taken = paired.taken;
      }

-- the event channels of samplers are as many as those
pub in-order : {S : Type 0} (n : ℕ) (samplers : List (SamplerState S)) → channels_in samplers ≡ upto 0 n → channels_in samplers ≡ upto 0 (length samplers)
in-order n samplers channels =
    let many : n ≡ length samplers
    = sym (length-upto 0 n) ∙ ap length (sym channels) ∙ length-map samplers (λ (x : SamplerState _). x.channel) in
    channels ∙ ap (upto 0) many

-- handing a sampler out leaves what all began as
pub began-stays : {S E A : Type 0} (old new : LendingState S E) (result : Result (Option (SamplerState S)) A)
    → IfOk result (LendsNext old new) → OnErr result (new ≡ old) → new.began ≡ old.began
began-stays old new (Ok (Some s)) lends stays = lends.began
began-stays old new (Ok None) lends stays = ap (λ (l : LendingState _ _). l.began) lends.1
began-stays old new (Err e) lends stays = ap (λ (l : LendingState _ _). l.began) stays

module _ {S E : Type 0} (send : SendGhosts S E) (ring : EndGhosts E) where
  -- the transmitter is that of these samplers, and its writer is open
  abbrev pub Fits : List (SamplerState S) → TransmitterState → Type 0
  Fits began t =
      (rings_in send began ≡ t.rings) × (channels_in began ≡ upto 0 (length began)) × (t.writer.closed ≡ false)
      × WasOpened send ring began t

  pub fits-same : (x y : List (SamplerState S)) (t : TransmitterState) → y ≡ x → Fits x t → Fits y t
  fits-same x y t same fits = subst (λ (xs : List (SamplerState S)). Fits xs t) (sym same) fits

  pub fits-looked : (x y : List (SamplerState S)) (a b : TransmitterState) → y ≡ x → Looked a b → Fits x a → Fits y b
  fits-looked x y a b same looked fits = fits-same x y b same (
    fits.0 ∙ sym (ap (λ (t : TransmitterState). t.rings) looked),
    fits.1,
    ap (λ (t : TransmitterState). t.writer.closed) looked ∙ fits.2,
    opened-looked send ring x a b looked fits.3,
  )

  -- with no sample in hand the writer is open
  open-hand : (x : List (SamplerState S)) (b : TransmitterState) → WasOpened send ring x b → b.hand ≡ None → b.writer.closed ≡ false
  open-hand x b opened none =
      let written = subst (HasWritten opened.start b.writer opened.taken.whole) none opened.taken.writes in
      written.closed ∙ opened.taken.was_open

  -- nor does what a refused call leaves change it
  fits-refused : (x : List (SamplerState S)) (old new : List ℕ) (a b : TransmitterState) (why : PumpFault)
      → RefusesFill a b old new why → Fits x a → Fits x b
  fits-refused x old new a b fault.Failed refused fits = absurd (refused.never_fails refl)
  fits-refused x old new a b fault.Closed refused fits = subst (λ (t : TransmitterState). Fits x t) (sym refused.pump.answers.1) fits
  fits-refused x old new a b fault.Spent refused fits = subst (λ (t : TransmitterState). Fits x t) (sym refused.pump.answers.2) fits

  pub fits-pumped : (x : List (SamplerState S)) (old new : List ℕ) (a b : TransmitterState) (result : Result (Pumped × ℕ) PumpFault)
      → IfOk result (λ done. IsPump a b (Ok done.0)) → IfErr result (RefusesFill a b old new) → Fits x a → Fits x b
  fits-pumped x old new a b (Ok done) pump none fits =
      let opened = opened-pumped send ring x a b (Ok done.0) pump fits.3 in
      (fits.0 ∙ sym pump.leads.rings, fits.1, open-hand x b opened pump.answers.hand, opened)
  fits-pumped x old new a b (Err why) pump refused fits = fits-refused x old new a b why refused fits

  -- and so do pumps that fill a buffer
  pub fits-filled : (x : List (SamplerState S)) (old new : List ℕ) (a b : TransmitterState) (result : Result (PumpedAll × ℕ) PumpFault)
      → IfOk result (FillsFront a b old new) → IfErr result (RefusesFill a b old new) → Fits x a → Fits x b
  fits-filled x old new a b (Ok done) filled none fits =
      let opened = opened-led send ring x a b _ filled.fills.leads fits.3 in
      (fits.0 ∙ sym filled.fills.leads.rings, fits.1, open-hand x b opened filled.fills.hand, opened)
  fits-filled x old new a b (Err why) none refused fits = fits-refused x old new a b why refused fits

module _ {S T E : Type 0} (out : OutGhosts SinkOut) (give : TakeGhosts T E) (send : SendGhosts S E) (ring : EndGhosts E) where
  -- once all came back, the headline holds for all that it was opened with
  pub headline-since : (e : EngineState S T E) (report : Report) → AreBack send ring e.lending
      → HasHeadline (state_in out give send ring e) (ends_in out give send ring e) report
      → (opened : WasOpened send ring e.lending.began (state_in out give send ring e)) → HasHeadlineSince out give send ring e opened report
  headline-since e report back headline opened =
      let pasts = all-pasts send ring opened.openings e.lending.began e.lending.ends back opened.stand in
      let many : length e.lending.began ≡ length (ends_in out give send ring e)
      = sym (length-back send ring e.lending.began e.lending.ends back) ∙ sym (length-map e.lending.ends (joined ring)) in
      let stand : AllStand (ends_in out give send ring e) pasts.0 = record {
        configuration = same-configuration (length (ends_in out give send ring e)) (λ c. (pasts.0 c).opening) opened.openings (λ c. (pasts.1 c).opening)
            (subst (λ n. IsConfiguration n opened.openings) many opened.configuration);
        stand = pasts.2;
      } in
      record {
        past = pasts.0;
        goes_on = pasts.1;
        stand = stand;
        headline = λ those all. headline opened.start opened.items those opened.taken all;
      }
