-- The set-up of a run, and where it stops.
use Rattle.std.proofs.Common.{◌≡◌, ◌≤◌, ◌⊎◌, ℕ, inl, inr, All, Bool, true, nat_eq, nat_le, List, [], ◌∷◌, ◌++◌, length, refl, sym, ap, ap₂, subst, ◌∙◌, append_assoc, arith}
use Rattle.std.specs.Prelude.{◌&&◌}
use Rattle.std.specs.List.{list_all}
use Rattle.std.proofs.lemmas.Bool.{false≢true, le-leb}
use Rattle.std.proofs.lemmas.Bool.Decides.{eqb_tells}
use Rattle.std.proofs.lemmas.List.Elements.{All-head, All-tail}
use Rattle.xcp_base.specs.declared.limits.TheConstants.{MAX_BYTE_RING, MAX_DTO, MAX_ODTS, MAX_SAMPLE_RING, MIN_BYTE_RING, RUN_CHANNELS}
use Rattle.run_file.specs.Limits.{HasLimits, IsCap}
use Rattle.xcp_base.specs.declared.ring_kind.RingKind.{RingKind}
use Rattle.xcp_base.specs.declared.ring_kind.RingKind.TheVariants.{Bytes, Samples}
use Rattle.daq_engine.specs.Openings.{fit_caps_of, is_byte_cap, is_cap}
use Rattle.daq_store.specs.declared.command.Command.{Command}
use Rattle.daq_store.specs.Calls.{Profile}
use Rattle.daq_store.specs.Limited.{is_by_value}
use Rattle.daq_store.specs.Replies.{calls_after_packet, calls_after_packets, packet_reply, replies, reply_bytes}
use Rattle.daq_store.specs.Standing.{StoreStandsAfter, StoreState}
use Rattle.frame_writer.specs.Frame.{text}
use Rattle.frame_writer.specs.Shown.{BreaksOff, OutState, after_bytes}
use Rattle.frame_writer.specs.Writing.{WriterState, fresh_writer}
use Rattle.frame_writer.proofs.TextLemmas.{breaks_off-text}
use Rattle.run_file.specs.RunFile.{RunData}
use Rattle.daq_run.specs.Setup.{BreaksOffAt, LosesReply, WantsMemory, WasClosed}
use Rattle.daq_run.specs.declared.setup.SetupFault.{SetupFault}
use Rattle.daq_run.specs.declared.setup.SetupFault.TheVariants.{Memory, Write}
use Rattle.daq_run.specs.Faults.{StandsAtFault, run_fault}
use Rattle.daq_run.specs.SetUps.{StopsInSetUp, profile_of, replies_of}

-- the replies to packets, and to those behind them
replies-append : (p : Profile) (calls : List Command) (xs ys : List (List ℕ)) → replies p calls (xs ++ ys) ≡ replies p calls xs ++ replies p (calls_after_packets p calls xs) ys
replies-append p calls [] ys = refl
replies-append p calls (x ∷ xs) ys = ap (λ qs. reply_bytes (packet_reply p calls x) ∷ qs) (replies-append p (calls_after_packet p calls x) xs ys)

module _ (run : RunData) (s t : StoreState) (profile : s.profile ≡ profile_of run) (fresh : StoreStandsAfter s []) (before : OutState) (b : WriterState) where
  wants_memory : t.profile ≡ s.profile → WantsMemory s t (fresh_writer before) b run.setup → StopsInSetUp run before b.out
  wants_memory same w = record {
    done = w.done;
    packet = w.packet;
    left = w.left;
    split = w.split;
    store = t;
    stands = record {
      profile = same ∙ profile;
      stands = subst (λ p. StoreStandsAfter t (calls_after_packets p [] w.done)) profile (w.carried.stands [] fresh);
    };
    needs = w.needs;
    written = w.carried.text.out ∙ ap (λ qs. after_bytes before (text 0 qs)) (w.carried.answered.each [] fresh ∙ ap (λ p. replies p [] w.done) profile);
  }

  -- the replies of a run: those that were written, the one that wasn't, and the others
  all_replies : (done packet_on : List (List ℕ)) (sent : List (List ℕ)) (reply packet : List ℕ) → run.setup ≡ done ++ packet ∷ packet_on → sent ++ reply ∷ [] ≡ replies s.profile [] (done ++ packet ∷ [])
      → replies_of run ≡ sent ++ reply ∷ replies s.profile (calls_after_packets s.profile [] (done ++ packet ∷ [])) packet_on
  all_replies done left sent reply packet split are =
      let rest = replies s.profile (calls_after_packets s.profile [] (done ++ packet ∷ [])) left in
      ap (λ p. replies p [] run.setup) (sym profile)
      ∙ (ap (replies s.profile []) (split ∙ sym (append_assoc done (packet ∷ []) left))
      ∙ (replies-append s.profile [] (done ++ packet ∷ []) left
      ∙ (ap (λ qs. qs ++ rest) (sym are) ∙ append_assoc sent (reply ∷ []) rest)))

  loses_at : (done left : List (List ℕ)) (packet : List ℕ) → run.setup ≡ done ++ packet ∷ left → WasClosed (fresh_writer before) b done ⊎ BreaksOffAt s (fresh_writer before) b done packet
      → BreaksOff before b.out (text 0 (replies_of run))
  loses_at done left packet split (inl was) = absurd (false≢true was.closed)
  loses_at done left packet split (inr at) =
      let are = at.answered.each [] fresh in
      breaks_off-text (fresh_writer before) at.middle b at.sent at.reply (replies s.profile (calls_after_packets s.profile [] (done ++ packet ∷ [])) left) (replies_of run)
      at.text at.torn (all_replies done left at.sent at.reply packet split are)

  -- what stands where the set-up of a run stops
  pub stops : (fault : SetupFault) → t.profile ≡ s.profile → (fault ≡ Memory → WantsMemory s t (fresh_writer before) b run.setup)
      → (fault ≡ Write → LosesReply s t (fresh_writer before) b run.setup) → StandsAtFault run before b.out (run_fault fault)
  stops Memory same memory write = inl (wants_memory same (memory refl))
  stops Write same memory write = let l = write refl in loses_at l.done l.left l.packet l.split l.cause

-- the capacities of a run are those that rings of its kind may have
abbrev may_have : RingKind → ℕ → Bool
may_have Samples = is_cap
may_have Bytes = is_byte_cap

may_have_cap : (kind : RingKind) (cap : ℕ) → IsCap kind cap → may_have kind cap ≡ true
may_have_cap Samples cap is = ap₂ (λ a b. a && b) (le-leb 1 cap is.0) (le-leb cap MAX_SAMPLE_RING is.1)
may_have_cap Bytes cap is = ap₂ (λ a b. a && b) (le-leb MIN_BYTE_RING cap is.0) (le-leb cap MAX_BYTE_RING is.1)

all_caps : (kind : RingKind) (caps : List ℕ) → All (IsCap kind) caps → list_all (may_have kind) caps ≡ true
all_caps kind [] all = refl
all_caps kind (cap ∷ caps) all =
    ap₂ (λ a b. a && b) (may_have_cap kind cap (All-head (IsCap kind) cap caps all)) (all_caps kind caps (All-tail (IsCap kind) cap caps all))

pub caps_of_kind : (run : RunData) (kind : RingKind) → HasLimits run → run.ring ≡ kind → list_all (may_have kind) run.caps ≡ true
caps_of_kind run kind limits is = all_caps kind run.caps (subst (λ k. All (IsCap k) run.caps) is limits.caps)

-- the samples of its store find room in a value of fixed size
run_by_value : (run : RunData) (s : StoreState) → HasLimits run → s.profile ≡ profile_of run → is_by_value s.profile ≡ true
run_by_value run s limits profile =
    ap is_by_value profile ∙ ap (λ n. nat_le MAX_ODTS MAX_ODTS && nat_le n MAX_DTO) limits.form

pub caps_fit : (may_have : ℕ → Bool) (run : RunData) (s : StoreState) → HasLimits run → s.profile ≡ profile_of run → list_all may_have run.caps ≡ true
    → fit_caps_of may_have s run.caps ≡ true
caps_fit may_have run s limits profile fit =
    let channels : length run.caps ≡ s.profile.channels = limits.one_cap_each ∙ sym (ap (λ p. p.channels) profile) in
    let same : nat_eq (length run.caps) s.profile.channels ≡ true = elim (eqb_tells (length run.caps) s.profile.channels) [ inl w ↦ w.0 | inr w ↦ absurd (w.1 channels) ] in
    let few : length run.caps ≤ RUN_CHANNELS = omega (arith, limits.one_cap_each, limits.channels) in
    let many = ap₂ (λ a b. a && b) same (le-leb (length run.caps) RUN_CHANNELS few) in
    ap₂ (λ a b. a && b) (ap₂ (λ a b. a && b) many (run_by_value run s limits profile)) fit
