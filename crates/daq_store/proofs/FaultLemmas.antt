-- The first check that fails, on what the store shows, is the one that is read off the calls.
use Rattle.std.proofs.Common.{Result, Ok, Err, subst, IfErr, [], suc, if◌then◌else◌, Some, None, Option, ◌≡◌, ℕ, ◌+◌, ◌<◌, ◌≤◌, Bool, true, false, List, ◌∷◌, length, set, take, sum_by, refl, sym, ◌∙◌, ap, arith, inl, inr}
use Rattle.std.specs.Result.{IsErrAnd}
use Rattle.std.proofs.lemmas.Bool.Decides.{leb_tells}
use Rattle.std.proofs.lemmas.List.{length-set, length-replicate}
use Rattle.std.proofs.lemmas.List.Sums.{sum_by-set, get_or-le-sum_by}
use Rattle.std.proofs.Math.Seq.{take-length}
use Rattle.xcp_base.specs.declared.err_code.ErrCode.{ErrCode}
use Rattle.xcp_base.specs.declared.err_code.ErrCode.TheVariants.{DaqActive, Sequence}
use Rattle.daq_store.specs.declared.command.Command.{Command}
use Rattle.daq_store.specs.declared.command.Command.TheVariants.{FreeDaq, AllocDaq, AllocOdt, AllocOdtEntry, SetDaqPtr, WriteDaq, SetDaqListMode, StartStopDaqList, StartStopSynch, ClearDaqList, ReadDaq}
use Rattle.daq_store.specs.declared.refusal.Refusal.{Refusal}
use Rattle.daq_store.specs.declared.refusal.Refusal.TheVariants.{Code, Memory}
use Rattle.daq_store.specs.declared.reply.Reply.TheVariants.{Error}
use Rattle.daq_store.specs.declared.list_state.ListState.{ListState}
use Rattle.daq_store.specs.Shape.{list_count, odts_before, forbids_lists, forbids_odts, forbids_entries}
use Rattle.daq_store.specs.Pointer.{pointer}
use Rattle.daq_store.specs.Running.{is_running, any_list}
use Rattle.daq_store.specs.Answer.{fault_of, answer, accepted_reply, reply_by, is_active_at}
use Rattle.daq_store.specs.Standing.{StoreState, StoreStandsAfter, Refuses, odts_of}
use Rattle.daq_store.specs.Inner.Effects.{some_runs, other_odts, is_unready, runs_at_pointer, or_else, shown_fault, list_at, fresh_state, with_odts, odts_put}
use Rattle.daq_store.proofs.StandingLemmas.{count_stands, any_stands, odts_stand, is_list_stands, has_odt_stands, has_entry_stands, active_stands, ready_stands}
use Rattle.daq_store.proofs.EffectLemmas.{odts_put_stands}

-- the two checks of an allocation, and then the others
two_first : (a b : Bool) (more : Option ErrCode)
    → (if a then Some DaqActive else if b then Some Sequence else more)
    ≡ or_else (if a then Some DaqActive else if b then Some Sequence else None) more
two_first true b more = refl
two_first false true more = refl
two_first false false more = refl

allocation_stands : (s : StoreState) (calls : List Command) → StoreStandsAfter s calls → any_list calls (is_running calls) ≡ some_runs s
allocation_stands s calls h = any_stands s calls (λ x. x.running) h

alloc_daq_fault : (s : StoreState) (calls : List Command) (n : ℕ) → StoreStandsAfter s calls
    → fault_of s.profile calls (AllocDaq n) ≡ shown_fault s (AllocDaq n)
alloc_daq_fault s calls n h =
    let runs : any_list calls (is_running calls) ≡ some_runs s = allocation_stands s calls h in
    rw (runs, ← h.phase) (two_first (some_runs s) (forbids_lists s.phase) _)

-- the ODTs of all lists, after an ALLOC_ODT
odts_total : (s : StoreState) (calls : List Command) (l n : ℕ) → StoreStandsAfter s calls → l < length s.lists
    → odts_before (AllocOdt l n ∷ calls) (list_count calls) ≡ other_odts s l + n
odts_total s calls l n h inside =
    let x : ListState = with_odts (list_at s l) n in
    let xs : List ListState = set s.lists l x in
    let total : sum_by odts_of (take (list_count calls) xs) ≡ odts_before (AllocOdt l n ∷ calls) (list_count calls)
    = odts_stand (odts_put s l n) (AllocOdt l n ∷ calls) (list_count calls) (odts_put_stands s calls l n h inside) (omega arith) in
    let long : length xs ≡ list_count calls = length-set s.lists l x ∙ count_stands s calls h in
    let all : take (list_count calls) xs ≡ xs = ap (λ k. take k xs) (sym long) ∙ take-length xs in
    let whole : sum_by odts_of xs ≡ odts_before (AllocOdt l n ∷ calls) (list_count calls) = ap (sum_by odts_of) (sym all) ∙ total in
    let new : odts_of x ≡ n = length-replicate n [] in
    let changed : sum_by odts_of xs + odts_of (list_at s l) ≡ sum_by odts_of s.lists + odts_of x = sum_by-set odts_of s.lists l x (fresh_state s.profile.form) inside in
    let own : odts_of (list_at s l) ≤ sum_by odts_of s.lists = get_or-le-sum_by odts_of s.lists l (fresh_state s.profile.form) inside in
    omega arith

alloc_odt_fault : (s : StoreState) (calls : List Command) (l n : ℕ) → StoreStandsAfter s calls
    → fault_of s.profile calls (AllocOdt l n) ≡ shown_fault s (AllocOdt l n)
alloc_odt_fault s calls l n h =
    let runs : any_list calls (is_running calls) ≡ some_runs s = allocation_stands s calls h in
    elim (leb_tells (suc l) (length s.lists)) [
      | inl here ↦
          let total : odts_before (AllocOdt l n ∷ calls) (list_count calls) ≡ other_odts s l + n = odts_total s calls l n h here.1 in
          rw (runs, ← h.phase, is_list_stands s calls l h, total) (two_first (some_runs s) (forbids_odts s.phase) _)
      | inr past ↦
          rw (runs, ← h.phase, is_list_stands s calls l h, past.0) (two_first (some_runs s) (forbids_odts s.phase) _)
    ]

alloc_odt_entry_fault : (s : StoreState) (calls : List Command) (l k n : ℕ) → StoreStandsAfter s calls
    → fault_of s.profile calls (AllocOdtEntry l k n) ≡ shown_fault s (AllocOdtEntry l k n)
alloc_odt_entry_fault s calls l k n h =
    let runs : any_list calls (is_running calls) ≡ some_runs s = allocation_stands s calls h in
    rw (runs, ← h.phase, has_odt_stands s calls l k h) (two_first (some_runs s) (forbids_entries s.phase) _)

set_ptr_fault : (s : StoreState) (calls : List Command) (l k e : ℕ) → StoreStandsAfter s calls
    → fault_of s.profile calls (SetDaqPtr l k e) ≡ shown_fault s (SetDaqPtr l k e)
set_ptr_fault s calls l k e h =
    rw (active_stands s calls l h, has_entry_stands s calls l k e h) refl

active_at_stands : (s : StoreState) (calls : List Command) (p : Option (ℕ × ℕ × ℕ)) → StoreStandsAfter s calls → is_active_at calls p ≡ runs_at_pointer s p
active_at_stands s calls None h = refl
active_at_stands s calls (Some p) h = active_stands s calls p.0 h

write_fault : (s : StoreState) (calls : List Command) (bit size ext addr : ℕ) → StoreStandsAfter s calls
    → fault_of s.profile calls (WriteDaq bit size ext addr) ≡ shown_fault s (WriteDaq bit size ext addr)
write_fault s calls bit size ext addr h =
    let active : is_active_at calls (pointer calls) ≡ runs_at_pointer s s.pointer
    = active_at_stands s calls (pointer calls) h ∙ ap (runs_at_pointer s) (sym h.pointer) in
    rw (active, ← h.pointer) refl

set_mode_fault : (s : StoreState) (calls : List Command) (mode l channel prescaler priority : ℕ) → StoreStandsAfter s calls
    → fault_of s.profile calls (SetDaqListMode mode l channel prescaler priority)
    ≡ shown_fault s (SetDaqListMode mode l channel prescaler priority)
set_mode_fault s calls mode l channel prescaler priority h =
    rw (active_stands s calls l h, is_list_stands s calls l h) refl

start_stop_fault : (s : StoreState) (calls : List Command) (mode l : ℕ) → StoreStandsAfter s calls
    → fault_of s.profile calls (StartStopDaqList mode l) ≡ shown_fault s (StartStopDaqList mode l)
start_stop_fault s calls mode l h = elim (leb_tells (suc l) (length s.lists)) [
  | inl here ↦ rw (is_list_stands s calls l h, here.0, ready_stands s calls l h here.1) refl
  | inr past ↦ rw (is_list_stands s calls l h, past.0) refl
]

synch_fault : (s : StoreState) (calls : List Command) (mode : ℕ) → StoreStandsAfter s calls
    → fault_of s.profile calls (StartStopSynch mode) ≡ shown_fault s (StartStopSynch mode)
synch_fault s calls mode h = rw (any_stands s calls (is_unready s.profile.segments) h) refl

-- why a call is refused, if it is
pub fault_stands : (s : StoreState) (calls : List Command) (call : Command) → StoreStandsAfter s calls
    → fault_of s.profile calls call ≡ shown_fault s call
fault_stands s calls FreeDaq h = refl
fault_stands s calls (AllocDaq n) h = alloc_daq_fault s calls n h
fault_stands s calls (AllocOdt l n) h = alloc_odt_fault s calls l n h
fault_stands s calls (AllocOdtEntry l k n) h = alloc_odt_entry_fault s calls l k n h
fault_stands s calls (SetDaqPtr l k e) h = set_ptr_fault s calls l k e h
fault_stands s calls (WriteDaq bit size ext addr) h = write_fault s calls bit size ext addr h
fault_stands s calls (SetDaqListMode mode l channel prescaler priority) h =
    set_mode_fault s calls mode l channel prescaler priority h
fault_stands s calls (StartStopDaqList mode l) h = start_stop_fault s calls mode l h
fault_stands s calls (StartStopSynch mode) h = synch_fault s calls mode h
fault_stands s calls (ClearDaqList l) h = rw (is_list_stands s calls l h) refl
fault_stands s calls ReadDaq h = rw (← h.pointer) refl

-- what is answered where a check fails, and where none does
pub answer_fails : (s : StoreState) (calls : List Command) (call : Command) (code : ErrCode) → StoreStandsAfter s calls
    → shown_fault s call ≡ Some code → answer s.profile calls call ≡ Error code
answer_fails s calls call code h fault = ap (reply_by (accepted_reply s.profile calls call)) (fault_stands s calls call h ∙ fault)

pub answer_passes : (s : StoreState) (calls : List Command) (call : Command) → StoreStandsAfter s calls
    → shown_fault s call ≡ None → answer s.profile calls call ≡ accepted_reply s.profile calls call
answer_passes s calls call h fault = ap (reply_by (accepted_reply s.profile calls call)) (fault_stands s calls call h ∙ fault)

-- a refusal that carries the error of that check, or want of memory where none fails
pub refuses_code : {T : Type 0} (s : StoreState) (call : Command) (code : ErrCode) (r : Result T Refusal)
    → IsErrAnd r (λ e. e ≡ Code code) → shown_fault s call ≡ Some code → IfErr r (Refuses s call)
refuses_code s call code (Ok x) is fault = tt
refuses_code s call code (Err e) is fault =
    let answered : Refuses s call (Code code) = λ calls h. answer_fails s calls call code h fault in
    subst (λ (r : Refusal). Refuses s call r) (sym is) answered

pub refuses_memory : {T : Type 0} (s : StoreState) (call : Command) (r : Result T Refusal)
    → IsErrAnd r (λ e. e ≡ Memory) → shown_fault s call ≡ None → IfErr r (Refuses s call)
refuses_memory s call (Ok x) is passes = tt
refuses_memory s call (Err e) is passes =
    let passed : Refuses s call Memory = λ calls h. fault_stands s calls call h ∙ passes in
    subst (λ (r : Refusal). Refuses s call r) (sym is) passed
