-- An account with one part more, with some samples that were not sent, and with one measurement
-- more.
use Rattle.std.proofs.Common.{◌≡◌, ◌≢◌, ℕ, ◌+◌, ◌^◌, ◌<◌, ◌≤◌, inl, inr, List, [], ◌∷◌, replicate, refl, sym, ◌∙◌, subst, arith, suc, zero}
use Rattle.std.specs.Prelude.{slice_get, Some}
use Rattle.std.proofs.lemmas.Bool.Decides.{eqb_tells}
use Rattle.std.proofs.lemmas.List.Elements.{All-cons, All-nil}
use Rattle.xcp_base.specs.declared.limits.TheConstants.{MAX_LISTS}
use Rattle.daq_engine.specs.declared.report.ListReport.{ListReport}
use Rattle.slave_outbox.specs.Intakes.{StandsAfter}
use Rattle.slave_channels.specs.Channels.{FinishedState, HasLine, IsPastOf}
use Rattle.slave_channels.specs.Accounts.{AccountStandsAfter, AccountState, AreSums, Entry, HasEntries, IsEntry, end_of, more_unsent}
use Rattle.slave_channels.specs.AccountInner.{AddsBelow, ChangesBelow, ChangesBy, HasAdded, advanced, changed, moved, plus}
use Rattle.slave_channels.specs.declared.sums.Sums.{Sums}
use Rattle.slave_channels.specs.declared.sums.TheConstants.{NO_SUMS}
use Rattle.slave_channels.proofs.EntryLemmas.{more-list, more-measurement}
use Rattle.slave_channels.proofs.SumsLemmas.{advanced-are, moved-are, none-sums, plus-are, same-are}

-- each of equal sums is those
pub all-same : (s : Sums) (n l : ℕ) → l < n → slice_get (replicate n s) l ≡ Some s
all-same s zero l below = absurd (omega (arith, below))
all-same s (suc n) zero below = refl
all-same s (suc n) (suc l) below = all-same s n l (omega (arith, below))

-- where nothing was added, nothing is
pub none-stands : (lists : List Sums) → ((l : ℕ) → l < MAX_LISTS → slice_get lists l ≡ Some NO_SUMS) → AccountStandsAfter (record { lists = lists; end = 0 }) [] (λ m l. 0)
none-stands lists are = record {
  has = record {
    entries_are = All-nil IsEntry;
    reach = omega arith;
    none_ahead = λ m l over below. refl;
    lists = λ l below. (NO_SUMS, are l below, none-sums l);
  };
  end_is = refl;
}

-- a part that came back is an entry
pub is-entry : (f : FinishedState) (e : Entry) → IsPastOf f e.past → StandsAfter f.intake e.deeds → IsEntry e
is-entry f e is there = record { plans = is.plans; decided = is.stands.decisions; front = is.front e.deeds there }

-- the account with the lines of a part, in a measurement that it has begun
pub adds : (f : FinishedState) (k n : ℕ) (old new : List Sums) → AddsBelow f k MAX_LISTS old new
    → (e : Entry) → e.number + (k + 1) ≡ n → IsPastOf f e.past → StandsAfter f.intake e.deeds
    → (entries : List Entry) (unsent : ℕ → ℕ → ℕ) → HasEntries (record { lists = old; end = n }) entries unsent → HasEntries (record { lists = new; end = n }) (e ∷ entries) unsent
adds f k n old new added e number is there entries unsent has = record {
  entries_are = All-cons IsEntry e entries (is-entry f e is there) has.entries_are;
  reach = omega (arith, has.reach, number);
  none_ahead = λ m l over below. has.none_ahead m l (omega (arith, over)) below;
  lists = λ l below.
      let (line, has_line, gives) = added.below l below in
      let (s, at, are) = has.lists l below in
      (changed k (λ t. plus t line) s, gives s at, plus-are n k l e entries unsent s line number (has_line e.past e.deeds is there) are);
}

-- n samples of list l in measurement m were not sent
pub unsent-stands : (old new : List Sums) (end m k l n : ℕ) → n ≤ 2 ^ 64 → m + (k + 1) ≡ end → ChangesBy old new l (changed k (λ t. moved t n)) → (entries : List Entry) (unsent : ℕ → ℕ → ℕ)
    → m < end_of entries → HasEntries (record { lists = old; end = end }) entries unsent → HasEntries (record { lists = new; end = end }) entries (more_unsent m l n unsent)
unsent-stands old new end m k l n few number changes entries unsent there has = record {
  entries_are = has.entries_are;
  reach = has.reach;
  none_ahead = λ i j over below. more-measurement m l n unsent i j (λ same. omega (arith, over, there, same)) ∙ has.none_ahead i j over below;
  lists = λ j below. elim (eqb_tells j l) [
    | inl w ↦ here j w.1 (has.lists j below)
    | inr w ↦ other j w.1 (has.lists j below)
  ];
} where
  here : (j : ℕ) → j ≡ l → ((s : Sums) × (slice_get old j ≡ Some s) × AreSums end entries unsent j s) → (s : Sums) × (slice_get new j ≡ Some s) × AreSums end entries (more_unsent m l n unsent) j s
  here j same (s, at, are) = (
    changed k (λ t. moved t n) s,
    subst (λ x. slice_get new x ≡ Some (changed k (λ t. moved t n) s)) (sym same) (changes.here s (subst (λ x. slice_get old x ≡ Some s) same at)),
    subst (λ x. AreSums end entries (more_unsent m l n unsent) x (changed k (λ t. moved t n) s)) (sym same) (moved-are end m k l n entries unsent s number few (subst (λ x. AreSums end entries unsent x s) same are)),
  )

  other : (j : ℕ) → j ≢ l → ((s : Sums) × (slice_get old j ≡ Some s) × AreSums end entries unsent j s) → (s : Sums) × (slice_get new j ≡ Some s) × AreSums end entries (more_unsent m l n unsent) j s
  other j differs (s, at, are) = (
    s,
    changes.others j differs ∙ at,
    same-are end j entries unsent (more_unsent m l n unsent) s (λ i. more-list m l n unsent i j differs) are,
  )

-- one measurement more begins
pub advances : (old new : List Sums) (end : ℕ) → ChangesBelow MAX_LISTS old new advanced → (entries : List Entry) (unsent : ℕ → ℕ → ℕ)
    → HasEntries (record { lists = old; end = end }) entries unsent → HasEntries (record { lists = new; end = end + 1 }) entries unsent
advances old new end changes entries unsent has = record {
  entries_are = has.entries_are;
  reach = omega (arith, has.reach);
  none_ahead = has.none_ahead;
  lists = λ l below.
      let (s, at, are) = has.lists l below in
      (advanced s, changes.below l below s at, advanced-are end l entries unsent s are has.reach (has.none_ahead end l has.reach below));
}

-- where of each list as many samples were not sent
pub same-unsent : (account : AccountState) (entries : List Entry) (u v : ℕ → ℕ → ℕ) → ((m l : ℕ) → l < MAX_LISTS → u m l ≡ v m l) → AccountStandsAfter account entries u → AccountStandsAfter account entries v
same-unsent account entries u v same stands = record {
  has = record {
    entries_are = stands.has.entries_are;
    reach = stands.has.reach;
    none_ahead = λ m l over below. sym (same m l below) ∙ stands.has.none_ahead m l over below;
    lists = λ l below.
        let (s, at, are) = stands.has.lists l below in
        (s, at, same-are account.end l entries u v s (λ m. sym (same m l below)) are);
  };
  end_is = stands.end_is;
}

-- the sums of no list changed
pub changed-none : (old : List Sums) (f : Sums → Sums) → ChangesBelow 0 old old f
changed-none old f = record { below = λ l less. absurd (omega (arith, less)); others = λ l over. refl }

-- those of the next list do
pub changed-more : (n : ℕ) (old now new : List Sums) (f : Sums → Sums) → ChangesBelow n old now f → ChangesBy now new n f → ChangesBelow (n + 1) old new f
changed-more n old now new f so_far changes = record {
  below = λ l less s at. elim (eqb_tells l n) [
    | inl w ↦ subst (λ x. slice_get new x ≡ Some (f s)) (sym w.1) (changes.here s (so_far.others n (omega arith) ∙ subst (λ x. slice_get old x ≡ Some s) w.1 at))
    | inr w ↦ changes.others l w.1 ∙ so_far.below l (omega (arith, less, w.1)) s at
  ];
  others = λ l over. changes.others l (λ same. omega (arith, over, same)) ∙ so_far.others l (omega (arith, over));
}

module _ (f : FinishedState) (k : ℕ) where
  pub added-none : (old : List Sums) → AddsBelow f k 0 old old
  added-none old = record { below = λ l less. absurd (omega (arith, less)); others = λ l over. refl }

  -- with the line of the next list
  pub added-more : (n : ℕ) (old now new : List Sums) (line : ListReport) → AddsBelow f k n old now → HasLine f n line → ChangesBy now new n (changed k (λ t. plus t line)) → AddsBelow f k (n + 1) old new
  added-more n old now new line added has changes = record {
    below = λ l less. elim (eqb_tells l n) [
      | inl w ↦ subst (HasAdded f k old new) (sym w.1) (line, has, λ s at. changes.here s (added.others n (omega arith) ∙ at))
      | inr w ↦
          let (its, has_it, gives) = added.below l (omega (arith, less, w.1)) in
          (its, has_it, λ s at. changes.others l w.1 ∙ gives s at)
    ];
    others = λ l over. changes.others l (λ same. omega (arith, over, same)) ∙ added.others l (omega (arith, over));
  }
