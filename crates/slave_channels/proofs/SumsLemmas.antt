-- The sums of a list behind each change: one measurement more, one entry more, some more that were
-- not sent.
use Rattle.std.proofs.Common.{◌≡◌, ◌≢◌, ℕ, zero, suc, ◌+◌, ◌-◌, ◌%◌, ◌^◌, ◌<◌, ◌≤◌, List, [], ◌∷◌, refl, sym, ap, ◌∙◌, subst, inl, inr, arith}
use Rattle.std.specs.List.{sum_by}
use Rattle.std.proofs.lemmas.Bool.Decides.{eqb_tells, leb_tells}
use Rattle.slave_outbox.specs.Accounts.{IsLineOf}
use Rattle.daq_engine.specs.declared.report.ListReport.{ListReport}
use Rattle.slave_channels.specs.Accounts.{AreSums, AreTotals, Entry, accepted_in, accepted_of, before, dropped_in, dropped_of, due_in, due_of, end_of, more_unsent, of_measurement, row, sum_before, written_in, written_of}
use Rattle.slave_channels.specs.AccountInner.{advanced, all_of, changed, joined, moved, plus}
use Rattle.slave_channels.specs.declared.sums.Sums.{Sums}
use Rattle.slave_channels.specs.declared.totals.Totals.{Totals}
use Rattle.slave_channels.specs.declared.totals.TheConstants.{NONE}
use Rattle.slave_channels.proofs.AddingLemmas.{totals-moved, totals-plus}
use Rattle.slave_channels.proofs.EntryLemmas.{all-before, before-less, before-more, more-here, more-measurement, none-of, of-other, of-same, sum-more, sum-next, sum-same}
use Rattle.slave_channels.proofs.RowLemmas.{older-beside, older-with, row-beside, row-older, row-with}
use Rattle.slave_channels.proofs.TotalsLemmas.{agree-mod, agree-plus, agree-same}

-- totals of other entries with the same sums
pub joined-are : (xs ys zs : List Entry) (u v w l : ℕ) (t s : Totals) → ((f : Entry → ℕ) → sum_by f zs ≡ sum_by f xs + sum_by f ys) → w ≡ u + v
    → AreTotals xs u l t → AreTotals ys v l s → AreTotals zs w l (joined t s)
joined-are xs ys zs u v w l t s sums same a b = record {
  all_due =
      agree-mod (t.due + s.due) ∙ agree-plus t.due (due_in xs l) s.due (due_in ys l) a.all_due b.all_due
      ∙ agree-same (due_in xs l + due_in ys l) (due_in zs l) (sym (sums (λ e. due_of e l)));
  dropped =
      agree-mod (t.dropped + s.dropped) ∙ agree-plus t.dropped (dropped_in xs l) s.dropped (dropped_in ys l) a.dropped b.dropped
      ∙ agree-same (dropped_in xs l + dropped_in ys l) (dropped_in zs l) (sym (sums (λ e. dropped_of e l)));
  written =
      agree-plus ((t.written + s.written) % 2 ^ 64) (t.written + s.written) w (u + v) (agree-mod (t.written + s.written)) (agree-same w (u + v) same)
      ∙ agree-same (t.written + s.written + (u + v)) (t.written + u + (s.written + v)) (omega arith)
      ∙ agree-plus (t.written + u) (written_in xs l) (s.written + v) (written_in ys l) a.written b.written
      ∙ agree-same (written_in xs l + written_in ys l) (written_in zs l) (sym (sums (λ e. written_of e l)));
  left =
      agree-plus ((t.left + s.left) % 2 ^ 64) (t.left + s.left) ((t.written + s.written) % 2 ^ 64) (t.written + s.written) (agree-mod (t.left + s.left)) (agree-mod (t.written + s.written))
      ∙ agree-same (t.left + s.left + (t.written + s.written)) (t.left + t.written + (s.left + s.written)) (omega arith)
      ∙ agree-plus (t.left + t.written) (accepted_in xs l) (s.left + s.written) (accepted_in ys l) a.left b.left
      ∙ agree-same (accepted_in xs l + accepted_in ys l) (accepted_in zs l) (sym (sums (λ e. accepted_of e l)));
}

none-are : (l : ℕ) → AreTotals [] 0 l NONE
none-are l = record { all_due = refl; dropped = refl; written = refl; left = refl }

-- of no entries
pub are-none : (es : List Entry) (u l : ℕ) → es ≡ [] → u ≡ 0 → AreTotals es u l NONE
are-none es u l none zero_u = subst (λ xs. AreTotals xs u l NONE) (sym none) (subst (λ x. AreTotals [] x l NONE) (sym zero_u) (none-are l))

nothing-more : (xs : List Entry) (f : Entry → ℕ) → sum_by f xs ≡ sum_by f xs + sum_by f []
nothing-more xs f = omega arith

-- the entries of the measurements before one, and of that measurement
pub with-next : (m l : ℕ) (es : List Entry) (unsent : ℕ → ℕ → ℕ) (t s : Totals) → AreTotals (before m es) (sum_before m unsent l) l t → AreTotals (of_measurement m es) (unsent m l) l s
    → AreTotals (before (suc m) es) (sum_before (suc m) unsent l) l (joined t s)
with-next m l es unsent t s a b =
    joined-are (before m es) (of_measurement m es) (before (suc m) es) (sum_before m unsent l) (unsent m l) (sum_before (suc m) unsent l) l t s (λ f. sum-next f m es) refl a b

-- one of the last four measurements more
up-one : (e k l : ℕ) (es : List Entry) (unsent : ℕ → ℕ → ℕ) (s : Sums) (t : Totals) → AreSums e es unsent l s → k < 4
    → AreTotals (before (e - (k + 1)) es) (sum_before (e - (k + 1)) unsent l) l t → AreTotals (before (e - k) es) (sum_before (e - k) unsent l) l (joined t (row k s))
up-one e k l es unsent s t are few has =
    elim (leb_tells e k) [
      | inl w ↦
          let same : e - (k + 1) ≡ e - k = omega (arith, w.1) in
          let now = subst (λ m. AreTotals (before m es) (sum_before m unsent l) l t) same has in
          let n = e - k in
          subst (λ r. AreTotals (before n es) (sum_before n unsent l) l (joined t r)) (sym (are.spare k w.1 few))
          (joined-are (before n es) [] (before n es) (sum_before n unsent l) 0 (sum_before n unsent l) l t NONE (nothing-more (before n es)) (omega arith) now (none-are l))
      | inr w ↦
          let m = e - (k + 1) in
          let same : suc m ≡ e - k = omega (arith, w.1) in
          subst (λ n. AreTotals (before n es) (sum_before n unsent l) l (joined t (row k s))) same
          (with-next m l es unsent t (row k s) has (are.each m k (omega (arith, w.1)) few))
    ]

-- the five are all
pub all-are : (e l : ℕ) (es : List Entry) (unsent : ℕ → ℕ → ℕ) (s : Sums) → AreSums e es unsent l s → end_of es ≤ e → AreTotals es (sum_before e unsent l) l (all_of s)
all-are e l es unsent s are within =
    let three = up-one e 3 l es unsent s s.older are (omega arith) are.older in
    let two = up-one e 2 l es unsent s _ are (omega arith) three in
    let one = up-one e 1 l es unsent s _ are (omega arith) two in
    let all = up-one e 0 l es unsent s (joined (joined (joined s.older s.fourth) s.third) s.second) are (omega arith) one in
    let same : e - 0 ≡ e = omega arith in
    let now = subst (λ m. AreTotals (before m es) (sum_before m unsent l) l (all_of s)) same all in
    subst (λ xs. AreTotals xs (sum_before e unsent l) l (all_of s)) (all-before es e within) now

-- one measurement more begins
pub advanced-are : (e l : ℕ) (es : List Entry) (unsent : ℕ → ℕ → ℕ) (s : Sums) → AreSums e es unsent l s → end_of es ≤ e → unsent e l ≡ 0 → AreSums (e + 1) es unsent l (advanced s)
advanced-are e l es unsent s are within none = record {
  each = each;
  spare = spare;
  older =
      let same : e - 3 ≡ e + 1 - 4 = omega arith in
      subst (λ m. AreTotals (before m es) (sum_before m unsent l) l (joined s.older s.fourth)) same (up-one e 3 l es unsent s s.older are (omega arith) are.older);
} where
  each : (m k : ℕ) → m + (k + 1) ≡ e + 1 → k < 4 → AreTotals (of_measurement m es) (unsent m l) l (row k (advanced s))
  each m zero is few =
      let same : m ≡ e = omega (arith, is) in
      are-none (of_measurement m es) (unsent m l) l (none-of es m (omega (arith, within, same))) (ap (λ n. unsent n l) same ∙ none)
  each m (suc zero) is few = are.each m 0 (omega (arith, is)) (omega arith)
  each m (suc (suc zero)) is few = are.each m 1 (omega (arith, is)) (omega arith)
  each m (suc (suc (suc zero))) is few = are.each m 2 (omega (arith, is)) (omega arith)
  each m (suc (suc (suc (suc k)))) is few = absurd (omega (arith, few))

  spare : (k : ℕ) → e + 1 ≤ k → k < 4 → row k (advanced s) ≡ NONE
  spare zero over few = absurd (omega (arith, over))
  spare (suc zero) over few = are.spare 0 (omega (arith, over)) (omega arith)
  spare (suc (suc zero)) over few = are.spare 1 (omega (arith, over)) (omega arith)
  spare (suc (suc (suc zero))) over few = are.spare 2 (omega (arith, over)) (omega arith)
  spare (suc (suc (suc (suc k)))) over few = absurd (omega (arith, few))

-- other entries, which differ in measurement m alone: of it, and of those before a later one, the
-- totals change so
record Differs (m l : ℕ) (f : Totals → Totals) (xs ys : List Entry) (u v : ℕ → ℕ → ℕ) : Type 0 where
  pub here : (t : Totals) → AreTotals (of_measurement m xs) (u m l) l t → AreTotals (of_measurement m ys) (v m l) l (f t)
  pub behind : (n : ℕ) (t : Totals) → m < n → AreTotals (before n xs) (sum_before n u l) l t → AreTotals (before n ys) (sum_before n v l) l (f t)
  pub others : (i : ℕ) → i ≢ m → of_measurement i ys ≡ of_measurement i xs
  pub others_unsent : (i : ℕ) → i ≢ m → v i l ≡ u i l
  pub ahead : (n : ℕ) → n ≤ m → before n ys ≡ before n xs
  pub ahead_unsent : (n : ℕ) → n ≤ m → sum_before n v l ≡ sum_before n u l

changed-are : (e m k l : ℕ) (f : Totals → Totals) (xs ys : List Entry) (u v : ℕ → ℕ → ℕ) (s : Sums) → m + (k + 1) ≡ e → Differs m l f xs ys u v → AreSums e xs u l s → AreSums e ys v l (changed k f s)
changed-are e m k l f xs ys u v s is differs are = record {
  each = λ i j at few. elim (eqb_tells j k) [
    | inl w ↦
        let same : m ≡ i = omega (arith, at, is, w.1) in
        subst (λ n. AreTotals (of_measurement n ys) (v n l) l (row j (changed k f s))) same
        (subst (λ n. AreTotals (of_measurement m ys) (v m l) l (row n (changed k f s))) (sym w.1)
        (subst (AreTotals (of_measurement m ys) (v m l) l) (sym (row-with k (f (row k s)) s)) (differs.here (row k s) (are.each m k is (omega (arith, few, w.1))))))
    | inr w ↦
        let other : i ≢ m = λ same. w.1 (omega (arith, at, is, same)) in
        subst (AreTotals (of_measurement i ys) (v i l) l) (sym (row-beside j k (f (row k s)) s w.1 few))
        (subst (λ zs. AreTotals zs (v i l) l (row j s)) (sym (differs.others i other))
        (subst (λ n. AreTotals (of_measurement i xs) n l (row j s)) (sym (differs.others_unsent i other)) (are.each i j at few)))
  ];
  spare = λ j over few. row-beside j k (f (row k s)) s (λ same. omega (arith, over, is, same)) few ∙ are.spare j over few;
  older = elim (leb_tells 4 k) [
    | inl w ↦
        subst (AreTotals (before (e - 4) ys) (sum_before (e - 4) v l) l) (sym (older-with k (f (row k s)) s w.1))
        (differs.behind (e - 4) (row k s) (omega (arith, is, w.1)) (subst (AreTotals (before (e - 4) xs) (sum_before (e - 4) u l) l) (sym (row-older k s w.1)) are.older))
    | inr w ↦
        let within : e - 4 ≤ m = omega (arith, is, w.1) in
        subst (AreTotals (before (e - 4) ys) (sum_before (e - 4) v l) l) (sym (older-beside k (f (row k s)) s w.1))
        (subst (λ zs. AreTotals zs (sum_before (e - 4) v l) l s.older) (sym (differs.ahead (e - 4) within))
        (subst (λ n. AreTotals (before (e - 4) xs) n l s.older) (sym (differs.ahead_unsent (e - 4) within)) are.older))
  ];
}

-- with the line of one entry more
pub plus-are : (e k l : ℕ) (entry : Entry) (es : List Entry) (unsent : ℕ → ℕ → ℕ) (s : Sums) (line : ListReport) → entry.number + (k + 1) ≡ e → IsLineOf entry.past entry.deeds l line
    → AreSums e es unsent l s → AreSums e (entry ∷ es) unsent l (changed k (λ t. plus t line) s)
plus-are e k l entry es unsent s line is has are =
    changed-are e entry.number k l (λ t. plus t line) es (entry ∷ es) unsent unsent s is (record {
      here = λ t own.
          subst (λ xs. AreTotals xs (unsent entry.number l) l (plus t line)) (sym (of-same entry.number entry es refl))
          (totals-plus entry (of_measurement entry.number es) (unsent entry.number l) l t line has own);
      behind = λ n t less own.
          subst (λ xs. AreTotals xs (sum_before n unsent l) l (plus t line)) (sym (before-less n entry es less))
          (totals-plus entry (before n es) (sum_before n unsent l) l t line has own);
      others = λ i other. of-other i entry es (λ same. other (sym same));
      others_unsent = λ i other. refl;
      ahead = λ n over. before-more n entry es over;
      ahead_unsent = λ n over. refl;
    }) are

-- with n more that were not sent
pub moved-are : (e m k l n : ℕ) (es : List Entry) (unsent : ℕ → ℕ → ℕ) (s : Sums) → m + (k + 1) ≡ e → n ≤ 2 ^ 64
    → AreSums e es unsent l s → AreSums e es (more_unsent m l n unsent) l (changed k (λ t. moved t n) s)
moved-are e m k l n es unsent s is few are =
    changed-are e m k l (λ t. moved t n) es es unsent (more_unsent m l n unsent) s is (record {
      here = λ t own.
          subst (λ x. AreTotals (of_measurement m es) x l (moved t n)) (sym (more-here m l n unsent))
          (totals-moved (of_measurement m es) (unsent m l) l n t few own);
      behind = λ i t less own.
          subst (λ x. AreTotals (before i es) x l (moved t n)) (sym (sum-more i m l n unsent less))
          (totals-moved (before i es) (sum_before i unsent l) l n t few own);
      others = λ i other. refl;
      others_unsent = λ i other. more-measurement m l n unsent i l other;
      ahead = λ i over. refl;
      ahead_unsent = λ i over. sum-same i (more_unsent m l n unsent) unsent l (λ j less. more-measurement m l n unsent j l (λ same. omega (arith, less, over, same)));
    }) are

-- where of the list as many were not sent
pub same-are : (e l : ℕ) (es : List Entry) (u v : ℕ → ℕ → ℕ) (s : Sums) → ((m : ℕ) → v m l ≡ u m l) → AreSums e es u l s → AreSums e es v l s
same-are e l es u v s same are = record {
  each = λ m k at few. subst (λ n. AreTotals (of_measurement m es) n l (row k s)) (sym (same m)) (are.each m k at few);
  spare = are.spare;
  older = subst (λ n. AreTotals (before (e - 4) es) n l s.older) (sym (sum-same (e - 4) v u l (λ m less. same m))) are.older;
}

-- where nothing was added, all are of zeros
pub none-sums : (l : ℕ) → AreSums 0 [] (λ m k. 0) l (record { last = NONE; second = NONE; third = NONE; fourth = NONE; older = NONE })
none-sums l = record { each = λ m k at few. absurd (omega (arith, at)); spare = spare; older = none-are l } where
  spare : (k : ℕ) → 0 ≤ k → k < 4 → row k (record { last = NONE; second = NONE; third = NONE; fourth = NONE; older = NONE }) ≡ NONE
  spare zero over few = refl
  spare (suc zero) over few = refl
  spare (suc (suc zero)) over few = refl
  spare (suc (suc (suc zero))) over few = refl
  spare (suc (suc (suc (suc k)))) over few = absurd (omega (arith, few))
