-- Words that are read one after another, as a loop does.
use Rattle.std.proofs.Common.{◌≡◌, ℕ, zero, suc, ◌+◌, ◌-◌, ◌<◌, ◌≤◌, List, [], ◌∷◌, ◌++◌, length, map, Option, Some, None, refl, sym, ap, subst, ◌∙◌, append_assoc, arith}
use Rattle.std.specs.Option.{option_map, MatchOption}
use Rattle.a2l_text.specs.declared.located.Located.{Located}
use Rattle.std.proofs.lemmas.List.{append-nil, length-map}
use Rattle.a2l_text.specs.Tokens.{Token}
use Rattle.a2l_entries.specs.declared.entry_fault.EntryFault.{EntryFault}
use Rattle.a2l_entries.specs.declared.entry_fault.EntryFault.TheVariants as entry
use Rattle.a2l_entries.specs.Gives.{◌>>=◌, Stops}
use Rattle.a2l_entries.specs.Said.{behind, token_at}
use Rattle.a2l_entries.specs.Scans.{scanned, many}

-- what stops a part stops the whole
pub stops_along : {A B : Type 0} (e : EntryFault) (x : Option A) (y : Option B) → (x ≡ None → y ≡ None) → Stops e x → Stops e y
stops_along entry.Memory x y h s = tt
stops_along (entry.Awaited at what) x y h s = h s
stops_along (entry.Refused at what) x y h s = h s

-- ---- options

pub record IsMonoid {O : Type 0} (none : O) (or : O → O → O) : Type 0 where
  pub left : (x : O) → or none x ≡ x
  pub right : (x : O) → or x none ≡ x
  pub assoc : (x y z : O) → or (or x y) z ≡ or x (or y z)

pub starts : {O : Type 0} (none : O) (or : O → O → O) → IsMonoid none or → (o : Option O) → option_map (or none) o ≡ o
starts none or m None = refl
starts none or m (Some x) = ap Some (m.left x)

module _ {O : Type 0} (none : O) (or : O → O → O) (count : Token → ℕ) (one : Token → List Token → Option O) where
  passed : (n : ℕ) (ws : List Token) → scanned none or count one n ws ≡ (behind n ws >>= λ left. scanned none or count one 0 left)
  unfolding scanned
  passed zero ws = refl
  passed (suc n) [] = refl
  passed (suc n) (w ∷ ws) = passed n ws

  regroup : (m : IsMonoid none or) (acc first : O) (o : Option O) → option_map (or acc) (o >>= λ x. Some (or first x)) ≡ option_map (or (or acc first)) o
  regroup m acc first None = refl
  regroup m acc first (Some x) = ap Some (sym (m.assoc acc first x))

  pub goes_on : (m : IsMonoid none or) (acc first : O) (w : Token) (ws rest : List Token) (total : Option O) → one w ws ≡ Some first → behind (count w) ws ≡ Some rest
      → option_map (or acc) (scanned none or count one 0 (w ∷ ws)) ≡ total → option_map (or (or acc first)) (scanned none or count one 0 rest) ≡ total
  unfolding scanned
  goes_on m acc first w ws rest total e f so_far =
      let whole : scanned none or count one 0 (w ∷ ws) ≡ (scanned none or count one 0 rest >>= λ x. Some (or first x)) = rw (e, passed (count w) ws, f) refl in
      sym (regroup m acc first (scanned none or count one 0 rest)) ∙ ap (option_map (or acc)) (sym whole) ∙ so_far

  pub stops_one : (e : EntryFault) (acc : O) (w : Token) (ws : List Token) (total : Option O) → Stops e (one w ws)
      → option_map (or acc) (scanned none or count one 0 (w ∷ ws)) ≡ total → Stops e total
  unfolding scanned
  stops_one e acc w ws total s so_far = stops_along e (one w ws) total (λ (n : one w ws ≡ None).
      let whole : scanned none or count one 0 (w ∷ ws) ≡ None = rw n refl in sym so_far ∙ ap (option_map (or acc)) whole) s

  pub stops_behind : (e : EntryFault) (acc first : O) (w : Token) (ws : List Token) (total : Option O) → one w ws ≡ Some first → Stops e (behind (count w) ws)
      → option_map (or acc) (scanned none or count one 0 (w ∷ ws)) ≡ total → Stops e total
  unfolding scanned
  stops_behind e acc first w ws total f s so_far = stops_along e (behind (count w) ws) total (λ (n : behind (count w) ws ≡ None).
      let whole : scanned none or count one 0 (w ∷ ws) ≡ None = rw (f, passed (count w) ws, n) refl in sym so_far ∙ ap (option_map (or acc)) whole) s

  pub is_done : (m : IsMonoid none or) (acc : O) (total : Option O) → option_map (or acc) (scanned none or count one 0 []) ≡ total → total ≡ Some acc
  unfolding scanned
  is_done m acc total so_far = sym so_far ∙ ap Some (m.right acc)

-- a value that isn't there
pub none_left : {A : Type 0} (o : Option A) (P : Type 0) (Q : A → Type 0) → ((x : A) → o ≡ Some x → ⊥) → MatchOption o P Q → P
none_left None P Q n m = m
none_left (Some x) P Q n m = absurd (n x refl)

pub no_tokens : (ls : List Located) → length ls ≡ 0 → map token_at ls ≡ []
no_tokens [] e = refl
no_tokens (l ∷ ls) e = absurd (omega arith)

-- no more words are left than there were
behind_keeps : (n : ℕ) (ws rest : List Token) → behind n ws ≡ Some rest → length rest ≤ length ws
behind_keeps zero ws rest e = let same : ws ≡ rest = cc in omega (arith, ap length same)
behind_keeps (suc n) [] rest e = absurd cc
behind_keeps (suc n) (w ∷ ws) rest e = omega (arith, behind_keeps n ws rest e)

-- fewer words are left behind a keyword and the words that belong to it
pub fewer_left : (n : ℕ) (old words rest : List Located) (word : Located) → old ≡ word ∷ words
    → behind n (map token_at words) ≡ Some (map token_at rest) → length rest < length old
fewer_left n old words rest word is e =
    omega (arith, ap length is, behind_keeps n (map token_at words) (map token_at rest) e, length-map words token_at, length-map rest token_at)

-- the same, where keywords are told apart first
module _ {O K : Type 0} (none : O) (or : O → O → O) (key : Token → K) (args : K → ℕ) (one : K → List Token → Option O) where
  abbrev pub all_said : List Token → Option O
  all_said ws = scanned none or (λ w. args (key w)) (λ w behind. one (key w) behind) 0 ws

  so_far_at : (acc : O) (ws : List Token) (w : Token) (bs : List Token) (total : Option O) → ws ≡ w ∷ bs → option_map (or acc) (all_said ws) ≡ total → option_map (or acc) (all_said (w ∷ bs)) ≡ total
  so_far_at acc ws w bs total is so_far = ap (λ (x : List Token). option_map (or acc) (all_said x)) (sym is) ∙ so_far

  pub options_go_on : (m : IsMonoid none or) (acc first : O) (ws : List Token) (w : Token) (bs rest : List Token) (k : K) (n : ℕ) (total : Option O) → ws ≡ w ∷ bs → k ≡ key w → n ≡ args k
      → one k bs ≡ Some first → behind n bs ≡ Some rest → option_map (or acc) (all_said ws) ≡ total → option_map (or (or acc first)) (all_said rest) ≡ total
  options_go_on m acc first ws w bs rest k n total is ek en e f so_far =
      goes_on none or (λ w. args (key w)) (λ w behind. one (key w) behind) m acc first w bs rest total (ap (λ (x : K). one x bs) (sym ek) ∙ e)
      (ap (λ (x : ℕ). behind x bs) (sym (en ∙ ap args ek)) ∙ f) (so_far_at acc ws w bs total is so_far)

  pub options_stop : (e : EntryFault) (acc : O) (ws : List Token) (w : Token) (bs : List Token) (k : K) (total : Option O) → ws ≡ w ∷ bs → k ≡ key w
      → Stops e (one k bs) → option_map (or acc) (all_said ws) ≡ total → Stops e total
  options_stop e acc ws w bs k total is ek s so_far =
      stops_one none or (λ w. args (key w)) (λ w behind. one (key w) behind) e acc w bs total (subst (λ (x : K). Stops e (one x bs)) ek s) (so_far_at acc ws w bs total is so_far)

  pub options_stop_behind : (e : EntryFault) (acc first : O) (ws : List Token) (w : Token) (bs : List Token) (k : K) (n : ℕ) (total : Option O) → ws ≡ w ∷ bs → k ≡ key w → n ≡ args k
      → one k bs ≡ Some first → Stops e (behind n bs) → option_map (or acc) (all_said ws) ≡ total → Stops e total
  options_stop_behind e acc first ws w bs k n total is ek en f s so_far =
      stops_behind none or (λ w. args (key w)) (λ w behind. one (key w) behind) e acc first w bs total (ap (λ (x : K). one x bs) (sym ek) ∙ f)
      (subst (λ (x : ℕ). Stops e (behind x bs)) (en ∙ ap args ek) s) (so_far_at acc ws w bs total is so_far)

  pub options_done : (m : IsMonoid none or) (acc : O) (ws : List Token) (total : Option O) → ws ≡ [] → option_map (or acc) (all_said ws) ≡ total → total ≡ Some acc
  options_done m acc ws total is so_far =
      is_done none or (λ w. args (key w)) (λ w behind. one (key w) behind) m acc total (ap (λ (x : List Token). option_map (or acc) (all_said x)) (sym is) ∙ so_far)

-- ---- rows

module _ {R : Type 0} (row : List Token → Option (R × List Token)) where
  -- what was read before, and what is still read
  abbrev pub with_rows : List R → Option (List R × List Token) → Option (List R × List Token)
  with_rows front found = found >>= λ x. Some (front ++ x.0, x.1)

  regroup_rows : (front : List R) (r : R) (found : Option (List R × List Token)) → with_rows front (found >>= λ x. Some (r ∷ x.0, x.1)) ≡ with_rows (front ++ r ∷ []) found
  regroup_rows front r (Some x) = ap (λ (rs : List R). Some (rs, x.1)) (simp append_assoc)
  regroup_rows front r None = refl

  pub row_goes_on : (front : List R) (count i : ℕ) (ws : List Token) (r : R) (after : List Token) (total : Option (List R × List Token)) → i < count → row ws ≡ Some (r, after)
      → with_rows front (many row (count - i) ws) ≡ total → with_rows (front ++ r ∷ []) (many row (count - (i + 1)) after) ≡ total
  unfolding many
  row_goes_on front count i ws r after total lt h so_far =
      let k : count - i ≡ suc (count - (i + 1)) = omega arith in
      let one : with_rows front (many row (count - i) ws) ≡ with_rows (front ++ r ∷ []) (many row (count - (i + 1)) after) = rw (k, h) (regroup_rows front r (many row (count - (i + 1)) after)) in
      sym one ∙ so_far

  pub row_stops : (e : EntryFault) (front : List R) (count i : ℕ) (ws : List Token) (total : Option (List R × List Token)) → i < count → Stops e (row ws)
      → with_rows front (many row (count - i) ws) ≡ total → Stops e total
  unfolding many
  row_stops e front count i ws total lt s so_far = stops_along e (row ws) total (λ (n : row ws ≡ None).
      let k : count - i ≡ suc (count - (i + 1)) = omega arith in
      let one : with_rows front (many row (count - i) ws) ≡ None = rw (k, n) refl in
      sym so_far ∙ one) s

  pub rows_done : (front : List R) (count i : ℕ) (ws : List Token) (total : Option (List R × List Token)) → count ≤ i
      → with_rows front (many row (count - i) ws) ≡ total → total ≡ Some (front, ws)
  unfolding many
  rows_done front count i ws total le so_far =
      let k : count - i ≡ 0 = omega arith in
      let one : with_rows front (many row (count - i) ws) ≡ Some (front, ws) = rw k (ap (λ (rs : List R). Some (rs, ws)) (append-nil front)) in
      sym so_far ∙ one
