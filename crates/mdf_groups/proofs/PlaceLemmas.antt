-- Where the values of columns stand in a record.
use Rattle.std.proofs.Common.{◌≡◌, ◌⊎◌, ℕ, zero, suc, ◌+◌, ◌≤◌, true, false, List, [], ◌∷◌}
use Rattle.std.proofs.Common.{◌++◌, ◌∙◌, All, Option, Some, None, inl, inr, ⊎_elim, length, drop}
use Rattle.std.proofs.Common.{refl, sym, ap, subst, arith, length-append}
use Rattle.std.specs.Prelude.{slice_get}
use Rattle.std.proofs.lemmas.List.Elements.{All-push}
use Rattle.measured_values.specs.Raws.{raw_by}
use Rattle.measured_values.specs.declared.bit_operation.BitOperation.{BitOperation}
use Rattle.measured_values.specs.declared.data_type.DataType.{DataType}
use Rattle.measured_values.specs.declared.data_type.DataType.TheVariants as type
use Rattle.measured_values.specs.declared.encoding.Encoding.{Encoding}
use Rattle.mdf_blocks.specs.ValuePlaces.{FindsRaw, is_float}
use Rattle.mdf_blocks.specs.declared.value_place.ValuePlace.{ValuePlace}
use Rattle.mdf_groups.specs.Places.{AddsPlace, ArePlaced, ColumnLiesIn, IsFound, NeedsOwn}
use Rattle.mdf_groups.specs.Places.{encoding_of}
use Rattle.mdf_groups.specs.Places.{own_of, own_place}
use Rattle.mdf_groups.specs.Records.{LiesIn}
use Rattle.mdf_groups.specs.declared.front.Front.{Front}
use Rattle.mdf_groups.specs.declared.own_value.OwnValue.{OwnValue}
use Rattle.mdf_groups.specs.declared.placed_column.PlacedColumn.{PlacedColumn}

-- no mask and no operation has an effect on a float
float_alone : (o : Option BitOperation) (t : DataType) (mask : Option ℕ) (n : ℕ)
    → is_float t ≡ true → raw_by None t None n ≡ raw_by o t mask n
float_alone o type.UByte mask n is = let e : false ≡ true = is in absurd cc
float_alone o type.SByte mask n is = let e : false ≡ true = is in absurd cc
float_alone o type.UWord mask n is = let e : false ≡ true = is in absurd cc
float_alone o type.SWord mask n is = let e : false ≡ true = is in absurd cc
float_alone o type.ULong mask n is = let e : false ≡ true = is in absurd cc
float_alone o type.SLong mask n is = let e : false ≡ true = is in absurd cc
float_alone o type.AUint64 mask n is = let e : false ≡ true = is in absurd cc
float_alone o type.AInt64 mask n is = let e : false ≡ true = is in absurd cc
float_alone None type.Float16 mask n is = refl
float_alone None type.Float32 mask n is = refl
float_alone None type.Float64 mask n is = refl
float_alone (Some o) type.Float16 mask n is = refl
float_alone (Some o) type.Float32 mask n is = refl
float_alone (Some o) type.Float64 mask n is = refl

pub float_found : (e plain : Encoding) (at : ℕ) (p : ValuePlace) → is_float e.data_type ≡ true
    → plain ≡ record { data_type = e.data_type; order = e.order; mask = None; operation = None }
    → FindsRaw plain at p → FindsRaw e at p
float_found e plain at p is same found =
    let bare : FindsRaw (record {
      data_type = e.data_type;
      order = e.order;
      mask = None;
      operation = None;
    }) at p = subst (λ (x : Encoding). FindsRaw x at p) same found in
    λ bytes all long. bare bytes all long ∙ float_alone e.operation e.data_type e.mask _ is

-- a column more that MDF finds
placed_found : (front : Front) (len before : ℕ) (cs : List PlacedColumn) (ps : List ValuePlace)
    (own : List OwnValue) (c : PlacedColumn) (p : ValuePlace)
    → ArePlaced front len before cs ps own → IsFound front c p
    → ArePlaced front len before (cs ++ c ∷ []) (ps ++ p ∷ []) own
placed_found front len before [] [] own c p are found = inl (found, are)
placed_found front len before [] (q ∷ ps) own c p are found = absurd are
placed_found front len before (d ∷ cs) [] own c p are found = absurd are
placed_found front len before (d ∷ cs) (q ∷ ps) own c p are found =
    ⊎_elim
    (λ (h : IsFound front d q × ArePlaced front len before cs ps own).
    inl (h.0, placed_found front len before cs ps own c p h.1 found))
    (λ (h : NeedsOwn d × (q ≡ own_place front len (encoding_of d) before)
    × (slice_get own 0 ≡ Some (own_of d)) × ArePlaced front len (before + 1) cs ps (drop 1 own)).
    inr (h.0, h.1, h.2, placed_found front len (before + 1) cs ps (drop 1 own) c p h.3 found))
    are

-- a column more that it doesn't find
placed_own : (front : Front) (len before : ℕ) (cs : List PlacedColumn) (ps : List ValuePlace)
    (own : List OwnValue) (c : PlacedColumn) → ArePlaced front len before cs ps own → NeedsOwn c
    → ArePlaced front len before (cs ++ c ∷ [])
    (ps ++ own_place front len (encoding_of c) (before + length own) ∷ []) (own ++ own_of c ∷ [])
placed_own front len before [] [] [] c are needs =
    inr (needs, ap (own_place front len (encoding_of c)) (omega arith), refl, refl)
placed_own front len before [] [] (v ∷ own) c are needs =
    let e : v ∷ own ≡ [] = are in absurd cc
placed_own front len before [] (q ∷ ps) own c are needs = absurd are
placed_own front len before (d ∷ cs) [] own c are needs = absurd are
placed_own front len before (d ∷ cs) (q ∷ ps) own c are needs =
    ⊎_elim
    (λ (h : IsFound front d q × ArePlaced front len before cs ps own).
    inl (h.0, placed_own front len before cs ps own c h.1 needs))
    (λ (h : NeedsOwn d × (q ≡ own_place front len (encoding_of d) before)
    × (slice_get own 0 ≡ Some (own_of d)) × ArePlaced front len (before + 1) cs ps (drop 1 own)).
    let both = behind own (λ (vs : List OwnValue) (r : ArePlaced front len (before + 1) cs ps vs).
    placed_own front len (before + 1) cs ps vs c r needs) h.2 h.3 in
    inr (h.0, h.1, both.0, both.1))
    are
  where
    behind : (own : List OwnValue) → ((vs : List OwnValue)
        → ArePlaced front len (before + 1) cs ps vs
        → ArePlaced front len (before + 1) (cs ++ c ∷ [])
        (ps ++ own_place front len (encoding_of c) (before + 1 + length vs) ∷ [])
        (vs ++ own_of c ∷ [])) → slice_get own 0 ≡ Some (own_of d)
        → ArePlaced front len (before + 1) cs ps (drop 1 own)
        → (slice_get (own ++ own_of c ∷ []) 0 ≡ Some (own_of d))
        × ArePlaced front len (before + 1) (cs ++ c ∷ [])
        (ps ++ own_place front len (encoding_of c) (before + length own) ∷ [])
        (drop 1 (own ++ own_of c ∷ []))
    behind [] later e rest = let none : None ≡ Some (own_of d) = e in absurd cc
    behind (v ∷ vs) later e rest = (
      e,
      subst (λ (k : ℕ). ArePlaced front len (before + 1) (cs ++ c ∷ [])
          (ps ++ own_place front len (encoding_of c) k ∷ []) (vs ++ own_of c ∷ []))
          (omega arith) (later vs rest),
    )

-- a column more
pub placed_more : (front : Front) (len : ℕ) (cs : List PlacedColumn) (own : List OwnValue)
    (ps : List ValuePlace) (own2 : List OwnValue) (ps2 : List ValuePlace) (c : PlacedColumn)
    → ArePlaced front len 0 cs ps own → AddsPlace front len c own ps own2 ps2
    → ArePlaced front len 0 (cs ++ c ∷ []) ps2 own2
placed_more front len cs own ps own2 ps2 c are adds =
    ⊎_elim
    (λ (h : (p : ValuePlace) × IsFound front c p × (ps2 ≡ ps ++ p ∷ []) × (own2 ≡ own)).
    subst (λ (qs : List ValuePlace). ArePlaced front len 0 (cs ++ c ∷ []) qs own2) (sym h.2)
    (subst (λ (vs : List OwnValue). ArePlaced front len 0 (cs ++ c ∷ []) (ps ++ h.0 ∷ []) vs)
    (sym h.3) (placed_found front len 0 cs ps own c h.0 are h.1)))
    (λ (h : NeedsOwn c × (ps2 ≡ ps ++ own_place front len (encoding_of c) (length own) ∷ [])
    × (own2 ≡ own ++ own_of c ∷ [])).
    subst (λ (qs : List ValuePlace). ArePlaced front len 0 (cs ++ c ∷ []) qs own2) (sym h.1)
    (subst (λ (vs : List OwnValue). ArePlaced front len 0 (cs ++ c ∷ [])
    (ps ++ own_place front len (encoding_of c) (length own) ∷ []) vs) (sym h.2)
    (subst (λ (k : ℕ). ArePlaced front len 0 (cs ++ c ∷ [])
    (ps ++ own_place front len (encoding_of c) k ∷ []) (own ++ own_of c ∷ [])) (omega arith)
    (placed_own front len 0 cs ps own c are h.0))))
    adds

-- as many places as columns
pub placed_count : (front : Front) (len before : ℕ) (cs : List PlacedColumn)
    (ps : List ValuePlace) (own : List OwnValue) → ArePlaced front len before cs ps own
    → length ps ≡ length cs
placed_count front len before [] [] own are = refl
placed_count front len before [] (q ∷ ps) own are = absurd are
placed_count front len before (d ∷ cs) [] own are = absurd are
placed_count front len before (d ∷ cs) (q ∷ ps) own are =
    ap suc (
    ⊎_elim
    (λ (h : IsFound front d q × ArePlaced front len before cs ps own).
    placed_count front len before cs ps own h.1)
    (λ (h : NeedsOwn d × (q ≡ own_place front len (encoding_of d) before)
    × (slice_get own 0 ≡ Some (own_of d)) × ArePlaced front len (before + 1) cs ps (drop 1 own)).
    placed_count front len (before + 1) cs ps (drop 1 own) h.3)
    are)

-- the values behind a sample lie in it
pub own_more : (front : Front) (len : ℕ) (own : List OwnValue) (ps : List ValuePlace)
    (own2 : List OwnValue) (ps2 : List ValuePlace) (c : PlacedColumn)
    → AddsPlace front len c own ps own2 ps2 → ColumnLiesIn len c → All (LiesIn len) own
    → All (LiesIn len) own2
own_more front len own ps own2 ps2 c adds inside all =
    ⊎_elim
    (λ (h : (p : ValuePlace) × IsFound front c p × (ps2 ≡ ps ++ p ∷ []) × (own2 ≡ own)).
    subst (All (LiesIn len)) (sym h.3) all)
    (λ (h : NeedsOwn c × (ps2 ≡ ps ++ own_place front len (encoding_of c) (length own) ∷ [])
    × (own2 ≡ own ++ own_of c ∷ [])).
    subst (All (LiesIn len)) (sym h.2) (All-push (LiesIn len) own (own_of c) all inside))
    adds

-- at most one more of them
pub own_count : (front : Front) (len : ℕ) (own : List OwnValue) (ps : List ValuePlace)
    (own2 : List OwnValue) (ps2 : List ValuePlace) (c : PlacedColumn)
    → AddsPlace front len c own ps own2 ps2 → length own2 ≤ length own + 1
own_count front len own ps own2 ps2 c adds =
    ⊎_elim
    (λ (h : (p : ValuePlace) × IsFound front c p × (ps2 ≡ ps ++ p ∷ []) × (own2 ≡ own)).
    omega (arith, ap length h.3))
    (λ (h : NeedsOwn c × (ps2 ≡ ps ++ own_place front len (encoding_of c) (length own) ∷ [])
    × (own2 ≡ own ++ own_of c ∷ [])).
    omega (arith, ap length h.2, length-append own (own_of c ∷ [])))
    adds

-- the place of a column, either way
pub found_or_own : (front : Front) (len before : ℕ) (cs : List PlacedColumn)
    (ps : List ValuePlace) (own : List OwnValue) (i : ℕ) (c : PlacedColumn) (p : ValuePlace)
    → ArePlaced front len before cs ps own → slice_get cs i ≡ Some c → slice_get ps i ≡ Some p
    → IsFound front c p ⊎ ((k : ℕ) × NeedsOwn c × (slice_get own k ≡ Some (own_of c))
    × (p ≡ own_place front len (encoding_of c) (before + k)))
found_or_own front len before [] ps own i c p are at_c at_p =
    let e : None ≡ Some c = at_c in absurd cc
found_or_own front len before (d ∷ cs) [] own i c p are at_c at_p = absurd are
found_or_own front len before (d ∷ cs) (q ∷ ps) own zero c p are at_c at_p =
    let column : Some d ≡ Some c = at_c in
    let place : Some q ≡ Some p = at_p in
    let same : d ≡ c = cc in
    let there : q ≡ p = cc in
    ⊎_elim
    (λ (h : IsFound front d q × ArePlaced front len before cs ps own).
    inl (subst (λ (r : ValuePlace). IsFound front c r) there
    (subst (λ (x : PlacedColumn). IsFound front x q) same h.0)))
    (λ (h : NeedsOwn d × (q ≡ own_place front len (encoding_of d) before)
    × (slice_get own 0 ≡ Some (own_of d)) × ArePlaced front len (before + 1) cs ps (drop 1 own)).
    inr (
      0,
      subst NeedsOwn same h.0,
      h.2 ∙ ap (λ (x : PlacedColumn). Some (own_of x)) same,
      sym there ∙ h.1 ∙ ap (λ (x : PlacedColumn). own_place front len (encoding_of x) before) same
          ∙ ap (own_place front len (encoding_of c)) (omega arith),
    ))
    are
found_or_own front len before (d ∷ cs) (q ∷ ps) own (suc i) c p are at_c at_p =
    ⊎_elim
    (λ (h : IsFound front d q × ArePlaced front len before cs ps own).
    found_or_own front len before cs ps own i c p h.1 at_c at_p)
    (λ (h : NeedsOwn d × (q ≡ own_place front len (encoding_of d) before)
    × (slice_get own 0 ≡ Some (own_of d)) × ArePlaced front len (before + 1) cs ps (drop 1 own)).
    ⊎_elim (λ (g : IsFound front c p). inl g)
    (λ (g : (k : ℕ) × NeedsOwn c × (slice_get (drop 1 own) k ≡ Some (own_of c))
    × (p ≡ own_place front len (encoding_of c) (before + 1 + k))).
    inr (
      suc g.0,
      g.1,
      behind own g.0 g.2,
      g.3 ∙ ap (own_place front len (encoding_of c)) (omega arith),
    ))
    (found_or_own front len (before + 1) cs ps (drop 1 own) i c p h.3 at_c at_p))
    are
  where
    behind : (own : List OwnValue) (k : ℕ) → slice_get (drop 1 own) k ≡ Some (own_of c)
        → slice_get own (suc k) ≡ Some (own_of c)
    behind [] k e = e
    behind (v ∷ vs) k e = e
