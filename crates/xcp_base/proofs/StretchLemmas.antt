-- Stretches of spans, read from the front.
use Rattle.std.proofs.Common.{◌≡◌, ℕ, ◌+◌, ◌<◌, ◌≤◌, List, [], ◌∷◌, length, take, drop, sym, ap, subst, ◌∙◌, append-nil, arith, get_or}
use Rattle.std.specs.Prelude.{All}
use Rattle.std.proofs.lemmas.List.{drop_all, drop_more, length-drop}
use Rattle.std.proofs.lemmas.List.Elements.{All-head}
use Rattle.xcp_base.specs.declared.memory_view.MemoryView.{MemoryView}
use Rattle.xcp_base.specs.declared.stretch.Stretch.{Stretch}
use Rattle.xcp_base.specs.Copied.{AreSpansIn, AreStretches, IsSpanAt, bytes_in, copied_at, copied_from, spans_in}

-- so many spans are there, and those behind them are as many as follow
pub record Parts (count more : ℕ) (offsets : List ℕ) : Type 0 where
  pub few : count ≤ length offsets
  pub behind : length (drop count offsets) ≡ more

pub parts : (count more : ℕ) (offsets : List ℕ) → length offsets ≡ count + more → Parts count more offsets
parts count more offsets e = record { few = omega (arith, e); behind = omega (arith, e, length-drop count offsets) }

-- the next of some stretches has the spans in front, and the others are of those behind
pub next_parts : (stretches : List Stretch) (i : ℕ) (d : Stretch) (offsets : List ℕ) → i < length stretches → AreStretches (drop i stretches) offsets → Parts (get_or stretches i d).count (spans_in (drop (i + 1) stretches)) offsets
next_parts stretches i d offsets h are =
    parts (get_or stretches i d).count (spans_in (drop (i + 1) stretches)) offsets (are ∙ ap spans_in (drop_more stretches i d h))

-- the spans of the next stretch lie within its bytes, and those behind them within those of the
-- others
pub next_spans : (memory : MemoryView) (stretches : List Stretch) (i : ℕ) (d : Stretch) (offsets : List ℕ) → i < length stretches → AreSpansIn memory (drop i stretches) offsets
    → AreSpansIn memory (get_or stretches i d ∷ drop (i + 1) stretches) offsets
next_spans memory stretches i d offsets h are = subst (λ more. AreSpansIn memory more offsets) (drop_more stretches i d h) are

-- what is copied by the spans of the next stretch, and by those behind them
pub copied_from-next : (memory : MemoryView) (stretches : List Stretch) (i : ℕ) (d : Stretch) (offsets : List ℕ) → i < length stretches
    → copied_from memory (drop i stretches) offsets ≡ copied_from memory (get_or stretches i d ∷ drop (i + 1) stretches) offsets
copied_from-next memory stretches i d offsets h = ap (λ more. copied_from memory more offsets) (drop_more stretches i d h)

-- behind the last stretch nothing is copied
pub copied_from-end : (memory : MemoryView) (stretches : List Stretch) (i : ℕ) (offsets : List ℕ) → length stretches ≤ i → copied_from memory (drop i stretches) offsets ≡ []
copied_from-end memory stretches i offsets h = ap (λ more. copied_from memory more offsets) (drop_all i stretches h)

-- where one span is all that is copied: it lies within its bytes, and all is what it copies of them
pub record OneSpan (memory : MemoryView) (stretches : List Stretch) (offsets : List ℕ) (d : Stretch) (part : List ℕ) : Type 0 where
  pub inside : IsSpanAt (length part) (get_or stretches 0 d).size (get_or offsets 0 0)
  pub all : copied_from memory stretches offsets ≡ copied_at part (get_or stretches 0 d).size (get_or offsets 0 0 ∷ [])

pub one_span : (memory : MemoryView) (stretches : List Stretch) (offsets : List ℕ) (d : Stretch) (part : List ℕ) → part ≡ bytes_in memory (get_or stretches 0 d) → (length offsets ≡ 1) × (length stretches ≡ 1)
    → AreStretches stretches offsets → AreSpansIn memory stretches offsets → OneSpan memory stretches offsets d part
one_span memory [] offsets d part is one count are = absurd (omega (arith, one.1))
one_span memory (s ∷ t ∷ more) offsets d part is one count are = absurd (omega (arith, one.1))
one_span memory (s ∷ []) [] d part is one count are = absurd (omega (arith, one.0))
one_span memory (s ∷ []) (o ∷ p ∷ more) d part is one count are = absurd (omega (arith, one.0))
one_span memory (s ∷ []) (o ∷ []) d part is one count are =
    let single : s.count ≡ 1 = omega (arith, count) in
    let Within : ℕ → Type 0 = IsSpanAt (length (bytes_in memory s)) s.size in
    let within : All Within (o ∷ []) = subst (λ n. All Within (take n (o ∷ []))) single are.0 in
    record {
      inside = subst (λ bytes. IsSpanAt (length bytes) s.size o) (sym is) (All-head Within o [] within);
      all = append-nil (copied_at (bytes_in memory s) s.size (take s.count (o ∷ [])))
          ∙ ap (λ n. copied_at (bytes_in memory s) s.size (take n (o ∷ []))) single
          ∙ ap (λ bytes. copied_at bytes s.size (o ∷ [])) (sym is);
    }
