-- Places of values, entry by entry and ODT by ODT.
use Rattle.std.proofs.Common.{◌≡◌, ℕ, suc, ◌+◌, ◌<◌, ◌++◌, ◌∷◌, ◌∙◌, [], List, ap, add-one, arith}
use Rattle.std.proofs.Common.{append-nil, append_assoc, drop, drop-cons, false, get_or, length, sym}
use Rattle.std.proofs.Common.{take}
use Rattle.std.specs.Prelude.{◌||◌}
use Rattle.std.specs.List.{flat_map}
use Rattle.std.proofs.Math.Seq.{take-suc}
use Rattle.std.proofs.lemmas.Grind.{flat_map-append}
use Rattle.std.proofs.lemmas.List.{take-append-drop}
use Rattle.std.proofs.lemmas.List.Folds.{list_any-append}
use Rattle.std.proofs.lemmas.List.Sums.{sum_by-append}
use Rattle.captured_samples.specs.Places.{size_of}
use Rattle.captured_session.specs.declared.element.Element.{Element}
use Rattle.capture_tables.specs.Places.{IsPlace, entries_hold, holds}

-- a list, parted at an element
pub parted : {X : Type 0} (xs : List X) (i : ℕ) (d : X) → i < length xs
    → xs ≡ take i xs ++ get_or xs i d ∷ drop (suc i) xs
parted xs i d h =
    sym (take-append-drop i xs) ∙ ap (λ t. take i xs ++ t) (drop-cons xs i d h)

-- behind other entries that don't have them
pub behind_others : (before entries after : List Element) (address size place : ℕ)
    → entries_hold before address size ≡ false → IsPlace entries address size place
    → IsPlace (before ++ (entries ++ after)) address size (size_of before + place)
behind_others before entries after address size place none is = record {
  before = before ++ is.before;
  entry = is.entry;
  behind = is.behind ++ after;
  split =
      ap (λ es. before ++ (es ++ after)) is.split
      ∙ ap (λ t. before ++ t) (append_assoc is.before (is.entry ∷ is.behind) after)
      ∙ sym (append_assoc before is.before (is.entry ∷ (is.behind ++ after)));
  none =
      list_any-append (holds address size) before is.before
      ∙ ap (λ b. b || entries_hold is.before address size) none ∙ is.none;
  first = is.first;
  at =
      let both = sum_by-append (λ (x : Element). x.size) before is.before in
      omega (arith, both, is.at);
}

-- the entries of lists one behind another
abbrev pub joined : List (List Element) → List Element
joined odts = flat_map (λ (odt : List Element). odt) odts

pub joined-parted : (odts : List (List Element)) (k : ℕ) → k < length odts
    → joined odts ≡ joined (take k odts) ++ (get_or odts k [] ++ joined (drop (suc k) odts))
joined-parted odts k h =
    ap joined (parted odts k [] h)
    ∙ flat_map-append (λ (odt : List Element). odt) (take k odts)
    (get_or odts k [] ∷ drop (suc k) odts)

pub joined-more : (odts : List (List Element)) (k : ℕ) → k < length odts
    → joined (take (k + 1) odts) ≡ joined (take k odts) ++ get_or odts k []
joined-more odts k h =
    ap (λ n. joined (take n odts)) (add-one k)
    ∙ ap joined (take-suc odts k [] h)
    ∙ flat_map-append (λ (odt : List Element). odt) (take k odts) (get_or odts k [] ∷ [])
    ∙ ap (λ t. joined (take k odts) ++ t) (append-nil (get_or odts k []))
