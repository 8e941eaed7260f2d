-- The columns of a list, one after another, and its groups.
use Rattle.std.proofs.Common.{◌≡◌, ℕ, List, [], ◌∷◌, ◌++◌, ◌∙◌, Option, Some, None, inl, inr}
use Rattle.std.proofs.Common.{⊎_elim, ◌+◌, drop, length, length-append, refl, sym, ap, subst}
use Rattle.std.specs.Float.{Float}
use Rattle.std.specs.Prelude.{slice_get}
use Rattle.captured_session.specs.Lists.{ListOf}
use Rattle.mdf_groups.specs.Files.{AddsGroup, FileOf, group_name}
use Rattle.mdf_groups.specs.declared.front.Front.{Front}
use Rattle.mdf_groups.specs.declared.front.Front.TheVariants as front
use Rattle.mdf_groups.specs.declared.placed_column.PlacedColumn.{PlacedColumn}
use Rattle.value_tables.specs.declared.column.Column.{Column}
use Rattle.capture_tables.specs.FileLists.{AddsList, AddsPlaced, ArePlacedIn, IsPlaceOf, ListsOf}
use Rattle.capture_tables.specs.FileLists.{sample_size}
use Rattle.capture_tables.specs.declared.list_groups.ListGroups.{ListGroups}

none_there : (p : PlacedColumn) → ◌≡◌ {A = Option PlacedColumn} None (Some p) → ⊥
none_there p is = absurd cc

module _ (list : ListOf) where
  -- behind a column that is there
  behind_one : (c : Column) (cs : List Column) (at : ℕ) (ps : List PlacedColumn)
      → IsPlaceOf list c (Some at) → ArePlacedIn list cs ps
      → ArePlacedIn list (c ∷ cs) (record { column = c; at = at } ∷ ps)
  behind_one c cs at ps is are = inr (at, is, refl, are)

  one_there : (cs : List Column) (ps : List PlacedColumn) (c : Column) (at : ℕ)
      → ArePlacedIn list cs ps → IsPlaceOf list c (Some at)
      → ArePlacedIn list (cs ++ c ∷ []) (ps ++ record { column = c; at = at } ∷ [])
  one_there [] ps c at are is =
      subst (λ (qs : List PlacedColumn). ArePlacedIn list (c ∷ [])
      (qs ++ record { column = c; at = at } ∷ [])) (sym are) (behind_one c [] at [] is refl)
  one_there (d ∷ cs) ps c at are is =
      ⊎_elim
      (λ (h : IsPlaceOf list d None × ArePlacedIn list cs ps).
      inl (h.0, one_there cs ps c at h.1 is))
      (λ (h : (n : ℕ) × IsPlaceOf list d (Some n)
      × (slice_get ps 0 ≡ Some (record { column = d; at = n }))
      × ArePlacedIn list cs (drop 1 ps)).
      further ps h.0 h.1 h.2 (one_there cs (drop 1 ps) c at h.3 is))
      are
    where
      further : (qs : List PlacedColumn) (n : ℕ) → IsPlaceOf list d (Some n)
          → slice_get qs 0 ≡ Some (record { column = d; at = n })
          → ArePlacedIn list (cs ++ c ∷ []) (drop 1 qs ++ record { column = c; at = at } ∷ [])
          → ArePlacedIn list (d ∷ cs ++ c ∷ []) (qs ++ record { column = c; at = at } ∷ [])
      further [] n is_d first rest = absurd (none_there _ first)
      further (q ∷ qs) n is_d first rest = inr (n, is_d, first, rest)

  none_more : (cs : List Column) (ps : List PlacedColumn) (c : Column)
      → ArePlacedIn list cs ps → IsPlaceOf list c None → ArePlacedIn list (cs ++ c ∷ []) ps
  none_more [] ps c are is = inl (is, are)
  none_more (d ∷ cs) ps c are is =
      ⊎_elim
      (λ (h : IsPlaceOf list d None × ArePlacedIn list cs ps).
      inl (h.0, none_more cs ps c h.1 is))
      (λ (h : (n : ℕ) × IsPlaceOf list d (Some n)
      × (slice_get ps 0 ≡ Some (record { column = d; at = n }))
      × ArePlacedIn list cs (drop 1 ps)).
      inr (h.0, h.1, h.2, none_more cs (drop 1 ps) c h.3 is))
      are

  -- a column more
  pub placed_more : (cs : List Column) (ps ps' : List PlacedColumn) (c : Column)
      → ArePlacedIn list cs ps → AddsPlaced list c ps ps' → ArePlacedIn list (cs ++ c ∷ []) ps'
  placed_more cs ps ps' c are adds =
      ⊎_elim
      (λ (h : IsPlaceOf list c None × (ps' ≡ ps)).
      subst (ArePlacedIn list (cs ++ c ∷ [])) (sym h.1) (none_more cs ps c are h.0))
      (λ (h : (n : ℕ) × IsPlaceOf list c (Some n)
      × (ps' ≡ ps ++ record { column = c; at = n } ∷ [])).
      subst (ArePlacedIn list (cs ++ c ∷ [])) (sym h.2) (one_there cs ps c h.0 are h.1))
      adds

-- the number of a group behind another one
one_group_more : (old new : FileOf) (name : List ℕ) (begins : Front) (len : ℕ)
    (placed : List PlacedColumn) → AddsGroup old new name begins len placed
    → length new.file.groups ≡ length old.file.groups + 1
one_group_more old new name begins len placed adds =
    ap length adds.adds.group.groups ∙ length-append old.file.groups (_ ∷ [])

-- two groups, and the list that has them
pub adds_list : (old new : ListsOf) (between : FileOf) (list : ListOf) (columns : List Column)
    (placed : List PlacedColumn) (groups : ListGroups) → ArePlacedIn list columns placed
    → AddsGroup old.file between (group_name list.list list.mode.channel) front.Seconds
    (sample_size list) placed
    → AddsGroup between new.file (group_name list.list list.mode.channel) front.Nothing
    (sample_size list) placed
    → groups.timed ≡ length old.file.file.groups → groups.untimed ≡ length between.file.groups
    → groups.last ≡ None → new.lists ≡ old.lists ++ groups ∷ [] → AddsList old new list columns
adds_list old new between list columns placed groups are first then is_timed is_untimed none more =
    let second = is_untimed ∙ one_group_more old.file between _ front.Seconds _ placed first in
    record {
      placed = placed;
      are_placed = are;
      between = between;
      timed = first;
      untimed = then;
      lists =
          more
          ∙ ap (λ (t : ℕ). old.lists
          ++ record { timed = t; untimed = groups.untimed; last = groups.last } ∷ []) is_timed
          ∙ ap (λ (u : ℕ). old.lists
          ++ record { timed = length old.file.file.groups; untimed = u; last = groups.last } ∷ [])
          second
          ∙ ap (λ (l : Option Float). old.lists
          ++ record {
            timed = length old.file.file.groups;
            untimed = length old.file.file.groups + 1;
            last = l;
          } ∷ []) none;
    }
