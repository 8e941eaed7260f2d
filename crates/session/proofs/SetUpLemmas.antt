-- How a DAQ list was set up, ODT by ODT and entry by entry.
use Rattle.std.proofs.Common.{◌≡◌, ℕ, ◌+◌, ◌<◌, List, [], ◌∷◌, ◌++◌, Option, None, option_and_then, unwrap_or, length, take, get_or, sym, ap, ◌∙◌}
use Rattle.std.proofs.lemmas.List.{take_more}
use Rattle.std.proofs.lemmas.Option.{slice_get-get_or}
use Rattle.daq_store.specs.declared.entry.Entry.{Entry}
use Rattle.daq_store.specs.Configuration.{Configuration, entry_of, odt_entries}

-- one element more is the same
prefix-next : {X : Type 0} (xs ys : List X) (i : ℕ) (d e : X) → i < length xs → i < length ys → take i xs ≡ take i ys
    → get_or xs i d ≡ get_or ys i e → take (i + 1) xs ≡ take (i + 1) ys
prefix-next xs ys i d e h k before here =
    take_more xs i d h
    ∙ ap (λ zs. zs ++ get_or xs i d ∷ []) before
    ∙ ap (λ x. take i ys ++ x ∷ []) here
    ∙ sym (take_more ys i e k)

-- the entries of an ODT that is there
odt_at : (conf : Configuration) (k : ℕ) → k < length conf.odts → odt_entries conf k ≡ get_or conf.odts k []
odt_at conf k h = ap (λ (o : Option (List (Option Entry))). unwrap_or o []) (slice_get-get_or conf.odts k [] h)

pub same_odts-next : (odts : List (List (Option Entry))) (conf : Configuration) (k : ℕ) (odt : List (Option Entry)) → k < length odts
    → k < length conf.odts → odt ≡ get_or odts k odt → odt ≡ odt_entries conf k
    → take k odts ≡ take k conf.odts → take (k + 1) odts ≡ take (k + 1) conf.odts
same_odts-next odts conf k odt h inside is same before =
    prefix-next odts conf.odts k odt [] h inside before (sym is ∙ same ∙ odt_at conf k inside)

-- one ODT more is held
pub odts-next : (held more : List (List (Option Entry))) (conf : Configuration) (k : ℕ) (odt : List (Option Entry)) → k < length conf.odts
    → odt ≡ odt_entries conf k → more ≡ held ++ odt ∷ [] → held ≡ take k conf.odts → more ≡ take (k + 1) conf.odts
odts-next held more conf k odt inside is with_one before =
    with_one
    ∙ ap (λ zs. zs ++ odt ∷ []) before
    ∙ ap (λ e. take k conf.odts ++ e ∷ []) (is ∙ odt_at conf k inside)
    ∙ sym (take_more conf.odts k [] inside)

entry_at : (conf : Configuration) (k i : ℕ) (x : Option Entry) → i < length (odt_entries conf k) → x ≡ entry_of conf k i
    → x ≡ get_or (odt_entries conf k) i None
entry_at conf k i x h is =
    is ∙ ap (λ (o : Option (Option Entry)). option_and_then (λ (e : Option Entry). e) o) (slice_get-get_or (odt_entries conf k) i None h)

pub same_entries-next : (held : List (Option Entry)) (conf : Configuration) (k i : ℕ) (x y : Option Entry) → i < length held
    → i < length (odt_entries conf k) → x ≡ get_or held i x → y ≡ entry_of conf k i → x ≡ y
    → take i held ≡ take i (odt_entries conf k) → take (i + 1) held ≡ take (i + 1) (odt_entries conf k)
same_entries-next held conf k i x y h inside is shown same before =
    prefix-next held (odt_entries conf k) i x None h inside before (sym is ∙ same ∙ entry_at conf k i y inside shown)

-- one entry more is held
pub entries-next : (held more : List (Option Entry)) (conf : Configuration) (k i : ℕ) (x : Option Entry) → i < length (odt_entries conf k)
    → x ≡ entry_of conf k i → more ≡ held ++ x ∷ [] → held ≡ take i (odt_entries conf k) → more ≡ take (i + 1) (odt_entries conf k)
entries-next held more conf k i x inside is with_one before =
    with_one
    ∙ ap (λ zs. zs ++ x ∷ []) before
    ∙ ap (λ e. take i (odt_entries conf k) ++ e ∷ []) (entry_at conf k i x inside is)
    ∙ sym (take_more (odt_entries conf k) i None inside)
