-- The elements of a sample, each found in its packet.
use Rattle.std.proofs.Common.{inl, inr, ◌≡◌, ℕ, zero, suc, ◌+◌, ◌<◌, List, [], ◌∷◌, length, get_or, take, drop, refl, sym, ap, ◌∙◌, arith, Option, Some, None}
use Rattle.std.specs.Prelude.{slice_get, option_map}
use Rattle.std.proofs.lemmas.Bool.{cases_lt}
use Rattle.std.proofs.lemmas.List.{drop-drop, get_or_past}
use Rattle.copy_plan.specs.Config.{ListPlan, OdtEntry, odt}
use Rattle.daq_reader.specs.Recorded.{element}
use Rattle.daq_reader.specs.Inner.Cut.{cut, data_in, elements_in, head_len, place_of, recorded_in}
use Rattle.daq_reader.specs.Inner.Slots.{bytes_of}
use Rattle.daq_reader.proofs.SlotLemmas.{bytes_of-cons}
use Rattle.daq_reader.proofs.RecordedLemmas.{data_here, get-elements_in, length-elements_in}

-- piece i of some bytes stands behind those before it
get-cut : (es : List OdtEntry) (bytes : List ℕ) (i : ℕ) → slice_get (cut es bytes) i ≡ option_map (λ (x : OdtEntry). take x.1 (drop (bytes_of (take i es)) bytes)) (slice_get es i)
get-cut [] bytes i = refl
get-cut (e ∷ es) bytes zero = refl
get-cut (e ∷ es) bytes (suc i) =
    get-cut es (drop e.1 bytes) i
    ∙ ap (λ (f : List ℕ). option_map (λ (x : OdtEntry). take x.1 f) (slice_get es i)) (drop-drop (bytes_of (take i es)) e.1 bytes ∙ ap (λ n. drop n bytes) (omega (arith, bytes_of-cons e (take i es))))

-- the elements of any ODT; there are none where there is no such ODT
get-elements : (plan : ListPlan) (qs : List (List ℕ)) (k : ℕ) → get_or (elements_in plan qs) k [] ≡ cut (odt plan k) (data_in plan qs k)
get-elements plan qs k = elim (cases_lt k (length plan.odts)) [
  | inl here ↦ get-elements_in plan qs k here
  | inr past ↦
      get_or_past (elements_in plan qs) k [] (omega (arith, past, length-elements_in plan qs))
      ∙ ap (λ es. cut es (data_in plan qs k)) (sym (get_or_past plan.odts k [] past))
]

element_is : (plan : ListPlan) (qs : List (List ℕ)) (k e : ℕ) → element (recorded_in plan qs) k e ≡ option_map (λ (x : OdtEntry). take x.1 (drop (bytes_of (take e (odt plan k))) (data_in plan qs k))) (slice_get (odt plan k) e)
element_is plan qs k e = ap (λ bs. slice_get bs e) (get-elements plan qs k) ∙ get-cut (odt plan k) (data_in plan qs k) e

none_from : (o : Option OdtEntry) (f : OdtEntry → ℕ × ℕ) (g : OdtEntry → List ℕ) → None ≡ option_map f o → option_map g o ≡ None
none_from None f g h = refl
none_from (Some x) f g h = absurd (cc)

-- no element where there is no place
pub element_none : (plan : ListPlan) (qs : List (List ℕ)) (k e : ℕ) → None ≡ place_of plan k e → element (recorded_in plan qs) k e ≡ None
element_none plan qs k e h = element_is plan qs k e ∙ none_from (slice_get (odt plan k) e) _ _ h

some_from : (o : Option OdtEntry) (head start size : ℕ) (q : List ℕ) (before : ℕ) → ◌≡◌ {A = Option (ℕ × ℕ)} (Some (start, size)) (option_map (λ (x : OdtEntry). (head + before, x.1)) o) → option_map (λ (x : OdtEntry). take x.1 (drop before (drop head q))) o ≡ Some (take size (drop start q))
some_from None head start size q before h = absurd (cc)
some_from (Some x) head start size q before h =
    let same : ◌≡◌ {A = ℕ × ℕ} (start, size) (head + before, x.1) = cc in
    let at : start ≡ head + before = ap (λ (p : ℕ × ℕ). p.0) same in
    let long : size ≡ x.1 = ap (λ (p : ℕ × ℕ). p.1) same in
    rw (at, long) (ap (λ xs. Some (take x.1 xs)) (drop-drop before head q))

-- the element at a place of a packet
pub element_some : (plan : ListPlan) (qs : List (List ℕ)) (k e start size : ℕ) → k < length qs → ◌≡◌ {A = Option (ℕ × ℕ)} (Some (start, size)) (place_of plan k e) → element (recorded_in plan qs) k e ≡ Some (take size (drop start (get_or qs k [])))
element_some plan qs k e start size here h =
    element_is plan qs k e
    ∙ ap (λ (xs : List ℕ). option_map (λ (x : OdtEntry). take x.1 (drop (bytes_of (take e (odt plan k))) xs)) (slice_get (odt plan k) e)) (data_here plan qs k here)
    ∙ some_from (slice_get (odt plan k) e) (head_len plan k) start size (get_or qs k []) (bytes_of (take e (odt plan k))) h
