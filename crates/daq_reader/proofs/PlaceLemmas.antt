-- The places of the packets of a sample.
use Rattle.std.proofs.Common.{Bool, true, false, if◌then◌else◌, ◌≡◌, ℕ, ◌+◌, ◌<◌, ◌≤◌, List, [], ◌∷◌, ◌++◌, length, get_or, set, take, sym, ap, ◌∙◌, arith, None}
use Rattle.std.proofs.Math.Seq.{map-set_same}
use Rattle.std.proofs.lemmas.List.{get_or-map, length-map, length-take-le, take_all, take_more_set}
use Rattle.std.proofs.lemmas.List.FromFn.{get_or-map-range_with_len, length-map-range_with_len}
use Rattle.copy_plan.specs.Config.{ListPlan}
use Rattle.daq_reader.specs.Faults.{fault_of, len_of}
use Rattle.daq_reader.specs.Reading.{Reading, is_whole, under_way}
use Rattle.daq_reader.specs.Inner.Fitting.{HasBytes, IsWhole}
use Rattle.daq_reader.specs.Inner.Places.{HavePlaces, IsReader, reading_in}
use Rattle.daq_reader.proofs.FieldLemmas.{len_is}
use Rattle.daq_reader.proofs.ReadingLemmas.{Waits, one_more, waits}

-- there are as many as the list has ODTs
pub places_count : (plan : ListPlan) (places : List (List ℕ)) → HavePlaces plan places → length places ≡ length plan.odts
places_count plan places h =
    sym (length-map places (λ (q : List ℕ). length q)) ∙ ap length h ∙ length-map-range_with_len (len_of plan) 0 (length plan.odts)

-- each has the length of its packet
pub place_len : (plan : ListPlan) (places : List (List ℕ)) (k : ℕ) → HavePlaces plan places → k < length plan.odts → length (get_or places k []) ≡ len_of plan k
place_len plan places k h here =
    let within : k < length places = omega (arith, here, places_count plan places h) in
    sym (get_or-map (λ (q : List ℕ). length q) places k [] 0 within)
    ∙ ap (λ ns. get_or ns k 0) h
    ∙ get_or-map-range_with_len (len_of plan) 0 (length plan.odts) k k 0 here (omega arith)

-- so many hold packets that were taken
pub taken_count : (plan : ListPlan) (taken : ℕ) (places : List (List ℕ)) → IsReader plan taken places → length (take taken places) ≡ taken
taken_count plan taken places is = length-take-le taken places (omega (arith, is.few, places_count plan places is.there))

-- those in front of the place that is awaited are the packets that wait
in_front : (taken k : ℕ) (places : List (List ℕ)) (b : Bool) → taken ≤ length places → k ≡ length (if b then [] else take taken places) → take k places ≡ (if b then [] else take taken places)
in_front taken k places true few h = ap (λ n. take n places) h
in_front taken k places false few h = ap (λ n. take n places) (h ∙ length-take-le taken places few)

-- the place that is awaited is one of those that there are
pub awaited_there : (plan : ListPlan) (taken k : ℕ) (places : List (List ℕ)) → IsReader plan taken places → k ≡ length (under_way (reading_in plan taken places)) → k < length plan.odts
awaited_there plan taken k places is at =
    let w : Waits plan (under_way (reading_in plan taken places)) = waits (reading_in plan taken places) is.reading in
    omega (arith, at, w.few)

-- with a packet that fits in it, one more was taken
pub taken_one_more : (plan : ListPlan) (taken k : ℕ) (places : List (List ℕ)) (q : List ℕ) → IsReader plan taken places → k ≡ length (under_way (reading_in plan taken places)) → take (k + 1) (set places k q) ≡ under_way (reading_in plan taken places) ++ q ∷ []
taken_one_more plan taken k places q is at =
    let count = places_count plan places is.there in
    take_more_set places k q (omega (arith, awaited_there plan taken k places is at, count))
    ∙ ap (λ qs. qs ++ q ∷ []) (in_front taken k places (is_whole (reading_in plan taken places)) (omega (arith, is.few, count)) at)

pub put_reader : (plan : ListPlan) (taken k : ℕ) (places : List (List ℕ)) (q : List ℕ) → IsReader plan taken places → k ≡ length (under_way (reading_in plan taken places)) → HasBytes q → fault_of plan k q ≡ None → IsReader plan (k + 1) (set places k q)
put_reader plan taken k places q is at small none =
    let a : Reading = reading_in plan taken places in
    let here : k < length plan.odts = awaited_there plan taken k places is at in
    let same : length q ≡ length (get_or places k []) = len_is plan k q none ∙ sym (place_len plan places k is.there here) in
    let awaited : fault_of plan (length (under_way a)) q ≡ None = ap (λ n. fault_of plan n q) (sym at) ∙ none in
    record {
      reading = rw (taken_one_more plan taken k places q is at) (one_more plan (under_way a) q is.reading.plan (waits a is.reading) small awaited);
      there = map-set_same (λ (xs : List ℕ). length xs) places k q [] same ∙ is.there;
      few = omega (arith, here);
    }

-- when all were taken, the places are the packets of the sample
pub places_whole : (plan : ListPlan) (taken : ℕ) (places : List (List ℕ)) → IsReader plan taken places → taken ≡ length plan.odts → take taken places ≡ places
places_whole plan taken places is all = take_all taken places (omega (arith, all, places_count plan places is.there))

pub whole_sample : (plan : ListPlan) (taken : ℕ) (places : List (List ℕ)) → IsReader plan taken places → taken ≡ length plan.odts → IsWhole plan places
whole_sample plan taken places is all =
    let same : take taken places ≡ places = places_whole plan taken places is all in
    record {
      plan = is.reading.plan;
      fit = rw same at is.reading.packets;
      each = rw same at is.reading.each;
      all = places_count plan places is.there;
    }
