-- The elements of a ready list are what its entries name in memory.
use Rattle.std.proofs.Common.{◌≡◌, ℕ, ◌+◌, ◌<◌, true, List, [], ◌∷◌, ◌++◌, get_or, refl, sym, ap, ◌∙◌, Option, Some, None}
use Rattle.std.specs.Prelude.{All, slice_range, filter_map, flat_map, unwrap_or}
use Rattle.std.specs.List.{list_all}
use Rattle.std.proofs.lemmas.Bool.{and_parts}
use Rattle.std.proofs.lemmas.List.Elements.{All-head, All-tail}
use Rattle.std.proofs.lemmas.Option.{unwrap_or-slice_get}
use Rattle.segments.specs.declared.segment.Segment.{Segment}
use Rattle.segments.specs.Faults.{segments_fault}
use Rattle.segments.specs.Image.{image_of}
use Rattle.segments.specs.Memory.{fits}
use Rattle.segments.proofs.ReadLemmas.{has_place, shows_memory}
use Rattle.daq_store.specs.declared.entry.Entry.{Entry}
use Rattle.daq_store.specs.Configuration.{IsEntry, IsOdt, channel_of, is_within, odt_entries}
use Rattle.copy_plan.specs.Config.{placed, written_entries}
use Rattle.copy_plan.specs.Laws.{ElementsAreMemory, bytes_at, bytes_of}
use Rattle.copy_plan.specs.Packet.{elements}
use Rattle.copy_plan.proofs.ReadyLemmas.{odt-written_entries, ready}

-- entry by entry
each_is : (channels c : ℕ) (segments : List Segment) (memory : List (List ℕ)) (es : List (Option Entry)) → segments_fault channels segments ≡ None → fits c segments memory ≡ true
    → list_all (is_within c segments) es ≡ true → All IsEntry es
    → elements (image_of c segments memory) (written_entries c segments es) ≡ flat_map (bytes_at segments memory) (filter_map (λ (entry : Option Entry). entry) es)
each_is channels c segments memory [] none fit within sizes = refl
each_is channels c segments memory (None ∷ es) none fit within sizes = absurd (cc)
each_is channels c segments memory (Some x ∷ es) none fit within sizes =
    let image : List ℕ = image_of c segments memory in
    let both = and_parts (is_within c segments (Some x)) (list_all (is_within c segments) es) within in
    let place = has_place c segments x.extension x.address x.size both.0 in
    let size : 0 < x.size = (All-head IsEntry (Some x) es sizes).0 in
    let at : (placed c segments x).0 ≡ place.at = ap (λ (o : Option ℕ). unwrap_or o 0) place.is in
    let here : slice_range image (placed c segments x).0 ((placed c segments x).0 + x.size) ≡ bytes_at segments memory x =
    ap (λ n. slice_range image n (n + x.size)) at
    ∙ sym (ap bytes_of (shows_memory channels c segments memory none fit x.extension x.address x.size place.at size place.is)) in
    ap (λ bytes. bytes ++ elements image (written_entries c segments es)) here
    ∙ ap (λ bytes. bytes_at segments memory x ++ bytes) (each_is channels c segments memory es none fit both.1 (All-tail IsEntry (Some x) es sizes))

pub elements_are_memory : ElementsAreMemory
elements_are_memory channels l first_pid k conf segments memory none limits is_ready_now there fit =
    let c = channel_of conf.mode in
    let r = ready segments conf is_ready_now in
    let es : List (Option Entry) = odt_entries conf k in
    let of_odt : IsOdt (get_or conf.odts k []) = limits.odts k [] there in
    let sizes : All IsEntry es = rw (unwrap_or-slice_get conf.odts k []) of_odt.sizes in
    ap (elements (image_of c segments memory)) (odt-written_entries c segments conf k there)
    ∙ each_is channels c segments memory es none fit (r.within k there) sizes
