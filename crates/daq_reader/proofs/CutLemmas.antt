-- Bytes cut by the sizes of entries, and timestamps read off their bytes.
use Rattle.std.proofs.Common.{Bool, true, false, if◌then◌else◌, ◌==◌, ◌&&◌, ◌≡◌, ℕ, zero, suc, ◌*◌, ◌^◌, ◌%◌, ◌<◌, ◌≤◌, List, [], ◌∷◌, ◌++◌, length, get_or, map, take, drop, refl, ap, ◌∙◌, arith, Option, Some, None, length-append, length-drop, length-take}
use Rattle.std.specs.Prelude.{flat_map}
use Rattle.std.specs.Int.{from_le_bytes, w16, w32}
use Rattle.std.proofs.lemmas.List.{take-append-drop}
use Rattle.std.proofs.lemmas.Nat.{le_bytes_2, le_bytes_4}
use Rattle.xcp_base.specs.declared.stamp_size.StampSize.{StampSize}
use Rattle.xcp_base.specs.declared.stamp_size.StampSize.TheVariants.{One, Two, Four}
use Rattle.xcp_base.specs.Forms.{stamp_bytes, stamp_field}
use Rattle.xcp_base.specs.Packets.{stamp_len}
use Rattle.xcp_base.proofs.FormLemmas.{length-stamp_field}
use Rattle.copy_plan.specs.Config.{OdtEntry}
use Rattle.daq_reader.specs.Recorded.{FitsStamp, stamp_part}
use Rattle.daq_reader.specs.Inner.Cut.{cut, ticks_of}
use Rattle.daq_reader.specs.Inner.Slots.{bytes_of}
use Rattle.daq_reader.proofs.SlotLemmas.{bytes_of-cons}

abbrev pub joined : List (List ℕ) → List ℕ
joined bs = flat_map (λ (b : List ℕ). b) bs

abbrev pub sizes : List OdtEntry → List ℕ
sizes es = map (λ (e : OdtEntry). e.1) es

length-front : (n : ℕ) (bytes : List ℕ) → n ≤ length bytes → length (take n bytes) ≡ n
length-front n bytes h = simp length-take (omega arith)

nothing : (bytes : List ℕ) → length bytes ≡ 0 → [] ≡ bytes
nothing [] h = refl
nothing (b ∷ bytes) h = absurd (omega (arith, h))

-- the pieces have the sizes, and are the bytes once more
pub sizes-cut : (es : List OdtEntry) (bytes : List ℕ) → length bytes ≡ bytes_of es → map length (cut es bytes) ≡ sizes es
sizes-cut [] bytes h = refl
sizes-cut (e ∷ es) bytes h =
    let here : length (take e.1 bytes) ≡ e.1 = length-front e.1 bytes (omega (arith, h, bytes_of-cons e es)) in
    let rest : map length (cut es (drop e.1 bytes)) ≡ sizes es = sizes-cut es (drop e.1 bytes) (omega (arith, h, bytes_of-cons e es, length-drop e.1 bytes)) in
    ap (λ n. n ∷ map length (cut es (drop e.1 bytes))) here ∙ ap (λ ns. e.1 ∷ ns) rest

pub joined-cut : (es : List OdtEntry) (bytes : List ℕ) → length bytes ≡ bytes_of es → joined (cut es bytes) ≡ bytes
joined-cut [] bytes h = nothing bytes h
joined-cut (e ∷ es) bytes h =
    ap (λ xs. take e.1 bytes ++ xs) (joined-cut es (drop e.1 bytes) (omega (arith, h, bytes_of-cons e es, length-drop e.1 bytes)))
    ∙ take-append-drop e.1 bytes

-- pieces of these sizes
pub length-joined : (bs : List (List ℕ)) (es : List OdtEntry) → map length bs ≡ sizes es → length (joined bs) ≡ bytes_of es
length-joined [] [] h = refl
length-joined [] (e ∷ es) h = absurd (cc)
length-joined (b ∷ bs) [] h = absurd (cc)
length-joined (b ∷ bs) (e ∷ es) h =
    let here : length b ≡ e.1 = cc in
    let tail : map length bs ≡ sizes es = cc in
    omega (arith, here, length-joined bs es tail, length-append b (joined bs), bytes_of-cons e es)

-- the same, ODT by ODT
pub sizes_at : (bss : List (List (List ℕ))) (ess : List (List OdtEntry)) (k : ℕ) → map (λ (bs : List (List ℕ)). map length bs) bss ≡ map sizes ess → map length (get_or bss k []) ≡ sizes (get_or ess k [])
sizes_at [] [] k h = refl
sizes_at [] (es ∷ ess) k h = absurd (cc)
sizes_at (bs ∷ bss) [] k h = absurd (cc)
sizes_at (bs ∷ bss) (es ∷ ess) zero h = cc
sizes_at (bs ∷ bss) (es ∷ ess) (suc k) h =
    let tail : map (λ (bs : List (List ℕ)). map length bs) bss ≡ map sizes ess = cc in
    sizes_at bss ess k tail

-- a timestamp has its bytes in ODT 0 of a stamped list
pub length-stamp_part : (size : StampSize) (stamped : Bool) (k : ℕ) (stamp : Option ℕ) → FitsStamp size stamped stamp → length (stamp_part size k stamp) ≡ stamp_len size stamped k
length-stamp_part size true k (Some ticks) h =
    elim (k == 0) as (λ v. ◌≡◌ {A = ℕ} (length (if v then stamp_field size ticks else [])) (if v && true then stamp_bytes size else 0)) [ true ↦ length-stamp_field size ticks | false ↦ refl ]
length-stamp_part size true k None h = absurd h
length-stamp_part size false k (Some ticks) h = absurd h
length-stamp_part size false k None h = elim (k == 0) as (λ v. ◌≡◌ {A = ℕ} 0 (if v && false then stamp_bytes size else 0)) [ true ↦ refl | false ↦ refl ]

one_byte : (bytes : List ℕ) → length bytes ≡ 1 → get_or bytes 0 0 < 256 → stamp_field One (get_or bytes 0 0) ≡ bytes
one_byte [] h small = absurd (omega (arith, h))
one_byte (b ∷ []) h small = let same : b % 256 ≡ b = omega arith in ap (λ x. x ∷ []) same
one_byte (b ∷ c ∷ bytes) h small = absurd (omega (arith, h))

-- the timestamp of the ticks of some bytes is these bytes
pub stamp_field-ticks_of : (size : StampSize) (bytes : List ℕ) → length bytes ≡ stamp_bytes size → ((i : ℕ) → get_or bytes i 0 < 256) → stamp_field size (ticks_of size bytes) ≡ bytes
stamp_field-ticks_of One bytes h small = one_byte bytes h (small 0)
stamp_field-ticks_of Two bytes h small = le_bytes_2 bytes (from_le_bytes w16 bytes) h small refl
stamp_field-ticks_of Four bytes h small = le_bytes_4 bytes (from_le_bytes w32 bytes) h small refl

pub ticks_of-fits : (size : StampSize) (bytes : List ℕ) → ((i : ℕ) → get_or bytes i 0 < 256) → ticks_of size bytes < 2 ^ (8 * stamp_bytes size)
ticks_of-fits One bytes small = omega (arith, small 0)
ticks_of-fits Two bytes small = omega (arith, small 0, small 1)
ticks_of-fits Four bytes small = omega (arith, small 0, small 1, small 2, small 3)
