-- Bytes that are written over.
use Rattle.std.proofs.Common.{◌≡◌, ℕ, ◌+◌, ◌-◌, ◌≤◌, List, ◌++◌, ◌∙◌, length, take, drop}
use Rattle.std.proofs.Common.{⊎_elim, ap, arith, length-append, length-drop}
use Rattle.std.proofs.Common.{subst, sym, take-append-drop}
use Rattle.std.proofs.Math.Seq.{drop-append-add, drop-drop}
use Rattle.std.proofs.lemmas.List.{length-take-le}
use Rattle.std.specs.Prelude.{slice_range}
use Rattle.mdf_blocks.specs.Blocks.{IsBlockAt, block, block_len}
use Rattle.mdf_blocks.specs.Patching.{PatchIsRead, PatchKeeps, patched}
use Rattle.mdf_blocks.proofs.PartLemmas.{part-append}
use Rattle.mdf_blocks.proofs.ReadLemmas.{stays_read, written_is_read}

-- how long patched bytes are
length-patched : (bytes part : List ℕ) (at : ℕ) → at + length part ≤ length bytes
    → length (patched bytes at part) ≡ length bytes
length-patched bytes part at within =
    let front : length (take at bytes) ≡ at = length-take-le at bytes (omega (arith, within)) in
    omega (
      arith,
      within,
      front,
      length-append (take at bytes ++ part) (drop (at + length part) bytes),
      length-append (take at bytes) part,
      length-drop (at + length part) bytes,
    )

-- a part in front of the patch
in_front : (bytes part : List ℕ) (at i j : ℕ) → at + length part ≤ length bytes → i ≤ j → j ≤ at
    → slice_range (patched bytes at part) i j ≡ slice_range bytes i j
in_front bytes part at i j within order below =
    let front : length (take at bytes) ≡ at = length-take-le at bytes (omega (arith, within)) in
    let long : at ≤ length (take at bytes ++ part) =
    omega (arith, front, length-append (take at bytes) part) in
    part-append (take at bytes ++ part) (drop (at + length part) bytes) i j order
    (omega (arith, long, below))
    ∙ part-append (take at bytes) part i j order (omega (arith, front, below))
    ∙ sym (part-append (take at bytes) (drop at bytes) i j order (omega (arith, front, below)))
    ∙ ap (λ bs. slice_range bs i j) (take-append-drop at bytes)

-- a part behind it
behind_it : (bytes part : List ℕ) (at i j : ℕ) → at + length part ≤ length bytes
    → at + length part ≤ i → slice_range (patched bytes at part) i j ≡ slice_range bytes i j
behind_it bytes part at i j within above =
    let end : ℕ = at + length part in
    let head : List ℕ = take at bytes ++ part in
    let front : length (take at bytes) ≡ at = length-take-le at bytes (omega (arith, within)) in
    let long : length head ≡ end = omega (arith, front, length-append (take at bytes) part) in
    let begins : length head + (i - end) ≡ i = omega (arith, long, above) in
    let there : end + (i - end) ≡ i = omega (arith, above) in
    let dropped : drop i (head ++ drop end bytes) ≡ drop i bytes =
    sym (ap (λ k. drop k (head ++ drop end bytes)) begins)
    ∙ drop-append-add head (drop end bytes) (i - end) ∙ drop-drop (i - end) end bytes
    ∙ ap (λ k. drop k bytes) there in
    ap (take (j - i)) dropped

pub patch_keeps : PatchKeeps
patch_keeps bytes part at place id links body b within apart =
    let end : ℕ = place + block_len links body in
    let order : place ≤ end = omega arith in
    stays_read bytes (patched bytes at part) place id links body b
    (omega (arith, b.within, length-patched bytes part at within))
    (⊎_elim (λ (below : end ≤ at). in_front bytes part at place end within order below)
    (λ (above : at + length part ≤ place). behind_it bytes part at place end within above) apart)

pub patch_is_read : PatchIsRead
patch_is_read bytes at id links body legal aligned within =
    let front : length (take at bytes) ≡ at = length-take-le at bytes (omega (arith, within)) in
    let whole : List ℕ = block id links body in
    subst (λ (n : ℕ). IsBlockAt (patched bytes at whole) n id links body) front
    (written_is_read (take at bytes) (drop (at + length whole) bytes) id links body legal
    (omega (arith, front, aligned)))
