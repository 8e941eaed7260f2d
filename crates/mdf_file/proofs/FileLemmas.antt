-- Both ends of a file.
use Rattle.std.proofs.Common.{◌≡◌, ◌≢◌, ◌∙◌, ℕ, ◌+◌, ◌^◌, ◌<◌, List, [], ◌∷◌, ◌++◌, Some}
use Rattle.std.proofs.Common.{append-nil, append_assoc, ap, arith}
use Rattle.std.proofs.Common.{codes, length, length-append, lit<}
use Rattle.std.proofs.Common.{refl, subst, sym}
use Rattle.std.proofs.lemmas.List.Elements.{All-cons, All-nil}
use Rattle.mdf_blocks.specs.Blocks.{IsBlock, IsBlockAt}
use Rattle.mdf_blocks.specs.Ranges.{FitsHeader, FitsTime}
use Rattle.mdf_blocks.specs.Tables.{fh_block, fh_body, fh_links, hd_block, id_block}
use Rattle.mdf_blocks.specs.Told.{TellsFile, TellsGroups, TellsHistories, TellsText, ToldGroup}
use Rattle.mdf_blocks.specs.Told.{ToldHistory}
use Rattle.mdf_blocks.specs.declared.file_header.FileHeader.{FileHeader}
use Rattle.mdf_blocks.specs.declared.file_history.FileHistory.{FileHistory}
use Rattle.mdf_blocks.specs.declared.file_state.FileState.{FileState}
use Rattle.mdf_blocks.specs.declared.file_state.FileState.TheVariants.{Finished, Unfinished}
use Rattle.mdf_blocks.proofs.ListLemmas.{eight_of}
use Rattle.mdf_blocks.proofs.ToldLemmas.{written_is_told}
use Rattle.mdf_file.specs.Adding.{Adds, Says}
use Rattle.mdf_file.proofs.AddLemmas.{adds_block, adds_both, adds_none, adds_weaker, says_longer}

-- an entry of the history behind its comment
pub history_behind : (place link : ℕ) (old mid new : List ℕ) (h : FileHistory) (words : List ℕ)
    → 0 < place → link ≡ place + length mid → h.next ≡ 0 → h.comment < 2 ^ 64 → FitsTime h.time
    → Adds place old mid (λ bytes. TellsText bytes (codes "##MD") h.comment (Some words))
    → new ≡ mid ++ fh_block h
    → Adds place old new (λ bytes. TellsHistories bytes link
    (record { time = h.time; comment = Some words } ∷ []))
history_behind place link old mid new h words some link_is last small fits told is =
    let Small : ℕ → Type 0 = λ n. n < 2 ^ 64 in
    let next_small : h.next < 2 ^ 64 = omega (arith, last) in
    let legal : IsBlock (codes "##FH") (fh_links h) (fh_body h) = record {
      letters = refl;
      places = All-cons Small h.next (h.comment ∷ []) next_small
          (All-cons Small h.comment [] small (All-nil Small));
      limit = lit< tt;
    } in
    let there : link ≢ 0 = λ none. omega (arith, none, link_is, some) in
    let Words : List ℕ → Type 0 = λ bytes.
    TellsText bytes (codes "##MD") h.comment (Some words) in
    let Reads : List ℕ → Type 0 = λ bytes.
    IsBlockAt bytes link (codes "##FH") (fh_links h) (fh_body h) in
    adds_weaker place old new (λ bytes. Words bytes × Reads bytes)
    (λ bytes. TellsHistories bytes link (record { time = h.time; comment = Some words } ∷ []))
    (λ bytes it. (
      there,
      (h.next, written_is_told.history bytes link h (Some words) fits it.1 it.0, last),
    ))
    (adds_both place old mid new Words Reads told
    (adds_block place link mid new (codes "##FH") (fh_links h) (fh_body h) link_is told.aligned
    legal refl is))

length-id : (state : FileState) (program : List ℕ) → length program ≡ 8
    → length (id_block state program) ≡ 64
length-id Finished program long =
    ap (λ (ps : List ℕ). length (id_block Finished ps)) (sym (eight_of program long))
length-id (Unfinished cycles last_data last_list) program long =
    ap (λ (ps : List ℕ). length (id_block (Unfinished cycles last_data last_list) ps))
    (sym (eight_of program long))

-- the identification and the header have 168 bytes
pub length-front : (state : FileState) (program : List ℕ) (h : FileHeader) → length program ≡ 8
    → length (id_block state program ++ hd_block h) ≡ 168
length-front state program h long =
    omega (
      arith,
      length-id state program long,
      length-append (id_block state program) (hd_block h),
    )

ended : (front before behind : List ℕ)
    → front ++ (before ++ behind) ++ [] ≡ front ++ before ++ behind
ended front before behind = simp (append_assoc, append-nil)

-- a file tells what stands behind its records
pub end_says : (state : FileState) (program front before begun history behind : List ℕ)
    (h : FileHeader) (histories : List ToldHistory) (groups : List ToldGroup) → length program ≡ 8
    → FitsHeader h → front ≡ id_block state program ++ hd_block h
    → Adds 168 (before ++ begun) (before ++ history)
    (λ bytes. TellsHistories bytes h.first_history histories)
    → Adds 168 (before ++ history) (before ++ behind)
    (λ bytes. TellsGroups bytes h.first_group groups)
    → TellsFile (front ++ before ++ behind) (record {
      state = state;
      start = h.start;
      histories = histories;
      groups = groups;
    })
end_says state program front before begun history behind h histories groups long fits is hs gs =
    let own : List ℕ = id_block state program ++ hd_block h in
    let all : List ℕ = before ++ behind in
    let begins : length own ≡ 168 = length-front state program h long in
    let Entries : List ℕ → Type 0 = λ bytes. TellsHistories bytes h.first_history histories in
    let Groups : List ℕ → Type 0 = λ bytes. TellsGroups bytes h.first_group groups in
    let kept = says_longer 168 (before ++ history) all Entries Groups hs.says gs in
    let whole : own ++ all ++ [] ≡ own ++ all = append-nil (own ++ all) in
    let apart : own ++ all ≡ front ++ before ++ behind =
    sym whole ∙ ended own before behind
    ∙ ap (λ (f : List ℕ). f ++ before ++ behind) (sym is) in
    subst (λ (bs : List ℕ). TellsFile bs (record {
      state = state;
      start = h.start;
      histories = histories;
      groups = groups;
    })) apart
    (written_is_told.file state program all h histories groups long fits
    (subst Entries whole (kept own [] begins)) (subst Groups whole (gs.says own [] begins)))

-- what is said of the records is said on
pub held_on : (before begun history : List ℕ) (P Q : List ℕ → Type 0) → begun ≡ []
    → Says 168 before P → Adds 168 (before ++ begun) (before ++ history) Q
    → Adds 168 (before ++ history) (before ++ history) P
held_on before begun history P Q none held a =
    let same : before ++ begun ≡ before =
    ap (λ (bs : List ℕ). before ++ bs) none ∙ append-nil before in
    adds_none 168 (before ++ history) P a.aligned
    (says_longer 168 (before ++ begun) (before ++ history) P Q
    (subst (λ (bs : List ℕ). Says 168 bs P) (sym same) held) a)
