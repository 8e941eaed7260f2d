-- Records that are added.
use Rattle.std.proofs.Common.{◌≡◌, ◌≢◌, ◌∙◌, ℕ, ◌+◌, ◌%◌, ◌^◌}
use Rattle.std.proofs.Common.{◌<◌, List, [], ◌∷◌, ◌++◌, All, length}
use Rattle.std.proofs.Common.{codes, inl, inr, refl, sym, ap, subst, arith, length-append}
use Rattle.std.proofs.Common.{append-nil, append_assoc}
use Rattle.std.proofs.Common.{Bool, true, nat_eq, ◌*◌, get_or, lit<, take}
use Rattle.std.proofs.lemmas.List.{length-map, map-append, take_more}
use Rattle.std.proofs.lemmas.List.Elements.{All-cons, All-nil, All-push}
use Rattle.std.proofs.lemmas.Bool.Decides.{nat_tests}
use Rattle.mdf_blocks.specs.Blocks.{IsBlock, IsBlockAt, block_len, fill_len, filled}
use Rattle.mdf_blocks.specs.Numbers.{uint64s, zeros}
use Rattle.mdf_blocks.specs.Ranges.{FitsList}
use Rattle.mdf_blocks.specs.Records.{dl_block, dl_body, dl_front, dl_links, dt_block}
use Rattle.mdf_blocks.specs.Records.{offsets_of, places_of}
use Rattle.mdf_blocks.specs.Told.{AreListed, TellsRecords}
use Rattle.mdf_blocks.specs.declared.listed_data.ListedData.{ListedData}
use Rattle.mdf_blocks.proofs.ToldLemmas.{written_is_told}
use Rattle.mdf_blocks.proofs.BlockLemmas.{length-block}
use Rattle.mdf_blocks.proofs.NumberLemmas.{length-uint64s}
use Rattle.mdf_file.specs.Adding.{Adds, AreSmall}
use Rattle.mdf_file.proofs.AddLemmas.{adds_block, adds_both, adds_filled, adds_weaker, adds_written}

pub adds_data : (place link : ℕ) (old new records : List ℕ) → link ≡ place + length old
    → (place + length old) % 8 ≡ 0 → length records < 2 ^ 63
    → new ≡ old ++ filled (dt_block records)
    → Adds place old new (λ bytes. IsBlockAt bytes link (codes "##DT") [] records)
adds_data place link old new records link_is aligned few is =
    let limit : 24 + length records < 2 ^ 64 = omega (arith, few) in
    let legal : IsBlock (codes "##DT") [] records =
    record { letters = refl; places = All-nil (λ link. link < 2 ^ 64); limit = limit } in
    adds_filled place link old new (codes "##DT") [] records link_is aligned legal is

-- one block of records more
pub listed_more : (bytes : List ℕ) (before : ℕ) (blocks : List ListedData) (records own : List ℕ)
    (b : ListedData) → b.offset ≡ before + length records → AreListed bytes before blocks records
    → IsBlockAt bytes b.place (codes "##DT") [] own
    → AreListed bytes before (blocks ++ b ∷ []) (records ++ own)
listed_more bytes before [] records own b offset none block =
    let here : b.offset ≡ before = omega (arith, offset, ap length none) in (
      own,
      [],
      ap (λ (rs : List ℕ). rs ++ own) none ∙ sym (append-nil own),
      here,
      block,
      refl,
    )
listed_more bytes before (a ∷ blocks) records own b offset listed block =
    let first = listed.0 in
    let later = listed.1 in
    let is = listed.2 in
    let long : b.offset ≡ (before + length first) + length later =
    omega (arith, offset, ap length is, length-append first later) in (
      first,
      later ++ own,
      ap (λ (rs : List ℕ). rs ++ own) is ∙ append_assoc first later own,
      listed.3,
      listed.4,
      listed_more bytes (before + length first) blocks later own b long listed.5 block,
    )

-- a list tells the records of its blocks
pub list_told : (bytes : List ℕ) (at : ℕ) (blocks : List ListedData) (records : List ℕ) → at ≢ 0
    → FitsList blocks → IsBlockAt bytes at (codes "##DL") (dl_links 0 blocks) (dl_body blocks)
    → AreListed bytes 0 blocks records → TellsRecords bytes at records
list_told bytes at blocks records some fits block listed =
    inr (inr (
      records ∷ [],
      sym (append-nil records),
      some,
      (
        some,
        (
          0,
          written_is_told.data_list bytes at 0 0 blocks records fits block listed,
          refl,
        ),
      ),
    ))

pub data_written : (old head records one two new : List ℕ) → head ++ records ≡ dt_block records
    → one ≡ old ++ head → two ≡ one ++ records
    → new ≡ two ++ zeros (fill_len (24 + length records))
    → new ≡ old ++ filled (dt_block records)
data_written old head records one two new whole one_is two_is new_is =
    let fill : List ℕ = zeros (fill_len (24 + length records)) in
    let long : 24 + length records ≡ length (dt_block records) =
    sym (length-block (codes "##DT") [] records refl) in
    let last : old ++ (dt_block records ++ fill)
    ≡ old ++ (dt_block records ++ zeros (fill_len (length (dt_block records)))) =
    ap (λ (n : ℕ). old ++ (dt_block records ++ zeros (fill_len n))) long in
    new_is
    ∙ ap (λ (zs : List ℕ). zs ++ fill) (two_is ∙ ap (λ (zs : List ℕ). zs ++ records) one_is)
    ∙ ap (λ (zs : List ℕ). zs ++ fill) (append_assoc old head records)
    ∙ ap (λ (zs : List ℕ). (old ++ zs) ++ fill) whole
    ∙ append_assoc old (dt_block records) fill
    ∙ last

small-more : (blocks : List ListedData) (b : ListedData) → AreSmall blocks → b.place < 2 ^ 64
    → b.offset < 2 ^ 64 → AreSmall (blocks ++ b ∷ [])
small-more blocks b all low small =
    let Small : ℕ → Type 0 = λ n. n < 2 ^ 64 in (
      subst (All Small) (sym (map-append (λ (d : ListedData). d.place) blocks (b ∷ [])))
          (All-push Small (places_of blocks) b.place all.0 low),
      subst (All Small) (sym (map-append (λ (d : ListedData). d.offset) blocks (b ∷ [])))
          (All-push Small (offsets_of blocks) b.offset all.1 small),
    )

pub no_list : (place : ℕ) (old : List ℕ) (blocks : List ListedData) (records : List ℕ)
    → length blocks ≡ 0 → Adds place old old (λ bytes. AreListed bytes 0 blocks records)
    → Adds place old old (λ bytes. TellsRecords bytes 0 records)
no_list place old [] records none listed =
    adds_weaker place old old (λ bytes. AreListed bytes 0 [] records)
    (λ bytes. TellsRecords bytes 0 records) (λ bytes is. inl (refl, is)) listed
no_list place old (b ∷ blocks) records none listed = absurd (omega (arith, none))

length-list : (blocks : List ListedData)
    → block_len (dl_links 0 blocks) (dl_body blocks) ≡ 40 + 16 * length blocks
length-list blocks =
    let links_long : length (dl_links 0 blocks) ≡ 1 + length blocks =
    omega (arith, length-map blocks (λ (b : ListedData). b.place)) in
    let offsets_long : length (offsets_of blocks) ≡ length blocks =
    length-map blocks (λ (b : ListedData). b.offset) in
    let body_long : length (dl_body blocks) ≡ 8 + 8 * length blocks =
    omega (
      arith,
      length-append (dl_front (length blocks)) (uint64s (offsets_of blocks)),
      length-uint64s (offsets_of blocks),
      offsets_long,
    ) in
    omega (arith, links_long, body_long)

-- the next block may begin behind a list
pub list_aligned : (place : ℕ) (old new : List ℕ) (blocks : List ListedData)
    → (place + length old) % 8 ≡ 0 → new ≡ old ++ dl_block 0 blocks
    → (place + length new) % 8 ≡ 0
list_aligned place old new blocks aligned is =
    omega (
      arith,
      aligned,
      ap length is,
      length-append old (dl_block 0 blocks),
      length-block (codes "##DL") (dl_links 0 blocks) (dl_body blocks) refl,
      length-list blocks,
    )

-- a list of blocks of records
pub adds_list : (place base link : ℕ) (before old new : List ℕ) (blocks : List ListedData)
    (records : List ℕ) → place + length before ≡ base → 0 < base → link ≡ base + length old
    → (base + length old) % 8 ≡ 0 → length blocks < 2 ^ 32 → AreSmall blocks
    → new ≡ old ++ dl_block 0 blocks
    → Adds place (before ++ old) (before ++ old) (λ bytes. AreListed bytes 0 blocks records)
    → Adds place (before ++ old) (before ++ new) (λ bytes. TellsRecords bytes link records)
adds_list place base link before old new blocks records base_is some link_is aligned few small is
    listed =
    let Small : ℕ → Type 0 = λ n. n < 2 ^ 64 in
    let long = length-list blocks in
    let legal : IsBlock (codes "##DL") (dl_links 0 blocks) (dl_body blocks) = record {
      letters = refl;
      places = All-cons Small 0 (places_of blocks) (lit< tt) small.0;
      limit = omega (arith, long, few);
    } in
    let Reads : List ℕ → Type 0 = λ bytes.
    IsBlockAt bytes link (codes "##DL") (dl_links 0 blocks) (dl_body blocks) in
    let there : link ≢ 0 = λ none. omega (arith, none, link_is, some) in
    let fits : FitsList blocks = record { few = few; offsets = small.1 } in
    let Listed : List ℕ → Type 0 = λ bytes. AreListed bytes 0 blocks records in
    adds_weaker place (before ++ old) (before ++ new) (λ bytes. Listed bytes × Reads bytes)
    (λ bytes. TellsRecords bytes link records)
    (λ bytes both. list_told bytes link blocks records there fits both.1 both.0)
    (adds_both place (before ++ old) (before ++ old) (before ++ new) Listed Reads listed
    (adds_written place base before old new Reads base_is
    (adds_block base link old new (codes "##DL") (dl_links 0 blocks) (dl_body blocks) link_is
    aligned legal (omega (arith, long)) is)))

pub is_empty-length : (blocks : List ListedData) (b : Bool) → b ≡ nat_eq (length blocks) 0
    → b ≡ true → length blocks ≡ 0
is_empty-length blocks b is yes_it = grind (arith, nat_tests)

-- one block more of those that are gone through
pub small_taken : (blocks : List ListedData) (i : ℕ) (d : ListedData) → i < length blocks
    → AreSmall (take i blocks) → (get_or blocks i d).place < 2 ^ 64
    → (get_or blocks i d).offset < 2 ^ 64 → AreSmall (take (i + 1) blocks)
small_taken blocks i d within all low small =
    subst AreSmall (sym (take_more blocks i d within))
    (small-more (take i blocks) (get_or blocks i d) all low small)
