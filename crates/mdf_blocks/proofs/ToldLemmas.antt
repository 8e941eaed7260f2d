-- What blocks tell that are written.
use Rattle.std.proofs.Common.{◌≡◌, ℕ, ◌^◌, ◌<◌, ◌%◌, List, [], ◌∷◌, ◌++◌, ◌∙◌, codes, length, lit<}
use Rattle.std.proofs.Common.{refl, sym, ap, subst, arith, append_assoc}
use Rattle.std.proofs.lemmas.List.Elements.{All-cons, All-nil}
use Rattle.mdf_blocks.specs.Blocks.{IsBlock, IsBlockAt}
use Rattle.mdf_blocks.specs.Fields.{SaysState}
use Rattle.mdf_blocks.specs.Ranges.{FitsHeader}
use Rattle.mdf_blocks.specs.Tables.{hd_block, hd_body, hd_links, id_block}
use Rattle.mdf_blocks.specs.Telling.{WrittenIsTold}
use Rattle.mdf_blocks.specs.Told.{TellsFile, TellsGroups, TellsHistories, ToldGroup, ToldHistory}
use Rattle.mdf_blocks.specs.declared.file_header.FileHeader.{FileHeader}
use Rattle.mdf_blocks.specs.declared.file_state.FileState.{FileState}
use Rattle.mdf_blocks.specs.declared.file_state.FileState.TheVariants.{Finished, Unfinished}
use Rattle.mdf_blocks.proofs.ListLemmas.{eight, eight_of}
use Rattle.mdf_blocks.proofs.ReadLemmas.{written_is_read}
use Rattle.mdf_blocks.proofs.SaysLemmas.{each_says}

-- the header's links and data section make a block
header_legal : (h : FileHeader) → FitsHeader h → IsBlock (codes "##HD") (hd_links h) (hd_body h)
header_legal h fits =
    let Small : ℕ → Type 0 = λ link. link < 2 ^ 64 in
    let zero : 0 < 2 ^ 64 = lit< tt in
    record {
      letters = refl;
      places = All-cons Small h.first_group (h.first_history ∷ 0 ∷ 0 ∷ 0 ∷ h.comment ∷ [])
          fits.first_group
          (All-cons Small h.first_history (0 ∷ 0 ∷ 0 ∷ h.comment ∷ []) fits.first_history
          (All-cons Small 0 (0 ∷ 0 ∷ h.comment ∷ []) zero
          (All-cons Small 0 (0 ∷ h.comment ∷ []) zero
          (All-cons Small 0 (h.comment ∷ []) zero
          (All-cons Small h.comment [] fits.comment (All-nil Small))))));
      limit = lit< tt;
    }

-- ID has 64 bytes
length-eight_id : (state : FileState) (program : List ℕ)
    → length (id_block state (eight program)) ≡ 64
length-eight_id Finished program = refl
length-eight_id (Unfinished cycles last_data last_list) program = refl

length-id : (state : FileState) (program : List ℕ) → length program ≡ 8
    → length (id_block state program) ≡ 64
length-id state program long =
    ap (λ ps. length (id_block state ps)) (sym (eight_of program long))
    ∙ length-eight_id state program

file_told : (state : FileState) (program behind : List ℕ) (h : FileHeader)
    (histories : List ToldHistory) (groups : List ToldGroup) → length program ≡ 8 → FitsHeader h
    → TellsHistories (id_block state program ++ hd_block h ++ behind) h.first_history histories
    → TellsGroups (id_block state program ++ hd_block h ++ behind) h.first_group groups
    → TellsFile (id_block state program ++ hd_block h ++ behind)
    (record { state = state; start = h.start; histories = histories; groups = groups })
file_told state program behind h histories groups long fits hs gs =
    let front : List ℕ = id_block state program in
    let bytes : List ℕ = front ++ hd_block h ++ behind in
    let end : length front ≡ 64 = length-id state program long in
    let aligned : length front % 8 ≡ 0 = omega (arith, end) in
    let read : IsBlockAt bytes (length front) (codes "##HD") (hd_links h) (hd_body h) =
    written_is_read front behind (codes "##HD") (hd_links h) (hd_body h) (header_legal h fits)
    aligned in
    record {
      links = hd_links h;
      body = hd_body h;
      header = h;
      state = subst (λ (bs : List ℕ). SaysState bs state)
          (sym (append_assoc front (hd_block h) behind))
          (each_says.state state program (hd_block h ++ behind) long);
      block = subst (λ (at : ℕ). IsBlockAt bytes at (codes "##HD") (hd_links h) (hd_body h)) end
          read;
      says = each_says.header h fits.start;
      start = refl;
      histories = hs;
      groups = gs;
    }

pub written_is_told : WrittenIsTold
written_is_told = record {
  conversion = λ bytes at kind unit references values texts fits block told. record {
    links = _;
    body = _;
    unit = unit;
    references = references;
    block = block;
    says = each_says.conversion kind unit references values fits;
    texts = told;
  };
  channel = λ bytes at c name unit comment conversion fits block told. record {
    links = _;
    body = _;
    channel = c;
    block = block;
    says = each_says.channel c fits;
    goes_on = refl;
    name = told.name_is;
    unit = told.unit_is;
    comment = told.comment_is;
    conversion = told.conversion_is;
    kind = refl;
    format = refl;
    bit_offset = refl;
    byte_offset = refl;
    bit_count = refl;
    limits = refl;
  };
  data_list = λ bytes at before next blocks records fits block listed. record {
    links = _;
    body = _;
    blocks = blocks;
    block = block;
    says = each_says.data_list next blocks fits;
    listed = listed;
  };
  group = λ bytes at g inner name channels records fits block inner_block told. record {
    links = _;
    body = _;
    group = g;
    inner_links = _;
    inner_body = _;
    inner = inner;
    block = block;
    says = each_says.data_group g;
    goes_on = refl;
    inner_block = inner_block;
    inner_says = each_says.channel_group inner fits;
    name = told.name_is;
    channels = told.channels_are;
    records = told.records_are;
    record_bytes = refl;
    cycles = told.cycles;
  };
  history = λ bytes at h comment fits block told. record {
    links = _;
    body = _;
    history = h;
    block = block;
    says = each_says.history h fits;
    goes_on = refl;
    time = refl;
    comment = told;
  };
  file = file_told;
}
