-- Groups that are added.
use Rattle.std.proofs.Common.{◌≡◌, ◌≢◌, ℕ, ◌+◌, ◌*◌, ◌%◌, ◌^◌, ◌<◌, List, [], ◌∷◌, ◌++◌}
use Rattle.std.proofs.Common.{All, Some, arith, codes, length, lit<, refl}
use Rattle.std.proofs.lemmas.List.Elements.{All-cons, All-nil}
use Rattle.mdf_blocks.specs.Blocks.{IsBlock, IsBlockAt}
use Rattle.mdf_blocks.specs.Ranges.{FitsGroup}
use Rattle.mdf_blocks.specs.Tables.{cg_block, cg_body, cg_links, dg_block, dg_body, dg_links}
use Rattle.mdf_blocks.specs.Told.{IsGroupAt, TellsChannels, TellsRecords}
use Rattle.mdf_blocks.specs.Told.{TellsText, ToldChannel}
use Rattle.mdf_blocks.specs.declared.channel_group.ChannelGroup.{ChannelGroup}
use Rattle.mdf_blocks.specs.declared.data_group.DataGroup.{DataGroup}
use Rattle.mdf_blocks.proofs.ToldLemmas.{written_is_told}
use Rattle.mdf_file.specs.Adding.{Adds}
use Rattle.mdf_file.proofs.AddLemmas.{adds_block, adds_both, adds_weaker}

inner-small : (g : ChannelGroup) → (g.first_channel < 2 ^ 64) × (g.acquisition_name < 2 ^ 64)
    × (g.comment < 2 ^ 64) → All (λ n. n < 2 ^ 64) (cg_links g)
inner-small g small =
    let Small : ℕ → Type 0 = λ n. n < 2 ^ 64 in
    let zero : 0 < 2 ^ 64 = lit< tt in
    All-cons Small 0 (g.first_channel ∷ g.acquisition_name ∷ 0 ∷ 0 ∷ g.comment ∷ []) zero
    (All-cons Small g.first_channel (g.acquisition_name ∷ 0 ∷ 0 ∷ g.comment ∷ []) small.0
    (All-cons Small g.acquisition_name (0 ∷ 0 ∷ g.comment ∷ []) small.1
    (All-cons Small 0 (0 ∷ g.comment ∷ []) zero
    (All-cons Small 0 (g.comment ∷ []) zero
    (All-cons Small g.comment [] small.2 (All-nil Small))))))

-- the block of a channel group
pub adds_inner : (place link : ℕ) (old new : List ℕ) (g : ChannelGroup)
    → link ≡ place + length old → (place + length old) % 8 ≡ 0
    → (g.first_channel < 2 ^ 64) × (g.acquisition_name < 2 ^ 64) × (g.comment < 2 ^ 64)
    → new ≡ old ++ cg_block g
    → Adds place old new (λ bytes. IsBlockAt bytes link (codes "##CG") (cg_links g) (cg_body g))
adds_inner place link old new g link_is aligned small is =
    let legal : IsBlock (codes "##CG") (cg_links g) (cg_body g) =
    record { letters = refl; places = inner-small g small; limit = lit< tt } in
    adds_block place link old new (codes "##CG") (cg_links g) (cg_body g) link_is aligned legal
    refl is

-- the block of a data group
pub adds_outer : (place link : ℕ) (old new : List ℕ) (g : DataGroup) → 0 < place
    → link ≡ place + length old → (place + length old) % 8 ≡ 0
    → (g.next < 2 ^ 64) × (g.channel_group < 2 ^ 64) × (g.records < 2 ^ 64)
    × (g.comment < 2 ^ 64) → new ≡ old ++ dg_block g
    → Adds place old new (λ bytes. (link ≢ 0)
    × IsBlockAt bytes link (codes "##DG") (dg_links g) dg_body)
adds_outer place link old new g some link_is aligned small is =
    let Small : ℕ → Type 0 = λ n. n < 2 ^ 64 in
    let all : All Small (dg_links g) =
    All-cons Small g.next (g.channel_group ∷ g.records ∷ g.comment ∷ []) small.0
    (All-cons Small g.channel_group (g.records ∷ g.comment ∷ []) small.1
    (All-cons Small g.records (g.comment ∷ []) small.2
    (All-cons Small g.comment [] small.3 (All-nil Small)))) in
    let legal : IsBlock (codes "##DG") (dg_links g) dg_body =
    record { letters = refl; places = all; limit = lit< tt } in
    let Reads : List ℕ → Type 0 = λ bytes.
    IsBlockAt bytes link (codes "##DG") (dg_links g) dg_body in
    let there : link ≢ 0 = λ none. omega (arith, none, link_is, some) in
    adds_weaker place old new Reads (λ bytes. (link ≢ 0) × Reads bytes)
    (λ bytes read. (there, read))
    (adds_block place link old new (codes "##DG") (dg_links g) dg_body link_is aligned legal refl
    is)

-- both blocks of a group, behind what they link to
pub group_blocks : (place link : ℕ) (old mid new : List ℕ) (g : DataGroup) (inner : ChannelGroup)
    (name : List ℕ) (channels : List ToldChannel) (all : List ℕ)
    → length all ≡ inner.cycles * inner.record_bytes
    → FitsGroup inner × Adds place old mid
    (λ bytes. IsBlockAt bytes g.channel_group (codes "##CG") (cg_links inner) (cg_body inner))
    → Adds place mid new (λ bytes. (link ≢ 0)
    × IsBlockAt bytes link (codes "##DG") (dg_links g) dg_body)
    → Adds place old old (λ bytes.
    TellsText bytes (codes "##TX") inner.acquisition_name (Some name)
    × TellsChannels bytes inner.first_channel channels × TellsRecords bytes g.records all)
    → Adds place old new (λ bytes. (link ≢ 0) × IsGroupAt bytes link (record {
      name = Some name;
      channels = channels;
      record_bytes = inner.record_bytes;
      records = all;
    }) g.next)
group_blocks place link old mid new g inner name channels all long in_block out_block told =
    let Told : List ℕ → Type 0 = λ bytes.
    TellsText bytes (codes "##TX") inner.acquisition_name (Some name)
    × TellsChannels bytes inner.first_channel channels × TellsRecords bytes g.records all in
    let Inner : List ℕ → Type 0 = λ bytes.
    IsBlockAt bytes g.channel_group (codes "##CG") (cg_links inner) (cg_body inner) in
    let Outer : List ℕ → Type 0 = λ bytes.
    (link ≢ 0) × IsBlockAt bytes link (codes "##DG") (dg_links g) dg_body in
    let Both : List ℕ → Type 0 = λ bytes. Told bytes × Inner bytes in
    adds_weaker place old new (λ bytes. Both bytes × Outer bytes) _
    (λ bytes it. (
      it.1.0,
      written_is_told.group bytes link g inner (Some name) channels all in_block.0 it.1.1 it.0.1
          (record {
            name_is = it.0.0.0;
            channels_are = it.0.0.1;
            records_are = it.0.0.2;
            cycles = long;
          }),
    ))
    (adds_both place old mid new Both Outer
    (adds_both place old old mid Told Inner told in_block.1) out_block)
