-- Channels that are added.
use Rattle.std.proofs.Common.{◌≡◌, ◌≢◌, ℕ, ◌+◌, ◌-◌, ◌%◌, ◌^◌}
use Rattle.std.proofs.Common.{◌<◌, List, [], ◌∷◌, ◌++◌, All, length}
use Rattle.std.proofs.Common.{Option, Some, None, length-append, codes}
use Rattle.std.proofs.Common.{drop, get_or, map, refl, arith, lit<}
use Rattle.std.proofs.Common.{subst, sym}
use Rattle.std.proofs.lemmas.List.Elements.{All-cons, All-nil}
use Rattle.mdf_blocks.specs.Blocks.{IsBlock, IsBlockAt}
use Rattle.mdf_blocks.specs.Ranges.{FitsChannel}
use Rattle.mdf_blocks.specs.Numbers.{zeros}
use Rattle.mdf_blocks.specs.Tables.{cn_block, cn_body, cn_links, limit_bytes}
use Rattle.measured_values.specs.declared.value_limits.ValueLimits.{ValueLimits}
use Rattle.mdf_blocks.specs.Told.{IsChannelAt, TellsChannels, TellsConversion, TellsText}
use Rattle.mdf_blocks.specs.Told.{ToldConversion}
use Rattle.mdf_blocks.specs.declared.channel.Channel.{Channel}
use Rattle.mdf_blocks.proofs.ToldLemmas.{written_is_told}
use Rattle.mdf_file.specs.Adding.{Adds}
use Rattle.mdf_file.specs.Describing.{told_channel}
use Rattle.mdf_file.specs.declared.new_channel.NewChannel.{NewChannel}
use Rattle.mdf_file.proofs.AddLemmas.{adds_block, adds_both, adds_weaker, rest_more}

links-small : (c : Channel) → (c.next < 2 ^ 64) × (c.name < 2 ^ 64) × (c.conversion < 2 ^ 64)
    × (c.unit < 2 ^ 64) × (c.comment < 2 ^ 64) → All (λ n. n < 2 ^ 64) (cn_links c)
links-small c small =
    let Small : ℕ → Type 0 = λ n. n < 2 ^ 64 in
    let zero : 0 < 2 ^ 64 = lit< tt in
    All-cons Small c.next (0 ∷ c.name ∷ 0 ∷ c.conversion ∷ 0 ∷ c.unit ∷ c.comment ∷ []) small.0
    (All-cons Small 0 (c.name ∷ 0 ∷ c.conversion ∷ 0 ∷ c.unit ∷ c.comment ∷ []) zero
    (All-cons Small c.name (0 ∷ c.conversion ∷ 0 ∷ c.unit ∷ c.comment ∷ []) small.1
    (All-cons Small 0 (c.conversion ∷ 0 ∷ c.unit ∷ c.comment ∷ []) zero
    (All-cons Small c.conversion (0 ∷ c.unit ∷ c.comment ∷ []) small.2
    (All-cons Small 0 (c.unit ∷ c.comment ∷ []) zero
    (All-cons Small c.unit (c.comment ∷ []) small.3
    (All-cons Small c.comment [] small.4 (All-nil Small))))))))

length-limits : (limits : Option ValueLimits) → length (limit_bytes limits) ≡ 16
length-limits None = refl
length-limits (Some limits) = refl

length-body : (c : Channel) → length (cn_body c) ≡ 72
length-body c =
    let limits : List ℕ = limit_bytes c.limits in
    omega (
      arith,
      length-append limits (zeros 8),
      length-append (limits ++ zeros 8) (zeros 8),
      length-limits c.limits,
    )

-- the block of a channel
pub adds_channel_block : (place link : ℕ) (old new : List ℕ) (c : Channel) → 0 < place
    → link ≡ place + length old → (place + length old) % 8 ≡ 0
    → (c.next < 2 ^ 64) × (c.name < 2 ^ 64) × (c.conversion < 2 ^ 64) × (c.unit < 2 ^ 64)
    × (c.comment < 2 ^ 64) → new ≡ old ++ cn_block c
    → Adds place old new (λ bytes. (link ≢ 0)
    × IsBlockAt bytes link (codes "##CN") (cn_links c) (cn_body c))
adds_channel_block place link old new c some link_is aligned small is =
    let Reads : List ℕ → Type 0 = λ bytes.
    IsBlockAt bytes link (codes "##CN") (cn_links c) (cn_body c) in
    let legal : IsBlock (codes "##CN") (cn_links c) (cn_body c) =
    record { letters = refl; places = links-small c small; limit = omega (arith, length-body c) } in
    let there : link ≢ 0 = λ none. omega (arith, none, link_is, some) in
    adds_weaker place old new Reads (λ bytes. (link ≢ 0) × Reads bytes)
    (λ bytes read. (there, read))
    (adds_block place link old new (codes "##CN") (cn_links c) (cn_body c) link_is aligned legal
    (omega (arith, length-body c)) is)

-- a channel behind its texts and its conversion
pub channel_behind : (place link : ℕ) (old a b d e new : List ℕ) (c : Channel)
    (name name2 : List ℕ) (unit comment : Option (List ℕ)) (conversion : Option ToldConversion)
    → name2 ≡ name
    → Adds place old a (λ bytes. TellsText bytes (codes "##TX") c.name (Some name2))
    → Adds place a b (λ bytes. TellsText bytes (codes "##TX") c.unit unit)
    → Adds place b d (λ bytes. TellsText bytes (codes "##TX") c.comment comment)
    → Adds place d e (λ bytes. TellsConversion bytes c.conversion conversion)
    → FitsChannel c × Adds place e new (λ bytes. (link ≢ 0)
    × IsBlockAt bytes link (codes "##CN") (cn_links c) (cn_body c))
    → Adds place old new (λ bytes. (link ≢ 0) × IsChannelAt bytes link (record {
      name = Some name;
      unit = unit;
      comment = comment;
      conversion = conversion;
      kind = c.kind;
      format = c.format;
      bit_offset = c.bit_offset;
      byte_offset = c.byte_offset;
      bit_count = c.bit_count;
      limits = c.limits;
    }) c.next)
channel_behind place link old a b d e new c name name2 unit comment conversion name_is one two
    three four five =
    let Name : List ℕ → Type 0 = λ bytes. TellsText bytes (codes "##TX") c.name (Some name) in
    let Units : List ℕ → Type 0 = λ bytes. TellsText bytes (codes "##TX") c.unit unit in
    let Words : List ℕ → Type 0 = λ bytes. TellsText bytes (codes "##TX") c.comment comment in
    let Rule : List ℕ → Type 0 = λ bytes. TellsConversion bytes c.conversion conversion in
    let Block : List ℕ → Type 0 = λ bytes. (link ≢ 0)
    × IsBlockAt bytes link (codes "##CN") (cn_links c) (cn_body c) in
    let named : Adds place old a Name =
    subst (λ (n : List ℕ). Adds place old a
    (λ bytes. TellsText bytes (codes "##TX") c.name (Some n))) name_is one in
    let All2 : List ℕ → Type 0 = λ bytes. Name bytes × Units bytes in
    let All3 : List ℕ → Type 0 = λ bytes. All2 bytes × Words bytes in
    let All4 : List ℕ → Type 0 = λ bytes. All3 bytes × Rule bytes in
    let to_b : Adds place old b All2 = adds_both place old a b Name Units named two in
    let to_d : Adds place old d All3 = adds_both place old b d All2 Words to_b three in
    let to_e : Adds place old e All4 = adds_both place old d e All3 Rule to_d four in
    adds_weaker place old new (λ bytes. All4 bytes × Block bytes) _
    (λ bytes all. (
      all.1.0,
      written_is_told.channel bytes link c (Some name) unit comment conversion five.0 all.1.1
          (record {
            name_is = all.0.0.0.0;
            unit_is = all.0.0.0.1;
            comment_is = all.0.0.1;
            conversion_is = all.0.1;
          }),
    ))
    (adds_both place old e new All4 Block to_e five.1)

-- one channel more, in front of those that follow it
pub channel_more : (place link next : ℕ) (old mid new : List ℕ) (xs : List NewChannel)
    (behind : ℕ) (x : NewChannel) → behind < length xs
    → x ≡ get_or xs (length xs - 1 - behind) x
    → Adds place old mid (λ bytes. TellsChannels bytes next
    (map told_channel (drop (length xs - behind) xs)))
    → Adds place mid new (λ bytes. (link ≢ 0) × IsChannelAt bytes link (told_channel x) next)
    → Adds place old new (λ bytes. TellsChannels bytes link
    (map told_channel (drop (length xs - (behind + 1)) xs)))
channel_more place link next old mid new xs behind x within is later one =
    let Later : List ℕ → Type 0 = λ bytes.
    TellsChannels bytes next (map told_channel (drop (length xs - behind) xs)) in
    let One : List ℕ → Type 0 = λ bytes.
    (link ≢ 0) × IsChannelAt bytes link (told_channel x) next in
    subst (λ (cs : List NewChannel). Adds place old new
    (λ bytes. TellsChannels bytes link (map told_channel cs)))
    (sym (rest_more xs behind x within is))
    (adds_weaker place old new (λ bytes. Later bytes × One bytes)
    (λ bytes. TellsChannels bytes link
    (map told_channel (x ∷ drop (length xs - behind) xs)))
    (λ bytes both. (both.1.0, (next, both.1.1, both.0)))
    (adds_both place old mid new Later One later one))
