-- Groups whose records stand before them.
use Rattle.std.proofs.Common.{◌≡◌, ◌≢◌, ℕ, zero, suc, ◌+◌, ◌-◌, ◌≤◌, ◌<◌, ◌∙◌, List, [], ◌∷◌}
use Rattle.std.proofs.Common.{Some, arith, ap, codes, drop, get_or, length, refl, subst, sym}
use Rattle.mdf_blocks.specs.Told.{AreListed, IsGroupAt, TellsChannels, TellsGroups, TellsRecords}
use Rattle.mdf_blocks.specs.Told.{TellsText, ToldChannel, ToldGroup}
use Rattle.mdf_blocks.specs.declared.listed_data.ListedData.{ListedData}
use Rattle.mdf_file.specs.Adding.{Adds}
use Rattle.mdf_file.specs.Ending.{AreOf, HoldRecords, told_group}
use Rattle.mdf_file.specs.declared.streamed_group.StreamedGroup.{StreamedGroup}
use Rattle.mdf_file.proofs.AddLemmas.{adds_both, adds_none, adds_on, adds_weaker, says_longer}

-- a group behind its records, its name and its channels
pub group_behind : (place link first_name first listed next record_bytes : ℕ)
    (old a b e new : List ℕ) (blocks blocks2 : List ListedData) (name name2 : List ℕ)
    (channels channels2 : List ToldChannel) (all : List ℕ) → name2 ≡ name
    → channels2 ≡ channels → blocks2 ≡ blocks
    → Adds place old old (λ bytes. AreListed bytes 0 blocks all)
    → (Adds place old old (λ bytes. AreListed bytes 0 blocks2 all)
    → Adds place old a (λ bytes. TellsRecords bytes listed all))
    → Adds place a b (λ bytes. TellsText bytes (codes "##TX") first_name (Some name2))
    → Adds place b e (λ bytes. TellsChannels bytes first channels2)
    → (Adds place e e (λ bytes. TellsText bytes (codes "##TX") first_name (Some name)
    × TellsChannels bytes first channels × TellsRecords bytes listed all)
    → Adds place e new (λ bytes. (link ≢ 0) × IsGroupAt bytes link (record {
      name = Some name;
      channels = channels;
      record_bytes = record_bytes;
      records = all;
    }) next))
    → Adds place old new (λ bytes. (link ≢ 0) × IsGroupAt bytes link (record {
      name = Some name;
      channels = channels;
      record_bytes = record_bytes;
      records = all;
    }) next)
group_behind place link first_name first listed next record_bytes old a b e new blocks blocks2
    name name2 channels channels2 all name_is channels_are blocks_are held one two three four =
    let Name : List ℕ → Type 0 = λ bytes.
    TellsText bytes (codes "##TX") first_name (Some name) in
    let Channels : List ℕ → Type 0 = λ bytes. TellsChannels bytes first channels in
    let Records : List ℕ → Type 0 = λ bytes. TellsRecords bytes listed all in
    let named : Adds place a b Name =
    subst (λ (n : List ℕ). Adds place a b
    (λ bytes. TellsText bytes (codes "##TX") first_name (Some n))) name_is two in
    let told : Adds place b e Channels =
    subst (λ (cs : List ToldChannel). Adds place b e (λ bytes. TellsChannels bytes first cs))
    channels_are three in
    let to_a : Adds place old a Records =
    one (subst (λ (bs : List ListedData).
    Adds place old old (λ bytes. AreListed bytes 0 bs all)) (sym blocks_are) held) in
    let Front : List ℕ → Type 0 = λ bytes. Records bytes × Name bytes in
    let to_b : Adds place old b Front = adds_both place old a b Records Name to_a named in
    let before : Adds place old e (λ bytes. Name bytes × Channels bytes × Records bytes) =
    adds_weaker place old e (λ bytes. Front bytes × Channels bytes)
    (λ bytes. Name bytes × Channels bytes × Records bytes)
    (λ bytes it. (it.0.1, it.1, it.0.0))
    (adds_both place old b e Front Channels to_b told) in
    adds_on place old e new (λ bytes. Name bytes × Channels bytes × Records bytes) _ before four

-- what a group tells that stands at a place of a list
of_at : (gs : List StreamedGroup) (told : List ToldGroup) (at : ℕ) (g : StreamedGroup)
    → at < length gs → g ≡ get_or gs at g → AreOf gs told
    → (t : ToldGroup) × (drop at told ≡ t ∷ drop (suc at) told)
    × (t ≡ told_group g t.records) × (length t.records ≡ g.len)
of_at [] told at g within is are = absurd (omega (arith, within))
of_at (x ∷ gs) [] at g within is are = absurd are
of_at (x ∷ gs) (t ∷ ts) zero g within is are = (
  t,
  refl,
  subst (λ (h : StreamedGroup). t ≡ told_group h t.records) (sym is) are.0,
  subst (λ (h : StreamedGroup). length t.records ≡ h.len) (sym is) are.1,
)
of_at (x ∷ gs) (t ∷ ts) (suc at) g within is are =
    of_at gs ts at g (omega (arith, within)) is are.2

-- and its records are held
held_at : (bytes : List ℕ) (gs : List StreamedGroup) (told : List ToldGroup) (at : ℕ)
    (g : StreamedGroup) (t : ToldGroup) → at < length gs → g ≡ get_or gs at g
    → drop at told ≡ t ∷ drop (suc at) told → HoldRecords bytes gs told
    → AreListed bytes 0 g.blocks.items t.records
held_at bytes [] told at g t within is here held = absurd (omega (arith, within))
held_at bytes (x ∷ gs) [] at g t within is here held = absurd held
held_at bytes (x ∷ gs) (y ∷ ts) zero g t within is here held =
    let same : y ≡ t = cc in
    subst (λ (h : StreamedGroup). AreListed bytes 0 h.blocks.items t.records) (sym is)
    (subst (λ (u : ToldGroup). AreListed bytes 0 x.blocks.items u.records) same held.0)
held_at bytes (x ∷ gs) (y ∷ ts) (suc at) g t within is here held =
    held_at bytes gs ts at g t (omega (arith, within)) is here held.1

-- behind all groups there is none
pub rest_none : (gs : List StreamedGroup) (told : List ToldGroup) → AreOf gs told
    → drop (length gs) told ≡ []
rest_none [] told are = are
rest_none (g ∷ gs) [] are = absurd are
rest_none (g ∷ gs) (t ∷ ts) are = rest_none gs ts are.2

-- one group more, in front of those that follow it
pub group_more : (place link next : ℕ) (old mid new : List ℕ) (gs : List StreamedGroup)
    (told : List ToldGroup) (behind : ℕ) (g : StreamedGroup) → behind < length gs
    → g ≡ get_or gs (length gs - 1 - behind) g → AreOf gs told
    → Adds place old old (λ bytes. HoldRecords bytes gs told)
    → Adds place old mid (λ bytes. TellsGroups bytes next (drop (length gs - behind) told))
    → ((records : List ℕ) → length records ≡ g.len
    → Adds place mid mid (λ bytes. AreListed bytes 0 g.blocks.items records)
    → Adds place mid new (λ bytes. (link ≢ 0)
    × IsGroupAt bytes link (told_group g records) next))
    → Adds place old new (λ bytes. TellsGroups bytes link
    (drop (length gs - (behind + 1)) told))
group_more place link next old mid new gs told behind g within is are held later one =
    let at : ℕ = length gs - 1 - behind in
    let inside : at < length gs = omega (arith, within) in
    let following : suc at ≡ length gs - behind = omega (arith, within) in
    let here : length gs - (behind + 1) ≡ at = omega arith in
    let found = of_at gs told at g inside is are in
    let t : ToldGroup = found.0 in
    let Held : List ℕ → Type 0 = λ bytes. HoldRecords bytes gs told in
    let Listed : List ℕ → Type 0 = λ bytes. AreListed bytes 0 g.blocks.items t.records in
    let Later : List ℕ → Type 0 = λ bytes.
    TellsGroups bytes next (drop (length gs - behind) told) in
    let One : List ℕ → Type 0 = λ bytes. (link ≢ 0) × IsGroupAt bytes link t next in
    let listed : Adds place mid mid Listed =
    adds_weaker place mid mid Held Listed
    (λ bytes h. held_at bytes gs told at g t inside is found.1 h)
    (adds_none place mid Held later.aligned
    (says_longer place old mid Held Later held.says later)) in
    let block : Adds place mid new One =
    subst (λ (u : ToldGroup). Adds place mid new (λ bytes. (link ≢ 0)
    × IsGroupAt bytes link u next)) (sym found.2) (one t.records found.3 listed) in
    let rest : List ToldGroup = drop (length gs - behind) told in
    let joined : drop (length gs - (behind + 1)) told ≡ t ∷ rest =
    ap (λ (n : ℕ). drop n told) here ∙ found.1 ∙ ap (λ (n : ℕ). t ∷ drop n told) following in
    subst (λ (ts : List ToldGroup). Adds place old new (λ bytes. TellsGroups bytes link ts))
    (sym joined)
    (adds_weaker place old new (λ bytes. Later bytes × One bytes)
    (λ bytes. TellsGroups bytes link (t ∷ rest))
    (λ bytes both. (both.1.0, (next, both.1.1, both.0)))
    (adds_both place old mid new Later One later block))

-- as long as there is no group, none is told
pub none_yet : (place : ℕ) (old : List ℕ) (gs : List StreamedGroup) (told : List ToldGroup)
    → AreOf gs told → Adds place old old (λ bytes. HoldRecords bytes gs told)
    → Adds place old old (λ bytes. TellsGroups bytes 0 (drop (length gs - 0) told))
none_yet place old gs told are held =
    let whole : length gs - 0 ≡ length gs = omega arith in
    let none : drop (length gs - 0) told ≡ [] =
    ap (λ (n : ℕ). drop n told) whole ∙ rest_none gs told are in
    subst (λ (ts : List ToldGroup). Adds place old old (λ bytes. TellsGroups bytes 0 ts))
    (sym none)
    (adds_none place old (λ bytes. TellsGroups bytes 0 []) held.aligned
    (λ front back long. refl))

-- and behind the first one all are
pub all_told : (place link behind : ℕ) (old new : List ℕ) (gs : List StreamedGroup)
    (told : List ToldGroup) → length gs ≤ behind
    → Adds place old new (λ bytes. TellsGroups bytes link (drop (length gs - behind) told))
    → Adds place old new (λ bytes. TellsGroups bytes link told)
all_told place link behind old new gs told over all =
    let none : length gs - behind ≡ 0 = omega (arith, over) in
    subst (λ (n : ℕ). Adds place old new (λ bytes. TellsGroups bytes link (drop n told))) none all
