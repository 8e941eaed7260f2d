-- What was told is told again.
use Rattle.std.proofs.Common.{◌≡◌, ◌≢◌, ℕ, ◌+◌, ◌≤◌, List, [], ◌∷◌, ◌++◌, ◌∙◌, length, Option, Some}
use Rattle.std.proofs.Common.{None}
use Rattle.std.proofs.Common.{inl, inr, codes, ap, arith, append_assoc, length-append, refl, subst}
use Rattle.std.proofs.Common.{All, ◌<◌, ◌%◌, ◌^◌}
use Rattle.std.proofs.lemmas.List.Elements.{All-nil}
use Rattle.std.specs.Int.{from_le_bytes, w16}
use Rattle.mdf_blocks.specs.Blocks.{IsBlock, IsBlockAt, block, fill_len, filled}
use Rattle.mdf_blocks.specs.Numbers.{zeros}
use Rattle.mdf_blocks.specs.Fields.{SaysState}
use Rattle.mdf_blocks.specs.Staying.{KeepsBlocks, StaysTold, WrittenTextIsTold}
use Rattle.mdf_blocks.specs.Texts.{text_body}
use Rattle.mdf_blocks.specs.Told.{AreListed, AreLists, IsChannelAt, IsGroupAt}
use Rattle.mdf_blocks.specs.Told.{IsHistoryAt, IsListAt, TellsChannels, TellsConversion, TellsFile}
use Rattle.mdf_blocks.specs.Told.{TellsGroups, TellsHistories, TellsRecords, TellsText, TellsTexts}
use Rattle.mdf_blocks.specs.Told.{ToldChannel, ToldConversion, ToldFile, ToldGroup, ToldHistory}
use Rattle.mdf_blocks.specs.declared.file_state.FileState.{FileState}
use Rattle.mdf_blocks.specs.declared.listed_data.ListedData.{ListedData}
use Rattle.mdf_blocks.proofs.PartLemmas.{part-append}
use Rattle.mdf_blocks.proofs.ReadLemmas.{read_behind, written_is_read}

text_stays : (old new id : List ℕ) (link : ℕ) (text : Option (List ℕ)) → KeepsBlocks old new
    → TellsText old id link text → TellsText new id link text
text_stays old new id link None keeps t = t
text_stays old new id link (Some text) keeps t =
    (t.0, (t.1.0, keeps link id [] t.1.0 t.1.1, t.1.2))

texts_stay : (old new : List ℕ) (links : List ℕ) (texts : List (Option (List ℕ)))
    → KeepsBlocks old new → TellsTexts old links texts → TellsTexts new links texts
texts_stay old new [] texts keeps t = t
texts_stay old new (link ∷ links) [] keeps t = t
texts_stay old new (link ∷ links) (text ∷ texts) keeps t = (
  text_stays old new (codes "##TX") link text keeps t.0,
  texts_stay old new links texts keeps t.1,
)

conversion_stays : (old new : List ℕ) (link : ℕ) (told : Option ToldConversion)
    → KeepsBlocks old new → TellsConversion old link told → TellsConversion new link told
conversion_stays old new link None keeps t = t
conversion_stays old new link (Some told) keeps t =
    let c = t.1 in (
      t.0,
      record {
        links = c.links;
        body = c.body;
        unit = c.unit;
        references = c.references;
        block = keeps link (codes "##CC") c.links c.body c.block;
        says = c.says;
        texts = texts_stay old new c.references told.texts keeps c.texts;
      },
    )

channel_stays : (old new : List ℕ) (at : ℕ) (told : ToldChannel) (next : ℕ)
    → KeepsBlocks old new → IsChannelAt old at told next → IsChannelAt new at told next
channel_stays old new at told next keeps c = record {
  links = c.links;
  body = c.body;
  channel = c.channel;
  block = keeps at (codes "##CN") c.links c.body c.block;
  says = c.says;
  goes_on = c.goes_on;
  name = text_stays old new (codes "##TX") c.channel.name told.name keeps c.name;
  unit = text_stays old new (codes "##TX") c.channel.unit told.unit keeps c.unit;
  comment = text_stays old new (codes "##TX") c.channel.comment told.comment keeps c.comment;
  conversion = conversion_stays old new c.channel.conversion told.conversion keeps c.conversion;
  kind = c.kind;
  format = c.format;
  bit_offset = c.bit_offset;
  byte_offset = c.byte_offset;
  bit_count = c.bit_count;
  limits = c.limits;
}

channels_stay : (old new : List ℕ) (link : ℕ) (told : List ToldChannel) → KeepsBlocks old new
    → TellsChannels old link told → TellsChannels new link told
channels_stay old new link [] keeps t = t
channels_stay old new link (c ∷ cs) keeps t =
    let next = t.1.0 in (
      t.0,
      (
        next,
        channel_stays old new link c next keeps t.1.1,
        channels_stay old new next cs keeps t.1.2,
      ),
    )

listed_stay : (old new : List ℕ) (before : ℕ) (blocks : List ListedData) (records : List ℕ)
    → KeepsBlocks old new → AreListed old before blocks records
    → AreListed new before blocks records
listed_stay old new before [] records keeps t = t
listed_stay old new before (b ∷ bs) records keeps t = (
  t.0,
  t.1,
  t.2,
  t.3,
  keeps b.place (codes "##DT") [] t.0 t.4,
  listed_stay old new (before + length t.0) bs t.1 keeps t.5,
)

list_stays : (old new : List ℕ) (at before : ℕ) (records : List ℕ) (next : ℕ)
    → KeepsBlocks old new → IsListAt old at before records next
    → IsListAt new at before records next
list_stays old new at before records next keeps l = record {
  links = l.links;
  body = l.body;
  blocks = l.blocks;
  block = keeps at (codes "##DL") l.links l.body l.block;
  says = l.says;
  listed = listed_stay old new before l.blocks records keeps l.listed;
}

lists_stay : (old new : List ℕ) (before link : ℕ) (parts : List (List ℕ)) → KeepsBlocks old new
    → AreLists old before link parts → AreLists new before link parts
lists_stay old new before link [] keeps t = t
lists_stay old new before link (part ∷ parts) keeps t =
    let next = t.1.0 in (
      t.0,
      (
        next,
        list_stays old new link before part next keeps t.1.1,
        lists_stay old new (before + length part) next parts keeps t.1.2,
      ),
    )

records_stay : (old new : List ℕ) (link : ℕ) (told : List ℕ) → KeepsBlocks old new
    → TellsRecords old link told → TellsRecords new link told
records_stay old new link told keeps (inl none) = inl none
records_stay old new link told keeps (inr (inl one)) =
    inr (inl (one.0, keeps link (codes "##DT") [] told one.1))
records_stay old new link told keeps (inr (inr many)) =
    inr (inr (many.0, many.1, many.2, lists_stay old new 0 link many.0 keeps many.3))

group_stays : (old new : List ℕ) (at : ℕ) (told : ToldGroup) (next : ℕ) → KeepsBlocks old new
    → IsGroupAt old at told next → IsGroupAt new at told next
group_stays old new at told next keeps g = record {
  links = g.links;
  body = g.body;
  group = g.group;
  inner_links = g.inner_links;
  inner_body = g.inner_body;
  inner = g.inner;
  block = keeps at (codes "##DG") g.links g.body g.block;
  says = g.says;
  goes_on = g.goes_on;
  inner_block = keeps g.group.channel_group (codes "##CG") g.inner_links g.inner_body g.inner_block;
  inner_says = g.inner_says;
  name = text_stays old new (codes "##TX") g.inner.acquisition_name told.name keeps g.name;
  channels = channels_stay old new g.inner.first_channel told.channels keeps g.channels;
  records = records_stay old new g.group.records told.records keeps g.records;
  record_bytes = g.record_bytes;
  cycles = g.cycles;
}

groups_stay : (old new : List ℕ) (link : ℕ) (told : List ToldGroup) → KeepsBlocks old new
    → TellsGroups old link told → TellsGroups new link told
groups_stay old new link [] keeps t = t
groups_stay old new link (g ∷ gs) keeps t =
    let next = t.1.0 in (
      t.0,
      (
        next,
        group_stays old new link g next keeps t.1.1,
        groups_stay old new next gs keeps t.1.2,
      ),
    )

history_stays : (old new : List ℕ) (at : ℕ) (told : ToldHistory) (next : ℕ) → KeepsBlocks old new
    → IsHistoryAt old at told next → IsHistoryAt new at told next
history_stays old new at told next keeps h = record {
  links = h.links;
  body = h.body;
  history = h.history;
  block = keeps at (codes "##FH") h.links h.body h.block;
  says = h.says;
  goes_on = h.goes_on;
  time = h.time;
  comment = text_stays old new (codes "##MD") h.history.comment told.comment keeps h.comment;
}

histories_stay : (old new : List ℕ) (link : ℕ) (told : List ToldHistory) → KeepsBlocks old new
    → TellsHistories old link told → TellsHistories new link told
histories_stay old new link [] keeps t = t
histories_stay old new link (h ∷ hs) keeps t =
    let next = t.1.0 in (
      t.0,
      (
        next,
        history_stays old new link h next keeps t.1.1,
        histories_stay old new next hs keeps t.1.2,
      ),
    )

state_stays : (bytes more : List ℕ) (state : FileState) → 64 ≤ length bytes
    → SaysState bytes state → SaysState (bytes ++ more) state
state_stays bytes more state long s = record {
  file = part-append bytes more 0 8 (omega arith) (omega arith) ∙ s.file;
  version = part-append bytes more 8 16 (omega arith) (omega arith) ∙ s.version;
  number = ap (from_le_bytes w16) (part-append bytes more 28 30 (omega arith) (omega arith))
      ∙ s.number;
  flags = ap (from_le_bytes w16) (part-append bytes more 60 62 (omega arith) (omega arith))
      ∙ s.flags;
}

file_stays : (bytes more : List ℕ) (told : ToldFile) → TellsFile bytes told
    → TellsFile (bytes ++ more) told
file_stays bytes more told f =
    let keeps : KeepsBlocks bytes (bytes ++ more) =
    λ at id links body b. read_behind bytes more at id links body b in
    record {
      links = f.links;
      body = f.body;
      header = f.header;
      state = state_stays bytes more told.state (omega (arith, f.block.within)) f.state;
      block = keeps 64 (codes "##HD") f.links f.body f.block;
      says = f.says;
      start = f.start;
      histories = histories_stay bytes (bytes ++ more) f.header.first_history told.histories keeps
          f.histories;
      groups = groups_stay bytes (bytes ++ more) f.header.first_group told.groups keeps f.groups;
    }

pub stays_told : StaysTold
stays_told = record {
  channels = channels_stay;
  records = records_stay;
  groups = groups_stay;
  histories = histories_stay;
  file = file_stays;
}

joined_fill : (front block fill behind : List ℕ)
    → front ++ block ++ (fill ++ behind) ≡ front ++ (block ++ fill) ++ behind
joined_fill front block fill behind = simp append_assoc

-- a text that was written, under any letters
letters_told : (id front behind text : List ℕ) → length id ≡ 4 → 0 < length front
    → length front % 8 ≡ 0 → All (λ b. b ≢ 0) text → length text < 2 ^ 63
    → TellsText (front ++ filled (block id [] (text_body text)) ++ behind) id (length front)
    (Some text)
letters_told id front behind text letters some aligned whole few =
    let body : List ℕ = text_body text in
    let fill : List ℕ = zeros (fill_len (length (block id [] body))) in
    let legal : IsBlock id [] body = record {
      letters = letters;
      places = All-nil (λ link. link < 2 ^ 64);
      limit = omega (arith, few, length-append text (0 ∷ []));
    } in
    let read = written_is_read front (fill ++ behind) id [] body legal aligned in
    let joined : front ++ block id [] body ++ (fill ++ behind)
    ≡ front ++ (block id [] body ++ fill) ++ behind =
    joined_fill front (block id [] body) fill behind in (
      omega (arith, some),
      (
        body,
        subst (λ (bytes : List ℕ). IsBlockAt bytes (length front) id [] body) joined read,
        record { behind = []; ended = refl; whole = whole },
      ),
    )

pub written_text_is_told : WrittenTextIsTold
written_text_is_told front behind text some aligned whole few = (
  letters_told (codes "##TX") front behind text refl some aligned whole few,
  letters_told (codes "##MD") front behind text refl some aligned whole few,
)
