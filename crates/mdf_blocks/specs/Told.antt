-- What a file tells (ASAM MDF 4.1), read by following the links from its header on. A link that is
-- 0 leads to nothing.
use Rattle.std.specs.Prelude.{◌≡◌, ◌≢◌, ◌⊎◌, ℕ, ◌+◌, ◌*◌, List, [], ◌∷◌, ◌++◌, codes}
use Rattle.std.specs.Prelude.{length, Option, Some, None}
use Rattle.std.specs.Float.{Float}
use Rattle.std.specs.List.{concat}
use Rattle.mdf_blocks.specs.Blocks.{IsBlockAt}
use Rattle.mdf_blocks.specs.Fields.{SaysChannel, SaysChannelGroup, SaysConversion, SaysDataGroup}
use Rattle.mdf_blocks.specs.Fields.{SaysHeader, SaysHistory, SaysList, SaysState}
use Rattle.mdf_blocks.specs.Texts.{IsTextOf}
use Rattle.mdf_blocks.specs.declared.channel.Channel.{Channel}
use Rattle.mdf_blocks.specs.declared.channel_group.ChannelGroup.{ChannelGroup}
use Rattle.mdf_blocks.specs.declared.channel_kind.ChannelKind.{ChannelKind}
use Rattle.mdf_blocks.specs.declared.conversion_kind.ConversionKind.{ConversionKind}
use Rattle.mdf_blocks.specs.declared.data_group.DataGroup.{DataGroup}
use Rattle.mdf_blocks.specs.declared.file_header.FileHeader.{FileHeader}
use Rattle.mdf_blocks.specs.declared.file_history.FileHistory.{FileHistory}
use Rattle.mdf_blocks.specs.declared.file_state.FileState.{FileState}
use Rattle.mdf_blocks.specs.declared.listed_data.ListedData.{ListedData}
use Rattle.mdf_blocks.specs.declared.time.Time.{Time}
use Rattle.mdf_blocks.specs.declared.value_format.ValueFormat.{ValueFormat}
use Rattle.measured_values.specs.declared.value_limits.ValueLimits.{ValueLimits}

-- a text: TX or MD
abbrev pub TellsText : List ℕ → List ℕ → ℕ → Option (List ℕ) → Type 0
TellsText bytes id link None = link ≡ 0
TellsText bytes id link (Some text) =
    (link ≢ 0) × ((body : List ℕ) × IsBlockAt bytes link id [] body × IsTextOf body text)

-- plain texts, one for each link
abbrev pub TellsTexts : List ℕ → List ℕ → List (Option (List ℕ)) → Type 0
TellsTexts bytes [] texts = texts ≡ []
TellsTexts bytes (link ∷ links) [] = ⊥
TellsTexts bytes (link ∷ links) (text ∷ texts) =
    TellsText bytes (codes "##TX") link text × TellsTexts bytes links texts

-- a conversion, with its numbers and its texts
pub record ToldConversion : Type 0 where
  pub kind : ConversionKind
  pub values : List Float
  pub texts : List (Option (List ℕ))

pub record IsConversionAt (bytes : List ℕ) (at : ℕ) (told : ToldConversion) : Type 0 where
  -- these are fixed by `block` and `says`
  pub links : List ℕ
  pub body : List ℕ
  pub unit : ℕ
  pub references : List ℕ
  pub block : IsBlockAt bytes at (codes "##CC") links body
  pub says : SaysConversion links body told.kind unit references told.values
  pub texts : TellsTexts bytes references told.texts

abbrev pub TellsConversion : List ℕ → ℕ → Option ToldConversion → Type 0
TellsConversion bytes link None = link ≡ 0
TellsConversion bytes link (Some told) = (link ≢ 0) × IsConversionAt bytes link told

-- a channel: its name, where it stands in a record, and how its values are to be read
pub record ToldChannel : Type 0 where
  pub name : Option (List ℕ)
  pub unit : Option (List ℕ)
  pub comment : Option (List ℕ)
  pub conversion : Option ToldConversion
  pub kind : ChannelKind
  pub format : ValueFormat
  pub bit_offset : ℕ
  pub byte_offset : ℕ
  pub bit_count : ℕ
  pub limits : Option ValueLimits

-- a channel stands at a place, and the next one of its group at another
pub record IsChannelAt (bytes : List ℕ) (at : ℕ) (told : ToldChannel) (next : ℕ) : Type 0 where
  -- these are fixed by `block` and `says`
  pub links : List ℕ
  pub body : List ℕ
  pub channel : Channel
  pub block : IsBlockAt bytes at (codes "##CN") links body
  pub says : SaysChannel links body channel
  pub goes_on : channel.next ≡ next
  pub name : TellsText bytes (codes "##TX") channel.name told.name
  pub unit : TellsText bytes (codes "##TX") channel.unit told.unit
  pub comment : TellsText bytes (codes "##TX") channel.comment told.comment
  pub conversion : TellsConversion bytes channel.conversion told.conversion
  pub kind : told.kind ≡ channel.kind
  pub format : told.format ≡ channel.format
  pub bit_offset : told.bit_offset ≡ channel.bit_offset
  pub byte_offset : told.byte_offset ≡ channel.byte_offset
  pub bit_count : told.bit_count ≡ channel.bit_count
  pub limits : told.limits ≡ channel.limits

-- the channels of a group, one linked to the next
abbrev pub TellsChannels : List ℕ → ℕ → List ToldChannel → Type 0
TellsChannels bytes link [] = link ≡ 0
TellsChannels bytes link (c ∷ cs) =
    (link ≢ 0) × ((next : ℕ) × IsChannelAt bytes link c next × TellsChannels bytes next cs)

-- data blocks, with so many bytes of records before them
abbrev pub AreListed : List ℕ → ℕ → List ListedData → List ℕ → Type 0
AreListed bytes before [] records = records ≡ []
AreListed bytes before (b ∷ bs) records =
    (own later : List ℕ) × (records ≡ own ++ later) × (b.offset ≡ before)
    × IsBlockAt bytes b.place (codes "##DT") [] own
    × AreListed bytes (before + length own) bs later

-- a list of data blocks, and where the next one stands
pub record IsListAt (bytes : List ℕ) (at before : ℕ) (records : List ℕ) (next : ℕ) : Type 0 where
  -- these are fixed by `block` and `says`
  pub links : List ℕ
  pub body : List ℕ
  pub blocks : List ListedData
  pub block : IsBlockAt bytes at (codes "##DL") links body
  pub says : SaysList links body next blocks
  pub listed : AreListed bytes before blocks records

-- lists, one linked to the next
abbrev pub AreLists : List ℕ → ℕ → ℕ → List (List ℕ) → Type 0
AreLists bytes before link [] = link ≡ 0
AreLists bytes before link (part ∷ parts) =
    (link ≢ 0)
    × ((next : ℕ) × IsListAt bytes link before part next
    × AreLists bytes (before + length part) next parts)

-- the records of a data group: there are none, or they stand in a data block, or in the blocks of
-- lists
abbrev pub TellsRecords : List ℕ → ℕ → List ℕ → Type 0
TellsRecords bytes link records =
    ((link ≡ 0) × (records ≡ []))
    ⊎ (((link ≢ 0) × IsBlockAt bytes link (codes "##DT") [] records)
    ⊎ ((parts : List (List ℕ)) × (records ≡ concat parts) × (link ≢ 0)
    × AreLists bytes 0 link parts))

-- a group: what its samples came of, its channels, and its records, one behind another
pub record ToldGroup : Type 0 where
  pub name : Option (List ℕ)
  pub channels : List ToldChannel
  pub record_bytes : ℕ
  pub records : List ℕ

-- a data group stands at a place, and the next one at another
pub record IsGroupAt (bytes : List ℕ) (at : ℕ) (told : ToldGroup) (next : ℕ) : Type 0 where
  -- these are fixed by the blocks and by what they say
  pub links : List ℕ
  pub body : List ℕ
  pub group : DataGroup
  pub inner_links : List ℕ
  pub inner_body : List ℕ
  pub inner : ChannelGroup
  pub block : IsBlockAt bytes at (codes "##DG") links body
  pub says : SaysDataGroup links body group
  pub goes_on : group.next ≡ next
  pub inner_block : IsBlockAt bytes group.channel_group (codes "##CG") inner_links inner_body
  pub inner_says : SaysChannelGroup inner_links inner_body inner
  pub name : TellsText bytes (codes "##TX") inner.acquisition_name told.name
  pub channels : TellsChannels bytes inner.first_channel told.channels
  pub records : TellsRecords bytes group.records told.records
  pub record_bytes : told.record_bytes ≡ inner.record_bytes
  -- the cycle count is the number of records
  pub cycles : length told.records ≡ inner.cycles * told.record_bytes

-- the data groups, one linked to the next
abbrev pub TellsGroups : List ℕ → ℕ → List ToldGroup → Type 0
TellsGroups bytes link [] = link ≡ 0
TellsGroups bytes link (g ∷ gs) =
    (link ≢ 0) × ((next : ℕ) × IsGroupAt bytes link g next × TellsGroups bytes next gs)

-- who wrote the file
pub record ToldHistory : Type 0 where
  pub time : Time
  pub comment : Option (List ℕ)

pub record IsHistoryAt (bytes : List ℕ) (at : ℕ) (told : ToldHistory) (next : ℕ) : Type 0 where
  -- these are fixed by `block` and `says`
  pub links : List ℕ
  pub body : List ℕ
  pub history : FileHistory
  pub block : IsBlockAt bytes at (codes "##FH") links body
  pub says : SaysHistory links body history
  pub goes_on : history.next ≡ next
  pub time : told.time ≡ history.time
  pub comment : TellsText bytes (codes "##MD") history.comment told.comment

abbrev pub TellsHistories : List ℕ → ℕ → List ToldHistory → Type 0
TellsHistories bytes link [] = link ≡ 0
TellsHistories bytes link (h ∷ hs) =
    (link ≢ 0) × ((next : ℕ) × IsHistoryAt bytes link h next × TellsHistories bytes next hs)

-- what a file tells
pub record ToldFile : Type 0 where
  pub state : FileState
  pub start : Time
  pub histories : List ToldHistory
  pub groups : List ToldGroup

pub record TellsFile (bytes : List ℕ) (told : ToldFile) : Type 0 where
  -- these are fixed by `block` and `says`
  pub links : List ℕ
  pub body : List ℕ
  pub header : FileHeader
  pub state : SaysState bytes told.state
  pub block : IsBlockAt bytes 64 (codes "##HD") links body
  pub says : SaysHeader links body header
  pub start : told.start ≡ header.start
  pub histories : TellsHistories bytes header.first_history told.histories
  pub groups : TellsGroups bytes header.first_group told.groups
