-- What blocks tell that are written: the other half of the round trip.
use Rattle.std.specs.Prelude.{◌≡◌, ℕ, ◌*◌, List, ◌++◌, codes, length, Option}
use Rattle.std.specs.Float.{Float}
use Rattle.mdf_blocks.specs.Blocks.{IsBlockAt}
use Rattle.mdf_blocks.specs.Conversions.{cc_body, cc_links}
use Rattle.mdf_blocks.specs.Ranges.{FitsChannel, FitsConversion, FitsGroup, FitsHeader, FitsList}
use Rattle.mdf_blocks.specs.Ranges.{FitsTime}
use Rattle.mdf_blocks.specs.Records.{dl_body, dl_links}
use Rattle.mdf_blocks.specs.Tables.{cg_body, cg_links, cn_body, cn_links, dg_body, dg_links}
use Rattle.mdf_blocks.specs.Tables.{fh_body, fh_links, hd_block, id_block}
use Rattle.mdf_blocks.specs.Told.{AreListed, IsChannelAt, IsConversionAt, IsGroupAt, IsHistoryAt}
use Rattle.mdf_blocks.specs.Told.{IsListAt, TellsChannels, TellsConversion, TellsFile, TellsGroups}
use Rattle.mdf_blocks.specs.Told.{TellsHistories, TellsRecords, TellsText, TellsTexts}
use Rattle.mdf_blocks.specs.Told.{ToldChannel, ToldConversion, ToldGroup, ToldHistory}
use Rattle.mdf_blocks.specs.declared.channel.Channel.{Channel}
use Rattle.mdf_blocks.specs.declared.channel_group.ChannelGroup.{ChannelGroup}
use Rattle.mdf_blocks.specs.declared.conversion_kind.ConversionKind.{ConversionKind}
use Rattle.mdf_blocks.specs.declared.data_group.DataGroup.{DataGroup}
use Rattle.mdf_blocks.specs.declared.file_header.FileHeader.{FileHeader}
use Rattle.mdf_blocks.specs.declared.file_history.FileHistory.{FileHistory}
use Rattle.mdf_blocks.specs.declared.file_state.FileState.{FileState}
use Rattle.mdf_blocks.specs.declared.listed_data.ListedData.{ListedData}

-- the texts and the conversion that a channel links to
pub record LinksTell (bytes : List ℕ) (c : Channel) (name unit comment : Option (List ℕ))
    (conversion : Option ToldConversion)
    : Type 0 where
  pub name_is : TellsText bytes (codes "##TX") c.name name
  pub unit_is : TellsText bytes (codes "##TX") c.unit unit
  pub comment_is : TellsText bytes (codes "##TX") c.comment comment
  pub conversion_is : TellsConversion bytes c.conversion conversion

-- what a data group and its channel group link to
pub record GroupTells (bytes : List ℕ) (g : DataGroup) (inner : ChannelGroup)
    (name : Option (List ℕ)) (channels : List ToldChannel) (records : List ℕ)
    : Type 0 where
  pub name_is : TellsText bytes (codes "##TX") inner.acquisition_name name
  pub channels_are : TellsChannels bytes inner.first_channel channels
  pub records_are : TellsRecords bytes g.records records
  pub cycles : length records ≡ inner.cycles * inner.record_bytes

-- where blocks stand that were written, and their links lead to what is told, they tell it
pub record WrittenIsTold : Type 0 where
  pub conversion :
      (bytes : List ℕ) (at : ℕ) (kind : ConversionKind) (unit : ℕ) (references : List ℕ)
      (values : List Float) (texts : List (Option (List ℕ)))
      → FitsConversion references values
      → IsBlockAt bytes at (codes "##CC") (cc_links unit references)
      (cc_body kind (length references) values)
      → TellsTexts bytes references texts
      → IsConversionAt bytes at record { kind = kind; values = values; texts = texts }
  pub channel :
      (bytes : List ℕ) (at : ℕ) (c : Channel) (name unit comment : Option (List ℕ))
      (conversion : Option ToldConversion) → FitsChannel c
      → IsBlockAt bytes at (codes "##CN") (cn_links c) (cn_body c)
      → LinksTell bytes c name unit comment conversion
      → IsChannelAt bytes at record {
        name = name;
        unit = unit;
        comment = comment;
        conversion = conversion;
        kind = c.kind;
        format = c.format;
        bit_offset = c.bit_offset;
        byte_offset = c.byte_offset;
        bit_count = c.bit_count;
        limits = c.limits;
      } c.next
  pub data_list :
      (bytes : List ℕ) (at before next : ℕ) (blocks : List ListedData) (records : List ℕ)
      → FitsList blocks
      → IsBlockAt bytes at (codes "##DL") (dl_links next blocks) (dl_body blocks)
      → AreListed bytes before blocks records
      → IsListAt bytes at before records next
  pub group :
      (bytes : List ℕ) (at : ℕ) (g : DataGroup) (inner : ChannelGroup) (name : Option (List ℕ))
      (channels : List ToldChannel) (records : List ℕ) → FitsGroup inner
      → IsBlockAt bytes at (codes "##DG") (dg_links g) dg_body
      → IsBlockAt bytes g.channel_group (codes "##CG") (cg_links inner) (cg_body inner)
      → GroupTells bytes g inner name channels records
      → IsGroupAt bytes at record {
        name = name;
        channels = channels;
        record_bytes = inner.record_bytes;
        records = records;
      } g.next
  pub history :
      (bytes : List ℕ) (at : ℕ) (h : FileHistory) (comment : Option (List ℕ)) → FitsTime h.time
      → IsBlockAt bytes at (codes "##FH") (fh_links h) (fh_body h)
      → TellsText bytes (codes "##MD") h.comment comment
      → IsHistoryAt bytes at record { time = h.time; comment = comment } h.next
  -- a whole file: the identification, the header, and all that is behind
  pub file :
      (state : FileState) (program behind : List ℕ) (h : FileHeader)
      (histories : List ToldHistory) (groups : List ToldGroup) → length program ≡ 8
      → FitsHeader h
      → TellsHistories (id_block state program ++ hd_block h ++ behind) h.first_history histories
      → TellsGroups (id_block state program ++ hd_block h ++ behind) h.first_group groups
      → TellsFile (id_block state program ++ hd_block h ++ behind) record {
        state = state;
        start = h.start;
        histories = histories;
        groups = groups;
      }
