-- What the blocks that are written say.
use Rattle.std.specs.Prelude.{◌≡◌, ℕ, List, ◌++◌, length}
use Rattle.std.specs.Float.{Float}
use Rattle.mdf_blocks.specs.Conversions.{cc_body, cc_links}
use Rattle.mdf_blocks.specs.Fields.{SaysChannel, SaysChannelGroup, SaysConversion, SaysDataGroup}
use Rattle.mdf_blocks.specs.Fields.{SaysHeader, SaysHistory, SaysList, SaysState}
use Rattle.mdf_blocks.specs.Ranges.{FitsChannel, FitsConversion, FitsGroup, FitsList, FitsTime}
use Rattle.mdf_blocks.specs.Records.{dl_body, dl_links}
use Rattle.mdf_blocks.specs.Tables.{cg_body, cg_links, cn_body, cn_links, dg_body, dg_links}
use Rattle.mdf_blocks.specs.Tables.{fh_body, fh_links, hd_body, hd_links, id_block}
use Rattle.mdf_blocks.specs.declared.channel.Channel.{Channel}
use Rattle.mdf_blocks.specs.declared.channel_group.ChannelGroup.{ChannelGroup}
use Rattle.mdf_blocks.specs.declared.conversion_kind.ConversionKind.{ConversionKind}
use Rattle.mdf_blocks.specs.declared.data_group.DataGroup.{DataGroup}
use Rattle.mdf_blocks.specs.declared.file_header.FileHeader.{FileHeader}
use Rattle.mdf_blocks.specs.declared.file_history.FileHistory.{FileHistory}
use Rattle.mdf_blocks.specs.declared.file_state.FileState.{FileState}
use Rattle.mdf_blocks.specs.declared.listed_data.ListedData.{ListedData}

-- by the places of its fields each block says what it was written of
pub record EachSays : Type 0 where
  pub state :
      (state : FileState) (program behind : List ℕ) → length program ≡ 8
      → SaysState (id_block state program ++ behind) state
  pub header : (h : FileHeader) → FitsTime h.start → SaysHeader (hd_links h) (hd_body h) h
  pub history : (h : FileHistory) → FitsTime h.time → SaysHistory (fh_links h) (fh_body h) h
  pub data_group : (g : DataGroup) → SaysDataGroup (dg_links g) dg_body g
  pub channel_group : (g : ChannelGroup) → FitsGroup g → SaysChannelGroup (cg_links g) (cg_body g) g
  pub channel : (c : Channel) → FitsChannel c → SaysChannel (cn_links c) (cn_body c) c
  pub conversion :
      (kind : ConversionKind) (unit : ℕ) (references : List ℕ) (values : List Float)
      → FitsConversion references values
      → SaysConversion (cc_links unit references) (cc_body kind (length references) values)
      kind unit references values
  pub data_list :
      (next : ℕ) (blocks : List ListedData) → FitsList blocks
      → SaysList (dl_links next blocks) (dl_body blocks) next blocks
