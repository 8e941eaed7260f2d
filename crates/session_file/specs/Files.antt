-- A session file: which text is which session, and what its first fault is.
use Rattle.std.specs.Prelude.{◌≡◌, ℕ, List, Some, map}
use Rattle.toml.specs.Data.{Members}
use Rattle.toml.specs.Parse.{parse_document}
use Rattle.xcp_base.specs.Forms.{stamp_bytes}
use Rattle.segments.specs.declared.segment.Segment.{Segment}
use Rattle.session.specs.declared.profile.Profile.{Profile}
use Rattle.run_file.specs.Keys.{all_of}
use Rattle.run_file.specs.Reading.{AreTextsOf, IsFirstBad}
use Rattle.session_file.specs.declared.file.SessionFile.{SessionFile}
use Rattle.session_file.specs.Events.{EventData, event_data, event_in}
use Rattle.session_file.specs.Inner.{line_data}
use Rattle.session_file.specs.Keys.{AreKeyValues, HasBadKey, KeyValues, first_none}
use Rattle.session_file.specs.Lines.{IsLineText}
use Rattle.session_file.specs.Memory.{bad_segment, count_of, segments_of}

-- the profile has these values
pub record IsProfileOf (v : KeyValues) (p : Profile) : Type 0 where
  pub segments_are : segments_of (count_of v.events) v.memory ≡ Some p.segments.items
  pub id_is : p.id ≡ v.id
  pub stamp_is : p.stamp_size ≡ stamp_bytes v.stamp
  pub unit_is : p.unit ≡ v.unit
  pub ticks_are : p.ticks ≡ v.ticks
  pub max_cto_is : p.max_cto ≡ v.max_cto
  pub max_dto_is : p.max_dto ≡ v.max_dto
  pub name_is : p.name.items ≡ v.name
  pub a2l_name_is : p.a2l_name.items ≡ v.a2l_name
  pub epk_is : p.epk.items ≡ v.epk
  pub a2l_is : p.a2l.items ≡ v.a2l
  pub events_are : all_of event_in v.events ≡ Some (map event_data p.events.items)

-- the text is a document with these values of the keys
pub record IsDocumentOf (text : List ℕ) (values : KeyValues) : Type 0 where
  pub document : Members
  pub toml : parse_document text ≡ Some document
  pub keys_are : AreKeyValues document values

-- the text is this session
pub record IsSessionText (text : List ℕ) (read : SessionFile) : Type 0 where
  pub values : KeyValues
  pub document : IsDocumentOf text values
  pub profile_is : IsProfileOf values read.profile
  pub script_is : AreTextsOf IsLineText values.script (map line_data read.script.items)

-- the text is a document whose keys aren't those of a session
pub record HasBadKeyText (text : List ℕ) : Type 0 where
  pub document : Members
  pub toml : parse_document text ≡ Some document
  pub fault : HasBadKey document

-- its keys are right, and this is the first item of `segments` that is no segment
pub record HasBadSegment (text : List ℕ) (place : ℕ) : Type 0 where
  pub values : KeyValues
  pub document : IsDocumentOf text values
  pub first : bad_segment (count_of values.events) values.memory ≡ Some place

-- its keys and its segments are right, and this is the first item of `events` that is no event
-- channel
pub record HasBadEvent (text : List ℕ) (place : ℕ) : Type 0 where
  pub values : KeyValues
  pub document : IsDocumentOf text values
  pub segments : List Segment
  pub segments_are : segments_of (count_of values.events) values.memory ≡ Some segments
  pub first : first_none event_in values.events ≡ Some place

-- its keys, its segments and its event channels are right, and this is the first text of `script`
-- that is no line
pub record HasBadLine (text : List ℕ) (place : ℕ) : Type 0 where
  pub values : KeyValues
  pub document : IsDocumentOf text values
  pub segments : List Segment
  pub segments_are : segments_of (count_of values.events) values.memory ≡ Some segments
  pub events : List EventData
  pub events_are : all_of event_in values.events ≡ Some events
  pub first : IsFirstBad IsLineText values.script place
