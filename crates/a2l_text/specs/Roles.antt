-- The role of a block: what it is to the reader of an A2L file, by its name and the role of the
-- block in which it stands. In
--
--   /begin PROJECT p ""
--     /begin MODULE m ""
--       /begin IF_DATA XCP
--         /begin DAQ STATIC 1 2 0 /begin DAQ_LIST 0 /end DAQ_LIST /end DAQ
--       /end IF_DATA
--       /begin MEASUREMENT speed "" /end MEASUREMENT
--     /end MODULE
--   /end PROJECT
--
-- the file itself is File, PROJECT is Project and MODULE is Module. MEASUREMENT is a part, Gathered
-- part.Measurement. IF_DATA is IfData, and Xcp from its word XCP on. DAQ in it is a part, Gathered
-- part.Daq, and DAQ_LIST in that is PassedOver.
use Rattle.std.specs.Prelude.{ℕ, Bool, true, false, List, [], ◌∷◌, codes, bytes_eq, Option}
use Rattle.std.specs.Prelude.{Some, None, if◌then◌else◌}
use Rattle.std.specs.Option.{unwrap_or}
use Rattle.a2l_text.specs.Keywords.{meaning}
use Rattle.a2l_text.specs.declared.part.Part.{Part}
use Rattle.a2l_text.specs.declared.part.Part.TheVariants as part
use Rattle.a2l_text.specs.declared.role.Role.{Role}
use Rattle.a2l_text.specs.declared.role.Role.TheVariants.{File, Project, Module, IfData, Xcp}
use Rattle.a2l_text.specs.declared.role.Role.TheVariants.{XcpPlus, Gathered, Grammar, Joined}
use Rattle.a2l_text.specs.declared.role.Role.TheVariants.{PassedOver}

-- the blocks directly in a MODULE that aren't passed over
abbrev pub module_blocks : List (List ℕ × Role)
module_blocks =
    (codes "MEASUREMENT", Gathered part.Measurement)
    ∷ (codes "INSTANCE", Gathered part.Instance)
    ∷ (codes "COMPU_METHOD", Gathered part.Method)
    ∷ (codes "COMPU_VTAB", Gathered part.Table)
    ∷ (codes "COMPU_VTAB_RANGE", Gathered part.Ranges)
    ∷ (codes "MOD_COMMON", Gathered part.Defaults)
    ∷ (codes "IF_DATA", IfData)
    ∷ (codes "A2ML", Grammar)
    ∷ []

-- a block directly in a MODULE
abbrev pub module_block : List ℕ → Role
module_block name = unwrap_or (meaning module_blocks name) PassedOver

-- the parts in an IF_DATA of XCP
abbrev pub xcp_blocks : List (List ℕ × Role)
xcp_blocks =
    (codes "PROTOCOL_LAYER", Gathered part.Protocol)
    ∷ (codes "DAQ", Gathered part.Daq)
    ∷ (codes "TIMESTAMP_SUPPORTED", Gathered part.Timestamp)
    ∷ []

-- a block in an IF_DATA of XCP: parts may stand in one that is none
abbrev pub xcp_block : List ℕ → Role
xcp_block name = unwrap_or (meaning xcp_blocks name) Xcp

-- the parts in an IF_DATA of XCPplus
abbrev pub plus_blocks : List (List ℕ × Role)
plus_blocks =
    (codes "PROTOCOL_LAYER", Gathered part.Protocol)
    ∷ (codes "DAQ", Gathered part.PlusDaq)
    ∷ []

-- a block in an IF_DATA of XCPplus: parts may stand in one that is none
abbrev pub plus_block : List ℕ → Role
plus_block name = unwrap_or (meaning plus_blocks name) XcpPlus

-- a block directly in a part: a MEASUREMENT has options in BIT_OPERATION, and DAQ in
-- TIMESTAMP_SUPPORTED
abbrev pub inside_part : Part → List ℕ → Role
inside_part part.Defaults name = PassedOver
inside_part part.Measurement name =
    if bytes_eq name (codes "BIT_OPERATION") then Joined else PassedOver
inside_part part.Instance name = PassedOver
inside_part part.Method name = PassedOver
inside_part part.Table name = PassedOver
inside_part part.Ranges name = PassedOver
inside_part part.Protocol name = PassedOver
inside_part part.Daq name =
    if bytes_eq name (codes "TIMESTAMP_SUPPORTED") then Joined else PassedOver
inside_part part.PlusDaq name =
    if bytes_eq name (codes "TIMESTAMP_SUPPORTED") then Joined else PassedOver
inside_part part.Timestamp name = PassedOver
inside_part part.Module name = PassedOver

-- a block in a block
abbrev pub inside : Role → List ℕ → Role
inside File name = if bytes_eq name (codes "PROJECT") then Project else PassedOver
inside Project name = if bytes_eq name (codes "MODULE") then Module else PassedOver
inside Module name = module_block name
inside IfData name = PassedOver
inside Xcp name = xcp_block name
inside XcpPlus name = plus_block name
inside (Gathered p) name = inside_part p name
inside Joined name = PassedOver
inside Grammar name = Grammar
inside PassedOver name = PassedOver

-- the role behind a plain word directly in the block: the first word of an IF_DATA says whose it is
abbrev pub after_plain : Role → List ℕ → Role
after_plain File word = File
after_plain Project word = Project
after_plain Module word = Module
after_plain IfData word =
    if bytes_eq word (codes "XCP") then Xcp
    else (if bytes_eq word (codes "XCPplus") then XcpPlus else PassedOver)
after_plain Xcp word = Xcp
after_plain XcpPlus word = XcpPlus
after_plain (Gathered p) word = Gathered p
after_plain Joined word = Joined
after_plain Grammar word = Grammar
after_plain PassedOver word = PassedOver

-- the role behind a text directly in the block: an IF_DATA that begins with one is passed over
abbrev pub after_text : Role → Role
after_text File = File
after_text Project = Project
after_text Module = Module
after_text IfData = PassedOver
after_text Xcp = Xcp
after_text XcpPlus = XcpPlus
after_text (Gathered p) = Gathered p
after_text Joined = Joined
after_text Grammar = Grammar
after_text PassedOver = PassedOver

-- other files may be included in A2ML, which is passed over
abbrev pub may_include : Role → Bool
may_include File = false
may_include Project = false
may_include Module = false
may_include IfData = false
may_include Xcp = false
may_include XcpPlus = false
may_include (Gathered p) = false
may_include Joined = false
may_include Grammar = true
may_include PassedOver = false

-- the kind of a block, if it is a part
abbrev pub part_of : Role → Option Part
part_of File = None
part_of Project = None
part_of Module = Some part.Module
part_of IfData = None
part_of Xcp = None
part_of XcpPlus = None
part_of (Gathered p) = Some p
part_of Joined = None
part_of Grammar = None
part_of PassedOver = None
