-- The parts that the words ahead make, where some blocks are open. A text is read from its front
-- on: what is known are the open blocks, and the words gathered so far of the part that is open, if
-- one is. Behind
--
--   /begin PROJECT p "" /begin MODULE m "" /begin MEASUREMENT speed ""
--
-- the role is that of the MEASUREMENT, the open blocks are MEASUREMENT, MODULE and PROJECT, and
-- gathered are speed and "". If the words ahead are
--
--   UWORD /end MEASUREMENT /end MODULE /end PROJECT
--
-- the sections to come are Measurement, with the words speed "" UWORD, and Module. If the words
-- ahead don't end the open blocks, the answer is None: such a text is no A2L file.
use Rattle.std.specs.Prelude.{ℕ, List, [], ◌∷◌, ◌++◌, length, bytes_eq, nat_lt, Option, Some, None}
use Rattle.std.specs.Prelude.{if◌then◌else◌}
use Rattle.a2l_text.specs.Tokens.{Token, begin, end, include, plain, quoted}
use Rattle.a2l_text.specs.Roles.{inside, after_plain, after_text, may_include, part_of}
use Rattle.a2l_text.specs.Parts.{Section}
use Rattle.a2l_text.specs.declared.part.Part.{Part}
use Rattle.a2l_text.specs.declared.role.Role.{Role}
use Rattle.a2l_text.specs.declared.role.Role.TheVariants.{File, Project, Module, IfData, Xcp}
use Rattle.a2l_text.specs.declared.role.Role.TheVariants.{XcpPlus, Gathered, Grammar, Joined}
use Rattle.a2l_text.specs.declared.role.Role.TheVariants.{PassedOver}

-- an open block: its name, and the role of what it stands in
pub record Open : Type 0 where
  pub name : List ℕ
  pub outer : Role

-- the words gathered so far, behind one more in a block of a role
abbrev pub gathered_with : Role → Token → List Token → List Token
gathered_with File w gathered = gathered
gathered_with Project w gathered = gathered
gathered_with Module w gathered = gathered
gathered_with IfData w gathered = gathered
gathered_with Xcp w gathered = gathered
gathered_with XcpPlus w gathered = gathered
gathered_with (Gathered p) w gathered = gathered ++ w ∷ []
gathered_with Joined w gathered = gathered ++ w ∷ []
gathered_with Grammar w gathered = gathered
gathered_with PassedOver w gathered = gathered

-- the words gathered so far, behind the beginning of a block of a role and a name: with the name,
-- if the block has options of the part that it stands in
abbrev pub gathered_at_begin : Role → List ℕ → List Token → List Token
gathered_at_begin File name gathered = gathered
gathered_at_begin Project name gathered = gathered
gathered_at_begin Module name gathered = gathered
gathered_at_begin IfData name gathered = gathered
gathered_at_begin Xcp name gathered = gathered
gathered_at_begin XcpPlus name gathered = gathered
gathered_at_begin (Gathered p) name gathered = gathered
gathered_at_begin Joined name gathered = gathered ++ plain name ∷ []
gathered_at_begin Grammar name gathered = gathered
gathered_at_begin PassedOver name gathered = gathered

-- sections, and then others, if these are sections at all
abbrev pub in_front : List Section → Option (List Section) → Option (List Section)
in_front sections None = None
in_front sections (Some others) = Some (sections ++ others)

-- the sections to come at the end of the text: no more, if all blocks are ended
abbrev pub sections_at_text_end : List Open → Option (List Section)
sections_at_text_end [] = Some []
sections_at_text_end (o ∷ os) = None

-- the sections to come at the end of a block: if it is a part, its section, and behind it those
-- that come with nothing gathered (fresh); otherwise those that come with what is gathered (kept)
abbrev pub sections_at_block_end :
    Option Part → List Token → Option (List Section) → Option (List Section) → Option (List Section)
sections_at_block_end None gathered fresh kept = kept
sections_at_block_end (Some p) gathered fresh kept =
    in_front (record { part = p; words = gathered } ∷ []) fresh

-- the sections to come: in a block of this role, in these open blocks, the innermost first, with
-- these words gathered, and these words ahead; None if the words don't end the blocks
unfoldable pub sections_from : Role → List Open → List Token → List Token → Option (List Section)
sections_from role os gathered [] = sections_at_text_end os
sections_from role os gathered (plain bytes ∷ words) =
    sections_from (after_plain role bytes) os (gathered_with role (plain bytes) gathered) words
sections_from role os gathered (quoted bytes ∷ words) =
    sections_from (after_text role) os (gathered_with role (quoted bytes) gathered) words
sections_from role os gathered (include ∷ words) =
    if may_include role then sections_from role os gathered words else None
sections_from role os gathered (begin ∷ plain name ∷ words) =
    if nat_lt (length os) 64
    then sections_from (inside role name) (record { name = name; outer = role } ∷ os)
    (gathered_at_begin (inside role name) name gathered) words
    else None
sections_from role (o ∷ os) gathered (end ∷ plain name ∷ words) =
    if bytes_eq name o.name
    then sections_at_block_end (part_of role) gathered
    (sections_from o.outer os [] words) (sections_from o.outer os gathered words)
    else None
sections_from role os gathered (w ∷ words) = None
