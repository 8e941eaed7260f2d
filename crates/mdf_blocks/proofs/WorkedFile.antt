-- A worked file, on literals: a wrong rule in specs/ does not check here. It has one group, whose
-- records are one byte each, with one channel, `t`.
use Rattle.std.proofs.Common.{◌≢◌, ℕ, List, [], ◌∷◌, ◌++◌, Some, None, inl, inr, refl, codes}
use Rattle.std.proofs.Common.{arith}
use Rattle.std.proofs.Common.{lit<, lit≤}
use Rattle.std.proofs.lemmas.List.Elements.{All-cons, All-nil}
use Rattle.measured_values.specs.declared.byte_order.ByteOrder.TheVariants.{MsbLast}
use Rattle.mdf_blocks.specs.Blocks.{IsBlockAt}
use Rattle.mdf_blocks.specs.Records.{dt_block}
use Rattle.mdf_blocks.specs.Tables.{cg_block, cg_body, cg_links, cn_block, cn_body, cn_links}
use Rattle.mdf_blocks.specs.Tables.{dg_block, dg_body, dg_links, hd_block, id_block}
use Rattle.mdf_blocks.specs.Texts.{text_body, tx_block}
use Rattle.mdf_blocks.specs.Told.{TellsFile, TellsText, ToldChannel, ToldGroup}
use Rattle.mdf_blocks.specs.declared.channel.Channel.{Channel}
use Rattle.mdf_blocks.specs.declared.channel_group.ChannelGroup.{ChannelGroup}
use Rattle.mdf_blocks.specs.declared.channel_kind.ChannelKind.TheVariants.{Value}
use Rattle.mdf_blocks.specs.declared.data_group.DataGroup.{DataGroup}
use Rattle.mdf_blocks.specs.declared.file_header.FileHeader.{FileHeader}
use Rattle.mdf_blocks.specs.declared.file_state.FileState.TheVariants.{Finished}
use Rattle.mdf_blocks.specs.declared.value_format.ValueFormat.TheVariants.{Unsigned}
use Rattle.mdf_blocks.specs.declared.zone.Zone.TheVariants.{Utc}
use Rattle.mdf_blocks.proofs.ToldLemmas.{written_is_told}

abbrev header : FileHeader
header = record {
  first_group = 168;
  first_history = 0;
  comment = 0;
  start = record { nanoseconds = 5; zone = Utc };
}

abbrev group : DataGroup
group = record { next = 0; channel_group = 232; records = 528; comment = 0 }

abbrev inner : ChannelGroup
inner = record {
  first_channel = 336;
  acquisition_name = 0;
  comment = 0;
  cycles = 2;
  record_bytes = 1;
}

abbrev channel : Channel
channel = record {
  next = 0;
  name = 496;
  conversion = 0;
  unit = 0;
  comment = 0;
  kind = Value;
  format = Unsigned MsbLast;
  bit_offset = 0;
  byte_offset = 0;
  bit_count = 8;
  limits = None;
}

-- what stands behind the header, at 168, 232, 336, 496 and 528
abbrev behind : List ℕ
behind =
    dg_block group ++ cg_block inner ++ cn_block channel ++ tx_block (codes "t")
    ++ dt_block (7 ∷ 9 ∷ [])

abbrev file : List ℕ
file = id_block Finished (codes "nerthogl") ++ hd_block header ++ behind

abbrev told_channel : ToldChannel
told_channel = record {
  name = Some (codes "t");
  unit = None;
  comment = None;
  conversion = None;
  kind = Value;
  format = Unsigned MsbLast;
  bit_offset = 0;
  byte_offset = 0;
  bit_count = 8;
  limits = None;
}

abbrev told_group : ToldGroup
told_group = record {
  name = None;
  channels = told_channel ∷ [];
  record_bytes = 1;
  records = 7 ∷ 9 ∷ [];
}

group_stands : IsBlockAt file 168 (codes "##DG") (dg_links group) dg_body
group_stands = record {
  aligned = refl;
  within = lit≤ tt;
  letters = refl;
  len = refl;
  link_count = refl;
  links_are = (refl, (refl, (refl, (refl, tt))));
  body_is = refl;
}

inner_stands : IsBlockAt file 232 (codes "##CG") (cg_links inner) (cg_body inner)
inner_stands = record {
  aligned = refl;
  within = lit≤ tt;
  letters = refl;
  len = refl;
  link_count = refl;
  links_are = (refl, (refl, (refl, (refl, (refl, (refl, tt))))));
  body_is = refl;
}

channel_stands : IsBlockAt file 336 (codes "##CN") (cn_links channel) (cn_body channel)
channel_stands = record {
  aligned = refl;
  within = lit≤ tt;
  letters = refl;
  len = refl;
  link_count = refl;
  links_are = (refl, (refl, (refl, (refl, (refl, (refl, (refl, (refl, tt))))))));
  body_is = refl;
}

text_stands : IsBlockAt file 496 (codes "##TX") [] (text_body (codes "t"))
text_stands = record {
  aligned = refl;
  within = lit≤ tt;
  letters = refl;
  len = refl;
  link_count = refl;
  links_are = tt;
  body_is = refl;
}

records_stand : IsBlockAt file 528 (codes "##DT") [] (7 ∷ 9 ∷ [])
records_stand = record {
  aligned = refl;
  within = lit≤ tt;
  letters = refl;
  len = refl;
  link_count = refl;
  links_are = tt;
  body_is = refl;
}

name_told : TellsText file (codes "##TX") 496 (Some (codes "t"))
name_told = (
  λ e. omega (arith, e),
  (
    text_body (codes "t"),
    text_stands,
    record {
      behind = [];
      ended = refl;
      whole = All-cons (λ b. b ≢ 0) 116 [] (λ e. omega (arith, e)) (All-nil (λ b. b ≢ 0));
    },
  ),
)

-- the file tells the group, its channel, and its records
file_told : TellsFile file
    (record {
      state = Finished;
      start = header.start;
      histories = [];
      groups = told_group ∷ [];
    })
file_told =
    written_is_told.file Finished (codes "nerthogl") behind header [] (told_group ∷ []) refl
    (record {
      first_group = lit< tt;
      first_history = lit< tt;
      comment = lit< tt;
      start = record {
        nanoseconds = lit< tt;
        zone = record { sfits = lit< tt };
        daylight = record { sfits = lit< tt };
      };
    })
    refl (
      λ e. omega (arith, e),
      (
        0,
        written_is_told.group file 168 group inner None (told_channel ∷ []) (7 ∷ 9 ∷ [])
            (record { cycles = lit< tt; record_bytes = lit< tt }) group_stands inner_stands
            (record {
              name_is = refl;
              channels_are = (
                λ e. omega (arith, e),
                (
                  0,
                  written_is_told.channel file 336 channel (Some (codes "t")) None None None
                      (record { byte_offset = lit< tt; bit_count = lit< tt; limits = tt })
                      channel_stands
                      (record {
                        name_is = name_told;
                        unit_is = refl;
                        comment_is = refl;
                        conversion_is = refl;
                      }),
                  refl,
                ),
              );
              records_are = inr (inl (λ e. omega (arith, e), records_stand));
              cycles = refl;
            }),
        refl,
      ),
    )
