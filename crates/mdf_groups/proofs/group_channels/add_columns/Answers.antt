use Rattle.std.proofs.Common.{◌∙◌, ap, arith, map, refl, string_bytes, sym}
use Rattle.std.proofs.lemmas.List.{get_or-map, length-map, map_push}
use Rattle.mdf_file.specs.Describing.{told_channel}
use Rattle.mdf_groups.proofs.ChannelLemmas.{channels_more}
use Rattle.mdf_groups.proofs.group_channels.add_columns.Goals as goal

-- one channel more
pub loop-i-preserved : goal.loop-i-preserved
loop-i-preserved c =
    let names = c.args.names.now in
    let i = c.loop-i.i in
    channels_more c.args.columns.now c.args.places.now (map string_bytes names) i _ _ _
    _ _ _ _ c.deref.result.now (told_channel c.in_ok-channel.channel)
    c.requires.places (length-map names string_bytes ∙ c.requires.names) (omega arith)
    refl refl
    (c.deref.ensures ∙ ap string_bytes c.index-names-i.is
    ∙ sym (get_or-map string_bytes names i c.index-names-i.result c.deref.result.now
    (omega (arith, c.requires.names))))
    c.loop-i.invariant c.in_ok-channel.ensures
    (ap (map told_channel) c.in_ok-push.ensures.items
    ∙ map_push told_channel c.loop-i.channels.items c.in_ok-channel.channel)
