use Rattle.std.proofs.Common.{string_bytes}
use Rattle.std.specs.Option.{option_map}
use Rattle.mdf_file.specs.Describing.{told_conversion}
use Rattle.mdf_file.proofs.AddLemmas.{if_ok}
use Rattle.mdf_file.proofs.ChannelLemmas.{channel_behind}
use Rattle.mdf_file.proofs.channels.add_channel.Goals as goal

-- the block stands behind the texts and the conversion
pub returns : goal.returns
returns c =
    let it = c.args.channel.now in
    if_ok c.add_block.result
    (λ link block. channel_behind c.args.base link c.args.out.now.items
    c.add_text.new.out.items c.add_optional.new.out.items c.add_optional-2.new.out.items
    c.add_conversion.new.out.items c.add_block.new.out.items _ (string_bytes it.name) _
    (option_map string_bytes it.unit) (option_map string_bytes it.comment)
    (option_map told_conversion it.conversion) c.deref.ensures c.in_ok-name.ensures
    c.in_ok-unit.ensures c.in_ok-comment.ensures c.in_ok-conversion.ensures block)
    c.add_block.ensures
