use Rattle.std.proofs.Common.{ap, map, string_bytes}
use Rattle.std.specs.Option.{option_map}
use Rattle.mdf_file.proofs.AddLemmas.{if_ok}
use Rattle.mdf_file.proofs.ConversionLemmas.{conversion_behind}
use Rattle.mdf_file.proofs.conversions.add_some.Goals as goal

-- the block stands behind the texts
pub returns : goal.returns
returns c =
    if_ok c.add_block.result
    (λ link block. conversion_behind c.args.base link c.args.out.now.items
    c.add_texts.new.out.items c.add_block.new.out.items c.args.conversion.now.kind
    c.in_ok-links.links.items _ c.args.conversion.now.values.items _ _ _
    c.deref-2.ensures.value c.deref-3.ensures.value
    (ap (map (option_map string_bytes)) c.deref.ensures.value) c.in_ok-links.ensures.0 block)
    c.add_block.ensures
