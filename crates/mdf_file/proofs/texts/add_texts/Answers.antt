use Rattle.std.proofs.Common.{◌<◌, ◌^◌, All, ℕ, arith, string_bytes, sym, subst}
use Rattle.std.proofs.lemmas.List.Elements.{All-push}
use Rattle.std.specs.Option.{option_map}
use Rattle.mdf_file.proofs.TextLemmas.{adds_text_more, mapped_more}
use Rattle.mdf_file.proofs.texts.add_texts.Goals as goal

-- one text more is told
pub loop-text-preserved : goal.loop-text-preserved
loop-text-preserved c =
    let Small : ℕ → Type 0 = λ n. n < 2 ^ 64 in (
      adds_text_more c.args.base c.args.out.now.items c.loop-text.out.items
          c.add_optional.new.out.items c.loop-text.links.items _ _ _ c.in_ok-link.link _
          c.in_ok-push.ensures.items
          (mapped_more (option_map string_bytes) c.args.texts.now c.loop-text.text-index
          c.text-item.result (omega arith) c.text-item.is)
          c.loop-text.invariant.0 c.in_ok-link.ensures,
      subst (All Small) (sym c.in_ok-push.ensures.items)
          (All-push Small c.loop-text.links.items c.in_ok-link.link c.loop-text.invariant.1
          (omega arith)),
    )
