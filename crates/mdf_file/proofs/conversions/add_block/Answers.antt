use Rattle.std.proofs.Common.{◌<◌, ◌^◌, ℕ, arith}
use Rattle.std.specs.Float.{nan}
use Rattle.std.proofs.lemmas.List.Elements.{All-from_get_or}
use Rattle.mdf_file.proofs.AddLemmas.{true_from_T}
use Rattle.mdf_blocks.specs.Ranges.{IsReal}
use Rattle.mdf_file.proofs.ConversionLemmas.{adds_conversion}
use Rattle.mdf_file.proofs.conversions.add_block.Goals as goal

-- the block was appended behind the texts
pub returns : goal.returns
returns c texts told =
    let Small : ℕ → Type 0 = λ n. n < 2 ^ 64 in
    adds_conversion c.args.base c.in_ok-place.place c.args.out.now.items
    c.push_conversion.new.out.items _ c.args.links.now c.args.values.now texts c.requires.some
    c.in_ok-place.ensures c.requires.aligned
    (All-from_get_or Small c.args.links.now 0 (λ k within. (c.type_inv.links k).fits))
    (omega arith) (omega arith)
    (All-from_get_or IsReal c.args.values.now nan (λ k within. true_from_T _ (c.type_inv.values k)))
    c.in_ok-push_conversion.ensures.ok told
