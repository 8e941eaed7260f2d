use Rattle.std.proofs.Common.{◌+◌, ◌++◌, ◌∙◌, ap, refl}
use Rattle.mdf_blocks.specs.Numbers.{zeros}
use Rattle.mdf_blocks.proofs.BlockLemmas.{on_ok, text_written}
use Rattle.mdf_blocks.proofs.texts.push_parts.Goals as goal

-- the head, the text, the zero that ends it, and the fill
pub returns-clause-ok : goal.returns-clause-ok
returns-clause-ok c =
    let one = c.extend_from_slice.new.self.items in
    let two = c.extend_from_slice-2.new.self.items in
    on_ok c.push_zeros.result
    (λ three_is. text_written c.args.out.now.items c.args.id.now c.args.text.now
    c.block_head.result one two c.push_zeros.new.out.items _ c.told-id refl
    c.block_head.ensures c.in_ok-extend_from_slice.ensures.items
    (c.in_ok-extend_from_slice-2.ensures.items
    ∙ ap (λ zs. one ++ zs) c.as_bytes.ensures.value)
    (three_is ∙ ap (λ k. two ++ zeros (1 + k)) c.fill_len.ensures.value))
    c.push_zeros.ensures.ok
