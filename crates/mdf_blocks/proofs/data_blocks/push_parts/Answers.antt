use Rattle.std.proofs.Common.{◌++◌, ◌∙◌, ap, refl}
use Rattle.mdf_blocks.specs.Numbers.{uint64s}
use Rattle.mdf_blocks.specs.Records.{places_of}
use Rattle.mdf_blocks.proofs.BlockLemmas.{four_written, front_kept, on_err, on_ok}
use Rattle.mdf_blocks.proofs.WrittenLemmas.{dl_written}
use Rattle.mdf_blocks.proofs.data_blocks.push_parts.Goals as goal

-- the parts stand one behind another
pub returns-clause-ok : goal.returns-clause-ok
returns-clause-ok c =
    on_ok c.push_offsets.result
    (dl_written c.args.next c.args.blocks.now c.args.out.now.items c.block_head.result
    c.list_front.result c.extend_from_slice.new.self.items
    c.extend_from_slice-2.new.self.items c.push_places.new.out.items
    c.extend_from_slice-3.new.self.items c.push_offsets.new.out.items _ _ _
    c.block_head.ensures refl refl refl c.list_front.ensures
    c.in_ok-extend_from_slice.ensures.items
    (c.in_ok-extend_from_slice-2.ensures.items
    ∙ ap (λ zs. c.extend_from_slice.new.self.items ++ zs) c.to_le_bytes.ensures)
    c.in_ok-push_places.ensures.ok c.in_ok-extend_from_slice-3.ensures.items)
    c.push_offsets.ensures.ok

-- what was there stands in front of the parts that were written before
pub returns-clause-err : goal.returns-clause-err
returns-clause-err c =
    let old = c.args.out.now.items in
    let d_is = four_written old c.block_head.result c.to_le_bytes.result
    (uint64s (places_of c.args.blocks.now)) c.list_front.result
    c.extend_from_slice.new.self.items c.extend_from_slice-2.new.self.items
    c.push_places.new.out.items c.extend_from_slice-3.new.self.items
    c.in_ok-extend_from_slice.ensures.items c.in_ok-extend_from_slice-2.ensures.items
    c.in_ok-push_places.ensures.ok c.in_ok-extend_from_slice-3.ensures.items in
    on_err c.push_offsets.result
    (front_kept old _ c.extend_from_slice-3.new.self.items c.push_offsets.new.out.items d_is)
    c.push_offsets.ensures.err
