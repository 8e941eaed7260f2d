use Rattle.std.proofs.Common.{[], ◌∷◌, refl}
use Rattle.mdf_blocks.specs.Numbers.{uint64s}
use Rattle.mdf_blocks.proofs.BlockLemmas.{four_written, front_kept, on_err, on_ok}
use Rattle.mdf_blocks.proofs.WrittenLemmas.{cc_written}
use Rattle.mdf_blocks.proofs.conversion_blocks.push_parts.Goals as goal

-- the parts stand one behind another
pub returns-clause-ok : goal.returns-clause-ok
returns-clause-ok c =
    on_ok c.push_reals.result
    (cc_written c.args.kind c.args.unit c.args.references.now c.args.values.now
    c.args.out.now.items c.block_head.result c.conversion_front.result
    c.extend_from_slice.new.self.items c.push_numbers.new.out.items
    c.push_numbers-2.new.out.items c.extend_from_slice-2.new.self.items
    c.push_reals.new.out.items _ _ c.block_head.ensures refl refl
    c.conversion_front.ensures c.in_ok-extend_from_slice.ensures.items
    c.in_ok-push_numbers.ensures.ok c.in_ok-push_numbers-2.ensures.ok
    c.in_ok-extend_from_slice-2.ensures.items)
    c.push_reals.ensures.ok

-- what was there stands in front of the parts that were written before
pub returns-clause-err : goal.returns-clause-err
returns-clause-err c =
    let old = c.args.out.now.items in
    let head = c.block_head.result in
    let four = uint64s (0 ∷ c.args.unit ∷ 0 ∷ 0 ∷ []) in
    let d_is = four_written old head four (uint64s c.args.references.now)
    c.conversion_front.result c.extend_from_slice.new.self.items
    c.push_numbers.new.out.items c.push_numbers-2.new.out.items
    c.extend_from_slice-2.new.self.items c.in_ok-extend_from_slice.ensures.items
    c.in_ok-push_numbers.ensures.ok c.in_ok-push_numbers-2.ensures.ok
    c.in_ok-extend_from_slice-2.ensures.items in
    on_err c.push_reals.result
    (front_kept old _ c.extend_from_slice-2.new.self.items c.push_reals.new.out.items d_is)
    c.push_reals.ensures.err
