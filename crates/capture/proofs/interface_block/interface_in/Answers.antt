use Rattle.std.proofs.Common.{subst, ap, ◌∙◌, arith}
use Rattle.std.specs.Int.{w64}
use Rattle.std.proofs.lemmas.Int.{to_z-of_z}
use Rattle.capture.specs.Blocks.{HasBytes, offset_told}
use Rattle.capture.specs.Options.{value_of}
use Rattle.capture.proofs.OptionLemmas.{same-options}
use Rattle.capture.proofs.interface_block.interface_in.Goals as goal

-- both values are of the same options
pub returns-clause-ok : goal.returns-clause-ok
returns-clause-ok c =
    let one = c.in_ok-resolution.ensures.ok in
    let other = c.in_ok-offset.ensures.ok in
    let same = same-options c.args.order _ other.0 one.0 other.1 one.1 in
    record {
      long = omega (arith, c.if-block-lt20.false);
      link = c.number_at.ensures.value;
      snap_len = c.number_at-2.ensures.value;
      options = one.0;
      are = one.1;
      one_byte = one.2;
      resolution = one.3;
      eight_bytes = subst (λ os. HasBytes 8 (value_of 14 os)) same other.2;
      offset = to_z-of_z w64 c.in_ok-offset.offset c.in_ok-offset.ensures.range ∙ (other.3 ∙ ap (λ os. offset_told c.args.order (value_of 14 os)) same);
    }
