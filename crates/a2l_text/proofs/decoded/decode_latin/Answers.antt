use Rattle.std.proofs.Common.{◌++◌, sym, ap, ◌∙◌, arith, encode_utf8}
use Rattle.a2l_text.proofs.DecodedLemmas.{encode_more}
use Rattle.a2l_text.proofs.decoded.decode_latin.Goals as goal

-- one character more
pub loop-byte-preserved : goal.loop-byte-preserved
loop-byte-preserved c =
    c.in_ok-push.ensures.bytes ∙ (ap (λ t. t ++ encode_utf8 c.from.result) c.loop-byte.invariant
    ∙ sym (encode_more c.args.bytes.now c.loop-byte.byte-index c.from.result (omega arith) c.from.ensures))
