use Rattle.std.proofs.Common.{◌≡◌, ◌∷◌, [], ℕ, List, None, get_or, length, ap, subst, sym, ◌∙◌, arith, length-append}
use Rattle.std.specs.List.{slice_get}
use Rattle.std.specs.Option.{option_or}
use Rattle.datagrams.specs.Inner.{piece_shown}
use Rattle.datagrams.specs.Parts.{byte_in}
use Rattle.datagrams.proofs.WaitLemmas.{joined-more, none-joined}
use Rattle.datagrams.proofs.slots.joined.Goals as goal

-- a byte more came
pub loop-i-preserved : goal.loop-i-preserved
loop-i-preserved c =
    let more = c.in_ok-push.ensures.items in
    let inv = c.loop-i.invariant in
    let bytes = c.loop-i.bytes.items in
    let b = c.in-Some.byte in
    let came = λ (k : ℕ). option_or (get_or c.args.slots.now k None) (byte_in (piece_shown c.args.piece) k) in
    record {
      many = omega (arith, ap length more, length-append bytes (b ∷ []), inv.many);
      each = λ k below. subst (λ (bs : List ℕ). came k ≡ slice_get bs k) (sym more)
          (joined-more came bytes b c.loop-i.i inv.many inv.each (sym c.slot_with.ensures ∙ c.in-Some.is) k below);
    }

-- nothing came here
pub returns-in_default-clause-missing : goal.returns-in_default-clause-missing
returns-in_default-clause-missing c = λ _ bytes j.
    none-joined c.args.slots.now (piece_shown c.args.piece) c.args.end c.loop-i.i bytes j c.loop-i-test.true (sym c.slot_with.ensures ∙ c.in_default.is)

-- all came
pub returns-clause-whole : goal.returns-clause-whole
returns-clause-whole c = record {
  many = omega arith;
  each = λ k below. c.loop-i.invariant.each k (omega (arith, below, c.loop-i.invariant.many));
}
