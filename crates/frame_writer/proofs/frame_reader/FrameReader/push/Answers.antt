use Rattle.std.proofs.Common.{◌≡◌, ◌<◌, ◌-◌, ◌∙◌, ℕ, List, [], ◌∷◌, ◌++◌, sym, ap, subst, drop, take, length, false, refl, arith}
use Rattle.std.proofs.lemmas.Grind.{common_steps}
use Rattle.std.proofs.lemmas.List.Elements.{All-push}
use Rattle.frame_writer.specs.declared.reach.Reach.TheVariants.{Whole}
use Rattle.frame_writer.specs.Reach.{reach}
use Rattle.frame_writer.specs.Reading.{Leads, ReaderState}
use Rattle.frame_writer.proofs.ReadingLemmas.{IsFrameOf, leads_to_packet, whole_ends}
use Rattle.frame_writer.proofs.frame_reader.FrameReader.push.Goals as goal

rest_is : (d : ℕ) (xs : List ℕ) → take (length xs - d) (drop d xs) ≡ drop d xs
rest_is d xs = grind (arith, common_steps)

-- the byte ends the frame that the bytes held begin
pub returns-in-Whole-clause-ok : goal.returns-in-Whole-clause-ok
returns-in-Whole-clause-ok c =
    let held : List ℕ = c.self.inside.held.items in
    let byte : ℕ = c.args.byte in
    let all : List ℕ = held ++ byte ∷ [] in
    let old : ReaderState = record { held = held; closed = c.self.inside.closed; max_cto = c.self.inside.max_cto } in
    let new : ReaderState = record { held = c.clear.new.self.items; closed = c.self.inside.closed; max_cto = c.self.inside.max_cto } in
    let packet : List ℕ = c.packet_of-packet.result.items in
    let is_open : c.self.inside.closed ≡ false = ap (λ (s : ReaderState). s.closed) c.self.view_is ∙ c.requires in
    let whole : reach c.self.inside.max_cto all ≡ Whole =
    ap (reach c.self.inside.max_cto) (sym c.push.ensures.items ∙ sym c.as_slice.ensures.value) ∙ sym c.how_far.ensures ∙ c.in-Whole.is in
    let ends = whole_ends c.self.inside.max_cto held byte (All-push (λ b. b < 256) held byte c.self.invariant.fit (omega (arith, c.ranges.byte.fits))) (c.self.invariant.part is_open) whole in
    let slice : c.as_slice-in-Whole.result.now ≡ all = c.as_slice-in-Whole.ensures.value ∙ c.push.ensures.items in
    let is : packet ≡ drop 4 all = c.packet_of-packet.ensures ∙ rest_is 4 c.as_slice-in-Whole.result.now ∙ ap (drop 4) slice in
    let P : ReaderState → Type 0 = λ s. Leads s new (byte ∷ []) (packet ∷ []) in
    subst P c.self.view_is (leads_to_packet old new byte packet refl (subst (IsFrameOf c.self.inside.max_cto all) (sym is) ends) c.clear.ensures is_open)
