use Rattle.std.proofs.Common.{◌≡◌, ℕ, zero, suc, List, [], ◌∷◌, map, replicate, refl, get_or, slice_index, sym, arith}
use Rattle.std.specs.List.{AllByRecursion}
use Rattle.std.proofs.lemmas.List.Elements.{recursion_from_All}
use Rattle.xcp_base.specs.declared.item.Item.{Item}
use Rattle.xcp_base.specs.declared.limits.TheConstants.{MAX_LISTS}
use Rattle.frame_writer.specs.Writing.{state_of}
use Rattle.frame_writer.proofs.TextLemmas.{after_text-nil}
use Rattle.transmitter.proofs.transmitter.Transmitter.new.Goals as goal

zeros : (n l : ℕ) → slice_index (replicate n 0) l ≡ 0
zeros zero l = refl
zeros (suc n) zero = refl
zeros (suc n) (suc l) = zeros n l

nothing : {T : Type 0} → (f : T → List Item) (ts : List T) → AllByRecursion (λ t. f t ≡ []) ts → (c : ℕ) → [] ≡ get_or (map f ts) c []
nothing f [] h c = refl
nothing f (t ∷ ts) h zero = sym h.0
nothing f (t ∷ ts) h (suc c) = nothing f ts h.1 c

-- nothing was taken and nothing written
pub returns-clause-stands : goal.returns-clause-stands
returns-clause-stands g c = record {
  was_open = c.requires.is_open;
  merge = record { each = nothing g.T.TakeEnd.received c.args.ends.items (recursion_from_All (λ t. g.T.TakeEnd.received t ≡ []) c.args.ends.items c.requires.nothing_taken) };
  taken = refl;
  last = tt;
  whole = [];
  samples = refl;
  legal = λ i d h. absurd (omega (arith, h));
  writes = after_text-nil (state_of g.O.Out c.args.writer);
  written = zeros MAX_LISTS;
}
