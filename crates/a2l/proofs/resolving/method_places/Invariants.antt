use Rattle.std.proofs.Common.{map, take}
use Rattle.std.specs.Prelude.{string_bytes}
use Rattle.a2l.specs.Names.{ArePlaces}
use Rattle.a2l.proofs.resolving.method_places.Given as goal

abbrev pub invariant-loop-place : goal.invariant-loop-place
invariant-loop-place l = ArePlaces (map (λ m. string_bytes m.name) (take l.place l.methods)) l.places
