-- Options are put together in any grouping.
use Rattle.std.proofs.Common.{◌≡◌, Bool, true, false, Option, Some, None, refl}
use Rattle.std.specs.Prelude.{◌||◌}
use Rattle.std.specs.Option.{option_or}
use Rattle.a2l_entries.specs.MeasurementSaid.{no_options, options_or}
use Rattle.a2l_entries.specs.MethodSaid.{no_method_options, method_options_or}
use Rattle.a2l_entries.proofs.ScanLemmas.{IsMonoid}

or_none : {A : Type 0} (o : Option A) → option_or o None ≡ o
or_none None = refl
or_none (Some x) = refl

or_assoc : {A : Type 0} (a b c : Option A) → option_or (option_or a b) c ≡ option_or a (option_or b c)
or_assoc None b c = refl
or_assoc (Some x) b c = refl

or_false : (b : Bool) → (b || false) ≡ b
or_false true = refl
or_false false = refl

or_grouped : (a b c : Bool) → ((a || b) || c) ≡ (a || (b || c))
or_grouped true b c = refl
or_grouped false b c = refl

pub options_monoid : IsMonoid no_options options_or
options_monoid = record {
  left = λ x. refl;
  right = λ x. rw (or_none x.order, or_none x.mask, or_false x.operates, or_none x.left, or_none x.right, or_false x.extends_sign, or_none x.address, or_none x.unit, or_none x.dimensions, or_none x.size, or_none x.layout, or_false x.apart) refl;
  assoc = λ x y z. rw (or_assoc x.order y.order z.order, or_assoc x.mask y.mask z.mask, or_grouped x.operates y.operates z.operates, or_assoc x.left y.left z.left, or_assoc x.right y.right z.right, or_grouped x.extends_sign y.extends_sign z.extends_sign, or_assoc x.address y.address z.address, or_assoc x.unit y.unit z.unit, or_assoc x.dimensions y.dimensions z.dimensions, or_assoc x.size y.size z.size, or_assoc x.layout y.layout z.layout, or_grouped x.apart y.apart z.apart) refl;
}

pub method_options_monoid : IsMonoid no_method_options method_options_or
method_options_monoid = record {
  left = λ x. refl;
  right = λ x. rw (or_none x.coefficients, or_none x.line, or_none x.table) refl;
  assoc = λ x y z. rw (or_assoc x.coefficients y.coefficients z.coefficients, or_assoc x.line y.line z.line, or_assoc x.table y.table z.table) refl;
}
