-- What the newest of some facts says.
use Rattle.std.proofs.Common.{◌≡◌, ℕ, ◌+◌, ◌<◌, ◌++◌, ◌∷◌, [], List, length, take, refl, ap, ◌∙◌}
use Rattle.std.proofs.Common.{arith, suc, Option, Some, None, slice_index_or}
use Rattle.std.proofs.Math.Seq.{take-suc}
use Rattle.std.specs.Option.{option_or}
use Rattle.captured_session.specs.Lists.{newest}
use Rattle.captured_session.specs.declared.fact.Fact.{Fact}

or-none : {A : Type 0} (a : Option A) → option_or None a ≡ option_or a None
or-none (Some a) = refl
or-none None = refl

or-or : {A : Type 0} (a b c : Option A) → option_or (option_or a b) c ≡ option_or a (option_or b c)
or-or (Some a) b c = refl
or-or None b c = refl

-- one more
newest-behind : {A : Type 0} (says : Fact → Option A) (facts : List Fact) (x : Fact)
    → newest says (facts ++ x ∷ []) ≡ option_or (says x) (newest says facts)
newest-behind says [] x = or-none (says x)
newest-behind says (fact ∷ facts) x =
    ap (λ said. option_or said (says fact)) (newest-behind says facts x)
    ∙ or-or (says x) (newest says facts) (says fact)

-- of some and of those behind them
pub newest-append : {A : Type 0} (says : Fact → Option A) (facts later : List Fact)
    → newest says (facts ++ later) ≡ option_or (newest says later) (newest says facts)
newest-append says [] later = or-none (newest says later)
newest-append says (fact ∷ facts) later =
    ap (λ said. option_or said (says fact)) (newest-append says facts later)
    ∙ or-or (newest says later) (newest says facts) (says fact)

pub newest-grows : {A : Type 0} (says : Fact → Option A) (facts : List Fact) (i : ℕ) (d : Fact)
    → i < length facts → newest says (take (i + 1) facts)
    ≡ option_or (says (slice_index_or facts i d)) (newest says (take i facts))
newest-grows says facts i d here =
    let next : i + 1 ≡ suc i = omega arith in
    ap (λ n. newest says (take n facts)) next ∙ ap (newest says) (take-suc facts i d here)
    ∙ newest-behind says (take i facts) (slice_index_or facts i d)
