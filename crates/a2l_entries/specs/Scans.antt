-- Words that are read one after another.
use Rattle.std.specs.Prelude.{ℕ, zero, suc, List, [], ◌∷◌, Option, Some, None}
use Rattle.a2l_text.specs.Tokens.{Token}
use Rattle.a2l_entries.specs.Gives.{◌>>=◌}

-- What options say together, by what one says with the words behind it, and how many of them belong
-- to it. The first so
-- many words belong to the option before them, and are passed over.
unfoldable pub scanned :
    {O : Type 0} → O → (O → O → O) → (Token → ℕ) → (Token → List Token → Option O) → ℕ → List Token
    → Option O
scanned none or count one zero [] = Some none
scanned none or count one (suc n) [] = None
scanned none or count one (suc n) (w ∷ ws) = scanned none or count one n ws
scanned none or count one zero (w ∷ ws) = do
  first ← one w ws
  others ← scanned none or count one (count w) ws
  Some (or first others)

-- so many rows, each of them read by this, and the words behind them
unfoldable pub many :
    {R : Type 0} → (List Token → Option (R × List Token)) → ℕ → List Token
    → Option (List R × List Token)
many row zero ws = Some ([], ws)
many row (suc n) ws = do
  first ← row ws
  others ← many row n first.1
  Some (first.0 ∷ others.0, others.1)
