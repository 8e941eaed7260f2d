-- Blocks that wait, from a block of many on.
use Rattle.std.proofs.Common.{◌≡◌, ℕ, ◌+◌, ◌-◌, ◌≤◌, List, ◌++◌, length, take, drop, refl, sym, ap, ◌∙◌, arith}
use Rattle.std.proofs.Math.Seq.{take-add}
use Rattle.std.proofs.lemmas.List.{drop-drop, drop-take, drop_at, length-take}
use Rattle.frame_page.proofs.UnitLemmas.{drop_front}

module _ {X : Type 0} where
  -- those behind the first n
  pub waits_behind : (start len n : ℕ) (xs : List X) → n ≤ len → take (len - n) (drop (start + n) xs) ≡ drop n (take len (drop start xs))
  waits_behind start len n xs h =
      let all : len ≡ n + (len - n) = omega (arith, h) in
      sym (ap (λ k. drop n (take k (drop start xs))) all ∙ drop-take n (len - n) (drop start xs) ∙ ap (take (len - n)) (drop-drop n start xs))

  -- n more behind those that wait
  pub waits_more : (start len n : ℕ) (now xs ys : List X) → start + len ≤ length xs → take (start + len + n) now ≡ take (start + len) xs ++ ys
      → take (len + n) (drop start now) ≡ take len (drop start xs) ++ ys
  waits_more start len n now xs ys h e =
      let all : start + len + n ≡ start + (len + n) = omega arith in
      sym (drop-take start (len + n) now) ∙ ap (λ k. drop start (take k now)) (sym all) ∙ ap (drop start) e
      ∙ drop_front start (take (start + len) xs) ys (omega (arith, h, length-take (start + len) xs))
      ∙ ap (λ zs. zs ++ ys) (drop-take start len xs)

  -- what was written behind them
  pub waits_gained : (start len n : ℕ) (now xs : List X) → start + len ≤ length xs → take (start + len) now ≡ take (start + len) xs
      → take (len + n) (drop start now) ≡ take len (drop start xs) ++ take n (drop (start + len) now)
  waits_gained start len n now xs h e =
      waits_more start len n now xs (take n (drop (start + len) now)) h (take-add (start + len) n now ∙ ap (λ zs. zs ++ take n (drop (start + len) now)) e)

  pub gained : (xs ys zs : List X) → zs ≡ xs ++ ys → drop (length xs) zs ≡ ys
  gained xs ys zs e = ap (drop (length xs)) e ∙ drop_at xs ys (length xs) refl
