-- What became of each element of a list, or of the one at a place.
use Rattle.std.specs.Prelude.{◌≡◌, ◌≢◌, ℕ, List, length, slice_get, Some}

module _ {A : Type 0} where
  -- each element of the list, with its place, became one so
  pub record IsEach (R : ℕ → A → A → Type 0) (old now : List A) : Type 0 where
    pub as_many : length now ≡ length old
    pub each :
        (k : ℕ) (a b : A) → slice_get old k ≡ Some a → slice_get now k ≡ Some b → R k a b

  -- the element at place n became one so, and the others are as they were
  pub record IsOnlyAt (R : A → A → Type 0) (n : ℕ) (old now : List A) : Type 0 where
    pub as_many : length now ≡ length old
    pub here : (a b : A) → slice_get old n ≡ Some a → slice_get now n ≡ Some b → R a b
    pub others : (k : ℕ) → k ≢ n → slice_get now k ≡ slice_get old k
