-- The places of names, as a loop notes them, and what they lead to.
use Rattle.std.proofs.Common.{◌≡◌, ℕ, zero, suc, ◌+◌, ◌<◌, Bool, true, false, cond, List, [], ◌∷◌, ◌++◌, length, map, take, get_or, Option, Some, None, refl, sym, ap, ◌∙◌, arith}
use Rattle.std.specs.Prelude.{slice_get, is_some}
use Rattle.std.specs.Slice.{IsItemAt}
use denote.Ref.{Bor}
use Rattle.std.specs.Option.{option_or, option_map}
use Rattle.std.specs.Str.{bytes_eq}
use Rattle.std.proofs.lemmas.List.{map-append, take_more, length-map, length-take}
use Rattle.std.proofs.lemmas.Slice.Eq.{bytes_eq-Decides}
use Rattle.std.proofs.lemmas.Bool.{ltb-true, ltb-false}
use Rattle.std.proofs.lemmas.Option.{slice_get-get_or, slice_get_past}
use Rattle.a2l.specs.Names.{place_from, place_of}

same_bytes : (n : List ℕ) → bytes_eq n n ≡ true
same_bytes n = (bytes_eq-Decides n n).1 refl

or_nothing : {A : Type 0} (o : Option A) → option_or o None ≡ o
or_nothing None = refl
or_nothing (Some x) = refl

noted : (b : Bool) (old : List ℕ → Option ℕ) (name other : List ℕ) (place : ℕ) → bytes_eq other name ≡ b → old name ≡ None
    → cond (bytes_eq name other) (Some place) (old other) ≡ option_or (old other) (cond b (Some place) None)
noted true old name other place e absent =
    let same : other ≡ name = (bytes_eq-Decides other name).0 e in
    rw (same, same_bytes name, absent) refl
noted false old name other place e absent =
    let differ : bytes_eq name other ≡ false = apart (bytes_eq name other) name other refl e in
    rw differ (sym (or_nothing (old other)))
  where
    apart : (b : Bool) (n m : List ℕ) → bytes_eq n m ≡ b → bytes_eq m n ≡ false → b ≡ false
    apart false n m e f = refl
    apart true n m e f = let same : n ≡ m = (bytes_eq-Decides n m).0 e in let t : bytes_eq m n ≡ true = (bytes_eq-Decides m n).1 (sym same) in let u : true ≡ false = sym t ∙ f in absurd cc

-- a name that has no place gets one
pub notes : (old new : List ℕ → Option ℕ) (key name : List ℕ) (place : ℕ) → key ≡ name → old name ≡ None → ((cs : List ℕ) → new cs ≡ cond (bytes_eq key cs) (Some place) (old cs))
    → (other : List ℕ) → new other ≡ option_or (old other) (cond (bytes_eq other name) (Some place) None)
notes old new key name place is absent sets other =
    sets other ∙ ap (λ (k : List ℕ). cond (bytes_eq k other) (Some place) (old other)) is ∙ noted (bytes_eq other name) old name other place refl absent

pub absent_from : {A : Type 0} (o : Option A) (b : Bool) → b ≡ is_some o → b ≡ false → o ≡ None
absent_from None b e f = refl
absent_from (Some x) b e f = let t : false ≡ true = sym f ∙ e in absurd cc

place_more : (k : ℕ) (name n : List ℕ) (ns : List (List ℕ)) → place_from k name (ns ++ n ∷ []) ≡ option_or (place_from k name ns) (cond (bytes_eq name n) (Some (k + length ns)) None)
place_more k name n [] = ap (λ (j : ℕ). cond (bytes_eq name n) (Some j) None) (omega arith)
place_more k name n (m ∷ ns) = by_first (bytes_eq name m) (place_from (k + 1) name (ns ++ n ∷ [])) (place_from (k + 1) name ns)
    (place_more (k + 1) name n ns ∙ ap (λ (j : ℕ). option_or (place_from (k + 1) name ns) (cond (bytes_eq name n) (Some j) None)) (omega arith))
  where
    by_first : (b : Bool) (x y : Option ℕ) → x ≡ option_or y (cond (bytes_eq name n) (Some (k + suc (length ns))) None)
        → cond b (Some k) x ≡ option_or (cond b (Some k) y) (cond (bytes_eq name n) (Some (k + suc (length ns))) None)
    by_first true x y e = refl
    by_first false x y e = e

-- the names of one more item have their places
pub places_go_on : {X : Type 0} (f : X → List ℕ) (xs : List X) (i : ℕ) (x : X) (text : List ℕ) (old new : List ℕ → Option ℕ) → i < length xs → x ≡ get_or xs i x → text ≡ f x
    → ((name : List ℕ) → old name ≡ place_of name (map f (take i xs)))
    → ((other : List ℕ) → new other ≡ option_or (old other) (cond (bytes_eq other text) (Some i) None))
    → (name : List ℕ) → new name ≡ place_of name (map f (take (i + 1) xs))
places_go_on {X = X} f xs i x text old new lt is said before after name =
    let len : length (map f (take i xs)) ≡ i = omega (arith, length-map (take i xs) f, length-take i xs) in
    let more : map f (take (i + 1) xs) ≡ map f (take i xs) ++ f x ∷ [] =
    ap (map f) (take_more xs i x lt) ∙ map-append f (take i xs) (get_or xs i x ∷ []) ∙ ap (λ (y : X). map f (take i xs) ++ f y ∷ []) (sym is) in
    let at_end : place_of name (map f (take (i + 1) xs)) ≡ option_or (place_of name (map f (take i xs))) (cond (bytes_eq name (f x)) (Some i) None) =
    ap (place_of name) more ∙ place_more 0 name (f x) (map f (take i xs)) ∙ ap (λ (j : ℕ). option_or (place_of name (map f (take i xs))) (cond (bytes_eq name (f x)) (Some j) None)) (omega arith) in
    after name ∙ ap (λ (o : Option ℕ). option_or o (cond (bytes_eq name text) (Some i) None)) (before name)
    ∙ ap (λ (t : List ℕ). option_or (place_of name (map f (take i xs))) (cond (bytes_eq name t) (Some i) None)) said ∙ sym at_end

-- ---- items at a place

pub map_twice : {X Y Z : Type 0} (f : X → Y) (g : Y → Z) (xs : List X) → map g (map f xs) ≡ map (λ x. g (f x)) xs
map_twice f g [] = refl
map_twice f g (x ∷ xs) = ap (λ (zs : List _). g (f x) ∷ zs) (map_twice f g xs)

pub get_map : {X Y : Type 0} (f : X → Y) (xs : List X) (k : ℕ) → slice_get (map f xs) k ≡ option_map f (slice_get xs k)
get_map f [] k = refl
get_map f (x ∷ xs) zero = refl
get_map f (x ∷ xs) (suc k) = get_map f xs k

pub none_at : {X : Type 0} (xs : List X) (k : ℕ) → IsItemAt xs k None → slice_get xs k ≡ None
none_at xs k h = slice_get_past xs k (ltb-false k (length xs) (sym h.0))

pub some_at : {X : Type 0} (xs : List X) (k : ℕ) (x : Bor X) → IsItemAt xs k (Some x) → slice_get xs k ≡ Some x.now
some_at xs k x h = slice_get-get_or xs k x.now (ltb-true k (length xs) (sym h.0)) ∙ ap Some (sym h.1)
