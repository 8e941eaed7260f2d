-- Texts that are added.
use Rattle.std.proofs.Common.{◌≡◌, ◌≢◌, ℕ, ◌+◌, ◌%◌, ◌^◌, ◌<◌, List, [], ◌∷◌, ◌++◌, All, length}
use Rattle.std.proofs.Common.{Option, Some, codes, refl, sym, subst, arith, length-append}
use Rattle.std.proofs.lemmas.List.Elements.{All-nil}
use Rattle.mdf_blocks.specs.Blocks.{IsBlock, IsBlockAt, block, filled}
use Rattle.mdf_blocks.specs.Numbers.{zeros}
use Rattle.mdf_blocks.specs.Texts.{text_body}
use Rattle.mdf_blocks.specs.Told.{TellsText, TellsTexts}
use Rattle.mdf_file.specs.Adding.{Adds}
use Rattle.std.proofs.Common.{◌∙◌, ap, get_or, map, take}
use Rattle.std.proofs.lemmas.List.{map_more}
use Rattle.mdf_file.proofs.AddLemmas.{adds_both, adds_filled, adds_weaker}

-- a text without a byte of 0 is told
pub adds_text : (place link : ℕ) (id old new text : List ℕ) → length id ≡ 4 → 0 < place
    → link ≡ place + length old → (place + length old) % 8 ≡ 0 → All (λ b. b ≢ 0) text
    → length text < 2 ^ 63 → new ≡ old ++ filled (block id [] (text_body text))
    → Adds place old new (λ bytes. TellsText bytes id link (Some text))
adds_text place link id old new text letters some link_is aligned whole few is =
    let limit : 24 + length (text_body text) < 2 ^ 64 =
    omega (arith, few, length-append text (zeros 1)) in
    let legal : IsBlock id [] (text_body text) =
    record { letters = letters; places = All-nil (λ link. link < 2 ^ 64); limit = limit } in
    let there : link ≢ 0 = λ none. omega (arith, none, link_is, some) in
    adds_weaker place old new (λ bytes. IsBlockAt bytes link id [] (text_body text))
    (λ bytes. TellsText bytes id link (Some text))
    (λ bytes read. (
      there,
      (text_body text, read, record { behind = []; ended = refl; whole = whole }),
    ))
    (adds_filled place link old new id [] (text_body text) link_is aligned legal is)

-- one text more
pub texts_more : (bytes : List ℕ) (links : List ℕ) (texts : List (Option (List ℕ))) (link : ℕ)
    (text : Option (List ℕ)) → TellsTexts bytes links texts
    → TellsText bytes (codes "##TX") link text
    → TellsTexts bytes (links ++ link ∷ []) (texts ++ text ∷ [])
texts_more bytes [] texts link text none told =
    subst (λ (ts : List (Option (List ℕ))). TellsTexts bytes (link ∷ []) (ts ++ text ∷ []))
    (sym none) (told, refl)
texts_more bytes (l ∷ links) [] link text none told = absurd none
texts_more bytes (l ∷ links) (t ∷ texts) link text all told =
    (all.0, texts_more bytes links texts link text all.1 told)

-- one text more is added
pub adds_text_more : (place : ℕ) (old mid new links links2 : List ℕ)
    (texts texts2 : List (Option (List ℕ))) (link : ℕ) (text : Option (List ℕ))
    → links2 ≡ links ++ link ∷ [] → texts2 ≡ texts ++ text ∷ []
    → Adds place old mid (λ bytes. TellsTexts bytes links texts)
    → Adds place mid new (λ bytes. TellsText bytes (codes "##TX") link text)
    → Adds place old new (λ bytes. TellsTexts bytes links2 texts2)
adds_text_more place old mid new links links2 texts texts2 link text links_are texts_are a b =
    subst (λ (ls : List ℕ). Adds place old new (λ bytes. TellsTexts bytes ls texts2))
    (sym links_are)
    (subst (λ (ts : List (Option (List ℕ))).
    Adds place old new (λ bytes. TellsTexts bytes (links ++ link ∷ []) ts)) (sym texts_are)
    (adds_weaker place old new
    (λ bytes. TellsTexts bytes links texts × TellsText bytes (codes "##TX") link text)
    (λ bytes. TellsTexts bytes (links ++ link ∷ []) (texts ++ text ∷ []))
    (λ bytes both. texts_more bytes links texts link text both.0 both.1)
    (adds_both place old mid new (λ bytes. TellsTexts bytes links texts)
    (λ bytes. TellsText bytes (codes "##TX") link text) a b)))

-- one element more of a list that is gone through
pub mapped_more : {X Y : Type 0} (f : X → Y) (xs : List X) (i : ℕ) (x : X) → i < length xs
    → x ≡ get_or xs i x → map f (take (i + 1) xs) ≡ map f (take i xs) ++ f x ∷ []
mapped_more f xs i x within is =
    map_more f xs i x within ∙ ap (λ y. map f (take i xs) ++ f y ∷ []) (sym is)
