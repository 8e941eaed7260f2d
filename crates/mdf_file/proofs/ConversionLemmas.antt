-- Conversions that are added.
use Rattle.std.proofs.Common.{◌≡◌, ◌≢◌, ℕ, ◌+◌, ◌*◌, ◌%◌, ◌^◌, ◌<◌, List, ◌∷◌, ◌++◌, All, length}
use Rattle.std.proofs.Common.{Option, Some, codes, refl, arith, length-append, lit<}
use Rattle.std.proofs.lemmas.List.Elements.{All-cons}
use Rattle.std.specs.Float.{Float}
use Rattle.mdf_blocks.specs.Blocks.{IsBlock, IsBlockAt, block_len}
use Rattle.mdf_blocks.specs.Conversions.{cc_block, cc_body, cc_front, cc_links}
use Rattle.mdf_blocks.specs.Numbers.{reals}
use Rattle.mdf_blocks.specs.Ranges.{FitsConversion, IsReal}
use Rattle.mdf_blocks.specs.Told.{TellsConversion, TellsTexts}
use Rattle.mdf_blocks.specs.declared.conversion_kind.ConversionKind.{ConversionKind}
use Rattle.mdf_blocks.proofs.NumberLemmas.{length-reals}
use Rattle.mdf_blocks.proofs.ToldLemmas.{written_is_told}
use Rattle.mdf_file.specs.Adding.{Adds}
use Rattle.mdf_file.proofs.AddLemmas.{adds_block, adds_both, adds_on, adds_weaker}
use Rattle.std.proofs.Common.{subst, sym}

pub adds_conversion : (place link : ℕ) (old new : List ℕ) (kind : ConversionKind)
    (links : List ℕ) (values : List Float) (texts : List (Option (List ℕ))) → 0 < place
    → link ≡ place + length old → (place + length old) % 8 ≡ 0 → All (λ n. n < 2 ^ 64) links
    → length links < 2 ^ 16 → length values < 2 ^ 16 → All IsReal values
    → new ≡ old ++ cc_block kind 0 links values
    → Adds place old old (λ bytes. TellsTexts bytes links texts)
    → Adds place old new (λ bytes. TellsConversion bytes link
    (Some (record { kind = kind; values = values; texts = texts })))
adds_conversion place link old new kind links values texts some link_is aligned small few_links
    few_values reals_are is told =
    let Small : ℕ → Type 0 = λ n. n < 2 ^ 64 in
    let zero : 0 < 2 ^ 64 = lit< tt in
    let body : List ℕ = cc_body kind (length links) values in
    let all : List ℕ = cc_links 0 links in
    let body_long : length body ≡ 24 + 8 * length values =
    omega (
      arith,
      length-append (cc_front kind (length links) (length values)) (reals values),
      length-reals values,
    ) in
    let links_long : length all ≡ 4 + length links = omega arith in
    let long : block_len all body ≡ 80 + 8 * length links + 8 * length values =
    omega (arith, body_long, links_long) in
    let legal : IsBlock (codes "##CC") all body = record {
      letters = refl;
      places = All-cons Small 0 (0 ∷ 0 ∷ 0 ∷ links) zero
          (All-cons Small 0 (0 ∷ 0 ∷ links) zero (All-cons Small 0 (0 ∷ links) zero
          (All-cons Small 0 links zero small)));
      limit = omega (arith, long, few_links, few_values);
    } in
    let fits : FitsConversion links values =
    record { few_texts = few_links; few_values = few_values; reals = reals_are } in
    let there : link ≢ 0 = λ none. omega (arith, none, link_is, some) in
    let Reads : List ℕ → Type 0 = λ bytes. IsBlockAt bytes link (codes "##CC") all body in
    adds_weaker place old new (λ bytes. TellsTexts bytes links texts × Reads bytes)
    (λ bytes. TellsConversion bytes link
    (Some (record { kind = kind; values = values; texts = texts })))
    (λ bytes both. (
      there,
      written_is_told.conversion bytes link kind 0 links values texts fits both.1 both.0,
    ))
    (adds_both place old old new (λ bytes. TellsTexts bytes links texts) Reads told
    (adds_block place link old new (codes "##CC") all body link_is aligned legal
    (omega (arith, long)) is))

-- a conversion behind its texts
pub conversion_behind : (place link : ℕ) (old mid new : List ℕ) (kind : ConversionKind)
    (links links2 : List ℕ) (values values2 : List Float) (texts texts2 : List (Option (List ℕ)))
    → links2 ≡ links → values2 ≡ values → texts2 ≡ texts
    → Adds place old mid (λ bytes. TellsTexts bytes links texts2)
    → ((ts : List (Option (List ℕ)))
    → Adds place mid mid (λ bytes. TellsTexts bytes links2 ts)
    → Adds place mid new (λ bytes. TellsConversion bytes link
    (Some (record { kind = kind; values = values2; texts = ts }))))
    → Adds place old new (λ bytes. TellsConversion bytes link
    (Some (record { kind = kind; values = values; texts = texts })))
conversion_behind place link old mid new kind links links2 values values2 texts texts2 links_are
    values_are texts_are told block =
    subst (λ (vs : List Float). Adds place old new (λ bytes. TellsConversion bytes link
    (Some (record { kind = kind; values = vs; texts = texts })))) values_are
    (subst (λ (ts : List (Option (List ℕ))).
    Adds place old new (λ bytes. TellsConversion bytes link
    (Some (record { kind = kind; values = values2; texts = ts })))) texts_are
    (adds_on place old mid new (λ bytes. TellsTexts bytes links2 texts2)
    (λ bytes. TellsConversion bytes link
    (Some (record { kind = kind; values = values2; texts = texts2 })))
    (subst (λ (ls : List ℕ). Adds place old mid (λ bytes. TellsTexts bytes ls texts2))
    (sym links_are) told)
    (block texts2)))
