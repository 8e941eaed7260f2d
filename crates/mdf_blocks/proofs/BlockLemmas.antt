-- Blocks that were written.
use Rattle.std.proofs.Common.{◌≡◌, ℕ, suc, ◌+◌, ◌≤◌, List, [], ◌∷◌, ◌++◌, ◌∙◌, length, take, OnErr}
use Rattle.std.proofs.Common.{OnOk, Result, Ok, Err, subst, sym, ap, arith, length-append}
use Rattle.std.proofs.Common.{append_assoc}
use Rattle.std.proofs.Math.Seq.{take-append_seam, take-take}
use Rattle.mdf_blocks.specs.Blocks.{block, block_head, block_len, fill_len, filled}
use Rattle.mdf_blocks.specs.Numbers.{uint64, uint64s, zeros}
use Rattle.mdf_blocks.specs.Texts.{text_body}
use Rattle.mdf_blocks.proofs.NumberLemmas.{length-uint64s}

-- a block was written by bytes that are these links and this data section
pub OnOk-block : {T E : Type 0} (r : Result T E) (new old id now_links now_body : List ℕ)
    (links body : List ℕ) → now_links ≡ links → now_body ≡ body
    → OnOk r (new ≡ old ++ block id now_links now_body)
    → OnOk r (new ≡ old ++ block id links body)
OnOk-block r new old id now_links now_body links body links_are body_is h =
    subst (λ (ls : List ℕ). OnOk r (new ≡ old ++ block id ls body)) links_are
    (subst (λ (bs : List ℕ). OnOk r (new ≡ old ++ block id now_links bs)) body_is h)

pub on_ok : {T E : Type 0} {P Q : Type 0} (r : Result T E) → (P → Q) → OnOk r P → OnOk r Q
on_ok (Ok x) f h = f h
on_ok (Err e) f h = tt

pub on_err : {T E : Type 0} {P Q : Type 0} (r : Result T E) → (P → Q) → OnErr r P → OnErr r Q
on_err (Ok x) f h = tt
on_err (Err e) f h = f h

-- what stood in front of what was there still does
pub front_kept : (old more mid new : List ℕ) → mid ≡ old ++ more → take (length mid) new ≡ mid
    → take (length old) new ≡ old
front_kept old more mid new mid_is kept =
    let short : length old ≤ length mid = omega (arith, ap length mid_is, length-append old more) in
    sym (take-take (length old) (length mid) new short) ∙ ap (take (length old)) kept
    ∙ ap (take (length old)) mid_is ∙ take-append_seam old more

-- bytes of 0 behind one more
zeros-more : (k : ℕ) → zeros (1 + k) ≡ 0 ∷ zeros k
zeros-more k = let e : 1 + k ≡ suc k = omega arith in ap zeros e

-- how long a block is
pub length-block : (id links body : List ℕ) → length id ≡ 4
    → length (block id links body) ≡ block_len links body
length-block id links body letters =
    let z : List ℕ = zeros 4 in
    let l : List ℕ = uint64 (block_len links body) in
    let c : List ℕ = uint64 (length links) in
    omega (
      arith,
      letters,
      length-uint64s links,
      length-append (id ++ z ++ l ++ c ++ uint64s links) body,
      length-append (id ++ z ++ l ++ c) (uint64s links),
      length-append (id ++ z ++ l) c,
      length-append (id ++ z) l,
      length-append id z,
    )

text_parts : (old head text fill : List ℕ)
    → old ++ head ++ text ++ 0 ∷ fill ≡ old ++ (head ++ [] ++ (text ++ 0 ∷ []) ++ fill)
text_parts old head text fill =
    simp append_assoc

-- a text was written behind its head, and its fill behind it
pub text_written : (old id text head one two three : List ℕ) (len : ℕ) → length id ≡ 4
    → len ≡ 24 + length text + 1 → head ≡ block_head id len 0 → one ≡ old ++ head
    → two ≡ one ++ text → three ≡ two ++ zeros (1 + fill_len len)
    → three ≡ old ++ filled (block id [] (text_body text))
text_written old id text head one two three len letters len_is head_is one_is two_is three_is =
    let long : length (block id [] (text_body text)) ≡ len =
    omega (
      arith,
      letters,
      len_is,
      length-block id [] (text_body text) letters,
      length-append text (0 ∷ []),
    ) in
    let said : block_len [] (text_body text) ≡ len =
    omega (arith, len_is, length-append text (0 ∷ [])) in
    three_is
    ∙ ap (λ zs. two ++ zs) (zeros-more (fill_len len))
    ∙ ap (λ zs. zs ++ 0 ∷ zeros (fill_len len))
    (two_is ∙ ap (λ zs. zs ++ text) (one_is ∙ ap (λ zs. old ++ zs) head_is))
    ∙ text_parts old (block_head id len 0) text (zeros (fill_len len))
    ∙ ap (λ n. old ++ (block_head id n 0 ++ [] ++ (text ++ 0 ∷ []) ++ zeros (fill_len len)))
    (sym said)
    ∙ ap (λ n. old ++ (block id [] (text_body text) ++ zeros (fill_len n))) (sym long)

-- five parts one behind another
five_parts : (old head one two front numbers : List ℕ)
    → old ++ head ++ one ++ two ++ front ++ numbers
    ≡ old ++ (head ++ (one ++ two) ++ (front ++ numbers))
five_parts old head one two front numbers = simp append_assoc

-- a block was written in five parts: its head, its links in two, and its data section in two
pub five_written : (old id links body head one two front numbers a b c d e : List ℕ)
    (len count : ℕ) → head ≡ block_head id len count → len ≡ block_len links body
    → count ≡ length links → uint64s links ≡ one ++ two → body ≡ front ++ numbers
    → a ≡ old ++ head → b ≡ a ++ one → c ≡ b ++ two → d ≡ c ++ front → e ≡ d ++ numbers
    → e ≡ old ++ block id links body
five_written old id links body head one two front numbers a b c d e len count head_is len_is
    count_is
    links_are body_is ha hb hc hd he =
    let so_far : d ≡ old ++ head ++ one ++ two ++ front = cc in
    let named : head ≡ block_head id (block_len links body) (length links) =
    head_is ∙ ap (λ n. block_head id n count) len_is
    ∙ ap (λ n. block_head id (block_len links body) n) count_is in
    he ∙ ap (λ zs. zs ++ numbers) so_far ∙ five_parts old head one two front numbers
    ∙ ap (λ zs. old ++ (zs ++ (one ++ two) ++ (front ++ numbers))) named
    ∙ ap (λ zs. old ++ (block_head id (block_len links body) (length links) ++ zs
    ++ (front ++ numbers))) (sym links_are)
    ∙ ap (λ zs. old ++ (block_head id (block_len links body) (length links) ++ uint64s links
    ++ zs)) (sym body_is)

-- and what was there stands in front of the first four
pub four_written : (old head one two front a b c d : List ℕ)
    → a ≡ old ++ head → b ≡ a ++ one → c ≡ b ++ two → d ≡ c ++ front
    → d ≡ old ++ (head ++ one ++ two ++ front)
four_written old head one two front a b c d ha hb hc hd =
    let so_far : d ≡ old ++ head ++ one ++ two ++ front = cc in so_far ∙ simp append_assoc
