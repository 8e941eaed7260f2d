-- Blocks behind others.
use Rattle.std.proofs.Common.{◌≡◌, ◌∙◌, ℕ, ◌+◌, ◌%◌, List, [], ◌++◌, length, ap, refl, sym, subst}
use Rattle.std.proofs.Common.{append-nil, append_assoc, arith, length-append}
use Rattle.std.proofs.Common.{◌-◌, ◌<◌, ◌∷◌, suc, drop, get_or, Bool}
use Rattle.std.proofs.Common.{true, false, Result, Ok, Err, IfOk, OnErr, OnOk, T}
use Rattle.std.proofs.Math.Seq.{drop-cons}
use Rattle.mdf_blocks.specs.Blocks.{IsBlock, IsBlockAt, block, block_len, fill_len, filled}
use Rattle.mdf_blocks.specs.Numbers.{zeros}
use Rattle.mdf_blocks.proofs.BlockLemmas.{length-block}
use Rattle.mdf_blocks.proofs.ReadLemmas.{fill_aligns, written_is_read}
use Rattle.mdf_file.specs.Adding.{Adds, Says}

-- nothing is added
pub adds_none : (place : ℕ) (old : List ℕ) (P : List ℕ → Type 0) → (place + length old) % 8 ≡ 0
    → Says place old P → Adds place old old P
adds_none place old P aligned says =
    record { more = []; behind = sym (append-nil old); aligned = aligned; says = says }

-- what is said says something else
pub adds_weaker : (place : ℕ) (old new : List ℕ) (P Q : List ℕ → Type 0)
    → ((bytes : List ℕ) → P bytes → Q bytes) → Adds place old new P → Adds place old new Q
adds_weaker place old new P Q f a = record {
  more = a.more;
  behind = a.behind;
  aligned = a.aligned;
  says = λ front back long. f (front ++ new ++ back) (a.says front back long);
}

moved : (front old more back : List ℕ)
    → front ++ old ++ (more ++ back) ≡ front ++ (old ++ more) ++ back
moved front old more back = simp append_assoc

-- what was said is said on
pub says_longer : (place : ℕ) (old new : List ℕ) (P Q : List ℕ → Type 0) → Says place old P
    → Adds place old new Q → Says place new P
says_longer place old new P Q says a front back long =
    subst P
    (moved front old a.more back ∙ ap (λ (n : List ℕ). front ++ n ++ back) (sym a.behind))
    (says front (a.more ++ back) long)

-- two additions
pub adds_both : (place : ℕ) (old mid new : List ℕ) (P Q : List ℕ → Type 0) → Adds place old mid P
    → Adds place mid new Q → Adds place old new (λ bytes. P bytes × Q bytes)
adds_both place old mid new P Q a b = record {
  more = a.more ++ b.more;
  behind = b.behind ∙ ap (λ (m : List ℕ). m ++ b.more) a.behind
      ∙ append_assoc old a.more b.more;
  aligned = b.aligned;
  says = λ front back long. (
    says_longer place mid new P Q a.says b front back long,
    b.says front back long,
  );
}

within_fill : (front old one fill back : List ℕ)
    → (front ++ old) ++ one ++ (fill ++ back) ≡ front ++ (old ++ (one ++ fill)) ++ back
within_fill front old one fill back = simp append_assoc

-- a block and its fill
adds_behind : (place : ℕ) (old new id links body fill : List ℕ) → (place + length old) % 8 ≡ 0
    → IsBlock id links body → length (block id links body ++ fill) % 8 ≡ 0
    → new ≡ old ++ (block id links body ++ fill)
    → Adds place old new (λ bytes. IsBlockAt bytes (place + length old) id links body)
adds_behind place old new id links body fill aligned legal whole is =
    let one : List ℕ = block id links body in
    record {
      more = one ++ fill;
      behind = is;
      aligned = omega (arith, aligned, whole, ap length is, length-append old (one ++ fill));
      says = λ front back long.
          let begins : length (front ++ old) ≡ place + length old =
          omega (arith, long, length-append front old) in
          let fits : length (front ++ old) % 8 ≡ 0 = omega (arith, begins, aligned) in
          let read = written_is_read (front ++ old) (fill ++ back) id links body legal fits in
          subst (λ (at : ℕ). IsBlockAt (front ++ new ++ back) at id links body) begins
          (subst (λ (bytes : List ℕ). IsBlockAt bytes (length (front ++ old)) id links body)
          (within_fill front old one fill back
          ∙ ap (λ (n : List ℕ). front ++ n ++ back) (sym is))
          read);
    }

-- a block of whole multiples of 8
pub adds_block : (place link : ℕ) (old new id links body : List ℕ) → link ≡ place + length old
    → (place + length old) % 8 ≡ 0 → IsBlock id links body → block_len links body % 8 ≡ 0
    → new ≡ old ++ block id links body
    → Adds place old new (λ bytes. IsBlockAt bytes link id links body)
adds_block place link old new id links body link_is aligned legal whole is =
    let one : List ℕ = block id links body in
    let same : one ≡ one ++ [] = sym (append-nil one) in
    let full : length (one ++ []) % 8 ≡ 0 =
    omega (arith, whole, length-append one [], length-block id links body legal.letters) in
    subst (λ (at : ℕ). Adds place old new (λ bytes. IsBlockAt bytes at id links body))
    (sym link_is)
    (adds_behind place old new id links body [] aligned legal full
    (is ∙ ap (λ (m : List ℕ). old ++ m) same))

-- a block of any length
pub adds_filled : (place link : ℕ) (old new id links body : List ℕ) → link ≡ place + length old
    → (place + length old) % 8 ≡ 0 → IsBlock id links body
    → new ≡ old ++ filled (block id links body)
    → Adds place old new (λ bytes. IsBlockAt bytes link id links body)
adds_filled place link old new id links body link_is aligned legal is =
    let one : List ℕ = block id links body in
    subst (λ (at : ℕ). Adds place old new (λ bytes. IsBlockAt bytes at id links body))
    (sym link_is)
    (adds_behind place old new id links body (zeros (fill_len (length one))) aligned legal
    (fill_aligns one) is)

-- what follows, once something is said
pub adds_on : (place : ℕ) (old mid new : List ℕ) (P Q : List ℕ → Type 0) → Adds place old mid P
    → (Adds place mid mid P → Adds place mid new Q) → Adds place old new Q
adds_on place old mid new P Q a f =
    let b : Adds place mid new Q = f (adds_none place mid P a.aligned a.says) in
    record {
      more = a.more ++ b.more;
      behind = b.behind ∙ ap (λ (m : List ℕ). m ++ b.more) a.behind
          ∙ append_assoc old a.more b.more;
      aligned = b.aligned;
      says = b.says;
    }

pub if_ok : {T E : Type 0} {P Q : T → Type 0} (r : Result T E) → ((x : T) → P x → Q x)
    → IfOk r P → IfOk r Q
if_ok (Ok x) f h = f x h
if_ok (Err e) f h = tt

pub true_from_T : (b : Bool) → T b → b ≡ true
true_from_T true t = refl
true_from_T false t = absurd t

-- a list that is gone through from its end: one element more
pub rest_more : {X : Type 0} (xs : List X) (behind : ℕ) (x : X) → behind < length xs
    → x ≡ get_or xs (length xs - 1 - behind) x
    → drop (length xs - (behind + 1)) xs ≡ x ∷ drop (length xs - behind) xs
rest_more xs behind x within is =
    let at : ℕ = length xs - 1 - behind in
    let here : length xs - (behind + 1) ≡ at = omega arith in
    let next : suc at ≡ length xs - behind = omega (arith, within) in
    let inside : at < length xs = omega (arith, within) in
    ap (λ (n : ℕ). drop n xs) here ∙ drop-cons xs at x inside
    ∙ ap (λ y. y ∷ drop (suc at) xs) (sym is)
    ∙ ap (λ (n : ℕ). x ∷ drop n xs) next

behind_more : (front before bytes back : List ℕ)
    → (front ++ before) ++ bytes ++ back ≡ front ++ (before ++ bytes) ++ back
behind_more front before bytes back = simp append_assoc

-- the same, with bytes before them
pub adds_written : (place base : ℕ) (before old new : List ℕ) (P : List ℕ → Type 0)
    → place + length before ≡ base → Adds base old new P
    → Adds place (before ++ old) (before ++ new) P
adds_written place base before old new P base_is a = record {
  more = a.more;
  behind = ap (λ (n : List ℕ). before ++ n) a.behind ∙ sym (append_assoc before old a.more);
  aligned = omega (arith, a.aligned, base_is, length-append before new);
  says = λ front back long.
      let begins : length (front ++ before) ≡ base =
      omega (arith, long, base_is, length-append front before) in
      subst P (behind_more front before new back) (a.says (front ++ before) back begins);
}

pub on_if : {T E : Type 0} {P : T → Type 0} {Q : Type 0} (r : Result T E)
    → ((x : T) → P x → Q) → IfOk r P → OnOk r Q
on_if (Ok x) f h = f x h
on_if (Err e) f h = tt

pub any_ok : {T E : Type 0} {Q : Type 0} (r : Result T E) → Q → OnOk r Q
any_ok (Ok x) q = q
any_ok (Err e) q = tt

pub any_err : {T E : Type 0} {Q : Type 0} (r : Result T E) → Q → OnErr r Q
any_err (Ok x) q = tt
any_err (Err e) q = q
