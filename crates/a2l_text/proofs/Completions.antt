-- What is read of words is what elements have whose words they are.
use Rattle.std.proofs.Common.{◌≡◌, ℕ, zero, suc, ◌+◌, Bool, true, false, cond, ltb, List, [], ◌∷◌, length, Option, Some, None, refl, sym, ap, subst, ◌∙◌, arith}
use Rattle.std.specs.Str.{bytes_eq}
use Rattle.std.proofs.lemmas.Bool.{le-ltb}
use Rattle.std.proofs.lemmas.Slice.Eq.{bytes_eq-Decides}
use Rattle.a2l_text.specs.Tokens as token
use Rattle.a2l_text.specs.Tokens.{Token, begin, end, plain, quoted}
use Rattle.a2l_text.specs.Trees.{Elements, none, word, text, include, block, printed_before, printed, IsWithin}
use Rattle.a2l_text.specs.Roles.{inside, after_plain, after_text, may_include, part_of}
use Rattle.a2l_text.specs.Parts.{Section}
use Rattle.a2l_text.specs.Ahead.{Open, gathered_at_begin, in_front, sections_at_block_end, gathered_with, sections_from}
use Rattle.a2l_text.specs.Reading.{ReadsElements, sections_of}
use Rattle.a2l_text.specs.declared.part.Part.{Part}
use Rattle.a2l_text.specs.declared.role.Role.{Role}
use Rattle.a2l_text.specs.declared.role.Role.TheVariants.{File}
use Rattle.a2l_text.proofs.TreeLaws.{reads_all}

-- the words are those that end a block of this role and the open blocks around it, the innermost first, with so much room in it and one more in each of those
abbrev pub Completes : ℕ → Role → List Open → List Token → Type 0
Completes room role [] ws = (f : Elements) × IsWithin room role f × (ws ≡ printed f)
Completes room role (o ∷ os) ws =
    (f : Elements) × (rest : List Token) × IsWithin room role f × (ws ≡ printed_before f (end ∷ plain o.name ∷ rest)) × Completes (suc room) o.outer os rest

with_word : (room : ℕ) (role : Role) (os : List Open) (b : List ℕ) (ws : List Token) → Completes room (after_plain role b) os ws → Completes room role os (plain b ∷ ws)
with_word room role [] b ws c = (word b c.0, c.1, ap (λ (x : List Token). plain b ∷ x) c.2)
with_word room role (o ∷ os) b ws c = (word b c.0, c.1, c.2, ap (λ (x : List Token). plain b ∷ x) c.3, c.4)

with_text : (room : ℕ) (role : Role) (os : List Open) (b : List ℕ) (ws : List Token) → Completes room (after_text role) os ws → Completes room role os (quoted b ∷ ws)
with_text room role [] b ws c = (text b c.0, c.1, ap (λ (x : List Token). quoted b ∷ x) c.2)
with_text room role (o ∷ os) b ws c = (text b c.0, c.1, c.2, ap (λ (x : List Token). quoted b ∷ x) c.3, c.4)

with_include : (room : ℕ) (role : Role) (os : List Open) (ws : List Token) → may_include role ≡ true → Completes room role os ws → Completes room role os (token.include ∷ ws)
with_include room role [] ws may c = (include c.0, (may, c.1), ap (λ (x : List Token). token.include ∷ x) c.2)
with_include room role (o ∷ os) ws may c = (include c.0, c.1, (may, c.2), ap (λ (x : List Token). token.include ∷ x) c.3, c.4)

with_end : (room : ℕ) (role : Role) (o : Open) (os : List Open) (ws : List Token) → Completes (suc room) o.outer os ws → Completes room role (o ∷ os) (end ∷ plain o.name ∷ ws)
with_end room role o os ws c = (none, ws, tt, refl, c)

with_block : (room : ℕ) (role : Role) (os : List Open) (n : List ℕ) (ws : List Token) → Completes room (inside role n) (record { name = n; outer = role } ∷ os) ws → Completes (suc room) role os (begin ∷ plain n ∷ ws)
with_block room role [] n ws c =
    (block n c.0 c.4.0, (c.2, c.4.1), ap (λ (x : List Token). begin ∷ plain n ∷ x) (c.3 ∙ ap (λ (x : List Token). printed_before c.0 (end ∷ plain n ∷ x)) c.4.2))
with_block room role (m ∷ os) n ws c =
    (block n c.0 c.4.0, c.4.1, (c.2, c.4.2), ap (λ (x : List Token). begin ∷ plain n ∷ x) (c.3 ∙ ap (λ (x : List Token). printed_before c.0 (end ∷ plain n ∷ x)) c.4.3), c.4.4)

-- a test that went well
guard : {A : Type 0} (b : Bool) (x : Option A) (y : A) → cond b x None ≡ Some y → (b ≡ true) × (x ≡ Some y)
guard true x y e = (refl, e)
guard false x y e = absurd cc

front : (ss : List Section) (x : Option (List Section)) (ts : List Section) → in_front ss x ≡ Some ts → (rest : List Section) × (x ≡ Some rest)
front ss (Some rest) ts e = (rest, refl)
front ss None ts e = absurd cc

-- the end of a block goes well if what comes behind it does
end_goes : (p : Option Part) (g : List Token) (fresh kept : Option (List Section)) (ss : List Section) (P : Type 0)
    → ((ts : List Section) → fresh ≡ Some ts → P) → ((ts : List Section) → kept ≡ Some ts → P) → sections_at_block_end p g fresh kept ≡ Some ss → P
end_goes None g fresh kept ss P hf hk e = hk ss e
end_goes (Some p) g fresh kept ss P hf hk e = let x = front (record { part = p; words = g } ∷ []) fresh ss e in hf x.0 x.1

completes : (ws : List Token) (role : Role) (os : List Open) (g : List Token) (ss : List Section) (room : ℕ) → length os + room ≡ 64
    → sections_from role os g ws ≡ Some ss → Completes room role os ws
unfolding sections_from
completes [] role [] g ss room r e = (none, tt, refl)
completes [] role (o ∷ os) g ss room r e = absurd cc
completes (plain b ∷ ws) role os g ss room r e =
    with_word room role os b ws (completes ws (after_plain role b) os (gathered_with role (plain b) g) ss room r e)
completes (quoted b ∷ ws) role os g ss room r e =
    with_text room role os b ws (completes ws (after_text role) os (gathered_with role (quoted b) g) ss room r e)
completes (token.include ∷ ws) role os g ss room r e =
    let h = guard (may_include role) (sections_from role os g ws) ss e in
    with_include room role os ws h.0 (completes ws role os g ss room r h.1)
completes (begin ∷ plain n ∷ ws) role os g ss zero r e =
    let h = guard (ltb (length os) 64) (sections_from (inside role n) (record { name = n; outer = role } ∷ os) (gathered_at_begin (inside role n) n g) ws) ss e in
    let no_room : ltb (length os) 64 ≡ false = le-ltb (length os) 64 (omega arith) in
    absurd cc
completes (begin ∷ plain n ∷ ws) role os g ss (suc room) r e =
    let h = guard (ltb (length os) 64) (sections_from (inside role n) (record { name = n; outer = role } ∷ os) (gathered_at_begin (inside role n) n g) ws) ss e in
    with_block room role os n ws (completes ws (inside role n) (record { name = n; outer = role } ∷ os) (gathered_at_begin (inside role n) n g) ss room (omega arith) h.1)
completes (end ∷ plain n ∷ ws) role (o ∷ os) g ss room r e =
    let h = guard (bytes_eq n o.name) (sections_at_block_end (part_of role) g (sections_from o.outer os [] ws) (sections_from o.outer os g ws)) ss e in
    let same : n ≡ o.name = (bytes_eq-Decides n o.name).0 h.0 in
    let left : Completes (suc room) o.outer os ws = end_goes (part_of role) g (sections_from o.outer os [] ws) (sections_from o.outer os g ws) ss (Completes (suc room) o.outer os ws)
    (λ ts t. completes ws o.outer os [] ts (suc room) (omega arith) t)
    (λ ts t. completes ws o.outer os g ts (suc room) (omega arith) t) h.1 in
    subst (λ (m : List ℕ). Completes room role (o ∷ os) (end ∷ plain m ∷ ws)) (sym same) (with_end room role o os ws left)
completes (w ∷ ws) role [] g ss room r e = absurd cc
completes (w ∷ ws) role (o ∷ os) g ss room r e = absurd cc

some_is : {A : Type 0} (x y : A) → Some x ≡ Some y → x ≡ y
some_is x y e = cc

pub reads_elements : ReadsElements
reads_elements ws ss e =
    let c = completes ws File [] [] ss 64 refl e in
    record {
      elements = c.0;
      within = c.1;
      words_are = c.2;
      parts_are = some_is _ _ (sym e ∙ ap sections_of c.2 ∙ reads_all c.0 c.1);
    }
