-- What reading words of a text does to the parts to come.
use Rattle.std.proofs.Common.{◌≡◌, ℕ, ◌<◌, ◌≤◌, true, false, List, [], ◌∷◌, ◌++◌, length, map, Option, Some, None, refl, sym, ap, subst, ◌∙◌, arith}
use Rattle.std.specs.Prelude.{reverse}
use Rattle.std.specs.Str.{bytes_eq}
use Rattle.std.proofs.lemmas.Bool.{le-ltb}
use Rattle.std.proofs.lemmas.List.{reverse-append, length-reverse, map-append, length-map}
use Rattle.std.proofs.lemmas.Slice.Eq.{bytes_eq-Decides}
use Rattle.a2l_text.specs.Tokens.{Token, begin, end, include, plain, quoted}
use Rattle.a2l_text.specs.Words as text
use Rattle.a2l_text.specs.Words.{AreWords}
use Rattle.a2l_text.specs.Faults.{Stalls}
use Rattle.a2l_text.specs.declared.fault.WordFault.{WordFault}
use Rattle.a2l_text.specs.declared.word.Word.{Word}
use Rattle.a2l_text.proofs.LawLemmas.{one_word_is_next, no_word_at_the_end, no_word_at_a_fault, no_end_at_a_fault}
use Rattle.a2l_text.specs.Roles.{inside, after_plain, after_text, may_include, part_of}
use Rattle.a2l_text.specs.Parts.{Section}
use Rattle.a2l_text.specs.Ahead.{Open, gathered_at_begin, sections_at_block_end, gathered_with, sections_from}
use Rattle.a2l_text.specs.Steps.{State, plain_bytes, WordIs, TakesWord, HasNoMore, Reaches, ReachesPart, Ends, StepIs, StopsAt, UnlessMemory, HasNoWords, HasNoName, coming, coming_behind}
use Rattle.a2l_text.specs.States.{open_of}
use Rattle.a2l_text.specs.declared.blocks.OpenBlock.{OpenBlock}
use Rattle.a2l_text.specs.declared.part.Part.{Part}
use Rattle.a2l_text.specs.declared.role.Role.{Role}
use Rattle.a2l_text.specs.declared.block_fault.BlockFault.{BlockFault}
use Rattle.a2l_text.specs.declared.block_fault.BlockFault.TheVariants as fault
use Rattle.a2l_text.proofs.Steps.{opens, closes}

pub unless : (f : BlockFault) (P : Type 0) → P → UnlessMemory f P
unless fault.Memory P p = tt
unless (fault.Words w) P p = p
unless fault.Include P p = p
unless fault.TooDeep P p = p
unless fault.Name P p = p
unless (fault.End n) P p = p
unless fault.Stray P p = p

pub unless_weaker : (f : BlockFault) (P Q : Type 0) → (P → Q) → UnlessMemory f P → UnlessMemory f Q
unless_weaker fault.Memory P Q h p = tt
unless_weaker (fault.Words w) P Q h p = h p
unless_weaker fault.Include P Q h p = h p
unless_weaker fault.TooDeep P Q h p = h p
unless_weaker fault.Name P Q h p = h p
unless_weaker (fault.End n) P Q h p = h p
unless_weaker fault.Stray P Q h p = h p

-- ---- single words

taken : (old : List ℕ) (w : Token) (new : List ℕ) → text.Leads old w new → (words : List Token) → AreWords old words
    → (rest : List Token) × (words ≡ w ∷ rest) × AreWords new rest
taken old w new leads [] a = absurd (no_word_at_the_end old w new leads a)
taken old w new leads (x ∷ xs) a =
    let s = one_word_is_next old w x new a.0 leads a.1 in
    (xs, ap (λ (t : Token). t ∷ xs) (sym s.0), subst (λ (r : List ℕ). AreWords r xs) (sym s.1) a.2)

pub takes_word : (old : List ℕ) (w : Token) (new : List ℕ) → text.Leads old w new → length new < length old → TakesWord w old new
takes_word old w new leads lt = record {
  there = taken old w new leads;
  back = λ rest a. (new, leads, a);
  shorter = lt;
}

no_more : (old : List ℕ) → text.Ends old → (words : List Token) → AreWords old words → words ≡ []
no_more old ends [] a = refl
no_more old ends (x ∷ xs) a = absurd (no_word_at_the_end old x a.0 a.1 ends)

pub has_no_more : (old : List ℕ) → text.Ends old → HasNoMore old
has_no_more old ends = record { there = no_more old ends; back = ends }

pub no_words : (old : List ℕ) (f : WordFault) (from : List ℕ) → Stalls old f from → (words : List Token) → AreWords old words → ⊥
no_words old f from stalls [] a = no_end_at_a_fault old f from stalls a
no_words old f from stalls (x ∷ xs) a = no_word_at_a_fault old f from x a.0 stalls a.1

-- no name comes next where another word does, or none
pub no_name_at : (w : Token) (old new : List ℕ) → TakesWord w old new → ((n : List ℕ) → w ≡ plain n → ⊥)
    → (name : List ℕ) (words : List Token) → AreWords old (plain name ∷ words) → ⊥
no_name_at w old new takes other name words a =
    let t = takes.there (plain name ∷ words) a in
    let e : plain name ∷ words ≡ w ∷ t.0 = t.1 in
    other name (cc)

pub no_name_at_end : (old : List ℕ) → HasNoMore old → (name : List ℕ) (words : List Token) → AreWords old (plain name ∷ words) → ⊥
no_name_at_end old none name words a =
    let e : plain name ∷ words ≡ [] = none.there (plain name ∷ words) a in
    absurd cc

-- ---- steps

-- a word and then a step
pub then_step : (w : Token) (s mid : State) (new : State) → TakesWord w s.ahead mid.ahead → ((words : List Token) → coming mid words ≡ coming s words)
    → Reaches mid.ahead (coming_behind w mid) new → ((words : List Token) → coming_behind w mid words ≡ coming_behind w s words) → Reaches s.ahead (coming s) new
then_step w s mid new takes same step behind = record {
  there = λ words a.
      let t = takes.there words a in
      let r = step.there t.0 t.2 in
      (r.0, r.1, ap (coming s) t.1 ∙ sym (behind t.0) ∙ r.2);
  back = λ rest a.
      let r = step.back rest a in
      (w ∷ r.0, takes.back r.0 r.1);
}

-- two steps, one after another
pub reaches_on : (ahead : List ℕ) (before : List Token → Option (List Section)) (mid new : State)
    → Reaches ahead before mid → Reaches mid.ahead (coming mid) new → Reaches ahead before new
reaches_on ahead before mid new p q = record {
  there = λ words a.
      let t = p.there words a in
      let r = q.there t.0 t.1 in
      (r.0, r.1, t.2 ∙ r.2);
  back = λ rest a. let r = q.back rest a in p.back r.0 r.1;
}

pub reaches_part : (part : Part) (ahead : List ℕ) (before : List Token → Option (List Section)) (mid new : State)
    → Reaches ahead before mid → ReachesPart part mid.ahead (coming mid) new → ReachesPart part ahead before new
reaches_part part ahead before mid new p q = record {
  there = λ words a.
      let t = p.there words a in
      let r = q.there t.0 t.1 in
      (r.0, r.1, t.2 ∙ r.2);
  back = λ rest a. let r = q.back rest a in p.back r.0 r.1;
}

pub stops_on : (f : BlockFault) (ahead : List ℕ) (before : List Token → Option (List Section)) (mid : State)
    → Reaches ahead before mid → StopsAt f mid.ahead (coming mid) → StopsAt f ahead before
stops_on f ahead before mid p q = unless_weaker f _ _ (λ h. λ words a. let t = p.there words a in t.2 ∙ h t.0 t.1) q

pub ends_on : (ahead : List ℕ) (before : List Token → Option (List Section)) (mid : State)
    → Reaches ahead before mid → Ends mid.ahead (coming mid) → Ends ahead before
ends_on ahead before mid p q = record {
  there = λ words a. let t = p.there words a in t.2 ∙ q.there t.0 t.1;
  back = let r = q.back in p.back r.0 r.1;
}

-- nothing is done
pub reaches_same : (s : State) → Reaches s.ahead (coming s) s
reaches_same s = record { there = λ words a. (words, a, refl); back = λ rest a. (rest, a) }

-- a word that is no block's beginning or end
pub plain_step : (role : Role) (os : List Open) (g : List Token) (ahead : List ℕ) (b : List ℕ) (h : List Token) → h ≡ gathered_with role (plain b) g
    → Reaches ahead (λ words. sections_from role os g (plain b ∷ words)) (record { role = after_plain role b; around = os; gathered = h; ahead = ahead })
unfolding sections_from
plain_step role os g ahead b h e = record {
  there = λ words a. (words, a, ap (λ (x : List Token). sections_from (after_plain role b) os x words) (sym e));
  back = λ rest a. (rest, a);
}

pub text_step : (role : Role) (os : List Open) (g : List Token) (ahead : List ℕ) (b : List ℕ) (h : List Token) → h ≡ gathered_with role (quoted b) g
    → Reaches ahead (λ words. sections_from role os g (quoted b ∷ words)) (record { role = after_text role; around = os; gathered = h; ahead = ahead })
unfolding sections_from
text_step role os g ahead b h e = record {
  there = λ words a. (words, a, ap (λ (x : List Token). sections_from (after_text role) os x words) (sym e));
  back = λ rest a. (rest, a);
}

-- a block begins
pub begin_step : (role : Role) (os : List Open) (g : List Token) (old new : List ℕ) (n : List ℕ) → TakesWord (plain n) old new → length os < 64
    → Reaches old (λ words. sections_from role os g (begin ∷ words)) (record { role = inside role n; around = record { name = n; outer = role } ∷ os; gathered = gathered_at_begin (inside role n) n g; ahead = new })
begin_step role os g old new n takes lt = record {
  there = λ words a.
      let t = takes.there words a in
      (t.0, t.2, ap (λ (x : List Token). sections_from role os g (begin ∷ x)) t.1 ∙ opens role os g n t.0 lt);
  back = λ rest a. (plain n ∷ rest, takes.back rest a);
}

no_room : (role : Role) (os : List Open) (g : List Token) (n : List ℕ) (words : List Token) → 64 ≤ length os → sections_from role os g (begin ∷ plain n ∷ words) ≡ None
unfolding sections_from
no_room role os g n words le = rw (le-ltb (length os) 64 le) refl

pub too_deep : (role : Role) (os : List Open) (g : List Token) (old new : List ℕ) (n : List ℕ) → TakesWord (plain n) old new → 64 ≤ length os
    → (words : List Token) → AreWords old words → sections_from role os g (begin ∷ words) ≡ None
too_deep role os g old new n takes le words a =
    let t = takes.there words a in
    ap (λ (x : List Token). sections_from role os g (begin ∷ x)) t.1 ∙ no_room role os g n t.0 le

-- a block ends that is no part
pub end_step : (role : Role) (o : Open) (os : List Open) (g : List Token) (old new : List ℕ) (n : List ℕ) → TakesWord (plain n) old new → n ≡ o.name → part_of role ≡ None
    → Reaches old (λ words. sections_from role (o ∷ os) g (end ∷ words)) (record { role = o.outer; around = os; gathered = g; ahead = new })
end_step role o os g old new n takes e p = record {
  there = λ words a.
      let t = takes.there words a in (
        t.0,
        t.2,
        ap (λ (x : List Token). sections_from role (o ∷ os) g (end ∷ x)) t.1 ∙ closes role o os g n t.0 e
            ∙ ap (λ (q : Option Part). sections_at_block_end q g (sections_from o.outer os [] t.0) (sections_from o.outer os g t.0)) p,
      );
  back = λ rest a. (plain n ∷ rest, takes.back rest a);
}

-- a part ends
pub part_step : (role : Role) (part : Part) (o : Open) (os : List Open) (g : List Token) (old new : List ℕ) (n : List ℕ) → TakesWord (plain n) old new → n ≡ o.name → part_of role ≡ Some part
    → ReachesPart part old (λ words. sections_from role (o ∷ os) g (end ∷ words)) (record { role = o.outer; around = os; gathered = g; ahead = new })
part_step role part o os g old new n takes e p = record {
  there = λ words a.
      let t = takes.there words a in (
        t.0,
        t.2,
        ap (λ (x : List Token). sections_from role (o ∷ os) g (end ∷ x)) t.1 ∙ closes role o os g n t.0 e
            ∙ ap (λ (q : Option Part). sections_at_block_end q g (sections_from o.outer os [] t.0) (sections_from o.outer os g t.0)) p,
      );
  back = λ rest a. (plain n ∷ rest, takes.back rest a);
}

pub ends_step : (role : Role) (q : Option Part) (o : Open) (os : List Open) (g : List Token) (old new : List ℕ) (n : List ℕ) → TakesWord (plain n) old new → n ≡ o.name → part_of role ≡ q
    → StepIs q old (λ words. sections_from role (o ∷ os) g (end ∷ words)) (record { role = o.outer; around = os; gathered = g; ahead = new })
ends_step role None o os g old new n takes e p = end_step role o os g old new n takes e p
ends_step role (Some part) o os g old new n takes e p = part_step role part o os g old new n takes e p

-- words that aren't read so

other_end : (role : Role) (o : Open) (os : List Open) (g : List Token) (n : List ℕ) (words : List Token) → bytes_eq n o.name ≡ false → sections_from role (o ∷ os) g (end ∷ plain n ∷ words) ≡ None
unfolding sections_from
other_end role o os g n words e = rw e refl

pub wrong_end : (role : Role) (o : Open) (os : List Open) (g : List Token) (old new : List ℕ) (n : List ℕ) → TakesWord (plain n) old new → bytes_eq n o.name ≡ false
    → (words : List Token) → AreWords old words → sections_from role (o ∷ os) g (end ∷ words) ≡ None
wrong_end role o os g old new n takes e words a =
    let t = takes.there words a in
    ap (λ (x : List Token). sections_from role (o ∷ os) g (end ∷ x)) t.1 ∙ other_end role o os g n t.0 e

stray : (role : Role) (g : List Token) (n : List ℕ) (words : List Token) → sections_from role [] g (end ∷ plain n ∷ words) ≡ None
unfolding sections_from
stray role g n words = refl

pub stray_end : (role : Role) (g : List Token) (old new : List ℕ) (n : List ℕ) → TakesWord (plain n) old new
    → (words : List Token) → AreWords old words → sections_from role [] g (end ∷ words) ≡ None
stray_end role g old new n takes words a =
    let t = takes.there words a in
    ap (λ (x : List Token). sections_from role [] g (end ∷ x)) t.1 ∙ stray role g n t.0

pub included : (role : Role) (os : List Open) (g words : List Token) → may_include role ≡ false → sections_from role os g (include ∷ words) ≡ None
unfolding sections_from
included role os g words e = rw e refl

pub include_step : (s : State) → may_include s.role ≡ true → Reaches s.ahead (λ words. sections_from s.role s.around s.gathered (include ∷ words)) s
unfolding sections_from
include_step s e = record {
  there = λ words a. (words, a, rw e refl);
  back = λ rest a. (rest, a);
}

-- no name stands behind /begin or /end
nameless_begin : (role : Role) (os : List Open) (g : List Token) (old : List ℕ) (words : List Token) → ((name : List ℕ) (others : List Token) → words ≡ plain name ∷ others → ⊥)
    → sections_from role os g (begin ∷ words) ≡ None
unfolding sections_from
nameless_begin role os g old [] h = refl
nameless_begin role os g old (begin ∷ ws) h = refl
nameless_begin role os g old (end ∷ ws) h = refl
nameless_begin role os g old (include ∷ ws) h = refl
nameless_begin role os g old (plain n ∷ ws) h = absurd (h n ws refl)
nameless_begin role os g old (quoted n ∷ ws) h = refl

nameless_end : (role : Role) (os : List Open) (g : List Token) (old : List ℕ) (words : List Token) → ((name : List ℕ) (others : List Token) → words ≡ plain name ∷ others → ⊥)
    → sections_from role os g (end ∷ words) ≡ None
unfolding sections_from
nameless_end role [] g old [] h = refl
nameless_end role [] g old (begin ∷ ws) h = refl
nameless_end role [] g old (end ∷ ws) h = refl
nameless_end role [] g old (include ∷ ws) h = refl
nameless_end role [] g old (plain n ∷ ws) h = absurd (h n ws refl)
nameless_end role [] g old (quoted n ∷ ws) h = refl
nameless_end role (o ∷ os) g old [] h = refl
nameless_end role (o ∷ os) g old (begin ∷ ws) h = refl
nameless_end role (o ∷ os) g old (end ∷ ws) h = refl
nameless_end role (o ∷ os) g old (include ∷ ws) h = refl
nameless_end role (o ∷ os) g old (plain n ∷ ws) h = absurd (h n ws refl)
nameless_end role (o ∷ os) g old (quoted n ∷ ws) h = refl

pub no_begin : (f : BlockFault) (role : Role) (os : List Open) (g : List Token) (old : List ℕ) → HasNoName f old
    → StopsAt f old (λ words. sections_from role os g (begin ∷ words))
no_begin f role os g old h = unless_weaker f _ _ (λ none. λ words a. nameless_begin role os g old words
    (λ name others e. none name others (subst (λ (x : List Token). AreWords old x) e a))) h

pub no_end : (f : BlockFault) (role : Role) (os : List Open) (g : List Token) (old : List ℕ) → HasNoName f old
    → StopsAt f old (λ words. sections_from role os g (end ∷ words))
no_end f role os g old h = unless_weaker f _ _ (λ none. λ words a. nameless_end role os g old words
    (λ name others e. none name others (subst (λ (x : List Token). AreWords old x) e a))) h

-- the text ends
pub all_ended_well : (role : Role) (g : List Token) (old : List ℕ) → HasNoMore old → Ends old (sections_from role [] g)
unfolding sections_from
all_ended_well role g old none = record {
  there = λ words a. ap (sections_from role [] g) (none.there words a);
  back = ([], none.back);
}

pub still_open : (role : Role) (o : Open) (os : List Open) (g : List Token) (old : List ℕ) → HasNoMore old
    → (words : List Token) → AreWords old words → sections_from role (o ∷ os) g words ≡ None
unfolding sections_from
still_open role o os g old none words a = ap (sections_from role (o ∷ os) g) (none.there words a)

-- ---- what the code has

-- no name comes next where a word isn't plain
pub no_plain : (w : Token) (old new : List ℕ) → TakesWord w old new → None ≡ plain_bytes w
    → (name : List ℕ) (words : List Token) → AreWords old (plain name ∷ words) → ⊥
no_plain w old new takes e = no_name_at w old new takes (λ n is. let f : None ≡ plain_bytes (plain n) = e ∙ ap plain_bytes is in absurd cc)

is_plain : (w : Token) (b : List ℕ) → Some b ≡ plain_bytes w → w ≡ plain b
is_plain begin b e = absurd cc
is_plain end b e = absurd cc
is_plain include b e = absurd cc
is_plain (plain c) b e = cc
is_plain (quoted c) b e = absurd cc

pub name_is : (w : Token) (b old new : List ℕ) → TakesWord w old new → Some b ≡ plain_bytes w → TakesWord (plain b) old new
name_is w b old new takes e = subst (λ (t : Token). TakesWord t old new) (is_plain w b e) takes

-- a block that is pushed is the innermost
pub pushed : (items new : List OpenBlock) (x : OpenBlock) → new ≡ items ++ x ∷ [] → reverse (map open_of new) ≡ open_of x ∷ reverse (map open_of items)
pushed items new x e = ap (λ (l : List OpenBlock). reverse (map open_of l)) e ∙ ap reverse (map-append open_of items (x ∷ [])) ∙ reverse-append (map open_of items) (open_of x ∷ [])

pub depth : (items : List OpenBlock) → length (reverse (map open_of items)) ≡ length items
depth items = length-reverse (map open_of items) ∙ length-map items open_of

pub begin_done : (role role' : Role) (os os' : List Open) (g h : List Token) (old new n : List ℕ) → TakesWord (plain n) old new → length os < 64
    → role' ≡ inside role n → os' ≡ record { name = n; outer = role } ∷ os → h ≡ gathered_at_begin role' n g
    → Reaches old (λ words. sections_from role os g (begin ∷ words)) (record { role = role'; around = os'; gathered = h; ahead = new })
begin_done role role' os os' g h old new n takes lt e f k = rw (k, e, f) (begin_step role os g old new n takes lt)

pub end_done : (role : Role) (q : Option Part) (o : Open) (os' os : List Open) (g : List Token) (old new n : List ℕ) → TakesWord (plain n) old new → n ≡ o.name
    → q ≡ part_of role → os' ≡ o ∷ os
    → StepIs q old (λ words. sections_from role os' g (end ∷ words)) (record { role = o.outer; around = os; gathered = g; ahead = new })
end_done role q o os' os g old new n takes e p f = rw f (ends_step role q o os g old new n takes e (sym p))

pub nameless : (f : BlockFault) (old : List ℕ) → HasNoWords f old → HasNoName f old
nameless f old h = unless_weaker f _ _ (λ (none : (words : List Token) → AreWords old words → ⊥). λ (name : List ℕ) (words : List Token) (a : AreWords old (plain name ∷ words)). none (plain name ∷ words) a) h

pub no_coming : (f : BlockFault) (old : List ℕ) (before : List Token → Option (List Section)) → HasNoWords f old → StopsAt f old before
no_coming f old before h = unless_weaker f _ _ (λ (none : (words : List Token) → AreWords old words → ⊥). λ (words : List Token) (a : AreWords old words). absurd (none words a)) h

-- the name isn't that of the innermost block
pub stops_wrong : (f : BlockFault) (role : Role) (o : Open) (os' os : List Open) (g : List Token) (old new n : List ℕ) → TakesWord (plain n) old new → bytes_eq n o.name ≡ false → os' ≡ o ∷ os
    → StopsAt f old (λ words. sections_from role os' g (end ∷ words))
stops_wrong f role o os' os g old new n takes e is = unless f _ (rw is (wrong_end role o os g old new n takes e))

pub same_name : (n m : List ℕ) → bytes_eq n m ≡ true → n ≡ m
same_name n m e = (bytes_eq-Decides n m).0 e

none_around : (items : List OpenBlock) → length items ≡ 0 → reverse (map open_of items) ≡ []
none_around [] e = refl
none_around (x ∷ xs) e = absurd (omega arith)

pub stray_done : (role : Role) (items : List OpenBlock) (g : List Token) (old new : List ℕ) (n : List ℕ) → TakesWord (plain n) old new → length items ≡ 0
    → (words : List Token) → AreWords old words → sections_from role (reverse (map open_of items)) g (end ∷ words) ≡ None
stray_done role items g old new n takes e = rw (none_around items e) (stray_end role g old new n takes)

pub plain_done : (w : Token) (role role' : Role) (os : List Open) (g h : List Token) (ahead b : List ℕ) → w ≡ plain b → role' ≡ after_plain role b → h ≡ gathered_with role w g
    → Reaches ahead (λ words. sections_from role os g (w ∷ words)) (record { role = role'; around = os; gathered = h; ahead = ahead })
plain_done w role role' os g h ahead b is e f = rw (is, e) (plain_step role os g ahead b h (f ∙ ap (λ (t : Token). gathered_with role t g) is))

pub text_done : (w : Token) (role role' : Role) (os : List Open) (g h : List Token) (ahead b : List ℕ) → w ≡ quoted b → role' ≡ after_text role → h ≡ gathered_with role w g
    → Reaches ahead (λ words. sections_from role os g (w ∷ words)) (record { role = role'; around = os; gathered = h; ahead = ahead })
text_done w role role' os g h ahead b is e f = rw (is, e) (text_step role os g ahead b h (f ∙ ap (λ (t : Token). gathered_with role t g) is))

-- a word is taken, and then a step is done
pub after_word : (s new : State) (w : Token) (mid : List ℕ) → TakesWord w s.ahead mid → Reaches mid (coming_behind w s) new → Reaches s.ahead (coming s) new
after_word s new w mid takes step = record {
  there = λ words a.
      let t = takes.there words a in
      let r = step.there t.0 t.2 in
      (r.0, r.1, ap (coming s) t.1 ∙ r.2);
  back = λ rest a.
      let r = step.back rest a in
      (w ∷ r.0, takes.back r.0 r.1);
}

pub after_word_part : (part : Part) (s new : State) (w : Token) (mid : List ℕ) → TakesWord w s.ahead mid → ReachesPart part mid (coming_behind w s) new → ReachesPart part s.ahead (coming s) new
after_word_part part s new w mid takes step = record {
  there = λ words a.
      let t = takes.there words a in
      let r = step.there t.0 t.2 in
      (r.0, r.1, ap (coming s) t.1 ∙ r.2);
  back = λ rest a.
      let r = step.back rest a in
      (w ∷ r.0, takes.back r.0 r.1);
}

pub after_word_stops : (f : BlockFault) (s : State) (w : Token) (mid : List ℕ) → TakesWord w s.ahead mid → StopsAt f mid (coming_behind w s) → StopsAt f s.ahead (coming s)
after_word_stops f s w mid takes step = unless_weaker f _ _
    (λ (h : (words : List Token) → AreWords mid words → coming_behind w s words ≡ None). λ (words : List Token) (a : AreWords s.ahead words).
    let t = takes.there words a in ap (coming s) t.1 ∙ h t.0 t.2) step

pub reaches_none : (q : Option Part) (ahead : List ℕ) (before : List Token → Option (List Section)) (new : State) → ((p : Part) → q ≡ Some p → ⊥)
    → StepIs q ahead before new → Reaches ahead before new
reaches_none None ahead before new n s = s
reaches_none (Some p) ahead before new n s = absurd (n p refl)

pub word_none : (q : Option Word) (old new : List ℕ) → ((w : Word) → q ≡ Some w → ⊥) → WordIs q old new → HasNoMore old
word_none None old new n h = h
word_none (Some w) old new n h = absurd (n w refl)

pub all_ended_done : (role : Role) (items : List OpenBlock) (g : List Token) (old : List ℕ) → HasNoMore old → length items ≡ 0
    → Ends old (sections_from role (reverse (map open_of items)) g)
all_ended_done role items g old none e = rw (none_around items e) (all_ended_well role g old none)

still_left : (f : BlockFault) (role : Role) (os : List Open) (g : List Token) (old : List ℕ) → HasNoMore old → 0 < length os → StopsAt f old (sections_from role os g)
still_left f role [] g old none lt = absurd (omega arith)
still_left f role (o ∷ os) g old none lt = unless f _ (still_open role o os g old none)

pub still_done : (f : BlockFault) (role : Role) (items : List OpenBlock) (g : List Token) (old : List ℕ) → HasNoMore old → 0 < length items
    → StopsAt f old (sections_from role (reverse (map open_of items)) g)
still_done f role items g old none lt = still_left f role _ g old none (omega (arith, depth items))
