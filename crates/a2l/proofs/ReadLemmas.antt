-- What is read part by part is what the whole text describes.
use Rattle.std.proofs.Common.{◌≡◌, ℕ, false, List, [], ◌∷◌, Option, Some, None, Err, refl, sym, ap, subst, ◌∙◌}
use Rattle.a2l_text.specs.Tokens.{Token}
use Rattle.a2l_text.specs.Words.{AreWords, without_mark}
use Rattle.a2l_text.proofs.LawLemmas.{one_list}
use Rattle.a2l_text.specs.Trees.{Elements, printed}
use Rattle.a2l_text.specs.Parts.{Section}
use Rattle.a2l_text.specs.Ahead.{in_front}
use Rattle.a2l_text.specs.Reading.{sections_of}
use Rattle.a2l_text.specs.Steps.{State, ReachesPart, Ends, NextIs, StopsAt, UnlessMemory, coming, cleared}
use Rattle.a2l_text.specs.declared.part.Part.{Part}
use Rattle.a2l_text.specs.declared.block_fault.BlockFault.{BlockFault}
use Rattle.a2l_text.specs.declared.role.Role.TheVariants.{File}
use Rattle.a2l_text.proofs.Completions.{reads_elements}
use Rattle.a2l_text.proofs.TreeLaws.{reads_all}
use Rattle.a2l_text.proofs.StepLemmas.{unless_weaker}
use Rattle.a2l_entries.specs.declared.entry_fault.EntryFault.{EntryFault}
use Rattle.a2l_entries.specs.declared.entry_fault.EntryFault.TheVariants as entry
use Rattle.a2l_entries.specs.Gives.{◌>>=◌, Stops}
use Rattle.a2l.specs.ModuleSaid.{Told, no_parts}
use Rattle.a2l.specs.Described.{Described, nothing, after_part, described_from, description_of}
use Rattle.a2l.specs.declared.fault.A2lFault.{A2lFault}
use Rattle.a2l.specs.declared.fault.A2lFault.TheVariants as fault
use Rattle.a2l.specs.declared.reading.ReadFault.{ReadFault}
use Rattle.a2l.specs.declared.reading.ReadFault.TheVariants as read
use Rattle.a2l_text.specs.declared.block_fault.BlockFault.TheVariants as block
use Rattle.a2l.specs.Whole.{to_come, Continues, IsAllOf, MakesNone, UnlessStopped, UnlessFault, UnlessOut, HasNoPart, Takes, is_memory, is_out, Describes, DescribesNothing, IsTextOf}

pub begins : (s : State) (d : Told × Described) → Continues s d s d
begins s d = record { there = λ words a. (words, a, refl); back = λ rest a. (rest, a) }

one_more : (p : Part) (g : List Token) (d e : Told × Described) (o : Option (List Section)) → after_part p g d ≡ Some e
    → (in_front (record { part = p; words = g } ∷ []) o >>= described_from d) ≡ (o >>= described_from e)
unfolding described_from
one_more p g d e None h = refl
one_more p g d e (Some ss) h = rw h refl

no_more : (p : Part) (g : List Token) (d : Told × Described) (o : Option (List Section)) → after_part p g d ≡ None
    → (in_front (record { part = p; words = g } ∷ []) o >>= described_from d) ≡ None
unfolding described_from
no_more p g d None h = refl
no_more p g d (Some ss) h = rw h refl

-- a part comes, and is taken
pub part_taken : (old : State) (from : Told × Described) (s new : State) (d e : Told × Described) (p : Part) (g : List Token) → Continues old from s d → ReachesPart p s.ahead (coming (cleared s)) new
    → g ≡ new.gathered → after_part p g d ≡ Some e → Continues old from new e
part_taken old from s new d e p g c r is h = record {
  there = λ words a.
      let t = c.there words a in
      let u = r.there t.0 t.1 in (
        u.0,
        u.1,
        t.2 ∙ ap (λ (o : Option (List Section)). o >>= described_from d) u.2
            ∙ one_more p new.gathered d e (coming (cleared new) u.0) (ap (λ (x : List Token). after_part p x d) (sym is) ∙ h),
      );
  back = λ rest a. let u = r.back rest a in c.back u.0 u.1;
}

-- it says nothing
pub part_stops : (old : State) (from : Told × Described) (s new : State) (d : Told × Described) (p : Part) (g : List Token) (x : EntryFault) → Continues old from s d → ReachesPart p s.ahead (coming (cleared s)) new
    → g ≡ new.gathered → Stops x (after_part p g d) → UnlessStopped x ((words : List Token) → AreWords old.ahead words → to_come old from words ≡ None)
part_stops old from s new d p g entry.Memory c r is h = tt
part_stops old from s new d p g (entry.Awaited at what) c r is h = λ words a.
    let t = c.there words a in
    let u = r.there t.0 t.1 in
    t.2 ∙ ap (λ (o : Option (List Section)). o >>= described_from d) u.2
    ∙ no_more p new.gathered d (coming (cleared new) u.0) (ap (λ (x : List Token). after_part p x d) (sym is) ∙ h)
part_stops old from s new d p g (entry.Refused at what) c r is h = λ words a.
    let t = c.there words a in
    let u = r.there t.0 t.1 in
    t.2 ∙ ap (λ (o : Option (List Section)). o >>= described_from d) u.2
    ∙ no_more p new.gathered d (coming (cleared new) u.0) (ap (λ (x : List Token). after_part p x d) (sym is) ∙ h)

-- there is no next part
pub blocks_stop : (f : BlockFault) (old : State) (from : Told × Described) (s : State) (d : Told × Described) → Continues old from s d → StopsAt f s.ahead (coming (cleared s))
    → UnlessMemory f ((words : List Token) → AreWords old.ahead words → to_come old from words ≡ None)
blocks_stop f old from s d c h = unless_weaker f _ _ (λ (n : (words : List Token) → AreWords s.ahead words → coming (cleared s) words ≡ None). λ (words : List Token) (a : AreWords old.ahead words).
    let t = c.there words a in t.2 ∙ ap (λ (o : Option (List Section)). o >>= described_from d) (n t.0 t.1)) h

-- all parts are taken
pub all_taken : (old : State) (from : Told × Described) (s : State) (d : Told × Described) → Continues old from s d → Ends s.ahead (coming (cleared s)) → IsAllOf old from d
unfolding described_from
all_taken old from s d c e =
    let b = e.back in
    let w = c.back b.0 b.1 in
    let t = c.there w.0 w.1 in
    record { words = w.0; are = w.1; says = t.2 ∙ ap (λ (o : Option (List Section)). o >>= described_from d) (e.there t.0 t.1) }

-- ---- the whole text

goes_well : {A B : Type 0} (o : Option A) (f : A → Option B) (y : B) → (o >>= f) ≡ Some y → (x : A) × (o ≡ Some x) × (f x ≡ Some y)
goes_well None f y e = absurd cc
goes_well (Some x) f y e = (x, refl, e)

pub describes : (text : List ℕ) (s : State) (d : Told × Described) → s ≡ record { role = File; around = []; gathered = []; ahead = without_mark text }
    → IsAllOf s (no_parts, nothing) d → Describes text d.1
describes text s d is all =
    let moved = subst (λ (x : State). IsAllOf x (no_parts, nothing) d) is all in
    let parts_read = goes_well (sections_of moved.words) (described_from (no_parts, nothing)) d.1 moved.says in
    let have = reads_elements moved.words parts_read.0 parts_read.1 in
    record {
      elements = have.elements;
      text_is = record { within = have.within; words = subst (λ (ws : List Token). AreWords (without_mark text) ws) have.words_are moved.are };
      says = ap (described_from (no_parts, nothing)) (sym have.parts_are) ∙ parts_read.2;
    }

-- elements that the text has are read of its words
pub elements_read : (text : List ℕ) (e : Elements) → IsTextOf text e → (sections_of (printed e) >>= described_from (no_parts, nothing)) ≡ description_of e
elements_read text e t = ap (λ (o : Option (List Section)). o >>= described_from (no_parts, nothing)) (reads_all e t.within)

pub describes_nothing : (text : List ℕ) (s : State) → s ≡ record { role = File; around = []; gathered = []; ahead = without_mark text }
    → ((words : List Token) → AreWords s.ahead words → to_come s (no_parts, nothing) words ≡ None) → DescribesNothing text
describes_nothing text s is none e t =
    let moved = subst (λ (x : State). (words : List Token) → AreWords x.ahead words → to_come x (no_parts, nothing) words ≡ None) is none in
    sym (elements_read text e t) ∙ moved (printed e) t.words

-- any elements that the text has describe the same
pub describes_only : (text : List ℕ) (d : Described) → Describes text d → (e : Elements) → IsTextOf text e → description_of e ≡ Some d
describes_only text d found e t =
    let same : printed found.elements ≡ printed e = one_list (without_mark text) (printed found.elements) (printed e) found.text_is.words t.words in
    sym (elements_read text e t) ∙ ap (λ (ws : List Token). sections_of ws >>= described_from (no_parts, nothing)) (sym same)
    ∙ elements_read text found.elements found.text_is ∙ found.says

-- ---- faults

unless_at : (f : ReadFault) (P : Type 0) → is_memory f ≡ false → UnlessFault f P → P
unless_at (read.Block block.Memory) P e h = absurd cc
unless_at (read.Block (block.Words w)) P e h = h
unless_at (read.Block block.Include) P e h = h
unless_at (read.Block block.TooDeep) P e h = h
unless_at (read.Block block.Name) P e h = h
unless_at (read.Block (block.End name)) P e h = h
unless_at (read.Block block.Stray) P e h = h
unless_at (read.Entry entry.Memory) P e h = absurd cc
unless_at (read.Entry (entry.Awaited at what)) P e h = h
unless_at (read.Entry (entry.Refused at what)) P e h = h

pub unless_out : (r : A2lFault) (f : ReadFault) (P : Type 0) → is_out r ≡ is_memory f → UnlessFault f P → UnlessOut r P
unless_out fault.Memory f P e h = tt
unless_out (fault.At place reason) f P e h = unless_at f P (sym e) h

pub fault_weaker : (f : ReadFault) (P Q : Type 0) → (P → Q) → UnlessFault f P → UnlessFault f Q
fault_weaker (read.Block f) P Q h p = unless_weaker f P Q h p
fault_weaker (read.Entry entry.Memory) P Q h p = tt
fault_weaker (read.Entry (entry.Awaited at what)) P Q h p = h p
fault_weaker (read.Entry (entry.Refused at what)) P Q h p = h p

-- no part is next, where reading came so far
pub no_part : (f : ReadFault) (old : State) (from : Told × Described) (s : State) (d : Told × Described) → Continues old from s d → HasNoPart f s → MakesNone f old from
no_part (read.Block f) old from s d c h = blocks_stop f old from s d c h
no_part (read.Entry x) old from s d c h = absurd h

-- a part says nothing, where reading came so far
pub part_says_none : (f : ReadFault) (old : State) (from : Told × Described) (s new : State) (d e : Told × Described) (p : Part) (g : List Token) → Continues old from s d → ReachesPart p s.ahead (coming (cleared s)) new
    → g ≡ new.gathered → Takes (Err f) (after_part p g d) e → MakesNone f old from
part_says_none (read.Block f) old from s new d e p g c r is h = absurd h
part_says_none (read.Entry x) old from s new d e p g c r is h = part_stops old from s new d p g x c r is h

pub next_none : (q : Option Part) (old new : State) → ((p : Part) → q ≡ Some p → ⊥) → NextIs q old new → Ends old.ahead (coming old)
next_none None old new n h = h
next_none (Some p) old new n h = absurd (n p refl)

pub nothing_from : (f : ReadFault) (text : List ℕ) (s : State) → s ≡ record { role = File; around = []; gathered = []; ahead = without_mark text } → MakesNone f s (no_parts, nothing)
    → UnlessFault f (DescribesNothing text)
nothing_from f text s is h = fault_weaker f _ _ (λ (none : (words : List Token) → AreWords s.ahead words → to_come s (no_parts, nothing) words ≡ None). describes_nothing text s is none) h
