-- What an entry is behind some exchanges.
use Rattle.std.proofs.Common.{◌≡◌, ℕ, zero, suc, ◌+◌, ◌<◌, ◌≤◌, ◌==◌, ◌&&◌, Bool, true, false, List}
use Rattle.std.proofs.Common.{[], ◌∷◌, ◌++◌, map, refl, sym, ap, ◌∙◌, subst, arith}
use Rattle.std.proofs.Common.{if◌then◌else◌, Option, Some, None, inl, inr}
use Rattle.std.proofs.lemmas.Bool.{cases_lt, eq-eqb, eqb-true, false≢true}
use Rattle.std.proofs.lemmas.Option.{same_Some}
use Rattle.std.specs.List.{range_with_len}
use Rattle.std.specs.Option.{option_or}
use Rattle.measured_values.specs.declared.byte_order.ByteOrder.{ByteOrder}
use Rattle.captured_session.specs.Commands.{command_of}
use Rattle.captured_session.specs.Exchanges.{Exchange}
use Rattle.captured_session.specs.LawsOfEntries.{IsSilent, IsWritten, KnownIsWritten, SaysNothing}
use Rattle.captured_session.specs.LawsOfEntries.{Writes, WritesEntry, WrittenIsKnown}
use Rattle.captured_session.specs.LawsOfEntries.{may_be}
use Rattle.captured_session.specs.Lists.{entry_is, entry_or_open, entry_said, if_it_is, newest}
use Rattle.captured_session.specs.SetUps.{element_at, facts_after, facts_of}
use Rattle.captured_session.specs.SetUps.{form_after, frees, moved, outcome_of}
use Rattle.captured_session.specs.SetUps.{pointer_after, reply_of, write_at}
use Rattle.captured_session.specs.declared.command.Command.{Command}
use Rattle.captured_session.specs.declared.command.Command.TheVariants.{AllocDaq, AllocOdt}
use Rattle.captured_session.specs.declared.command.Command.TheVariants.{AllocOdtEntry, ClearDaqList}
use Rattle.captured_session.specs.declared.command.Command.TheVariants.{FreeDaq, Missing}
use Rattle.captured_session.specs.declared.command.Command.TheVariants.{StartStopDaqList, WriteDaq}
use Rattle.captured_session.specs.declared.command.Command.TheVariants.{WriteDaqMultiple}
use Rattle.captured_session.specs.declared.element.Element.{Element}
use Rattle.captured_session.specs.declared.entry.Entry.{Entry as KnownEntry}
use Rattle.captured_session.specs.declared.entry.Entry.TheVariants.{Is, Open, Unwritten}
use Rattle.captured_session.specs.declared.fact.Fact.{Fact}
use Rattle.captured_session.specs.declared.form.Form.{Form}
use Rattle.captured_session.specs.declared.outcome.Outcome.{Outcome}
use Rattle.captured_session.specs.declared.outcome.Outcome.TheVariants.{Done, Refused, Unanswered}
use Rattle.captured_session.specs.declared.pointer.Pointer.{Pointer}
use Rattle.captured_session.specs.declared.pointer.Pointer.TheVariants.{At, Unknown, Within}
use Rattle.captured_session.proofs.CodeLemmas.{and-both, and-left, and-right}
use Rattle.captured_session.proofs.NewestLemmas.{newest-append}

-- what a test tells, if it is the one that makes it
if-none : {A : Type 0} (b : Bool) (a : A) → if_it_is b a ≡ None → b ≡ false
if-none true a is = absurd cc
if-none false a is = refl

none-if : {A : Type 0} (b : Bool) (a : A) → b ≡ false → if_it_is b a ≡ None
none-if b a is = ap (λ (v : Bool). if v then Some a else None) is

record IsIf (b : Bool) (k it : KnownEntry) : Type 0 where
  here : b ≡ true
  is : k ≡ it

is-if : (b : Bool) (k it : KnownEntry) → if_it_is b k ≡ Some it → IsIf b k it
is-if true k it is = record { here = refl; is = same_Some k it is }
is-if false k it is = absurd cc

open-not : (x : Element) → Open ≡ Is x → ⊥
open-not x is = absurd cc

unwritten-not : (x : Element) → Unwritten ≡ Is x → ⊥
unwritten-not x is = absurd cc

nothing-not : {A : Type 0} (k : A) → None ≡ Some k → ⊥
nothing-not k is = absurd cc

same_Is : (x y : Element) → Is x ≡ Is y → x ≡ y
same_Is x y is = cc

entry-is : (el : Option Element) (x : Element) → entry_is el ≡ Is x → el ≡ Some x
entry-is (Some y) x is = ap (λ (z : Element). Some z) (same_Is y x is)
entry-is None x is = absurd (open-not x is)

none-in : (newer older : List Exchange) (z : Exchange) → [] ≡ newer ++ z ∷ older → ⊥
none-in [] older z split = absurd cc
none-in (y ∷ newer) older z split = absurd cc

-- the newest of two
record AreNone (a b : Option KnownEntry) : Type 0 where
  left : a ≡ None
  right : b ≡ None

both-none : (a b : Option KnownEntry) → option_or a b ≡ None → AreNone a b
both-none None b none = record { left = refl; right = none }
both-none (Some k) b none = absurd cc

module _ (list odt e : ℕ) where
  -- what a write says of the entry
  abbrev at_write : Pointer → Option Element → Option KnownEntry
  at_write p el = entry_said list odt e (write_at p el)

  write-none : (p : Pointer) (el : Option Element) → at_write p el ≡ None
      → may_be list odt e p ≡ false
  write-none (At l o i) el none = if-none (l == list && o == odt && i == e) (entry_is el) none
  write-none (Within l o) el none = if-none (l == list && o == odt) Open none
  write-none Unknown el none = absurd (nothing-not Open (sym none))

  none-write : (p : Pointer) (el : Option Element) → may_be list odt e p ≡ false
      → at_write p el ≡ None
  none-write (At l o i) el none = none-if (l == list && o == odt && i == e) (entry_is el) none
  none-write (Within l o) el none = none-if (l == list && o == odt) Open none
  none-write Unknown el none = absurd (false≢true (sym none))

  record WriteIs (p : Pointer) (el : Option Element) (x : Element) : Type 0 where
    here : p ≡ At list odt e
    is : el ≡ Some x

  write-is : (p : Pointer) (el : Option Element) (x : Element) → at_write p el ≡ Some (Is x)
      → WriteIs p el x
  write-is (At l o i) el x says =
      let found = is-if (l == list && o == odt && i == e) (entry_is el) (Is x) says in
      let both = and-left (l == list && o == odt) (i == e) found.here in
      let same_l = eqb-true l list (and-left (l == list) (o == odt) both) in
      let same_o = eqb-true o odt (and-right (l == list) (o == odt) both) in
      let same_i = eqb-true i e (and-right (l == list && o == odt) (i == e) found.here) in
      record { here = λ j. At (same_l j) (same_o j) (same_i j); is = entry-is el x found.is }
  write-is (Within l o) el x says =
      absurd (open-not x (is-if (l == list && o == odt) Open (Is x) says).is)
  write-is Unknown el x says = absurd (open-not x (same_Some Open (Is x) says))

  is-write : (p : Pointer) (el : Option Element) (x : Element) → p ≡ At list odt e → el ≡ Some x
      → at_write p el ≡ Some (Is x)
  is-write p el x here is =
      let both : (list == list && odt == odt) ≡ true =
      and-both (list == list) (odt == odt) (eq-eqb list list refl) (eq-eqb odt odt refl) in
      let all : (list == list && odt == odt && e == e) ≡ true =
      and-both (list == list && odt == odt) (e == e) both (eq-eqb e e refl) in
      ap (λ (q : Pointer). at_write q el) here ∙ ap (at_write (At list odt e)) is
      ∙ ap (λ (b : Bool). if b then Some (Is x) else None) all

  -- entries that are written one behind the other
  abbrev writes_at : Pointer → (ℕ → Option Element) → ℕ → ℕ → List Fact
  writes_at p element a n = map (λ i. write_at (moved i p) (element i)) (range_with_len a n)

  abbrev newest_at : Pointer → (ℕ → Option Element) → ℕ → ℕ → Option KnownEntry
  newest_at p element a n = newest (entry_said list odt e) (writes_at p element a n)

  writes-none : (p : Pointer) (element : ℕ → Option Element) (n a : ℕ)
      → newest_at p element a n ≡ None
      → (j : ℕ) → a ≤ j → j < a + n → may_be list odt e (moved j p) ≡ false
  writes-none p element zero a none j from below = absurd (omega arith)
  writes-none p element (suc n) a none j from below =
      let first = at_write (moved a p) (element a) in
      let both = both-none (newest_at p element (a + 1) n) first none in
      elim (cases_lt a j) [
        | inl more ↦ writes-none p element n (a + 1) both.left j (omega arith) (omega arith)
        | inr upto ↦
            let same : a ≡ j = omega arith in
            ap (λ (k : ℕ). may_be list odt e (moved k p)) (sym same)
            ∙ write-none (moved a p) (element a) both.right
      ]

  none-writes : (p : Pointer) (element : ℕ → Option Element) (n a : ℕ)
      → ((j : ℕ) → a ≤ j → j < a + n → may_be list odt e (moved j p) ≡ false)
      → newest_at p element a n ≡ None
  none-writes p element zero a none = refl
  none-writes p element (suc n) a none =
      let rest = none-writes p element n (a + 1)
      (λ j from below. none j (omega arith) (omega arith)) in
      ap (λ (said : Option KnownEntry). option_or said (at_write (moved a p) (element a))) rest
      ∙ none-write (moved a p) (element a) (none a (omega arith) (omega arith))

  -- the last of them that may be the entry
  record Last (p : Pointer) (element : ℕ → Option Element) (n a : ℕ) (x : Element) : Type 0 where
    i : ℕ
    from : a ≤ i
    few : i < a + n
    here : moved i p ≡ At list odt e
    is : element i ≡ Some x
    last : (j : ℕ) → i < j → j < a + n → may_be list odt e (moved j p) ≡ false

  -- by what those behind the first say
  last-by : (p : Pointer) (element : ℕ → Option Element) (n a : ℕ) (x : Element)
      → (newest_at p element (a + 1) n ≡ Some (Is x) → Last p element n (a + 1) x)
      → (rest : Option KnownEntry) → newest_at p element (a + 1) n ≡ rest
      → option_or rest (at_write (moved a p) (element a)) ≡ Some (Is x)
      → Last p element (suc n) a x
  last-by p element n a x more-of (Some k) is says =
      let more = more-of (is ∙ says) in
      record {
        i = more.i;
        from = omega (arith, more.from);
        few = omega (arith, more.few);
        here = more.here;
        is = more.is;
        last = λ j behind below. more.last j behind (omega arith);
      }
  last-by p element n a x more-of None is says =
      let one = write-is (moved a p) (element a) x says in
      record {
        i = a;
        from = omega arith;
        few = omega arith;
        here = one.here;
        is = one.is;
        last = λ j behind below. writes-none p element n (a + 1) is j (omega arith) (omega arith);
      }

  last-of : (p : Pointer) (element : ℕ → Option Element) (n a : ℕ) (x : Element)
      → newest_at p element a n ≡ Some (Is x) → Last p element n a x
  last-of p element zero a x says = absurd (nothing-not (Is x) says)
  last-of p element (suc n) a x says =
      last-by p element n a x (λ is. last-of p element n (a + 1) x is)
      (newest_at p element (a + 1) n) refl says

  of-last : (p : Pointer) (element : ℕ → Option Element) (n a : ℕ) (x : Element)
      → Last p element n a x → newest_at p element a n ≡ Some (Is x)
  of-last p element zero a x last = absurd (omega (arith, last.from, last.few))
  of-last p element (suc n) a x last = elim (cases_lt a last.i) [
    | inl more ↦
        let rest = of-last p element n (a + 1) x record {
          i = last.i;
          from = omega (arith, more);
          few = omega (arith, last.few);
          here = last.here;
          is = last.is;
          last = λ j behind below. last.last j behind (omega arith);
        } in
        ap (λ (said : Option KnownEntry). option_or said (at_write (moved a p) (element a))) rest
    | inr upto ↦
        let same : last.i ≡ a = omega (arith, upto, last.from) in
        let rest = none-writes p element n (a + 1)
        (λ j from below. last.last j (omega (arith, same, from)) (omega arith)) in
        ap (λ (said : Option KnownEntry). option_or said (at_write (moved a p) (element a))) rest
        ∙ is-write (moved a p) (element a) x (ap (λ (k : ℕ). moved k p) (sym same) ∙ last.here)
        (ap element (sym same) ∙ last.is)
  ]

  -- what an exchange says of the entry
  abbrev said : ByteOrder → Pointer → List ℕ → List ℕ → Command → Outcome → Option KnownEntry
  said order p c reply command outcome =
      newest (entry_said list odt e) (facts_of order p c reply command outcome)

  silent-if : (order : ByteOrder) (p : Pointer) (c reply : List ℕ) (command : Command)
      (outcome : Outcome) → said order p c reply command outcome ≡ None
      → frees command outcome ≡ false → IsSilent list odt e p command outcome
  silent-if order p c reply (WriteDaqMultiple n) Done none free = λ i few.
      writes-none p (element_at order c) n 0 none i (omega arith) (omega arith)
  silent-if order p c reply (WriteDaqMultiple n) Refused none free = λ i few.
      writes-none p (λ i. None) n 0 none i (omega arith) (omega arith)
  silent-if order p c reply (WriteDaqMultiple n) Unanswered none free = λ i few.
      writes-none p (λ i. None) n 0 none i (omega arith) (omega arith)
  silent-if order p c reply Missing outcome none free = absurd (false≢true (sym free))
  silent-if order p c reply FreeDaq Done none free = absurd (false≢true (sym free))
  silent-if order p c reply FreeDaq Refused none free = tt
  silent-if order p c reply FreeDaq Unanswered none free = absurd (false≢true (sym free))
  silent-if order p c reply AllocDaq Done none free = absurd (false≢true (sym free))
  silent-if order p c reply AllocDaq Refused none free = tt
  silent-if order p c reply AllocDaq Unanswered none free = absurd (false≢true (sym free))
  silent-if order p c reply (AllocOdt l n) Done none free = if-none (l == list) Unwritten none
  silent-if order p c reply (AllocOdt l n) Refused none free = tt
  silent-if order p c reply (AllocOdt l n) Unanswered none free = if-none (l == list) Open none
  silent-if order p c reply (AllocOdtEntry l o n) Done none free =
      if-none (l == list && o == odt) Unwritten none
  silent-if order p c reply (AllocOdtEntry l o n) Refused none free = tt
  silent-if order p c reply (AllocOdtEntry l o n) Unanswered none free =
      if-none (l == list) Open none
  silent-if order p c reply (ClearDaqList l) Done none free = if-none (l == list) Unwritten none
  silent-if order p c reply (ClearDaqList l) Refused none free = tt
  silent-if order p c reply (ClearDaqList l) Unanswered none free = if-none (l == list) Open none
  silent-if order p c reply (WriteDaq x) Done none free = write-none p (Some x) none
  silent-if order p c reply (WriteDaq x) Refused none free = tt
  silent-if order p c reply (WriteDaq x) Unanswered none free = write-none p None none
  silent-if order p c reply _ Done none free = tt
  silent-if order p c reply _ Refused none free = tt
  silent-if order p c reply _ Unanswered none free = tt

  silent-said : (order : ByteOrder) (p : Pointer) (c reply : List ℕ) (command : Command)
      (outcome : Outcome) → IsSilent list odt e p command outcome
      → said order p c reply command outcome ≡ None
  silent-said order p c reply (WriteDaqMultiple n) Done silent =
      none-writes p (element_at order c) n 0 (λ j from below. silent j (omega arith))
  silent-said order p c reply (WriteDaqMultiple n) Refused silent =
      none-writes p (λ i. None) n 0 (λ j from below. silent j (omega arith))
  silent-said order p c reply (WriteDaqMultiple n) Unanswered silent =
      none-writes p (λ i. None) n 0 (λ j from below. silent j (omega arith))
  silent-said order p c reply Missing outcome silent = absurd silent
  silent-said order p c reply FreeDaq Done silent = absurd silent
  silent-said order p c reply FreeDaq Refused silent = refl
  silent-said order p c reply FreeDaq Unanswered silent = absurd silent
  silent-said order p c reply AllocDaq Done silent = absurd silent
  silent-said order p c reply AllocDaq Refused silent = refl
  silent-said order p c reply AllocDaq Unanswered silent = absurd silent
  silent-said order p c reply (AllocOdt l n) Done silent = none-if (l == list) Unwritten silent
  silent-said order p c reply (AllocOdt l n) Refused silent = refl
  silent-said order p c reply (AllocOdt l n) Unanswered silent = none-if (l == list) Open silent
  silent-said order p c reply (AllocOdtEntry l o n) Done silent =
      none-if (l == list && o == odt) Unwritten silent
  silent-said order p c reply (AllocOdtEntry l o n) Refused silent = refl
  silent-said order p c reply (AllocOdtEntry l o n) Unanswered silent =
      none-if (l == list) Open silent
  silent-said order p c reply (ClearDaqList l) Done silent = none-if (l == list) Unwritten silent
  silent-said order p c reply (ClearDaqList l) Refused silent = refl
  silent-said order p c reply (ClearDaqList l) Unanswered silent = none-if (l == list) Open silent
  silent-said order p c reply (WriteDaq x) Done silent = none-write p (Some x) silent
  silent-said order p c reply (WriteDaq x) Refused silent = refl
  silent-said order p c reply (WriteDaq x) Unanswered silent = none-write p None silent
  silent-said order p c (a ∷ pid ∷ rest) (StartStopDaqList l) Done silent = refl
  silent-said order p c _ (StartStopDaqList l) Done silent = refl
  silent-said order p c reply _ Done silent = refl
  silent-said order p c reply _ Refused silent = refl
  silent-said order p c reply _ Unanswered silent = refl

  silent-frees : (p : Pointer) (command : Command) (outcome : Outcome)
      → IsSilent list odt e p command outcome → frees command outcome ≡ false
  silent-frees p Missing outcome silent = absurd silent
  silent-frees p FreeDaq Done silent = absurd silent
  silent-frees p FreeDaq Refused silent = refl
  silent-frees p FreeDaq Unanswered silent = absurd silent
  silent-frees p AllocDaq Done silent = absurd silent
  silent-frees p AllocDaq Refused silent = refl
  silent-frees p AllocDaq Unanswered silent = absurd silent
  silent-frees p _ outcome silent = refl

  said-writes : (x : Element) (order : ByteOrder) (p : Pointer) (c reply : List ℕ)
      (command : Command) (outcome : Outcome) → said order p c reply command outcome ≡ Some (Is x)
      → Writes list odt e x order p c command outcome
  said-writes x order p c reply (WriteDaqMultiple n) Done says =
      let last = last-of p (element_at order c) n 0 x says in
      record {
        i = last.i;
        few = omega (arith, last.few);
        here = last.here;
        is = last.is;
        last = λ j behind below. last.last j behind (omega arith);
      }
  said-writes x order p c reply (WriteDaqMultiple n) Refused says =
      absurd (nothing-not x (last-of p (λ i. None) n 0 x says).is)
  said-writes x order p c reply (WriteDaqMultiple n) Unanswered says =
      absurd (nothing-not x (last-of p (λ i. None) n 0 x says).is)
  said-writes x order p c reply (WriteDaq y) Done says =
      let one = write-is p (Some y) x says in
      (one.here, same_Some y x one.is)
  said-writes x order p c reply (WriteDaq y) Refused says = absurd (nothing-not (Is x) says)
  said-writes x order p c reply (WriteDaq y) Unanswered says =
      absurd (nothing-not x (write-is p None x says).is)
  said-writes x order p c reply (AllocOdt l n) Done says =
      absurd (unwritten-not x (is-if (l == list) Unwritten (Is x) says).is)
  said-writes x order p c reply (AllocOdt l n) Refused says = absurd (nothing-not (Is x) says)
  said-writes x order p c reply (AllocOdt l n) Unanswered says =
      absurd (open-not x (is-if (l == list) Open (Is x) says).is)
  said-writes x order p c reply (AllocOdtEntry l o n) Done says =
      absurd (unwritten-not x (is-if (l == list && o == odt) Unwritten (Is x) says).is)
  said-writes x order p c reply (AllocOdtEntry l o n) Refused says =
      absurd (nothing-not (Is x) says)
  said-writes x order p c reply (AllocOdtEntry l o n) Unanswered says =
      absurd (open-not x (is-if (l == list) Open (Is x) says).is)
  said-writes x order p c reply (ClearDaqList l) Done says =
      absurd (unwritten-not x (is-if (l == list) Unwritten (Is x) says).is)
  said-writes x order p c reply (ClearDaqList l) Refused says = absurd (nothing-not (Is x) says)
  said-writes x order p c reply (ClearDaqList l) Unanswered says =
      absurd (open-not x (is-if (l == list) Open (Is x) says).is)
  said-writes x order p c (a ∷ pid ∷ rest) (StartStopDaqList l) Done says =
      absurd (nothing-not (Is x) says)
  said-writes x order p c _ (StartStopDaqList l) Done says = absurd (nothing-not (Is x) says)
  said-writes x order p c reply _ Done says = absurd (nothing-not (Is x) says)
  said-writes x order p c reply _ Refused says = absurd (nothing-not (Is x) says)
  said-writes x order p c reply _ Unanswered says = absurd (nothing-not (Is x) says)

  writes-said : (x : Element) (order : ByteOrder) (p : Pointer) (c reply : List ℕ)
      (command : Command) (outcome : Outcome) → Writes list odt e x order p c command outcome
      → said order p c reply command outcome ≡ Some (Is x)
  writes-said x order p c reply (WriteDaqMultiple n) Done one =
      of-last p (element_at order c) n 0 x record {
        i = one.i;
        from = omega arith;
        few = omega (arith, one.few);
        here = one.here;
        is = one.is;
        last = λ j behind below. one.last j behind (omega arith);
      }
  writes-said x order p c reply (WriteDaq y) Done one =
      is-write p (Some y) x one.0 (ap (λ (z : Element). Some z) one.1)
  writes-said x order p c reply _ _ one = absurd one

  -- what an exchange behind others says
  abbrev said_at : Form → List Exchange → Exchange → Option KnownEntry
  said_at given before y =
      said (form_after given before).order (pointer_after given before) y.0 (reply_of y.1)
      (command_of (form_after given before).order y.0) (outcome_of y.1)

  abbrev frees_at : Form → List Exchange → Exchange → Bool
  frees_at given before y =
      frees (command_of (form_after given before).order y.0) (outcome_of y.1)

  abbrev known_after : Form → List Exchange → Option KnownEntry
  known_after given xs = newest (entry_said list odt e) (facts_after given xs)

  -- what was known before it, unless it frees all
  abbrev known_if : Form → List Exchange → Bool → Option KnownEntry
  known_if given before free =
      newest (entry_said list odt e) (if free then [] else facts_after given before)

  known-behind : (given : Form) (y : Exchange) (before : List Exchange)
      → known_after given (y ∷ before)
      ≡ option_or (said_at given before y) (known_if given before (frees_at given before y))
  known-behind given y before =
      newest-append (entry_said list odt e)
      (if frees_at given before y then [] else facts_after given before)
      (facts_of (form_after given before).order (pointer_after given before) y.0 (reply_of y.1)
      (command_of (form_after given before).order y.0) (outcome_of y.1))

  -- the newest one is the write
  written-here : (given : Form) (x : Element) (y : Exchange) (before : List Exchange)
      → said_at given before y ≡ Some (Is x) → IsWritten given (y ∷ before) list odt e x
  written-here given x y before says = record {
    later = [];
    write = y;
    before = before;
    split = refl;
    writes = said-writes x (form_after given before).order (pointer_after given before) y.0
        (reply_of y.1) (command_of (form_after given before).order y.0) (outcome_of y.1) says;
    silent = λ newer older z split. absurd (none-in newer older z split);
  }

  -- or it says nothing, and an older one is
  silent-more : (given : Form) (x : Element) (y : Exchange) (before : List Exchange)
      (w : IsWritten given before list odt e x) → SaysNothing given before y list odt e
      → (newer older : List Exchange) (z : Exchange) → y ∷ w.later ≡ newer ++ z ∷ older
      → SaysNothing given (older ++ w.write ∷ w.before) z list odt e
  silent-more given x y before w silent [] older z split =
      let same : y ≡ z = cc in
      let others : w.later ≡ older = cc in
      let there = w.split ∙ ap (λ (xs : List Exchange). xs ++ w.write ∷ w.before) others in
      subst (λ (v : Exchange). SaysNothing given (older ++ w.write ∷ w.before) v list odt e) same
      (subst (λ (xs : List Exchange). SaysNothing given xs y list odt e) there silent)
  silent-more given x y before w silent (n ∷ newer) older z split =
      let others : w.later ≡ newer ++ z ∷ older = cc in
      w.silent newer older z others

  written-behind : (given : Form) (x : Element) (y : Exchange) (before : List Exchange)
      → said_at given before y ≡ None → frees_at given before y ≡ false
      → IsWritten given before list odt e x → IsWritten given (y ∷ before) list odt e x
  written-behind given x y before says free w =
      let silent = silent-if (form_after given before).order (pointer_after given before) y.0
      (reply_of y.1) (command_of (form_after given before).order y.0) (outcome_of y.1) says free in
      record {
        later = y ∷ w.later;
        write = w.write;
        before = w.before;
        split = ap (λ (xs : List Exchange). y ∷ xs) w.split;
        writes = w.writes;
        silent = silent-more given x y before w silent;
      }

  written-by : (given : Form) (x : Element) (y : Exchange) (before : List Exchange)
      → (entry_or_open (known_after given before) ≡ Is x → IsWritten given before list odt e x)
      → (says : Option KnownEntry) (free : Bool) → said_at given before y ≡ says
      → frees_at given before y ≡ free
      → entry_or_open (option_or says (known_if given before free)) ≡ Is x
      → IsWritten given (y ∷ before) list odt e x
  written-by given x y before older (Some k) free is frees known =
      written-here given x y before (is ∙ ap (λ (it : KnownEntry). Some it) known)
  written-by given x y before older None true is frees known = absurd (open-not x known)
  written-by given x y before older None false is frees known =
      written-behind given x y before is frees (older known)

  written-in : (given : Form) (all : List Exchange) (x : Element)
      → entry_or_open (known_after given all) ≡ Is x → IsWritten given all list odt e x
  written-in given [] x known = absurd (open-not x known)
  written-in given (y ∷ before) x known =
      written-by given x y before (λ is. written-in given before x is) (said_at given before y)
      (frees_at given before y) refl refl
      (ap entry_or_open (sym (known-behind given y before)) ∙ known)

  -- and the other way round
  known-in : (given : Form) (later before : List Exchange) (write : Exchange) (x : Element)
      → WritesEntry given before write list odt e x
      → ((newer older : List Exchange) (y : Exchange) → later ≡ newer ++ y ∷ older
      → SaysNothing given (older ++ write ∷ before) y list odt e)
      → known_after given (later ++ write ∷ before) ≡ Some (Is x)
  known-in given [] before write x writes silent =
      let order = (form_after given before).order in
      let rest = known_if given before (frees_at given before write) in
      known-behind given write before
      ∙ ap (λ (says : Option KnownEntry). option_or says rest)
      (writes-said x order (pointer_after given before) write.0 (reply_of write.1)
      (command_of order write.0) (outcome_of write.1) writes)
  known-in given (y ∷ later) before write x writes silent =
      let there = later ++ write ∷ before in
      let order = (form_after given there).order in
      let p = pointer_after given there in
      let rest = known_if given there (frees_at given there y) in
      let here = silent [] later y refl in
      known-behind given y there
      ∙ ap (λ (says : Option KnownEntry). option_or says rest)
      (silent-said order p y.0 (reply_of y.1) (command_of order y.0) (outcome_of y.1) here)
      ∙ ap (known_if given there) (silent-frees p (command_of order y.0) (outcome_of y.1) here)
      ∙ known-in given later before write x writes
      (λ newer older z split.
      silent (y ∷ newer) older z (ap (λ (xs : List Exchange). y ∷ xs) split))

pub known_is_written : KnownIsWritten
known_is_written given all list odt e x known = written-in list odt e given all x known

pub written_is_known : WrittenIsKnown
written_is_known given all list odt e x w =
    ap (λ (xs : List Exchange). entry_or_open (known_after list odt e given xs)) w.split
    ∙ ap entry_or_open (known-in list odt e given w.later w.before w.write x w.writes w.silent)
