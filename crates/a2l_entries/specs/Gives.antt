-- What reading answers, beside what the words say.
use Rattle.std.specs.Prelude.{◌≡◌, Option, Some, None, Result, Ok, Err}
use Rattle.a2l_entries.specs.declared.entry_fault.EntryFault.{EntryFault}
use Rattle.a2l_entries.specs.declared.entry_fault.EntryFault.TheVariants as entry

infixl 10 ◌>>=◌
abbrev pub ◌>>=◌ : {A B : Type 0} → Option A → (A → Option B) → Option B
None >>= f = None
(Some x) >>= f = f x

-- the words say nothing, unless memory ran out
abbrev pub Stops : {Y : Type 0} → EntryFault → Option Y → Type 0
Stops entry.Memory said = Unit {0}
Stops (entry.Awaited at what) said = said ≡ None
Stops (entry.Refused at what) said = said ≡ None

-- What was answered, by this view of it, is what the words say, unless memory ran out.
abbrev pub Gives : {X Y : Type 0} → (X → Y) → Result X EntryFault → Option Y → Type 0
Gives view (Ok x) said = said ≡ Some (view x)
Gives view (Err e) said = Stops e said
