-- Laws of set-ups: which exchanges leave no trace. They look at the places of exchanges, with the
-- newest in front.
use Rattle.std.specs.Prelude.{◌≡◌, ℕ, Bool, true, false, not, ◌&&◌, ◌||◌, List, [], ◌∷◌}
use Rattle.std.specs.Prelude.{◌++◌, Option, Some, None}
use Rattle.captured_session.specs.Codes.{is_of}
use Rattle.captured_session.specs.Exchanges.{Exchange, is_missing, is_synched}
use Rattle.captured_session.specs.SetUps.{facts_after, form_after, pointer_after, set_up_after}
use Rattle.captured_session.specs.declared.form.Form.{Form}

-- it isn't known whether a command was carried out: there is no reply, or that to SYNCH
abbrev pub is_open : Option (List ℕ) → Bool
is_open None = true
is_open (Some reply) = is_synched reply

-- a reply that isn't positive, and isn't that to SYNCH
abbrev pub is_refused : Option (List ℕ) → Bool
is_refused None = false
is_refused (Some reply) = not (is_of 0xFF 1 reply) && not (is_synched reply)

-- a refused command changes nothing of what is known, wherever it stands; but not SET_DAQ_PTR,
-- whose code is 0xE2, and WRITE_DAQ_MULTIPLE, whose code is 0xC7; nor one that is missing
abbrev pub RefusedChangesNothing : Type 0
RefusedChangesNothing =
    (given : Form) (later before : List Exchange) (c : List ℕ) (reply : Option (List ℕ))
    → is_refused reply ≡ true → is_of 0xE2 6 c ≡ false → is_of 0xC7 2 c ≡ false
    → is_missing c ≡ false
    → set_up_after given (later ++ (c, reply) ∷ before) ≡ set_up_after given (later ++ before)

-- a command that is missing; or a FREE_DAQ that wasn't refused
abbrev pub frees_all : Exchange → Bool
frees_all (c, reply) = is_missing c || (is_of 0xD6 1 c && not (is_refused reply))

-- an ALLOC_DAQ that wasn't refused
abbrev pub allocs_lists : Exchange → Bool
allocs_lists (c, reply) = is_of 0xD5 1 c && not (is_refused reply)

-- of what came before one of the former, nothing counts but how packets look: two histories in
-- which they look the same there lead to the same
abbrev pub FreeDaqForgets : Type 0
FreeDaqForgets =
    (given other : Form) (later before earlier : List Exchange) (x : Exchange)
    → frees_all x ≡ true → form_after given before ≡ form_after other earlier
    → set_up_after given (later ++ x ∷ before) ≡ set_up_after other (later ++ x ∷ earlier)

-- of what came before one of the latter, nothing but that and where the next entry is written
abbrev pub AllocDaqForgets : Type 0
AllocDaqForgets =
    (given other : Form) (later before earlier : List Exchange) (x : Exchange)
    → allocs_lists x ≡ true → form_after given before ≡ form_after other earlier
    → pointer_after given before ≡ pointer_after other earlier
    → set_up_after given (later ++ x ∷ before) ≡ set_up_after other (later ++ x ∷ earlier)

-- right behind either of them no fact is known
abbrev pub NothingIsKnown : Type 0
NothingIsKnown =
    (given : Form) (before : List Exchange) (x : Exchange)
    → (frees_all x || allocs_lists x) ≡ true → facts_after given (x ∷ before) ≡ []
