-- Laws of where the next entry is written. They look at the places of exchanges, with the newest in
-- front.
use Rattle.std.specs.Prelude.{◌≡◌, ℕ, ◌<◌, ◌&&◌, ◌||◌, not, Bool, true, false, if◌then◌else◌, All}
use Rattle.std.specs.Prelude.{List, ◌∷◌, ◌++◌, Option, slice_index}
use Rattle.std.specs.List.{sum_by}
use Rattle.captured_session.specs.Codes.{has_positive, is_of}
use Rattle.captured_session.specs.Commands.{word}
use Rattle.captured_session.specs.Exchanges.{Exchange, is_missing}
use Rattle.captured_session.specs.LawsOfSetUps.{is_open, is_refused}
use Rattle.captured_session.specs.SetUps.{form_after, moved, pointer_after}
use Rattle.captured_session.specs.declared.form.Form.{Form}
use Rattle.captured_session.specs.declared.pointer.Pointer.TheVariants.{At}

-- how many entries were written: one by WRITE_DAQ, and by WRITE_DAQ_MULTIPLE as many as its byte 1
-- says
abbrev pub entries_in : List ℕ → ℕ
entries_in c =
    if is_of 0xE1 8 c then 1 else if is_of 0xC7 2 c then slice_index c 1 else 0

abbrev pub entries_written : Exchange → ℕ
entries_written (c, reply) = if has_positive 1 reply then entries_in c else 0

-- what sets the pointer, or leaves it unknown: a command that is missing; SET_DAQ_PTR; FREE_DAQ,
-- unless it was refused; WRITE_DAQ without a reply; and WRITE_DAQ_MULTIPLE, if it wasn't carried
-- out
abbrev pub sets_pointer : Exchange → Bool
sets_pointer (c, reply) =
    is_missing c || is_of 0xE2 6 c || (is_of 0xD6 1 c && not (is_refused reply))
    || (is_of 0xE1 8 c && is_open reply) || (is_of 0xC7 2 c && not (has_positive 1 reply))

-- behind a SET_DAQ_PTR that was carried out, and behind which nothing else set the pointer, that is
-- as many entries on as were written
abbrev pub PointerMoves : Type 0
PointerMoves =
    (given : Form) (later before : List Exchange) (c : List ℕ) (reply : Option (List ℕ))
    → is_of 0xE2 6 c ≡ true → slice_index c 5 < 256 → has_positive 1 reply ≡ true
    → All (λ x. sets_pointer x ≡ false) later
    → pointer_after given (later ++ (c, reply) ∷ before)
    ≡ moved (sum_by entries_written later)
    (At (word (form_after given before).order (slice_index c 2) (slice_index c 3))
    (slice_index c 4) (slice_index c 5))
