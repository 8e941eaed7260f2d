-- Entries that are written, and read again.
use Rattle.std.proofs.Common.{◌≡◌, ◌∙◌, ℕ, ◌+◌, [], ◌∷◌, Bool, true, false, if◌then◌else◌, List, Option, Some, None, is_none, option_and_then, refl, ap, arith}
use Rattle.std.specs.Prelude.{◌==◌, ◌&&◌, ◌||◌, not, nat_lt}
use Rattle.std.proofs.lemmas.Bool.Decides.{nat_tests}
use Rattle.xcp_base.specs.declared.err_code.ErrCode.TheVariants.{DaqActive, OutOfRange, Sequence}
use Rattle.xcp_base.specs.Forms.{most_entry}
use Rattle.segments.specs.Places.{segment_of}
use Rattle.daq_store.specs.declared.command.Command.{Command}
use Rattle.daq_store.specs.declared.command.Command.TheVariants.{ReadDaq, SetDaqPtr, WriteDaq}
use Rattle.daq_store.specs.declared.reply.Reply.TheVariants.{Positive}
use Rattle.daq_store.specs.declared.entry.Entry.{Entry}
use Rattle.daq_store.specs.Answer.{answer, first_failing, is_active_at, is_bad_entry, reply_by}
use Rattle.daq_store.specs.Answer.{read_reply as read_reply_of}
use Rattle.daq_store.specs.Entries.{last_write, pointed}
use Rattle.daq_store.specs.Shape.{entry_count, has_odt}
use Rattle.daq_store.specs.Commands.{dword}
use Rattle.daq_store.specs.Pointer.{pointer, points_at}
use Rattle.daq_store.specs.Replies.{reply_bytes}
use Rattle.session.specs.Exchanges.{greeting_reply, read_reply}
use Rattle.session.specs.Laws.{NowhereIsOutOfRange, ShowsWhatIsWritten}
use Rattle.session.specs.Profiles.{lists_of, segments_of}
use Rattle.session.specs.Requests.{request}

-- a test behind others
last_of_four : (a b c d : Bool) → d ≡ true → (a || b || c || d) ≡ true
last_of_four true b c d h = refl
last_of_four false true c d h = refl
last_of_four false false true d h = refl
last_of_four false false false d h = h

-- the third check fails, and none before it
third_fails : (x y z : Bool) → x ≡ false → y ≡ false → z ≡ true
    → first_failing ((x, DaqActive) ∷ (y, Sequence) ∷ (z, OutOfRange) ∷ []) ≡ Some OutOfRange
third_fails true y z a b c = absurd (cc)
third_fails false true z a b c = absurd (cc)
third_fails false false false a b c = absurd (cc)
third_fails false false true a b c = refl

pub nowhere_is_out_of_range : NowhereIsOutOfRange
nowhere_is_out_of_range d past given may bit size ext i j k l more nowhere =
    let packet : List ℕ = 0xE1 ∷ bit ∷ size ∷ ext ∷ i ∷ j ∷ k ∷ l ∷ more in
    let bad : is_bad_entry (lists_of d) bit size ext (dword i j k l) ≡ true =
    last_of_four (not (bit == 0xFF)) (size == 0) (nat_lt (most_entry (lists_of d).form) size) (is_none (segment_of (segments_of d) ext (dword i j k l) size)) (ap is_none nowhere) in
    ap (λ b. if b then Some (read_reply d past given packet (request d.max_cto packet)) else greeting_reply d (request d.max_cto packet)) may.connected
    ∙ ap (λ f. Some (reply_bytes (reply_by Positive f)))
    (third_fails (is_active_at past.calls (pointer past.calls)) (is_none (pointer past.calls)) (is_bad_entry (lists_of d) bit size ext (dword i j k l)) may.stopped may.pointed bad)

-- a pointer that is set to an entry is there
pointer-set : (earlier : List Command) (l k e : ℕ) → nat_lt e (entry_count earlier l k) ≡ true → pointer (SetDaqPtr l k e ∷ earlier) ≡ Some (l, k, e)
pointer-set earlier l k e inside =
    let At : Type 0 = ℕ × ℕ × ℕ in
    let no_steps : e + 0 ≡ e = omega arith in
    let f : ℕ → Option At = λ n. if nat_lt n (entry_count earlier l k) then Some (l, k, n) else None in
    let g : Bool → Option At = λ b. if b then Some (l, k, e) else None in
    ap f no_steps ∙ ap g inside

points-there : (l k e : ℕ) → points_at (Some (l, k, e)) l k e ≡ true
points-there l k e = grind (arith, nat_tests)

second_true : (a b : Bool) → (a && b) ≡ true → b ≡ true
second_true true b h = h
second_true false b h = absurd (cc)

-- what is written at an entry stands at it
pointed-write : (earlier : List Command) (l k e bit size ext addr : ℕ) → nat_lt e (entry_count earlier l k) ≡ true
    → pointed (SetDaqPtr l k e ∷ WriteDaq bit size ext addr ∷ SetDaqPtr l k e ∷ earlier) ≡ Some (record { extension = ext; address = addr; size = size })
pointed-write earlier l k e bit size ext addr inside =
    let At : Type 0 = ℕ × ℕ × ℕ in
    let before : List Command = SetDaqPtr l k e ∷ earlier in
    let all : List Command = SetDaqPtr l k e ∷ WriteDaq bit size ext addr ∷ before in
    let entry : Entry = record { extension = ext; address = addr; size = size } in
    let read : Option At → Option Entry = λ o. option_and_then (λ (p : At). last_write all p.0 p.1 p.2) o in
    let written : Bool → Option Entry = λ b. if b then Some entry else last_write before l k e in
    ap read (pointer-set (WriteDaq bit size ext addr ∷ before) l k e inside)
    ∙ ap written (ap (λ (o : Option At). points_at o l k e) (pointer-set earlier l k e inside) ∙ points-there l k e)

pub shows_what_is_written : ShowsWhatIsWritten
shows_what_is_written d past given connected earlier l k e bit size ext addr more there calls =
    let packet : List ℕ = 0xDB ∷ more in
    let before : List Command = SetDaqPtr l k e ∷ earlier in
    let all : List Command = SetDaqPtr l k e ∷ WriteDaq bit size ext addr ∷ before in
    let inside = second_true (has_odt earlier l k) (nat_lt e (entry_count earlier l k)) there in
    let fine : is_none (pointer all) ≡ false = ap is_none (pointer-set (WriteDaq bit size ext addr ∷ before) l k e inside) in
    ap (λ b. if b then Some (read_reply d past given packet (request d.max_cto packet)) else greeting_reply d (request d.max_cto packet)) connected
    ∙ ap (λ cs. Some (reply_bytes (answer (lists_of d) cs ReadDaq))) calls
    ∙ ap (λ b. Some (reply_bytes (reply_by (read_reply_of (pointed all)) (first_failing ((b, Sequence) ∷ []))))) fine
    ∙ ap (λ o. Some (reply_bytes (read_reply_of o))) (pointed-write earlier l k e bit size ext addr inside)
