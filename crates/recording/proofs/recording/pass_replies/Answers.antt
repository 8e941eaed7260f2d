use Rattle.std.proofs.Common.{rules, ◌≡◌, ◌<◌, Bool, true, false, length, drop, Result, Ok, Err, subst, sym}
use Rattle.std.specs.Io.{StartsWith}
use Rattle.std.specs.Io.KnownBytes.{Consumes, IsAtEnd}
use Rattle.recording.proofs.FrontLemmas.{all_is_front, front_is_there, if_ok, left_behind_front, still_unread}
use Rattle.recording.proofs.recording.pass_replies.Goals as goal

-- what is read is no fault
no_fault : {T F : Type 0} (x : T) (f : F) → ◌≡◌ {A = Result T F} (Ok x) (Err f) → ⊥
no_fault x f is = cc

not_both : (b : Bool) → b ≡ true → b ≡ false → ⊥
not_both b is other = cc

-- all that was there is a front of the replies
pub returns-then-not-begins_with-clause-within : goal.returns-then-not-begins_with-clause-within
returns-then-not-begins_with-clause-within g c = λ is.
    let read : c.front_from.result ≡ Ok c.in_ok-bytes.bytes = search rules in
    let taken = if_ok c.front_from.result c.in_ok-bytes.bytes (λ b. Consumes (g.I.Read.remaining c.args.input.now) (g.I.Read.remaining c.front_from.new.input) b.items) read c.front_from.ensures.taken in
    let end = if_ok c.front_from.result c.in_ok-bytes.bytes (λ b. length b.items < length c.args.replies.now → IsAtEnd (g.I.Read.remaining c.front_from.new.input)) read c.front_from.ensures.all in
    all_is_front _ _ _ _ taken end (search rules) (subst (λ xs. StartsWith c.args.replies.now xs) c.deref-then-not-begins_with.ensures.value (c.fault_of_front.ensures.within.0 (search rules)))

-- where the replies are there, they are found
pub returns-then-not-begins_with-clause-passed : goal.returns-then-not-begins_with-clause-passed
returns-then-not-begins_with-clause-passed g c = λ behind is.
    let read : c.front_from.result ≡ Ok c.in_ok-bytes.bytes = search rules in
    let taken = if_ok c.front_from.result c.in_ok-bytes.bytes (λ b. Consumes (g.I.Read.remaining c.args.input.now) (g.I.Read.remaining c.front_from.new.input) b.items) read c.front_from.ensures.taken in
    let end = if_ok c.front_from.result c.in_ok-bytes.bytes (λ b. length b.items < length c.args.replies.now → IsAtEnd (g.I.Read.remaining c.front_from.new.input)) read c.front_from.ensures.all in
    let there = front_is_there _ _ c.args.replies.now behind c.in_ok-bytes.bytes.items is taken end in
    absurd (not_both c.begins_with.result (c.begins_with.ensures.1 (subst (λ xs. StartsWith xs c.args.replies.now) (sym c.deref.ensures.value) there)) c.if-not-begins_with.true)

-- and what stands behind them is left
pub returns-clause-passed : goal.returns-clause-passed
returns-clause-passed g c = λ behind is.
    let read : c.front_from.result ≡ Ok c.in_ok-bytes.bytes = search rules in
    let taken = if_ok c.front_from.result c.in_ok-bytes.bytes (λ b. Consumes (g.I.Read.remaining c.args.input.now) (g.I.Read.remaining c.front_from.new.input) b.items) read c.front_from.ensures.taken in
    let starts : StartsWith c.in_ok-bytes.bytes.items c.args.replies.now = subst (λ xs. StartsWith xs c.args.replies.now) c.deref.ensures.value (c.begins_with.ensures.0 c.if-not-begins_with.false) in
    let kept : c.drop_front.new.held.items ≡ drop (length c.args.replies.now) c.in_ok-bytes.bytes.items = c.drop_front.ensures in
    let left = left_behind_front _ _ c.args.replies.now behind c.in_ok-bytes.bytes.items c.drop_front.new.held.items is taken starts kept in
    (no_fault _ _, no_fault _ _, still_unread _ (record { byte = length c.args.replies.now; frame = c.args.frames }) c.drop_front.new.held.items behind left)
