use Rattle.std.proofs.Common.{◌≡◌, ◌∙◌, ◌-◌, ◌+◌, ◌≤◌, ℕ, suc, List, [], ◌∷◌, length, take, drop, sym, ap, subst, arith, length-drop, true, false}
use Rattle.daq_store.specs.declared.command.Command.{Command}
use Rattle.daq_store.specs.declared.command.Command.TheVariants.{WriteDaq}
use Rattle.session.specs.Replies.{is_error}
use Rattle.session.specs.Requests.{write_of, writes}
use Rattle.session.specs.Standing.{SessionState}
use Rattle.session.proofs.ReplyLemmas.{OnTheWay, way_ends, way_on, way_stops, writes_next}
use Rattle.session.proofs.session.Session.write_multiple.Goals as goal

-- the writes that are left, the next of them apart
next_apart : (n i : ℕ) (left front : List ℕ) (call : Command) → suc i ≤ n → front ≡ take 8 left → write_of front ≡ call
    → writes (n - i) left ≡ call ∷ writes (n - (i + 1)) (drop 8 left)
next_apart n i left front call h is reads =
    let e : n - i ≡ suc (n - (i + 1)) = omega (arith, h) in
    writes_next (n - i) (n - (i + 1)) left e ∙ ap (λ w. w ∷ writes (n - (i + 1)) (drop 8 left)) (ap write_of (sym is) ∙ reads)

-- the write that is refused answers for all
pub returns-then-is_error-clause-reply : goal.returns-then-is_error-clause-reply
returns-then-is_error-clause-reply c = λ past h.
    let old : SessionState = c.args.self.now in
    let n : ℕ = c.args.count in
    let i : ℕ = c.loop-i.i in
    let left : List ℕ = c.loop-i.left.now in
    let f = c.fields_of-fields.result in
    let call : Command = WriteDaq f.0 f.1 f.2 f.3 in
    let all : List Command = writes n c.args.entries.now in
    let reads : write_of c.split_at.result.0.now ≡ call = c.fields_of-fields.ensures in
    let apart = next_apart n i left c.split_at.result.0.now call (omega (arith, c.loop-i-test.true)) c.split_at.ensures.front reads in
    let P : List Command → Type 0 = λ ws. OnTheWay old c.loop-i.self past all ws in
    let bad : is_error c.write_entry-reply.result ≡ true = sym c.is_error.ensures ∙ c.if-is_error.true in
    let end = way_stops old c.loop-i.self c.write_entry-reply.new.self past all (writes (n - (i + 1)) (drop 8 left)) call c.write_entry-reply.result c.loop-i.invariant.profile c.write_entry-reply.ensures.reply bad (subst P apart (c.loop-i.invariant.way past h)) in
    (c.of_store.ensures.value ∙ end.0, end.1)

-- one write more is done
pub loop-i-preserved : goal.loop-i-preserved
loop-i-preserved c =
    let old : SessionState = c.args.self.now in
    let n : ℕ = c.args.count in
    let i : ℕ = c.loop-i.i in
    let left : List ℕ = c.loop-i.left.now in
    let f = c.fields_of-fields.result in
    let call : Command = WriteDaq f.0 f.1 f.2 f.3 in
    let all : List Command = writes n c.args.entries.now in
    let reads : write_of c.split_at.result.0.now ≡ call = c.fields_of-fields.ensures in
    let apart = next_apart n i left c.split_at.result.0.now call (omega (arith, c.loop-i-test.true)) c.split_at.ensures.front reads in
    let fine : is_error c.write_entry-reply.result ≡ false = sym c.is_error.ensures ∙ c.if-is_error.false in
    record {
      profile = c.write_entry-reply.ensures.profile_stays ∙ c.loop-i.invariant.profile;
      there = omega (arith, c.loop-i.invariant.there, c.loop-i-test.true, ap length c.split_at.ensures.back, length-drop 8 left);
      way = λ past h.
          let P : List Command → Type 0 = λ ws. OnTheWay old c.loop-i.self past all ws in
          let Q : List ℕ → Type 0 = λ bs. OnTheWay old c.write_entry-reply.new.self past all (writes (n - (i + 1)) bs) in
          subst Q (sym c.split_at.ensures.back) (way_on old c.loop-i.self c.write_entry-reply.new.self past all (writes (n - (i + 1)) (drop 8 left)) call c.write_entry-reply.result c.loop-i.invariant.profile c.write_entry-reply.ensures.reply fine (subst P apart (c.loop-i.invariant.way past h)));
    }

-- all writes are done
pub returns-clause-reply : goal.returns-clause-reply
returns-clause-reply c = λ past h.
    let old : SessionState = c.args.self.now in
    let n : ℕ = c.args.count in
    let i : ℕ = c.loop-i.i in
    let left : List ℕ = c.loop-i.left.now in
    let all : List Command = writes n c.args.entries.now in
    let over : n - i ≡ 0 = omega (arith, c.loop-i-test.false) in
    let none : writes (n - i) left ≡ [] = ap (λ m. writes m left) over in
    let P : List Command → Type 0 = λ ws. OnTheWay old c.loop-i.self past all ws in
    let end = way_ends old c.loop-i.self past all (subst P none (c.loop-i.invariant.way past h)) in
    (c.positive.ensures ∙ end.0, end.1)
