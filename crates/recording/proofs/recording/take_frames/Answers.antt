use Rattle.std.proofs.Common.{rules, ◌≡◌, ◌≤◌, ◌<◌, ap, sym, subst, ◌∙◌, length, arith}
use Rattle.std.specs.Prelude.{IfErr}
use Rattle.daq_reader.specs.Reads.{IsFaultOf}
use Rattle.recording.specs.Pieces.{counter_at, unread_at}
use Rattle.recording.proofs.PieceLemmas.{left_at, no_longer, read_at}
use Rattle.recording.proofs.recording.take_frames.Given.{Over}
use Rattle.recording.proofs.recording.take_frames.Goals as goal

-- the bytes that are left were there
pub overflow_sub-taken : goal.overflow_sub-taken
overflow_sub-taken g c =
    let read = c.read-outcome.ensures.read c.requires.stands.packets c.requires.stands.stands in
    let fewer : length c.read-outcome.new.unread.rest ≤ length c.new-unread.result.rest = no_longer _ _ _ _ _ read in
    let all : length c.new-unread.result.rest ≡ c.len.result = search rules in
    let left : length c.rest-left.result.now ≡ length c.read-outcome.new.unread.rest = ap length c.rest-left.ensures in
    omega (arith, fewer, all, left)

-- what is left stands at the place and in the bytes behind the frames
left_behind : (g : Over) (c : goal.After-piece-1 g) → c.read-outcome.new.unread ≡ unread_at c.behind-piece.result c.drop_front.new.held.items
left_behind g c =
    let at = c.requires.stands in
    let read = c.read-outcome.ensures.read at.packets at.stands in
    let place = c.args.piece.now.place in
    let held = c.args.piece.now.bytes.items in
    let first : c.new-unread.result ≡ unread_at place held = search rules in
    let fewer : length c.read-outcome.new.unread.rest ≤ length c.new-unread.result.rest = no_longer _ _ _ _ _ read in
    let all : length c.new-unread.result.rest ≡ length held = search rules in
    let len : c.len.result ≡ length held = search rules in
    let left : length c.rest-left.result.now ≡ length c.read-outcome.new.unread.rest = ap length c.rest-left.ensures in
    let counter : c.counter.result ≡ c.read-outcome.new.unread.counter = c.counter.ensures in
    let small : c.counter.result < 65536 = c.counter.type_inv in
    let start : c.counter-counter.result ≡ counter_at place = c.counter-counter.ensures in
    left_at _ at.packets _ place held c.drop_front.new.held.items c.new-unread.result c.read-outcome.new.unread _ _ read first c.drop_front.ensures
    (omega (arith, fewer, all, len, left)) (omega (arith, counter, small)) (omega (arith, counter, small, start)) ∙ ap (λ p. unread_at p c.drop_front.new.held.items) (sym c.behind-piece.ensures)

-- the place and the bytes that are kept are those behind the frames
pub returns-clause-read : goal.returns-clause-read
returns-clause-read g c = λ qs stands.
    read_at _ qs _ c.new-unread.result c.read-outcome.new.unread _ _ (c.read-outcome.ensures.read qs stands) (search rules) (left_behind g c)

-- a fault is one of the bytes that are kept
pub returns-clause-fault : goal.returns-clause-fault
returns-clause-fault g c = subst (λ u. IfErr c.read-outcome.result (IsFaultOf c.read-outcome.new.reader u)) (left_behind g c) c.read-outcome.ensures.fault
