use Rattle.std.proofs.Common.{◌∙◌, Err, ap, inr, rules, refl, subst, sym}
use Rattle.daq_reader.specs.Frames.{HasFrame}
use Rattle.recording.specs.declared.piece.Piece.{Piece}
use Rattle.recording.specs.declared.reason.Reason.TheVariants.{Read}
use Rattle.recording.specs.Pieces.{IsReason, Passes, unread_at, unread_of}
use Rattle.recording.proofs.BreakLemmas.{broken_at, no_break, not_ok}
use Rattle.recording.proofs.PassLemmas.{frames_pass, nothing_passed, read_pass, when_ok, where_ok}
use Rattle.recording.proofs.PieceLemmas.{stand_behind}
use Rattle.recording.proofs.WithinLemmas.{given_at_end, no_reason, passed_within}
use Rattle.recording.proofs.recording.read_frames.Given.{Over}
use Rattle.recording.proofs.recording.read_frames.Goals as goal

-- before the first piece
pub loop-init : goal.loop-init
loop-init g c = (c.requires.stands, search rules, nothing_passed _ _ _ _, refl, refl)

-- the reader and the samples stand after one piece more
pub loop-preserved : goal.loop-preserved
loop-preserved g c = (
  stand_behind _ _ _ _ _ _ c.loop.invariant.0 c.take_whole.ensures.read,
  c.in_ok-read_more.ensures.room_stays ∙ c.loop.invariant.1,
  read_pass _ _ _ _ _ _ _ _ _ _ c.loop.piece c.take_whole.new.piece (record { bytes = c.read_more.new.held; place = c.take_whole.new.piece.place }) c.loop.invariant.2 c.take_whole.ensures.read c.take_whole.ensures.byte refl c.in_ok-read_more.ensures.appends c.in_ok-read_more.ensures.taken,
  c.take_whole.ensures.lists ∙ c.loop.invariant.3,
  c.take_whole.ensures.kept ∙ c.loop.invariant.4,
)

-- a frame is refused
pub returns-in-Err-clause-broken : goal.returns-in-Err-clause-broken
returns-in-Err-clause-broken g c = λ at is. frames_pass _ _ _ _ _ _ _ _ _ c.loop.piece c.take_whole.new.piece c.loop.invariant.2 c.take_whole.ensures.read c.take_whole.ensures.byte

-- and that is the place of what is left, and the reason
pub returns-in-Err-clause-place : goal.returns-in-Err-clause-place
returns-in-Err-clause-place g c = λ at is. ap (λ a. a.place) (broken_at _ _ c.broken.result at c.broken.ensures is)

pub returns-in-Err-clause-why : goal.returns-in-Err-clause-why
returns-in-Err-clause-why g c = λ at is.
    subst (λ why. IsReason c.take_whole.new.reader (unread_of c.take_whole.new.piece) (g.I.Read.remaining c.loop.input) why) (sym (ap (λ a. a.why) (broken_at _ (Read c.in-Err.why) c.broken.result at c.broken.ensures is)))
    (c.in-Err.ensures.fault, λ torn. inr (c.take_whole.ensures.long (c.in-Err.is ∙ ap Err torn)))

-- what can't be read is no frame that is refused
pub returns-in_err-read_more-clause-broken : goal.returns-in_err-read_more-clause-broken
returns-in_err-read_more-clause-broken g c = λ at is. absurd (no_break c.from_residual.result _ at c.from_residual.ensures.1 c.in_err-read_more.ensures.fault is)

pub returns-in_err-read_more-clause-place : goal.returns-in_err-read_more-clause-place
returns-in_err-read_more-clause-place g c = λ at is. absurd (no_break c.from_residual.result _ at c.from_residual.ensures.1 c.in_err-read_more.ensures.fault is)

pub returns-in_err-read_more-clause-why : goal.returns-in_err-read_more-clause-why
returns-in_err-read_more-clause-why g c = λ at is. absurd (no_break c.from_residual.result _ at c.from_residual.ensures.1 c.in_err-read_more.ensures.fault is)

pub returns-in_err-read_more-clause-given : goal.returns-in_err-read_more-clause-given
returns-in_err-read_more-clause-given g c = λ before written left stands all is. (
  λ at e. no_break c.from_residual.result _ at c.from_residual.ensures.1 c.in_err-read_more.ensures.fault e,
  not_ok c.from_residual.result _ _ c.from_residual.ensures.1,
)

-- what is at hand once the end is met
abbrev last_piece : (g : Over) → goal.After-ended g → Piece
last_piece g c = record { bytes = c.read_more.new.held; place = c.take_whole.new.piece.place }

end_passes : (g : Over) (c : goal.After-ended g) → Passes c.args.reader.now (g.S.Samples.handed c.args.samples.now) c.take_whole.new.reader (g.S.Samples.handed c.take_whole.new.samples) (g.I.Read.remaining c.args.input.now) (g.I.Read.remaining c.read_more.new.input) c.args.piece.now (last_piece g c)
end_passes g c =
    read_pass _ _ _ _ _ _ _ _ _ _ c.loop.piece c.take_whole.new.piece (last_piece g c) c.loop.invariant.2 c.take_whole.ensures.read c.take_whole.ensures.byte refl c.in_ok-read_more.ensures.appends c.in_ok-read_more.ensures.taken

-- the end is met, and all is read
pub returns-then-branch-clause-read : goal.returns-then-branch-clause-read
returns-then-branch-clause-read g c = where_ok c.ended.result _ (end_passes g c)

pub returns-then-branch-clause-end : goal.returns-then-branch-clause-end
returns-then-branch-clause-end g c = where_ok c.ended.result _ (c.in_ok-read_more.ensures.end c.if-branch.true)

pub returns-then-branch-clause-all : goal.returns-then-branch-clause-all
returns-then-branch-clause-all g c = when_ok c.ended.result _ (λ ok. (c.ended.ensures.ok.0 ok).0)

pub returns-then-branch-clause-whole : goal.returns-then-branch-clause-whole
returns-then-branch-clause-whole g c = when_ok c.ended.result _ (λ ok. (c.ended.ensures.ok.0 ok).1)

-- the end is met, and something is left
pub returns-then-branch-clause-broken : goal.returns-then-branch-clause-broken
returns-then-branch-clause-broken g c = λ at is. end_passes g c

-- the end is met, and nothing more was read
pub returns-then-branch-clause-why : goal.returns-then-branch-clause-why
returns-then-branch-clause-why g c = λ at is.
    c.ended.ensures.why at (g.I.Read.remaining c.read_more.new.input) (c.in_ok-read_more.ensures.end c.if-branch.true)
    (λ n f. c.in_default.ensures.none n (subst (λ xs. HasFrame (unread_at c.take_whole.new.piece.place xs) n) (c.in_ok-read_more.ensures.nothing c.if-branch.true) f)) is

-- no frame of a recording of whole samples is refused
pub returns-in-Err-clause-given : goal.returns-in-Err-clause-given
returns-in-Err-clause-given g c = λ before written left stands all is.
    let passes = frames_pass _ _ _ _ _ _ _ _ _ c.loop.piece c.take_whole.new.piece c.loop.invariant.2 c.take_whole.ensures.read c.take_whole.ensures.byte in
    let within = passed_within written c.args.reader.now c.take_whole.new.reader before _ left _ _ c.args.piece.now c.take_whole.new.piece all is (passes before stands) (c.take_whole.ensures.lists ∙ c.loop.invariant.3) in
    (λ at e. no_reason written _ _ _ c.take_whole.new.piece (Read c.in-Err.why) within (c.in-Err.ensures.fault, λ torn. inr (c.take_whole.ensures.long (c.in-Err.is ∙ ap Err torn))), tt)

-- and at its end all is read
pub returns-then-branch-clause-given : goal.returns-then-branch-clause-given
returns-then-branch-clause-given g c = λ before written left stands all is.
    let within = passed_within written c.args.reader.now c.take_whole.new.reader before _ left _ _ c.args.piece.now (last_piece g c) all is (end_passes g c before stands) (c.take_whole.ensures.lists ∙ c.loop.invariant.3) in (
      λ at e. no_reason written _ _ _ (last_piece g c) at.why within (returns-then-branch-clause-why g c at e),
      when_ok c.ended.result _ (λ ok. given_at_end written _ _ _ (last_piece g c) within (c.ended.ensures.ok.0 ok).0 (c.in_ok-read_more.ensures.end c.if-branch.true)),
    )

-- so many reads that none of them meets the end are no break-off
pub returns-clause-broken : goal.returns-clause-broken
returns-clause-broken g c = λ at is. absurd (cc (is))

pub returns-clause-place : goal.returns-clause-place
returns-clause-place g c = λ at is. absurd (cc (is))

pub returns-clause-why : goal.returns-clause-why
returns-clause-why g c = λ at is. absurd (cc (is))

pub returns-clause-given : goal.returns-clause-given
returns-clause-given g c = λ before written left stands all is. (λ at e. absurd (cc (e)), tt)
