use Rattle.std.proofs.Common.{is_some, sym, ap, subst}
use Rattle.datagrams.specs.Inner.{IsWholeWith, piece_shown}
use Rattle.datagrams.specs.Ip.{ip_of}
use Rattle.datagrams.specs.Parts.{key_of}
use Rattle.datagrams.specs.Waiting.{WholeOf}
use Rattle.datagrams.specs.Whole.{whole_of}
use Rattle.datagrams.proofs.WaitLemmas.{begins-waiting, begins-whole}
use Rattle.datagrams.proofs.parts.Parts.begin.Goals as goal

-- it is whole by its first piece
pub returns-in-Some-clause-ok : goal.returns-in-Some-clause-ok
returns-in-Some-clause-ok c = λ waits a.
    let first = c.in_ok-waiting.waiting in
    let piece = piece_shown c.args.piece in
    let out = c.into_whole.ensures in
    let whole : IsWholeWith first piece c.in-Some.payload.items = rw c.in-Some.is at c.in_ok-payload.ensures.whole in
    begins-whole (key_of (ip_of c.args.packet.now) c.args.part) waits piece (whole_of c.into_whole.result) c.args.self.now first c.requires.new a c.in_ok-waiting.ensures
    (subst (λ bytes. IsWholeWith first piece bytes) (sym (ap (λ (d : WholeOf). d.payload) out)) whole)
    (ap (λ (d : WholeOf). d.from) out, ap (λ (d : WholeOf). d.to) out, ap (λ (d : WholeOf). d.protocol) out)

-- it begins to wait
pub returns-clause-ok : goal.returns-clause-ok
returns-clause-ok c = λ waits a.
    let first = c.in_ok-waiting.waiting in
    begins-waiting (key_of (ip_of c.args.packet.now) c.args.part) waits (piece_shown c.args.piece) c.args.self.now c.wait.new.self first c.add.new.self c.requires.new a c.in_ok-waiting.ensures
    (λ bytes whole. c.in_ok-payload.ensures.missing (ap is_some c.in_default.is) bytes whole) c.in_ok-add.ensures.ok c.in_ok-wait.ensures.ok
