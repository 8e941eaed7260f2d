use Rattle.std.proofs.Common.{[], ◌++◌, take as first, sym, ap, ◌∙◌, arith, refl}
use Rattle.frame_writer.specs.Frame.{text}
use Rattle.slave.specs.Taking.{most_taken}
use Rattle.slave_outbox.specs.Outboxes.{OutboxState, packets_in}
use Rattle.session_file.specs.Playing.{sending}
use Rattle.session_file.proofs.PlayLemmas.{advances-more, sends, silent, takes}
use Rattle.session_file.proofs.transport.send.Goals as goal

-- items are taken, and the frames that are shown are sent
pub returns : goal.returns
returns c =
    let before = c.args.out.now.contents in
    let after = c.put.new.self.contents in
    let shown = c.peek-len.new.self in
    record {
      sends = advances-more most_taken 1 (sending c.args.slave.now before) (sending c.take.new.self before) (sending c.sent.new.self after) [] []
          (takes c.args.slave.now c.take.new.self before c.take.ensures.takes)
          (advances-more 0 1 (sending c.take.new.self before) (sending shown before) (sending c.sent.new.self after) [] []
          (silent 0 c.take.new.self shown [] before [] (omega arith) c.peek-len.ensures.stays refl refl)
          (sends shown c.sent.new.self before after
          (c.in-Ok.ensures.taken ∙ ap (λ bs. before ++ bs) c.peek-len.ensures.bytes
          ∙ ap (λ (o : OutboxState). before ++ text o.counter (packets_in (first shown.outbox.shown o.waits))) (sym c.peek-len.ensures.outbox))
          c.sent.ensures.sends));
    }
