use Rattle.std.proofs.Common.{◌+◌, ◌*◌, [], ◌∷◌, refl, sym, subst, arith}
use Rattle.xcp_base.specs.declared.limits.TheConstants.{MAX_CHANNELS}
use Rattle.slave.specs.Hearing.{most_before}
use Rattle.session_file.specs.Playing.{Advances, most_a_line, sending}
use Rattle.session_file.proofs.PlayLemmas.{advances-more, advances-within, does-heard, does-unheard, hears}
use Rattle.session_file.proofs.player.Player.master.Goals as goal

-- the packet is heard behind what was collected
pub returns-then-hear : goal.returns-then-hear
returns-then-hear c =
    let was = c.args.self.now in
    let sent = was.out.contents in
    let packet = c.args.packet.now in
    record {
      does = does-heard (sending was.slave sent) (sending c.hear.new.self sent) was.refused packet
          (advances-within (4 * MAX_CHANNELS + (1 + most_before)) most_a_line (sending was.slave sent) (sending c.hear.new.self sent) (packet ∷ []) (omega arith)
          (advances-more (4 * MAX_CHANNELS) (1 + most_before) (sending was.slave sent) (sending c.collect.new.slave sent) (sending c.hear.new.self sent) [] (packet ∷ [])
          (c.in_ok-collect.ensures.collects sent)
          (hears c.collect.new.slave c.hear.new.self sent packet _ (c.hear.ensures.heard c.if-hear.true))));
      tasks_stay = refl;
    }

-- or refused
pub returns : goal.returns
returns c =
    let was = c.args.self.now in
    let sent = was.out.contents in
    record {
      does = does-unheard (sending was.slave sent) (sending c.hear.new.self sent) was.refused c.args.packet.now
          (subst (λ s. Advances most_a_line (sending was.slave sent) (sending s sent) []) (sym (c.hear.ensures.stays c.if-hear.false))
          (advances-within (4 * MAX_CHANNELS) most_a_line (sending was.slave sent) (sending c.collect.new.slave sent) [] (omega arith)
          (c.in_ok-collect.ensures.collects sent)));
      tasks_stay = refl;
    }
