use Rattle.std.proofs.Common.{Vec, [], ◌∷◌, sym, ap, subst, arith}
use Rattle.frame_writer.specs.MemoryOuts.{VecOutState}
use Rattle.session_file.specs.Inner.{line_data}
use Rattle.session_file.specs.Playing.{Advances, lines_of, masters, most_a_line, sending}
use Rattle.session_file.proofs.PlayLemmas.{advances-within, does-other, nothing, on-any, on_ok}
use Rattle.session_file.proofs.player.Player.line.Goals as goal

-- a trigger changes nothing of the slave
pub returns-in-Trigger : goal.returns-in-Trigger
returns-in-Trigger c =
    let was = c.args.self.now in
    let now = c.trigger.new.self in
    let does =
    does-other (sending was.slave was.out.contents) (sending now.slave now.out.contents) was.refused now.refused (line_data c.args.line.now)
    (ap (λ l. masters (line_data l ∷ [])) c.in-Trigger.is) c.trigger.ensures.counted c.trigger.ensures.most
    (subst (λ s. Advances most_a_line (sending was.slave was.out.contents) (sending s now.out.contents) []) (sym c.trigger.ensures.slave_stays)
    (subst (λ (o : VecOutState). Advances most_a_line (sending was.slave was.out.contents) (sending was.slave o.contents) []) (sym c.trigger.ensures.out_stays)
    (advances-within 0 most_a_line (sending was.slave was.out.contents) (sending was.slave was.out.contents) [] (omega arith) (nothing was.slave was.out.contents)))) in
    record { does = on-any c.trigger.result does; tasks = c.trigger.ensures.tasks }

-- nor does memory
pub returns-in-Memory : goal.returns-in-Memory
returns-in-Memory c =
    let was = c.args.self.now in
    let now = c.put_memory.new.self in
    let stays = c.put_memory.ensures.refused_stays in
    let does =
    does-other (sending was.slave was.out.contents) (sending now.slave now.out.contents) was.refused now.refused (line_data c.args.line.now)
    (ap (λ l. masters (line_data l ∷ [])) c.in-Memory.is) (omega (arith, stays)) (omega (arith, stays))
    (subst (λ s. Advances most_a_line (sending was.slave was.out.contents) (sending s now.out.contents) []) (sym c.put_memory.ensures.slave_stays)
    (subst (λ (o : VecOutState). Advances most_a_line (sending was.slave was.out.contents) (sending was.slave o.contents) []) (sym c.put_memory.ensures.out_stays)
    (advances-within 0 most_a_line (sending was.slave was.out.contents) (sending was.slave was.out.contents) [] (omega arith) (nothing was.slave was.out.contents)))) in
    record { does = on-any c.put_memory.result does; tasks = ap (λ (ts : Vec _ _). lines_of ts.items) c.put_memory.ensures.tasks_stay }

pub returns-in-Send : goal.returns-in-Send
returns-in-Send c =
    let was = c.args.self.now in
    let now = c.send.new.self in
    let stays = c.send.ensures.refused_stays in
    record {
      does = on_ok c.send.result
          (does-other (sending was.slave was.out.contents) (sending now.slave now.out.contents) was.refused now.refused (line_data c.args.line.now)
          (ap (λ l. masters (line_data l ∷ [])) c.in-Send.is) (omega (arith, stays)) (omega (arith, stays)))
          c.send.ensures.sends;
      tasks = ap (λ (ts : Vec _ _). lines_of ts.items) c.send.ensures.tasks_stay;
    }

pub returns-in-SendIn : goal.returns-in-SendIn
returns-in-SendIn c =
    let was = c.args.self.now in
    let now = c.send-in-SendIn.new.self in
    let stays = c.send-in-SendIn.ensures.refused_stays in
    record {
      does = on_ok c.send-in-SendIn.result
          (does-other (sending was.slave was.out.contents) (sending now.slave now.out.contents) was.refused now.refused (line_data c.args.line.now)
          (ap (λ l. masters (line_data l ∷ [])) c.in-SendIn.is) (omega (arith, stays)) (omega (arith, stays)))
          c.send-in-SendIn.ensures.sends;
      tasks = ap (λ (ts : Vec _ _). lines_of ts.items) c.send-in-SendIn.ensures.tasks_stay;
    }

pub returns-in-Lose : goal.returns-in-Lose
returns-in-Lose c =
    let was = c.args.self.now in
    let now = c.lose.new.self in
    let stays = c.lose.ensures.refused_stays in
    record {
      does = does-other (sending was.slave was.out.contents) (sending now.slave now.out.contents) was.refused now.refused (line_data c.args.line.now)
          (ap (λ l. masters (line_data l ∷ [])) c.in-Lose.is) (omega (arith, stays)) (omega (arith, stays)) c.lose.ensures.loses;
      tasks = ap (λ (ts : Vec _ _). lines_of ts.items) c.lose.ensures.tasks_stay;
    }

pub returns-in-HangUp : goal.returns-in-HangUp
returns-in-HangUp c =
    let was = c.args.self.now in
    let now = c.hang_up.new.self in
    let stays = c.hang_up.ensures.refused_stays in
    record {
      does = does-other (sending was.slave was.out.contents) (sending now.slave now.out.contents) was.refused now.refused (line_data c.args.line.now)
          (ap (λ l. masters (line_data l ∷ [])) c.in-HangUp.is) (omega (arith, stays)) (omega (arith, stays)) c.hang_up.ensures.hangs_up;
      tasks = ap (λ (ts : Vec _ _). lines_of ts.items) c.hang_up.ensures.tasks_stay;
    }
