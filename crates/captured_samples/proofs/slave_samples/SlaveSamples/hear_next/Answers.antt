use Rattle.std.proofs.Common.{◌++◌, ap, subst, sym, ◌∙◌}
use Rattle.captured_samples.specs.Slaves.{Keeps, SlaveOf}
use Rattle.captured_samples.specs.Standing.{come_to, set_up_by, told_at_gap, told_by, told_of_packet}
use Rattle.captured_samples.proofs.HeardLemmas.{is_next, on_both, stands-of, tells-of}
use Rattle.captured_samples.proofs.ListsLemmas.{on_ok, tells-both}
use Rattle.captured_samples.proofs.slave_samples.SlaveSamples.hear_next.Goals as goal

pub returns-clause-stands : goal.returns-clause-stands
returns-clause-stands g c start r ls k =
    let met = come_to start (set_up_by start r.heard) c.args.step ls in
    let v = subst (Keeps start r.heard met) (sym c.self.view_is) (c.in-Ok.ensures.stands start r.heard ls k.keeps) in
    let next = is_next start r ls c.args.step c.args.counter c.args.packet.now c.requires in
    on_both c.look_at.result
    (λ keeps stays. stands-of start _ _ _ _ _ next.frame next.slave
    (record {
      keeps = keeps;
      counter = stays.counter;
      command = stays.command ∙ ap (λ (x : SlaveOf). x.command) c.self.view_is ∙ c.in-Ok.ensures.stays.command ∙ k.command;
    }))
    (c.look_at.ensures.stands start r.heard met (record { session = v.session; lists = v.lists; read = v.read }))
    c.look_at.ensures.stays

pub returns-clause-told : goal.returns-clause-told
returns-clause-told g c start r ls k =
    let met = come_to start (set_up_by start r.heard) c.args.step ls in
    let v = subst (Keeps start r.heard met) (sym c.self.view_is) (c.in-Ok.ensures.stands start r.heard ls k.keeps) in
    let next = is_next start r ls c.args.step c.args.counter c.args.packet.now c.requires in
    on_ok c.look_at.result
    (λ more.
    tells-of (g.S.SampleSink.told c.args.sink.now) (g.S.SampleSink.told c.look_at.new.sink)
    (told_by start (set_up_by start r.heard) c.args.step c.args.packet.now ls)
    (told_at_gap start (set_up_by start r.heard) c.args.step ls
    ++ told_of_packet start (set_up_by start r.heard) c.args.packet.now met)
    next.told
    (tells-both (g.S.SampleSink.told c.args.sink.now) (g.S.SampleSink.told c.come_to.new.sink) (g.S.SampleSink.told c.look_at.new.sink)
    (told_at_gap start (set_up_by start r.heard) c.args.step ls)
    (told_of_packet start (set_up_by start r.heard) c.args.packet.now met) (c.in-Ok.ensures.told start r.heard ls k.keeps) more))
    (c.look_at.ensures.told start r.heard met (record { session = v.session; lists = v.lists; read = v.read }))

pub returns-clause-many : goal.returns-clause-many
returns-clause-many g c start r ls k full =
    let met = come_to start (set_up_by start r.heard) c.args.step ls in
    let v = subst (Keeps start r.heard met) (sym c.self.view_is) (c.in-Ok.ensures.stands start r.heard ls k.keeps) in
    c.look_at.ensures.many start r.heard met (record { session = v.session; lists = v.lists; read = v.read }) full
