use Rattle.std.proofs.Common.{◌<◌, ◌++◌, ◌∷◌, [], length, refl, arith, ◌∙◌}
use Rattle.std.proofs.lemmas.List.Elements.{All-push}
use Rattle.frame_writer.specs.Frame.{IsFrame}
use Rattle.capture_recording.proofs.HeardLemmas.{hears-more, hears-none, longer, none-left, whole-more}
use Rattle.capture_recording.proofs.slave.Slave.hear_frames.Goals as goal

pub frames-init : goal.frames-init
frames-init g c =
    ([], λ k d lt. absurd (omega arith), refl, omega arith, hears-none _ _ _, record { address = refl; connections = refl })

pub returns-in_default-clause-heard : goal.returns-in_default-clause-heard
returns-in_default-clause-heard g c =
    let inv = c.frames.invariant in (
      inv.0,
      c.frames.rest.now,
      record { begins = record { legal = inv.1; whole = inv.2 }; none = λ n q more legal is. c.in_default.ensures.found n q more legal is },
      omega (arith, inv.3, c.saturating_sub.ensures),
      inv.4,
    )

pub returns-in_default-clause-stays : goal.returns-in_default-clause-stays
returns-in_default-clause-stays g c = c.frames.invariant.5

pub frames-preserved : goal.frames-preserved
frames-preserved g c =
    let inv = c.frames.invariant in
    let n = c.in-Some.counter in
    let p = c.in-Some.packet.now in
    let behind = c.in-Some.behind.now in
    let stays = c.in_ok-hear_packet.ensures.stays in
    let shorter : length behind < length c.frames.rest.now = longer n p c.frames.rest.now behind c.in-Some.ensures.frame in (
      inv.0 ++ (n, p) ∷ [],
      All-push IsFrame inv.0 (n, p) inv.1 c.in-Some.ensures.legal,
      whole-more c.args.bytes.now inv.0 n p c.frames.rest.now behind inv.2 c.in-Some.ensures.frame,
      omega (arith, inv.3, shorter),
      hears-more _ _ _ _ _ _ _ _ _ inv.4 c.in_ok-hear_packet.ensures.heard,
      record { address = stays.address ∙ inv.5.address; connections = stays.connections ∙ inv.5.connections },
    )

pub returns-clause-heard : goal.returns-clause-heard
returns-clause-heard g c =
    let inv = c.frames.invariant in (
      inv.0,
      c.frames.rest.now,
      record {
        begins = record { legal = inv.1; whole = inv.2 };
        none = λ n q more legal is. none-left n q c.frames.rest.now more is (omega (arith, inv.3, c.frames-test.false));
      },
      omega (arith, inv.3, c.saturating_sub-2.ensures),
      inv.4,
    )

pub returns-clause-stays : goal.returns-clause-stays
returns-clause-stays g c = c.frames.invariant.5
