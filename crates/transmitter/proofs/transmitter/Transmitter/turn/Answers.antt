use Rattle.std.proofs.Common.{◌≡◌, List, [], ◌∷◌, inl, inr, length, map, refl, sym, ap, ◌∙◌, arith, subst}
use Rattle.std.specs.Option.{is_some}
use Rattle.std.proofs.lemmas.Bool.{false≢true}
use mathlib.Core.List.{IsPrefix}
use Rattle.xcp_base.specs.declared.item.Item.{Item}
use Rattle.xcp_base.specs.declared.item.Item.TheVariants.{Sample}
use Rattle.xcp_base.specs.Packets.{ArePackets}
use Rattle.frame_writer.specs.Writing.{WriterState}
use Rattle.transmitter.specs.Merge.{of_ring}
use Rattle.transmitter.specs.Written.{transmission}
use Rattle.transmitter.proofs.TakenLemmas.{none_known, same_first, takes-append}
use Rattle.transmitter.proofs.WrittenLemmas.{leads-broken, leads-marker, leads-none, leads-sample}
use Rattle.transmitter.proofs.TurnLemmas.{of_samples, one_more, takes_that}
use Rattle.transmitter.proofs.transmitter.Transmitter.turn.Goals as goal

pub returns-then-not-look_for-clause-turn : goal.returns-then-not-look_for-clause-turn
returns-then-not-look_for-clause-turn g c =
    let a = transmission g.O.Out g.T.TakeEnd c.args.self.now in
    let e = c.look_for.ensures in (
      c.requires.nothing_in_hand,
      leads-none a _ e.rings_stay e.looks refl refl refl refl,
      none_known _ _ _ _ c.args.c e.looks (λ h. false≢true (sym c.if-not-look_for.true ∙ e.value.1 h)),
    )

pub returns-in-Marker-clause-turn : goal.returns-in-Marker-clause-turn
returns-in-Marker-clause-turn g c =
    let a = transmission g.O.Out g.T.TakeEnd c.args.self.now in
    let m = c.in-Marker.marker in
    let none = c.requires.nothing_in_hand in
    let takes = takes_that c.args.c _ _ c.look_for.ensures.looks c.first_of.ensures c.in-Marker.is c.let_go.ensures.takes in
    (m, none, leads-marker a _ c.args.c m none none (c.let_go.ensures.rings_stay ∙ c.look_for.ensures.rings_stay) takes refl refl refl, c.list-list.ensures.value, c.list-list.ensures.below)

pub returns-in-Some-clause-turn : goal.returns-in-Some-clause-turn
returns-in-Some-clause-turn g c =
    let a = transmission g.O.Out g.T.TakeEnd c.args.self.now in
    let r = c.in-Sample.sample in
    let none = c.requires.nothing_in_hand in
    let takes = takes_that c.args.c _ _ c.look_for.ensures.looks c.first_of.ensures c.in-Sample.is c.let_go-in-Sample.ensures.takes in
    let qs = c.packets-packets.ensures.value in
    let size = c.len-frames.ensures.value ∙ ap length qs in
    let after = rw qs at c.in-Some.ensures.all in
    let of = c.list-list-in-Sample.ensures.value in
    (r, none, leads-sample a _ c.args.c r none none (c.let_go-in-Sample.ensures.rings_stay ∙ c.look_for.ensures.rings_stay) takes refl after (subst ArePackets qs c.len-frames.ensures.each) (λ l. rw (← of) (one_more c.args.self.now.written c.list-list-in-Sample.result l (omega arith))), size, c.len-frames.ensures.limit)

-- the frame writer was open, so that it failed now
pub returns-then-closed-clause-turn : goal.returns-then-closed-clause-turn
returns-then-closed-clause-turn g c =
    let a = transmission g.O.Out g.T.TakeEnd c.args.self.now in
    let e = c.hold.ensures in
    let r = e.holds.sample in
    let none = c.requires.nothing_in_hand in
    let there : List Item = of_ring (map g.T.TakeEnd.known c.look_for.new.ends.items) c.args.c in
    let same : r ≡ c.in-Sample.sample = of_samples (same_first (Sample r) (Sample c.in-Sample.sample) there e.holds.first (subst (λ x. IsPrefix (x ∷ []) there) c.in-Sample.is c.first_of.ensures)) in
    let takes = takes-append _ _ _ _ _ _ [] ((c.args.c, Sample r) ∷ []) c.look_for.ensures.looks e.holds.takes in
    let was_open = c.args.self.now.held ∙ ap is_some none in
    elim (c.lay.ensures.none c.in_default.is) [
      | inl w ↦
          let breaks = rw c.packets-packets.ensures.value at w.1 in
          inl (w.0, (r, e.holds.hand, leads-broken a _ c.args.c r none e.holds.hand (e.rings_stay ∙ c.look_for.ensures.rings_stay) takes refl (rw same breaks) refl))
      | inr w ↦ absurd (false≢true (sym was_open ∙ (sym (ap (λ (s : WriterState). s.closed) w.1) ∙ (sym c.closed.ensures ∙ c.if-closed.true))))
    ]
