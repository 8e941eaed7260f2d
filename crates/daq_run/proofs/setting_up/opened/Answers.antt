use Rattle.std.proofs.Common.{◌≡◌, true, Some, sym, ap, subst, ◌∙◌}
use Rattle.std.proofs.lemmas.Bool.{false≢true}
use Rattle.daq_engine.specs.Openings.{fit_caps_of}
use Rattle.daq_run.proofs.SetUpLemmas.{caps_fit}
use Rattle.daq_run.proofs.setting_up.opened.Goals as goal

-- the limits of a run are those of the rings
pub unreachable-requires : goal.unreachable-requires
unreachable-requires g c =
    let fits = caps_fit g.K.Ring.is_cap c.args.run.now c.in_ok-store.store c.caps.ensures.limits c.in_ok-store.ensures.ok.store.profile c.requires.caps in
    let told = c.in-Err-BadCaps-default.ensures.answers.bad_caps.0 (ap Some c.in-Err-BadCaps-default.field-0-0-is) in
    false≢true (sym told ∙ subst (λ caps. fit_caps_of g.K.Ring.is_cap c.in_ok-store.store caps ≡ true) (sym c.caps.ensures.value) fits)
