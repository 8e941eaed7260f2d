use Rattle.std.proofs.Common.{◌∷◌, List, ap, length, subst, sym, ◌∙◌, ◌≡◌}
use Rattle.captured_session.specs.Exchanges.{exchanges}
use Rattle.captured_session.specs.SetUps.{Session, SetUp, facts_after}
use Rattle.captured_session.specs.declared.fact.Fact.{Fact}
use Rattle.captured_samples.specs.Slaves.{Keeps, lists_in}
use Rattle.captured_samples.specs.Standing.{set_up_by}
use Rattle.captured_samples.proofs.HeardLemmas.{all_read-same, facts-unchanged}
use Rattle.captured_samples.proofs.slave_samples.SlaveSamples.hear.Goals as goal

pub returns-else-not-is_alike-clause-stands : goal.returns-else-not-is_alike-clause-stands
returns-else-not-is_alike-clause-stands c start heard ls k =
    let v = subst (Keeps start heard ls) (sym c.self.view_is) k in
    let told = c.in_ok-hear.ensures.ok start.given heard v.session in
    let same = c.if-not-is_alike.false in
    let many : length (facts_after start.given (exchanges ((c.args.side, c.args.packet.now) ∷ heard))) ≡ length (facts_after start.given (exchanges heard)) =
    ap (λ (s : Session). length s.set_up.facts) (sym told) ∙ ap (λ (s : SetUp). length s.facts) (sym c.set_up-3.ensures)
    ∙ c.is_alike.ensures.many same ∙ ap (λ (fs : List Fact). length fs) c.facts-many.ensures
    ∙ ap (λ (s : SetUp). length s.facts) c.set_up.ensures ∙ ap (λ (s : Session). length s.set_up.facts) v.session in
    let form : (set_up_by start ((c.args.side, c.args.packet.now) ∷ heard)).form ≡ (set_up_by start heard).form =
    ap (λ (s : Session). s.set_up.form) (sym told) ∙ ap (λ (s : SetUp). s.form) (sym c.set_up-3.ensures)
    ∙ c.is_alike.ensures.form same ∙ c.form-form.ensures
    ∙ ap (λ (s : SetUp). s.form) c.set_up-2.ensures ∙ ap (λ (s : Session). s.set_up.form) v.session in
    record {
      session = told;
      lists = v.lists;
      read = λ stays. all_read-same start (set_up_by start heard) (set_up_by start ((c.args.side, c.args.packet.now) ∷ heard)) (lists_in ls)
          form (facts-unchanged start.given (c.args.side, c.args.packet.now) heard many) (v.read stays);
    }
