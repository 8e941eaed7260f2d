use Rattle.std.proofs.Common.{◌≡◌, ◌∙◌, Ok, true, false, ap, sym}
use Rattle.session.specs.Requests.{request}
use Rattle.session.specs.Standing.{SessionState}
use Rattle.session.proofs.ListSetLemmas.{zero_has_none}
use Rattle.session.proofs.StartLemmas.{other_packet, unconnected_packet}
use Rattle.session.proofs.session.Session.starts_of.Goals as goal

-- while no master is connected, nothing is started
pub returns-then-not-self : goal.returns-then-not-self
returns-then-not-self c = record {
  value = λ past h l inside.
      let off : past.connected ≡ false = sym h.connected ∙ sym (ap (λ (s : SessionState). s.connected) c.self.view_is) ∙ c.if-not-self.true in
      zero_has_none c.none.result l c.none.ensures ∙ sym (unconnected_packet c.args.self.now.profile past c.args.packet.now l off);
}

-- a request that is no command to the store starts nothing
pub returns-in_default-asked : goal.returns-in_default-asked
returns-in_default-asked c = record {
  value = λ past h l inside.
      let connected : past.connected ≡ true = sym h.connected ∙ sym (ap (λ (s : SessionState). s.connected) c.self.view_is) ∙ c.if-not-self.false in
      let reads : request c.args.self.now.profile.max_cto c.args.packet.now ≡ Ok c.in-Ok.asked = ap (λ (s : SessionState). request s.profile.max_cto c.args.packet.now) (sym c.self.view_is) ∙ sym c.read.ensures ∙ c.in-Ok.is in
      zero_has_none c.none-in_default-asked.result l c.none-in_default-asked.ensures ∙ sym (other_packet c.args.self.now.profile past c.args.packet.now c.in-Ok.asked l connected reads c.in_default-asked.not-Lists);
}
