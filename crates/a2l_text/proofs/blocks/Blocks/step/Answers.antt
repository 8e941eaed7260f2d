use Rattle.std.proofs.Common.{ap}
use Rattle.a2l_text.specs.TokenOf.{token_of}
use Rattle.a2l_text.specs.States.{state_of}
use Rattle.a2l_text.proofs.StepLemmas.{plain_done, text_done}
use Rattle.a2l_text.proofs.blocks.Blocks.step.Goals as goal

pub returns-in_ok-gather-in-Plain-clause-ok : goal.returns-in_ok-gather-in-Plain-clause-ok
returns-in_ok-gather-in-Plain-clause-ok c =
    let s = state_of c.args.self.now in
    plain_done (token_of c.args.word) s.role _ s.around s.gathered _ s.ahead _ (ap token_of c.in-Plain.is) c.after_plain-self.ensures c.in_ok-gather-in-Plain.ensures

pub returns-in_ok-gather-in-Quoted-clause-ok : goal.returns-in_ok-gather-in-Quoted-clause-ok
returns-in_ok-gather-in-Quoted-clause-ok c =
    let s = state_of c.args.self.now in
    text_done (token_of c.args.word) s.role _ s.around s.gathered _ s.ahead _ (ap token_of c.in-Quoted.is) c.after_text-self.ensures c.in_ok-gather-in-Quoted.ensures
