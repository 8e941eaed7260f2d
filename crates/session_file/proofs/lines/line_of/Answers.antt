use Rattle.std.proofs.Common.{◌≡◌, IfOk, option_map, subst}
use Rattle.session_file.specs.Inner.{line_data}
use Rattle.session_file.proofs.LineLaw.{verb_words}
use Rattle.session_file.proofs.lines.line_of.Goals as goal

-- there is a second word
pub returns : goal.returns
returns c =
    subst (λ o. IfOk c.verb_line.result (λ line. option_map line_data line ≡ o))
    (verb_words c.args.text.now c.in-Some.rest.now c.in-Some.verb.now c.in-Some.ensures)
    c.verb_line.ensures
