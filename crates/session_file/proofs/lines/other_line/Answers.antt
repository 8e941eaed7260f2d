use Rattle.std.proofs.Common.{◌≡◌, IfOk, option_map, subst}
use Rattle.session_file.specs.Inner.{line_data}
use Rattle.session_file.proofs.LineLaw.{trigger_words}
use Rattle.session_file.proofs.lines.other_line.Goals as goal

-- there is a fourth word
pub returns : goal.returns
returns c =
    subst (λ o. IfOk c.trigger_line.result (λ line. option_map line_data line ≡ o))
    (trigger_words c.args.verb.now c.args.rest.now c.in-Some.rest.now c.in-Some-cut.words.now c.in-Some.channel.now c.in-Some-cut.stamp.now
    c.in-Some.ensures c.in-Some-cut.ensures)
    c.trigger_line.ensures
