use Rattle.std.proofs.Common.{◌≡◌, ◌++◌, ◌∷◌, [], length, map, None, Some, option_map, refl, sym, ap, ◌∙◌, rules, inr}
use Rattle.run_file.specs.Inner.{text_in}
use Rattle.run_file.proofs.ReadLemmas.{first_bad, length-map-any, map-push, read_more}
use Rattle.session_file.specs.Inner.{line_data}
use Rattle.session_file.specs.LineOf.{line_of}
use Rattle.session_file.specs.Lines.{IsLineText}
use Rattle.session_file.proofs.LineLaw.{line_read, no_line}
use Rattle.session_file.proofs.lines.lines_of.Goals as goal

-- the text is that of no line, and its place is how many were read
pub returns-in_default-read-clause-err : goal.returns-in_default-read-clause-err
returns-in_default-read-clause-err c =
    let read : None ≡ line_of (text_in c.value-item.result) =
    ap (option_map line_data) (sym c.in_default-read.is) ∙ c.in-Ok-line_of.ensures ∙ ap line_of c.text_in.ensures in
    let count : c.len.result ≡ length c.loop-value.lines.items = search (rules, c.len.ensures) in
    let size = count ∙ sym (length-map-any line_data c.loop-value.lines.items) in
    inr (
      c.len.result,
      refl,
      first_bad IsLineText text_in c.args.values.now c.loop-value.value-index c.value-item.result
          (map line_data c.loop-value.lines.items) c.len.result size c.loop-value-test.true c.value-item.is c.loop-value.invariant
          (no_line (text_in c.value-item.result) (sym read)),
    )

-- one more line was read
pub loop-value-preserved : goal.loop-value-preserved
loop-value-preserved c =
    let read : Some (line_data c.in-Some.line) ≡ line_of (text_in c.value-item.result) =
    ap (option_map line_data) (sym c.in-Some.is) ∙ c.in-Ok-line_of.ensures ∙ ap line_of c.text_in.ensures in
    let pushed : c.push.new.self.items ≡ c.loop-value.lines.items ++ c.in-Some.line ∷ [] = search (rules, c.push.ensures.items) in
    let at_end = ap (map line_data) pushed ∙ map-push line_data c.loop-value.lines.items c.in-Some.line in
    read_more IsLineText text_in c.args.values.now c.loop-value.value-index c.value-item.result
    (map line_data c.loop-value.lines.items) (map line_data c.push.new.self.items) (line_data c.in-Some.line)
    c.loop-value-test.true c.value-item.is c.loop-value.invariant
    (line_read (text_in c.value-item.result) (line_data c.in-Some.line) (sym read)) at_end
