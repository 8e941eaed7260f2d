use Rattle.std.proofs.Common.{List, map, sym, ap, ◌∙◌}
use Rattle.a2l_text.specs.declared.located.Located.{Located}
use Rattle.a2l_entries.specs.Said.{token_at}
use Rattle.a2l_entries.specs.FormSaid.{form_with}
use Rattle.a2l_entries.proofs.ScanLemmas.{no_tokens}
use Rattle.a2l_entries.proofs.form_block.form_with.Goals as goal

-- what the first word tells is told now
pub loop-word-preserved : goal.loop-word-preserved
unfolding form_with
loop-word-preserved c =
    rw (c.and-form.ensures, c.told_by.ensures)
    (sym (ap (λ (ls : List Located). form_with c.loop-word.form (map token_at ls)) c.in-Some.ensures.cases.0) ∙ c.loop-word.invariant)

-- no word is left
pub returns : goal.returns
unfolding form_with
returns c = ap (form_with c.loop-word.form) (sym (no_tokens c.loop-word.rest.words.now c.in_default.ensures.cases)) ∙ c.loop-word.invariant
