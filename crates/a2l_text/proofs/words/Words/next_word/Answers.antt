use Rattle.std.proofs.Common.{◌≡◌, false, [], drop, sym, ap, ◌∙◌, subst, drop-drop}
use Rattle.a2l_text.specs.Kinds.{kind_of, is_gap}
use Rattle.a2l_text.specs.State.{rest_of}
use Rattle.a2l_text.proofs.KindLemmas.{nothing_left}
use Rattle.a2l_text.proofs.GapLemmas.{skips_to_end}
use Rattle.a2l_text.proofs.words.Words.next_word.Goals as goal
use Rattle.a2l_text.proofs.words.Words.next_word.Goals.{In_default}

-- nothing is left behind the gap
nothing : (c : In_default) → c.behind-text.result.now ≡ []
nothing c =
    let left = subst (λ t. is_gap (kind_of t) ≡ false) (sym c.behind-text.ensures) c.in-Ok.ensures.whole in
    nothing_left c.behind-text.result.now c.kind_at.result c.kind_at.ensures left c.in_default.not-Text c.in_default.not-Plain

-- so the text ends with the gap
pub returns-in_default-clause-next : goal.returns-in_default-clause-next
returns-in_default-clause-next c =
    skips_to_end (rest_of c.args.self.now) c.behind-rest.result.now c.behind-text.result.now c.in-Ok.len (c.behind-rest.ensures ∙ ap rest_of c.self.view_is)
    c.in-Ok.ensures.gap c.behind-text.ensures (nothing c)

-- and the newest place is the end
pub returns-in_default-clause-ended : goal.returns-in_default-clause-ended
returns-in_default-clause-ended c = (
  sym (drop-drop c.in-Ok.len c.self.inside.next c.self.inside.text.now)
      ∙ (ap (drop c.in-Ok.len) (sym c.behind-rest.ensures) ∙ (sym c.behind-text.ensures ∙ nothing c)),
  ap rest_of c.self.view_is,
)
