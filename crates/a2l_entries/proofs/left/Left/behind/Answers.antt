use Rattle.std.proofs.Common.{Some, refl, ap, ◌∙◌, arith}
use Rattle.std.proofs.lemmas.List.{length-map, drop-map}
use Rattle.a2l_entries.specs.Said.{token_at, tokens_of}
use Rattle.a2l_entries.proofs.SaidLemmas.{behind_some, behind_none}
use Rattle.a2l_entries.proofs.left.Left.behind.Goals as goal

pub returns-then-self-count : goal.returns-then-self-count
returns-then-self-count c = behind_none c.args.count (tokens_of c.args.self) (omega (arith, length-map c.args.self.words.now token_at))

pub returns : goal.returns
returns c =
    behind_some c.args.count (tokens_of c.args.self) (omega (arith, length-map c.args.self.words.now token_at))
    ∙ ap Some (drop-map token_at c.args.count c.args.self.words.now) ∙ rw c.split_at.ensures.back refl
