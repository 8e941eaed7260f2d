use Rattle.std.proofs.Common.{◌≡◌, ◌+◌, ◌%◌, List, length, sym, ap, ◌∙◌}
use Rattle.frame_page.specs.Laid.{Laid as Kept, behind, blocks_of}
use Rattle.frame_page.specs.Laid.{packets_in as packets_kept}
use Rattle.frame_page.specs.Pages.{PageState}
use Rattle.slave_outbox.specs.declared.origin.Origin.{Origin}
use Rattle.slave_outbox.proofs.GoneLemmas.{all_shown, none_behind}
use Rattle.slave_outbox.proofs.outbox.let_go.Goals as goal

-- the bytes of all were shown, so all were
pub sent_all-requires : goal.sent_all-requires
sent_all-requires c =
    all_shown c.args.shown.count (packets_kept c.args.page.now.waits) c.requires.there
    (sym c.requires.front ∙ c.if-shown-len.true ∙ c.requires.long)

pub returns-then-shown-len : goal.returns-then-shown-len
returns-then-shown-len c =
    let page = c.args.page.now in
    let n = c.args.shown.count in
    let all = all_shown n (packets_kept page.waits) c.requires.there (sym c.requires.front ∙ c.if-shown-len.true ∙ c.requires.long) in
    let none = ap (λ k. behind k page.waits) all ∙ none_behind page.waits in
    c.sent_all.ensures
    ∙ ap (λ (xs : List (Kept Origin)). record page { waits = xs; counter = (page.counter + n) % 65536; used = blocks_of xs }) (sym none)
