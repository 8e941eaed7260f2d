use Rattle.std.proofs.Common.{Option, Some, None, sym, ap, ◌∙◌}
use Rattle.std.specs.Option.{option_map}
use Rattle.std.specs.BTreeMap.{get_by_text}
use Rattle.a2l_entries.specs.declared.table_block.TableBlock.{TableBlock}
use Rattle.a2l_entries.specs.TableSaid.{Named, table_seen}
use Rattle.a2l.proofs.NameLemmas.{none_at, some_at}
use Rattle.a2l.proofs.ResolveLemmas.{table_by_place}
use Rattle.a2l.proofs.resolving.texts_of.Goals as goal

pub returns-in-None : goal.returns-in-None
returns-in-None c =
    table_by_place c.args.tables.now (get_by_text c.args.places.now) _ None c.requires (c.in-None.ensures ∙ ap (get_by_text c.args.places.now) c.as_str.ensures.value)

pub returns-in-None-get : goal.returns-in-None-get
returns-in-None-get c =
    table_by_place c.args.tables.now (get_by_text c.args.places.now) _ (Some c.in-Some.place) c.requires (c.in-Some.ensures ∙ ap (get_by_text c.args.places.now) c.as_str.ensures.value)
    ∙ ap (λ (o : Option TableBlock). option_map (λ (t : Named). t.texts) (option_map table_seen o)) (none_at c.args.tables.now c.in-Some.place c.in-None-get.ensures.lookup)

pub returns-in_ok-copy_of-in-Some-get : goal.returns-in_ok-copy_of-in-Some-get
returns-in_ok-copy_of-in-Some-get c =
    table_by_place c.args.tables.now (get_by_text c.args.places.now) _ (Some c.in-Some.place) c.requires (c.in-Some.ensures ∙ ap (get_by_text c.args.places.now) c.as_str.ensures.value)
    ∙ ap (λ (o : Option TableBlock). option_map (λ (t : Named). t.texts) (option_map table_seen o)) (some_at c.args.tables.now c.in-Some.place c.in-Some-get.table c.in-Some-get.ensures.lookup)
    ∙ ap Some (sym c.in_ok-copy_of-in-Some-get.ensures)
