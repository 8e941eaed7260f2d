use Rattle.std.proofs.Common.{◌∙◌, ap, drop, length, map, string_bytes, sym, take}
use Rattle.std.proofs.lemmas.List.{drop-map, take-map, take_rest}
use Rattle.mdf_file.specs.Describing.{told_channel}
use Rattle.mdf_groups.proofs.ChannelLemmas.{channels_are}
use Rattle.mdf_groups.proofs.group_channels.channels_of.Goals as goal

-- the names of the columns come first, and then those of the channels before them
pub returns : goal.returns
returns c =
    let names = c.in_ok-names.names.items in
    let all = c.deref.result.now in
    let all2 = c.deref-2.result.now in
    let count = length c.args.columns.now in
    channels_are c.args.form.now c.args.columns.now (map string_bytes names) c.front.result
    c.front-2.result c.places.result.now _ _ (map told_channel c.in_ok-channels.channels.items)
    (map told_channel c.add_columns.new.channels.items) c.front.ensures c.in_ok-names.ensures
    c.front-2.ensures c.in_ok-channels.ensures
    (ap (map string_bytes) (take_rest all count) ∙ sym (drop-map string_bytes count all)
    ∙ ap (λ xs. drop count (map string_bytes xs)) c.deref.ensures.value)
    c.places.ensures
    (sym (take-map string_bytes count all2)
    ∙ ap (λ xs. take count (map string_bytes xs)) c.deref-2.ensures.value)
    c.in_ok-add_columns.ensures
