use Rattle.std.proofs.Common.{◌≡◌, ◌∙◌, ap, refl, slice_index_or}
use Rattle.daq_store.specs.Configuration.{Configuration, odt_entries}
use Rattle.daq_store.proofs.ReadyLemmas.{odt_at}
use Rattle.daq_store.proofs.list_conf.ListConf.packet_len.Goals as goal

pub returns-clause-value : goal.returns-clause-value
returns-clause-value c =
    let odt = c.index.result.now in
    let is : odt ≡ slice_index_or c.args.self.now.odts c.args.odt odt = c.index.ensures ∙ ap (λ (conf : Configuration). slice_index_or conf.odts c.args.odt odt) c.self.view_is in
    let entries : odt_entries c.args.self.now c.args.odt ≡ odt = odt_at c.args.self.now c.args.odt odt c.requires is in
    rw (entries, ← c.field_len.ensures.value, ← c.stamp_len.ensures.value, ← c.bytes.ensures.value) refl
