-- one packet is too long; one ODT more is filled and short
use Rattle.std.proofs.Common.{◌≡◌, ◌∙◌, ℕ, ◌<◌, true, slice_index_or, length, sym, ap, arith}
use Rattle.std.proofs.lemmas.Grind.{common_steps}
use Rattle.xcp_base.specs.Packets.{packet_len}
use Rattle.daq_store.specs.Configuration.{channel_of, odt_entries, entries_len, is_filled, is_short, is_stamped}
use Rattle.daq_store.proofs.ReadyLemmas.{all_more, all_taken, short_is, long_packet, odt_at}
use Rattle.daq_store.proofs.list_conf.ListConf.ready.Goals as goal

pub returns-then-packet_len-most : goal.returns-then-packet_len-most
returns-then-packet_len-most c =
    let inside : c.loop-k.k < length c.args.self.now.odts = grind (arith, common_steps) in
    let is : c.odt-item.result ≡ slice_index_or c.args.self.now.odts c.loop-k.k c.odt-item.result = grind (arith, common_steps) in
    let entries : odt_entries c.args.self.now c.loop-k.k ≡ c.odt-item.result = odt_at c.args.self.now c.loop-k.k c.odt-item.result inside is in
    let len : packet_len c.args.self.now.form (is_stamped c.args.self.now.mode) c.loop-k.k (entries_len c.args.self.now c.loop-k.k) ≡ c.packet_len.result
    = sym c.packet_len.ensures.value in
    long_packet c.args.segments.now c.args.self.now c.loop-k.k inside (omega (arith, len, c.max_dto-most.ensures))

pub loop-k-preserved : goal.loop-k-preserved
loop-k-preserved c =
    let inside : c.loop-k.k < length c.args.self.now.odts = grind (arith, common_steps) in
    let is : c.odt-item.result ≡ slice_index_or c.args.self.now.odts c.loop-k.k c.odt-item.result = grind (arith, common_steps) in
    let entries : odt_entries c.args.self.now c.loop-k.k ≡ c.odt-item.result = odt_at c.args.self.now c.loop-k.k c.odt-item.result inside is in
    let len : packet_len c.args.self.now.form (is_stamped c.args.self.now.mode) c.loop-k.k (entries_len c.args.self.now c.loop-k.k) ≡ c.packet_len.result
    = sym c.packet_len.ensures.value in
    let filled : is_filled (channel_of c.args.self.now.mode) c.args.segments.now c.odt-item.result ≡ true
    = ap (λ (x : ℕ). is_filled x c.args.segments.now c.odt-item.result) (sym c.channel-channel.ensures.value) ∙ sym c.is_filled.ensures ∙ c.if-not-is_filled.false in
    record {
      filled = all_taken (is_filled (channel_of c.args.self.now.mode) c.args.segments.now) c.args.self.now.odts c.loop-k.k c.odt-item.result inside is
          c.loop-k.invariant.filled filled;
      short = all_more (is_short c.args.self.now) c.loop-k.k c.loop-k.invariant.short
          (short_is (packet_len c.args.self.now.form (is_stamped c.args.self.now.mode) c.loop-k.k (entries_len c.args.self.now c.loop-k.k)) c.args.self.now.form.max_dto (omega (arith, len, c.max_dto-most.ensures)));
    }
