-- A datagram that is handed out.
use Rattle.std.specs.Prelude.{Option}
use Rattle.std.specs.Option.{option_map}
use Rattle.datagrams.specs.Waiting.{WholeOf}
use Rattle.datagrams.specs.declared.whole_datagram.WholeDatagram.{WholeDatagram}

abbrev pub whole_of : WholeDatagram → WholeOf
whole_of d = record {
  from = d.from.items;
  to = d.to.items;
  protocol = d.protocol;
  payload = d.payload.items;
}

abbrev pub handed_out : Option WholeDatagram → Option WholeOf
handed_out d = option_map whole_of d
