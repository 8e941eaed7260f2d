use Rattle.std.proofs.Common.{◌+◌, nat_lt, slice_index, slice_range, length, ap, subst, ◌∙◌, arith}
use Rattle.datagrams.specs.Ipv6.{IsChain, carried_of, payload_end}
use Rattle.datagrams.proofs.ipv6.ipv6_in.Goals as goal

pub returns-clause-some : goal.returns-clause-some
returns-clause-some c = record {
  head = omega (arith, c.if-bytes-lt-HEADER.false);
  version = c.if-bytes-ne6.false;
  lens = c.in_ok-carried.ensures.some.0;
  carried = carried_of c.in_ok-carried.carried;
  chain =
      subst (λ e. IsChain (slice_index c.args.bytes.now 6) (slice_range c.args.bytes.now 40 e) c.in_ok-carried.ensures.some.0 (carried_of c.in_ok-carried.carried))
      (c.end_behind-end.ensures ∙ ap (λ n. payload_end n (length c.args.bytes.now)) c.number_at-told.ensures.value) c.in_ok-carried.ensures.some.1;
  is = ap (λ n. record {
    from = slice_range c.args.bytes.now 8 24;
    to = slice_range c.args.bytes.now 24 40;
    protocol = c.in_ok-carried.carried.protocol;
    part = c.in_ok-carried.carried.part;
    payload = c.in_ok-carried.carried.payload.now;
    is_cut = nat_lt (length c.args.bytes.now) (40 + n);
  }) c.number_at-told.ensures.value;
}
