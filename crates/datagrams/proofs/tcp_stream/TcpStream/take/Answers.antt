use Rattle.std.proofs.Common.{◌≡◌, Some, length, min, take, is_some, if◌then◌else◌, sym, subst, ap, ◌∙◌, arith}
use Rattle.std.proofs.lemmas.List.{take_min}
use Rattle.datagrams.specs.Tcp.{segment_of}
use Rattle.datagrams.specs.TcpStreams.{StreamOf, with_segment}
use Rattle.datagrams.proofs.StreamLemmas.{with-segment}
use Rattle.datagrams.proofs.tcp_stream.TcpStream.take.Goals as goal

pub returns-clause-ok : goal.returns-clause-ok
returns-clause-ok c =
    let payload = c.args.segment.now.payload.now in
    let now : StreamOf = record {
      first = Some c.unwrap_or.result;
      next = c.next_with-next.result;
      came = c.keep.new.came.items;
      end = c.end_with-self-inside.result;
      gives_up = c.args.segment.now.breaks_off;
    } in
    let many : c.min.result ≡ min 16777216 (length payload) = omega (arith, c.min.ensures) in
    let bytes : take c.min.result payload ≡ take 16777216 payload = ap (λ n. take n payload) many ∙ take_min 16777216 payload in
    let old : StreamOf = record {
      first = c.self.inside.first;
      next = c.self.inside.next;
      came = c.self.inside.came.items;
      end = c.self.inside.end;
      gives_up = c.self.inside.gives_up;
    } in
    subst (λ (old : StreamOf). ◌≡◌ {A = StreamOf} now (with_segment old (segment_of c.args.segment.now))) c.self.view_is
    (with-segment old (segment_of c.args.segment.now) c.first_of-number.result c.next_with-next.result c.unwrap_or.result (take c.min.result payload) c.keep.new.came.items c.end_with-self-inside.result
    c.first_of-number.ensures bytes (subst (λ (k : StreamOf). c.next_with-next.result ≡ (if is_some k.first then k.next else c.first_of-number.result)) (sym c.self.view_is) c.next_with-next.ensures)
    c.unwrap_or.ensures c.in_ok-keep.ensures.ok c.end_with-self-inside.ensures)
