use Rattle.datagrams.proofs.tcp_stream.TcpStream.next.Goals as goal

pub returns-in_default-clause-ok : goal.returns-in_default-clause-ok
returns-in_default-clause-ok c = c.at_hole.ensures c.args.out.now.items
