use Rattle.std.proofs.Common.{map, sym, vec_items}
use Rattle.daq_reader.proofs.PlaceLemmas.{taken_count}
use Rattle.daq_reader.proofs.list_reader.ListReader.taken.Goals as goal

-- so many places hold packets
pub returns : goal.returns
returns c =
    rw (← c.self.view_is) (sym (taken_count c.self.inside.shape c.self.inside.taken (map vec_items c.self.inside.places.items) c.self.invariant))
