use Rattle.daq_reader.proofs.reading.read_frame.Goals as goal

-- the frame's packet was taken
pub returns-clause-read : goal.returns-clause-read
returns-clause-read g c = λ ok.
    let next = rw c.in-Ok-Some.field-0-is at c.in-Ok-Some.ensures.next in
    (c.in-Ok-Some.packet.now, next, λ qs h. c.in_default.ensures.stands qs h)
