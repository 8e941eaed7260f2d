-- A handle of a slave or of a task may go to another thread: what it may hold may, and so may the
-- right to free its box.
use denote.Enum.Declared as enum
use denote.Struct.Struct.{exits_of}
use denote.Struct.Owning.{shape, fields, to}
use denote.Param.Send.{IsSend, AllSend, enum_send, owning_send, recorded_send, struct_send, sendable}
use Rattle.std_alloc.proofs.SendSync.{quiet}
use Rattle.c_engine.proofs.SendLemmas.{owned_keyless}
use Rattle.slave_lending.proofs.SendLemmas.{lending_slave_send, lent_task_send}
use Rattle.c_slave.specs.contracts.content.Content as content
use Rattle.c_slave.specs.contracts.handle.Handle.{the_row, the_type}

content_send : IsSend content.the_row
content_send =
    recorded_send _ _ _ content.the_type.to_one
    (enum_send (enum.shape content.the_type) ((lending_slave_send, tt), ((lent_task_send, tt), tt)))

pub send : IsSend the_row
send =
    let all : AllSend (fields the_type) = (search sendable, (search sendable, tt)) in
    owning_send the_type all (λ d. owned_keyless content.the_row content_send d.full d.at d.held)
    (λ k. quiet (to the_type) (exits_of k (fields the_type)) ((struct_send (shape the_type) all).leaving k))
