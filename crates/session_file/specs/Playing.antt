-- What a slave does when the lines of a script are played.
use Rattle.std.specs.Prelude.{◌≡◌, ℕ, ◌+◌, ◌*◌, ◌≤◌, List, [], ◌∷◌, ◌++◌, length, map}
use Rattle.channel_ring.specs.Ends.{RingName}
use Rattle.frame_ring.specs.declared.frame_send.FrameSend.{FrameSend}
use Rattle.session.specs.declared.profile.Profile.{Profile}
use Rattle.slave_channels.specs.Calls.{rings_of}
use Rattle.slave.specs.Hearing.{KeepsLines}
use Rattle.tasks.specs.Tasks.{TaskState}
use Rattle.slave.specs.Log.{Act, CameBack, Discarded, Heard, HungUp, Opened, Refused, Sent, Took}
use Rattle.slave.specs.Session.{SessionLaw, sent_text}
use Rattle.slave.specs.Standing.{IsLog, SlaveStandsAfter, SlaveState}
use Rattle.slave.specs.Taking.{most_taken}
use Rattle.session_file.specs.Lines.{LineData, master, memory, trigger, send, send_in, lose}
use Rattle.session_file.specs.Lines.{hang_up}
use Rattle.slave.specs.Thinned.{IsWithout}

-- the packets of the lines that are packets of the master
abbrev pub masters : List LineData → List (List ℕ)
masters [] = []
masters (master packet ∷ lines) = packet ∷ masters lines
masters (trigger c stamp slices ∷ lines) = masters lines
masters (memory slices ∷ lines) = masters lines
masters (send ∷ lines) = masters lines
masters (send_in room ∷ lines) = masters lines
masters (lose ∷ lines) = masters lines
masters (hang_up ∷ lines) = masters lines

-- the packets that were heard, answered or refused, oldest first
abbrev pub heard_by : List Act → List (List ℕ)
heard_by [] = []
heard_by (Heard x ∷ log) = heard_by log ++ x.packet ∷ []
heard_by (Refused packet code ∷ log) = heard_by log ++ packet ∷ []
heard_by (Opened at ∷ log) = heard_by log
heard_by (Took m c x ∷ log) = heard_by log
heard_by (CameBack m c past ∷ log) = heard_by log
heard_by (Sent n ∷ log) = heard_by log
heard_by (HungUp ∷ log) = heard_by log
heard_by (Discarded ∷ log) = heard_by log

-- the most acts of a line, and of the end: what is taken for one datagram, and its sending; or
-- parts that came back, and a packet that is heard behind those
abbrev pub most_a_line : ℕ
most_a_line = most_taken + 64

-- the names of the lines of tasks with their slave
abbrev pub lines_of : List (TaskState FrameSend) → List RingName
lines_of tasks = map (λ (task : TaskState FrameSend). task.ring) tasks

-- the tasks are those of the slave, in the order of its event channels
abbrev pub AreTasksOf : SlaveState → List (TaskState FrameSend) → Type 0
AreTasksOf slave tasks = lines_of tasks ≡ rings_of slave.channels

-- a slave, and the bytes that it sent so far
pub record Sending : Type 0 where
  pub slave : SlaveState
  pub sent : List ℕ

abbrev pub sending : SlaveState → List ℕ → Sending
sending slave sent = record { slave = slave; sent = sent }

-- the slave stands after a log, and what was sent is the text of it
pub record StandsSo (d : Profile) (a : Sending) (log : List Act) : Type 0 where
  pub stands : SlaveStandsAfter d a.slave log
  pub text_is : a.sent ≡ sent_text d log

-- these packets were heard, in order, and no others; and no more was done than so many acts. Each
-- event channel is on its line with its task still
pub record Advances (most : ℕ) (a b : Sending) (packets : List (List ℕ)) : Type 0 where
  pub lines : KeepsLines a.slave b.slave
  pub acts : List Act
  pub few : length acts ≤ most
  pub heard : heard_by acts ≡ packets
  pub goes : (d : Profile) (log : List Act) → StandsSo d a log → StandsSo d b (acts ++ log)

-- lines were played, if `before` lines had been refused and now `after` are: the packets that were
-- heard are those of the master without those that were refused
pub record Does (a b : Sending) (before after : ℕ) (lines : List LineData) : Type 0 where
  pub unheard : ℕ
  pub packets : List (List ℕ)
  pub thinned : IsWithout unheard (masters lines) packets
  pub counted : before + unheard ≤ after
  pub most : after ≤ before + length lines
  pub advances : Advances (most_a_line * length lines) a b packets

-- a log of a slave of this profile, of which the law of a session holds: it heard the master's
-- packets of these lines, in order, but those that were refused; and the bytes are those of what it
-- sent
pub record IsPlay (d : Profile) (lines : List LineData) (refused : ℕ) (bytes : List ℕ)
    : Type 0 where
  pub log : List Act
  pub few : length log ≤ most_a_line * (1 + length lines)
  pub unheard : ℕ
  pub thinned : IsWithout unheard (masters lines) (heard_by log)
  pub counted : unheard ≤ refused
  pub is_log : IsLog d log
  pub law : SessionLaw d log
  pub bytes_are : bytes ≡ sent_text d log

-- such a log, after which the slave stands
pub record HasPlayed (d : Profile) (lines : List LineData) (refused : ℕ) (bytes : List ℕ)
    : Type 0 where
  pub slave : SlaveState
  pub play : IsPlay d lines refused bytes
  pub stands : SlaveStandsAfter d slave play.log
