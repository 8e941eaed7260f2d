use Rattle.std.proofs.Common.{arith, sym, ◌∙◌, ap}
use Rattle.std.specs.Prelude.{option_map}
use Rattle.daq_store.specs.Configuration.{channel_of, odt_entries}
use Rattle.copy_plan.specs.Config.{placed, written_entries}
use Rattle.daq_reader.specs.Inner.Slots.{bytes_of, laid_out}
use Rattle.daq_reader.proofs.SlotLemmas.{AllLaid, all_laid, laid, skipped}
use Rattle.daq_reader.proofs.slots.Slots.of.Goals as goal
use Rattle.daq_reader.proofs.slots.Slots.of.Goals.{After-loop-entry}

-- an entry that isn't written is passed over
pub loop-entry-preserved-in_default : goal.loop-entry-preserved-in_default
loop-entry-preserved-in_default c =
    skipped (channel_of c.args.conf.now.mode) c.args.segments.now c.loop-entry.slots.items c.loop-entry.len c.loop-entry.entry (odt_entries c.args.conf.now c.args.odt) c.loop-entry.invariant (ap (option_map (placed (channel_of c.args.conf.now.mode) c.args.segments.now)) (sym c.written.ensures.value ∙ c.in_default.is))

-- a written one is laid behind those before
pub loop-entry-preserved : goal.loop-entry-preserved
loop-entry-preserved c =
    rw (c.in_ok-push.ensures.items, c.unwrap_or.ensures, c.image_place-place.ensures.value, c.as_slice.ensures.value, c.channel-channel.ensures.value) (laid (channel_of c.args.conf.now.mode) c.args.segments.now c.loop-entry.slots.items c.loop-entry.len c.loop-entry.entry (odt_entries c.args.conf.now c.args.odt) (placed (channel_of c.args.conf.now.mode) c.args.segments.now c.in-Some.written) c.loop-entry.invariant (ap (option_map (placed (channel_of c.args.conf.now.mode) c.args.segments.now)) c.in-Some.ensures.value) c.in-Some.ensures.size.1)

-- all entries are laid
all : (c : After-loop-entry) → AllLaid c.loop-entry.slots.items c.loop-entry.len (written_entries (channel_of c.args.conf.now.mode) c.args.segments.now (odt_entries c.args.conf.now c.args.odt))
all c = all_laid (channel_of c.args.conf.now.mode) c.args.segments.now c.loop-entry.slots.items c.loop-entry.len c.loop-entry.entry (odt_entries c.args.conf.now c.args.odt) c.loop-entry.invariant (omega arith)

pub invariant_of-result : goal.invariant_of-result
invariant_of-result c =
    let a = all (goal.at.invariant_of-result c).After-loop-entry in
    record {
      slots = a.slots ∙ ap (laid_out 0) (sym a.entries);
      len = a.len ∙ ap bytes_of (sym a.entries);
    }

pub returns : goal.returns
returns c = (all (goal.at.returns c).After-loop-entry).entries
