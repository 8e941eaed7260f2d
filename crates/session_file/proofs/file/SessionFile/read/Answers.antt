use Rattle.std.proofs.Common.{◌≡◌, map, sym, ap, ◌∙◌, subst}
use Rattle.toml.specs.View.{table_view}
use Rattle.run_file.specs.Reading.{IsFirstBad}
use Rattle.session_file.specs.declared.file_fault.FileFault.TheVariants.{BadEvent, BadLine, BadSegment}
use Rattle.session_file.specs.Events.{event_data, event_in}
use Rattle.std.proofs.Common.{Some}
use Rattle.session_file.specs.Inner.{values_data}
use Rattle.session_file.specs.Keys.{first_none}
use Rattle.session_file.specs.Lines.{IsLineText}
use Rattle.session_file.specs.Memory.{bad_segment, count_of, segments_of}
use Rattle.session_file.proofs.FileLemmas.{IsFault, event_at, fault_is, line_at, segment_at}
use Rattle.session_file.proofs.file.SessionFile.read.Goals as goal

-- the first item of `segments` that is no segment
pub returns-in_err-segments-clause-bad_segment : goal.returns-in_err-segments-clause-bad_segment
returns-in_err-segments-clause-bad_segment c = λ i is.
    let v = values_data c.in_ok-values.values in
    let named : c.in_err-segments.field-0.0 ≡ BadSegment i = fault_is c.from_residual-in_err-segments.result c.in_err-segments.field-0.0 (BadSegment i) c.from_residual-in_err-segments.ensures.1 is in
    record {
      values = v;
      document = record { document = table_view c.in_ok-table.table; toml = c.in_ok-table.ensures.ok; keys_are = c.in_ok-values.ensures.ok };
      first = segment_at (λ k. bad_segment (count_of v.events) v.memory ≡ Some k) i c.in_err-segments.field-0.0
          (subst (λ n. IsFault BadSegment (λ k. bad_segment n v.memory ≡ Some k) c.in_err-segments.field-0.0) c.channels_of.ensures c.in_err-segments.ensures.err) named;
    }

-- the first item of `events` that is no event channel
pub returns-in_err-events-clause-bad_event : goal.returns-in_err-events-clause-bad_event
returns-in_err-events-clause-bad_event c = λ i is.
    let v = values_data c.in_ok-values.values in
    let named : c.in_err-events.field-0.0 ≡ BadEvent i = fault_is c.from_residual-in_err-events.result c.in_err-events.field-0.0 (BadEvent i) c.from_residual-in_err-events.ensures.1 is in
    record {
      values = v;
      document = record { document = table_view c.in_ok-table.table; toml = c.in_ok-table.ensures.ok; keys_are = c.in_ok-values.ensures.ok };
      segments = c.in_ok-segments.segments.items;
      segments_are = ap (λ n. segments_of n v.memory) (sym c.channels_of.ensures) ∙ c.in_ok-segments.ensures.ok;
      first = event_at (λ k. first_none event_in v.events ≡ Some k) i c.in_err-events.field-0.0 c.in_err-events.ensures.err named;
    }

-- the first text of `script` that is no line
pub returns-in_err-script-clause-bad_line : goal.returns-in_err-script-clause-bad_line
returns-in_err-script-clause-bad_line c = λ i is.
    let v = values_data c.in_ok-values.values in
    let named : c.in_err-script.field-0.0 ≡ BadLine i = fault_is c.from_residual-in_err-script.result c.in_err-script.field-0.0 (BadLine i) c.from_residual-in_err-script.ensures.1 is in
    record {
      values = v;
      document = record { document = table_view c.in_ok-table.table; toml = c.in_ok-table.ensures.ok; keys_are = c.in_ok-values.ensures.ok };
      segments = c.in_ok-segments.segments.items;
      segments_are = ap (λ n. segments_of n v.memory) (sym c.channels_of.ensures) ∙ c.in_ok-segments.ensures.ok;
      events = map event_data c.in_ok-events.events.items;
      events_are = c.in_ok-events.ensures.ok;
      first = line_at (λ k. IsFirstBad IsLineText v.script k) i c.in_err-script.field-0.0 c.in_err-script.ensures.err named;
    }

-- the segments are those of memory, for as many event channels as there are
pub profile_of-requires : goal.profile_of-requires
profile_of-requires c =
    let v = values_data c.in_ok-values.values in
    record {
      memory = ap (λ n. segments_of n v.memory) (sym c.channels_of.ensures) ∙ c.in_ok-segments.ensures.ok;
      read = c.in_ok-events.ensures.ok;
    }
