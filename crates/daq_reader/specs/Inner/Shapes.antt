-- How `ListShape` keeps its plan.
use Rattle.copy_plan.specs.Config.{ListPlan}
use Rattle.daq_reader.specs.declared.list_shape.ListShape.TheInside.{Inside}

abbrev pub shape_view : Inside → ListPlan
shape_view a = record {
  list = a.list;
  channel = a.channel;
  prescaler = a.prescaler;
  first_pid = a.first_pid;
  form = a.form;
  stamped = a.stamped;
  odts = a.odts.items;
  segments = a.segments.value.items;
}
