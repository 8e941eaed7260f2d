-- How `CopyPlan` keeps its configuration: the spans in place of the entries.
use Rattle.std.specs.Prelude.{◌≡◌, All, map}
use Rattle.segments.specs.Image.{image_len}
use Rattle.copy_plan.specs.declared.plan.CopyPlan.TheInside.{Inside}
use Rattle.copy_plan.specs.Config.{ListPlan, IsPlan, written_entries}
use Rattle.copy_plan.specs.Frames.{frames_len}
use Rattle.copy_plan.specs.Inner.Joined.{joined_spans}
use Rattle.copy_plan.specs.Inner.Stretched.{ArePlaced, SpansState}

-- the configuration
abbrev pub plan_view : Inside → ListPlan
plan_view a = record {
  list = a.list;
  channel = a.channel;
  prescaler = a.prescaler;
  first_pid = a.first_pid;
  form = a.form;
  stamped = a.stamped;
  odts = map (written_entries a.channel a.segments.value.items) a.conf.value.odts;
  segments = a.segments.value.items;
}

-- a plan, with the spans of each ODT, in stretches that lie in one segment each
pub record IsKept (a : Inside) : Type 0 where
  pub plan : IsPlan (plan_view a)
  pub len : a.image_len ≡ image_len a.segments.value.items
  pub odts : map (λ (s : SpansState). s.spans) a.odts.items ≡ map joined_spans (plan_view a).odts
  pub placed : All (ArePlaced a.channel a.segments.value.items) a.odts.items
  pub frames : a.frames_len ≡ frames_len (plan_view a)
