use Rattle.std.proofs.Common.{sym, ap, ◌∙◌}
use Rattle.std.specs.Option.{option_map}
use Rattle.a2l.specs.Units.{unit_in}
use Rattle.a2l.specs.Resolved.{described_method}
use Rattle.a2l.proofs.NameLemmas.{none_at, some_at, get_map}
use Rattle.a2l.proofs.description.unit_at.Goals as goal

pub returns-in-None-get : goal.returns-in-None-get
returns-in-None-get c =
    rw c.in-Some.is (sym (ap unit_in (get_map described_method c.args.methods.now c.in-Some.place ∙ ap (option_map described_method) (none_at c.args.methods.now c.in-Some.place c.in-None-get.ensures.lookup))))

pub returns-in-Some-get : goal.returns-in-Some-get
returns-in-Some-get c =
    rw c.in-Some.is (c.as_str.ensures.value ∙ sym (ap unit_in (get_map described_method c.args.methods.now c.in-Some.place ∙ ap (option_map described_method) (some_at c.args.methods.now c.in-Some.place c.in-Some-get.method c.in-Some-get.ensures.lookup))))
