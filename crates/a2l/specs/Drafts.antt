-- What has been read of a text, without where it lies in memory.
use Rattle.a2l.specs.declared.draft.Draft.{Draft}
use Rattle.a2l.specs.ModuleSaid.{Told, module_seen}
use Rattle.a2l.specs.Described.{Described, description_seen}

abbrev pub draft_seen : Draft → Told × Described
draft_seen d = (module_seen d.parts, description_seen d.description)
