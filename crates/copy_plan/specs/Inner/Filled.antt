-- What is known of the entries of a ready DAQ list.
use Rattle.std.specs.Prelude.{◌≡◌, ℕ, ◌<◌, true, All, List, length}
use Rattle.std.specs.List.{list_all}
use Rattle.segments.specs.declared.segment.Segment.{Segment}
use Rattle.daq_store.specs.Configuration.{Configuration, is_within}

-- each ODT has an entry, and each entry lies where event channel c may read it
abbrev pub AreFilled : ℕ → List Segment → Configuration → Type 0
AreFilled c segments conf =
    All (λ entries. (0 < length entries) × (list_all (is_within c segments) entries ≡ true))
    conf.odts
