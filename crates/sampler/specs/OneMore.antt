-- What an event more adds to a history: its due pairs and its items come behind those before it.
use Rattle.std.specs.Prelude.{◌≡◌, Bool, List, [], ◌∷◌, ◌++◌, length}
use Rattle.sampler.specs.History.{Event, Opening, due, pairs_at}
use Rattle.sampler.specs.Items.{items, items_at}

-- the due pairs of a history with one event more are those before, and then those of the event
abbrev pub DueOfOneMore : Type 0
DueOfOneMore =
    (opening : Opening) (h : List Event) (e : Event)
    → due opening (h ++ e ∷ []) ≡ due opening h ++ pairs_at opening (h, e)

-- and so are its items, whatever was decided of the event's pairs
abbrev pub ItemsOfOneMore : Type 0
ItemsOfOneMore =
    (opening : Opening) (h : List Event) (e : Event) (d ds : List Bool)
    → length d ≡ length (due opening h)
    → items opening (h ++ e ∷ []) (d ++ ds)
    ≡ items opening h d ++ items_at opening (h ++ e ∷ []) (d ++ ds) (h, e)
