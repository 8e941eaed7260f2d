-- The samples among items, and their packets.
use Rattle.std.specs.Prelude.{ℕ, ◌==◌, List, [], ◌∷◌, ◌++◌, count_by}
use Rattle.xcp_base.specs.Samples.{SampleParts}
use Rattle.xcp_base.specs.declared.item.Item.{Item}
use Rattle.xcp_base.specs.declared.item.Item.TheVariants.{Sample, Marker}

-- the samples among the items, in order
abbrev pub samples : List Item → List SampleParts
samples [] = []
samples (Sample s ∷ xs) = s ∷ samples xs
samples (Marker m ∷ xs) = samples xs

-- all packets of the samples, in order
abbrev pub packets_of : List SampleParts → List (List ℕ)
packets_of [] = []
packets_of (s ∷ ss) = s.packets ++ packets_of ss

-- how many of the samples are of DAQ list l
abbrev pub count_of : ℕ → List SampleParts → ℕ
count_of l ss = count_by (λ (s : SampleParts). s.list == l) ss
