-- A sample that was read.
use Rattle.std.specs.Prelude.{◌≡◌, ℕ, List}
use Rattle.xcp_base.specs.Bodies.{IsBodyOf}
use Rattle.xcp_base.specs.Samples.{HasParts, SampleParts}
use Rattle.xcp_base.specs.declared.item.Item.{Item}
use Rattle.xcp_base.specs.declared.item.Item.TheVariants.{Sample}

-- an item is the sample of these parts, with the packets of a body
pub record IsSampleRead (c l n count : ℕ) (body : List ℕ) (item : Item) : Type 0 where
  pub sample : SampleParts
  pub is : item ≡ Sample sample
  pub parts : HasParts c l n sample
  pub packets : IsBodyOf count body sample.packets
