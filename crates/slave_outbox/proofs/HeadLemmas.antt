-- What the head of a record tells: a list that there may be.
use Rattle.std.proofs.Common.{◌≡◌, ℕ, ◌%◌, ◌<◌, Bool, true, false, cond, List, sym, ◌∙◌, subst, arith}
use Rattle.std.specs.Prelude.{slice_index, ◌==◌}
use Rattle.xcp_base.specs.declared.limits.TheConstants.{MAX_LISTS}
use Rattle.frame_ring.specs.Ends.{IsFirstHead, TakeState}
use Rattle.frame_ring.specs.Heads.{head_of}
use Rattle.frame_ring.specs.Reading.{frames_len}
use Rattle.frame_ring.specs.declared.head.Head.{Head}
use Rattle.frame_ring.specs.declared.head.Head.TheVariants.{Marker, Sample}

list_told : Head → ℕ
list_told (Sample l packets len) = l
list_told (Marker l) = l

small_by : (b : Bool) (l packets len : ℕ) → list_told (cond b (Sample (l % 16) packets len) (Marker (l % 16))) < MAX_LISTS
unfolding list_told
small_by true l packets len = omega arith
small_by false l packets len = omega arith

small : (block : List ℕ) → list_told (head_of block) < MAX_LISTS
unfolding head_of
small block = small_by (slice_index block 0 == 1) (slice_index block 2) (slice_index block 3) (frames_len block)

-- it is of a list that there may be
pub list_below : (head : Head) (t : TakeState) (l packets len : ℕ) → IsFirstHead head t → head ≡ Sample l packets len → l < MAX_LISTS
unfolding list_told
list_below head t l packets len first is = subst (λ (h : Head). list_told h < MAX_LISTS) (sym first.told ∙ is) (small t.front)
