-- The event channels that may read a segment, one after another.
use Rattle.std.proofs.Common.{◌≡◌, ◌<◌, ◌+◌, ℕ, List, [], ◌∷◌, ◌++◌, length, get_or, take, Some, None, option_map, bit_or, ◌^◌, refl, ap, ◌∙◌}
use Rattle.toml.specs.View.{items_view, view}
use Rattle.toml.specs.declared.value.Value.{Value}
use Rattle.run_file.specs.Keys.{all_of, number_in}
use Rattle.run_file.proofs.KeyLemmas.{all_of-more, all_of-none}
use Rattle.run_file.proofs.StepLaw.{map-some}
use Rattle.session_file.specs.declared.limits.TheConstants.{LAST_CHANNEL}
use Rattle.session_file.specs.Memory.{readers_in, with_readers}

with_readers-push : (set : ℕ) (cs : List ℕ) (c : ℕ) → with_readers set (cs ++ c ∷ []) ≡ bit_or (with_readers set cs) (2 ^ c)
with_readers-push set [] c = refl
with_readers-push set (d ∷ cs) c = with_readers-push (bit_or set (2 ^ d)) cs c

-- one more event channel was read
pub readers_more : (vs : List Value) (i : ℕ) (v : Value) (set c : ℕ) → i < length vs → v ≡ get_or vs i v → readers_in (items_view (take i vs)) ≡ Some set
    → number_in 0 LAST_CHANNEL (view v) ≡ Some c → readers_in (items_view (take (i + 1) vs)) ≡ Some (bit_or set (2 ^ c))
readers_more vs i v set c low is so_far read =
    let parts = map-some (with_readers 0) (all_of (number_in 0 LAST_CHANNEL) (items_view (take i vs))) set so_far in
    ap (option_map (with_readers 0)) (all_of-more (number_in 0 LAST_CHANNEL) vs i v parts.0 c low is parts.1 read)
    ∙ ap Some (with_readers-push 0 parts.0 c ∙ ap (λ s. bit_or s (2 ^ c)) parts.2)

-- a value is no event channel
pub readers_none : (vs : List Value) (i : ℕ) (d : Value) → i < length vs → number_in 0 LAST_CHANNEL (view (get_or vs i d)) ≡ None → readers_in (items_view vs) ≡ None
readers_none vs i d low none = ap (option_map (with_readers 0)) (all_of-none (number_in 0 LAST_CHANNEL) vs i d low none)
