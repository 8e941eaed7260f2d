-- Each event channel stays on its line with its task.
use Rattle.std.proofs.Common.{◌≡◌, ◌≢◌, ℕ, suc, List, [], ◌∷◌, length, refl, sym, ap, ◌∙◌, arith, inl, inr}
use Rattle.std.specs.Prelude.{slice_get, Option, Some}
use Rattle.std.proofs.lemmas.Bool.Decides.{eqb_tells}
use Rattle.slave_channels.specs.Channels.{ChannelState}
use Rattle.slave_channels.specs.Calls.{rings_of}
use Rattle.slave_channels.specs.Each.{IsEach}

some_same : {X : Type 0} (x y : X) → ◌≡◌ {A = Option X} (Some x) (Some y) → x ≡ y
some_same x y e = cc

-- the names are the same where they are at each place
pub lines-same : (xs ys : List ChannelState) → length ys ≡ length xs
    → ((k : ℕ) (x y : ChannelState) → slice_get xs k ≡ Some x → slice_get ys k ≡ Some y → y.link.ring ≡ x.link.ring)
    → rings_of ys ≡ rings_of xs
lines-same [] [] many same = refl
lines-same [] (y ∷ ys) many same = absurd (omega (arith, many))
lines-same (x ∷ xs) [] many same = absurd (omega (arith, many))
lines-same (x ∷ xs) (y ∷ ys) many same =
    let first : y.link.ring ≡ x.link.ring = same 0 x y refl refl in
    let rest = lines-same xs ys (omega (arith, many)) (λ k u v at now. same (suc k) u v at now) in
    λ i. first i ∷ rest i

pub lines-each : (R : ℕ → ChannelState → ChannelState → Type 0) (xs ys : List ChannelState) → IsEach R xs ys
    → ((k : ℕ) (x y : ChannelState) → R k x y → y.link.ring ≡ x.link.ring) → rings_of ys ≡ rings_of xs
lines-each R xs ys each keeps = lines-same xs ys each.as_many (λ k x y at now. keeps k x y (each.each k x y at now))

-- one of them changed
pub lines-but : (c : ℕ) (xs ys : List ChannelState) → length ys ≡ length xs → ((k : ℕ) → k ≢ c → slice_get ys k ≡ slice_get xs k)
    → ((x y : ChannelState) → slice_get xs c ≡ Some x → slice_get ys c ≡ Some y → y.link.ring ≡ x.link.ring) → rings_of ys ≡ rings_of xs
lines-but c xs ys many others here =
    lines-same xs ys many
    (λ k x y at now.
    elim (eqb_tells k c) [
      | inl w ↦ here x y (ap (slice_get xs) (sym w.1) ∙ at) (ap (slice_get ys) (sym w.1) ∙ now)
      | inr w ↦ ap (λ (ch : ChannelState). ch.link.ring) (some_same y x (sym now ∙ others k w.1 ∙ at))
    ])
