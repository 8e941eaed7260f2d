-- How many items a drain takes.
use Rattle.std.proofs.Common.{◌≡◌, ℕ, zero, suc, ◌+◌, ◌*◌, ◌<◌, ◌≤◌, true, List, [], ◌∷◌, length, Option, Some, None, refl, sym, ap, ◌∙◌, arith, length-append}
use Rattle.std.specs.Prelude.{Result, Ok, Err, slice_get}
use Rattle.std.proofs.lemmas.List.{length-map}
use Rattle.std.proofs.lemmas.Option.{slice_get_within}
use Rattle.xcp_base.specs.declared.item.Item.{Item}
use Rattle.xcp_base.specs.declared.limits.TheConstants.{MAX_TAKEN}
use Rattle.transmitter.specs.Merge.{of_ring}
use Rattle.transmitter.specs.Rounds.{Drains, TakesInRounds, round, rounds, without_first}
use Rattle.transmitter.specs.Written.{TransmitterState}
use Rattle.transmitter.specs.declared.faults.PumpFault.{PumpFault}
use Rattle.transmitter.specs.declared.faults.PumpFault.TheVariants.{Closed, Failed, Spent}
use Rattle.sampler.specs.Past.{Past}
use Rattle.sampler.specs.State.{JoinedEnd, sent_by}
use Rattle.daq_engine.specs.Closed.{WasDrained}
use Rattle.daq_engine.proofs.EndLemmas.{sent_at}
use Rattle.daq_run.specs.StepRuns.{sent_in}

-- all of them
total : List (List Item) → ℕ
total [] = 0
total (xs ∷ lists) = length xs + total lists

round-total : (c : ℕ) (lists : List (List Item)) → length (round c lists) + total (without_first lists) ≡ total lists
unfolding total
round-total c [] = refl
round-total c ([] ∷ lists) = let later = round-total (c + 1) lists in omega (arith, later)
round-total c ((x ∷ xs) ∷ lists) = let later = round-total (c + 1) lists in omega (arith, later)

-- the rounds take no more
few_in_rounds : (n : ℕ) (lists : List (List Item)) → length (rounds n lists) ≤ total lists
few_in_rounds zero lists = omega arith
few_in_rounds (suc n) lists =
    omega (arith, length-append (round 0 lists) (rounds n (without_first lists)), round-total 0 lists, few_in_rounds n (without_first lists))

-- so many for each of n lists, and none behind them
few_in_all : (m n : ℕ) (lists : List (List Item)) → ((c : ℕ) → length (of_ring lists c) ≤ m) → ((c : ℕ) → n ≤ c → length (of_ring lists c) ≡ 0) → total lists ≤ n * m
unfolding total
few_in_all m n [] each none = omega arith
few_in_all m zero (xs ∷ lists) each none =
    let later = few_in_all m zero lists (λ c. each (suc c)) (λ c h. none (suc c) (omega arith)) in
    omega (arith, later, none 0 (omega arith))
few_in_all m (suc n) (xs ∷ lists) each none =
    let later = few_in_all m n lists (λ c. each (suc c)) (λ c h. none (suc c) (omega (arith, h))) in
    omega (arith, later, each 0)

module _ (sent : List (List Item)) (a b : TransmitterState) (before : a.taken ≤ 128000008)
    (each : (c : ℕ) → length (of_ring sent c) ≤ 16000000) (none : (c : ℕ) → 8 ≤ c → length (of_ring sent c) ≡ 0) where
  few_taken : TakesInRounds sent a b → b.taken < MAX_TAKEN
  few_taken t =
      let left : (c : ℕ) → length (of_ring a.received c) + length (of_ring t.left c) ≡ length (of_ring sent c) = λ c. sym (length-append (of_ring a.received c) (of_ring t.left c)) ∙ ap length (t.leaves c) in
      let all = few_in_all 16000000 8 t.left (λ c. let l = left c in let s = each c in omega (arith, l, s)) (λ c h. let l = left c in let s = none c h in omega (arith, l, s)) in
      let parts = length-append t.taken t.in_rounds.0 in
      let whole = ap length t.in_rounds.1 in
      omega (arith, before, t.leads.taken, all, few_in_rounds t.turns t.left, parts, whole)

  -- where so many were sent at most, a drain doesn't come to the limit of items
  pub few_drained : (answer : Result (Unit {0}) PumpFault) → Drains sent a b answer → b.taken < MAX_TAKEN
  few_drained (Ok u) drains = few_taken drains.0
  few_drained (Err Failed) drains = few_taken drains.0
  few_drained (Err Closed) drains = let same = ap (λ (t : TransmitterState). t.taken) drains.1 in omega (arith, same, before)
  few_drained (Err Spent) drains = few_taken drains.0

-- no ring, no items
pub none_beyond : (lists : List (List Item)) (c : ℕ) → length lists ≤ c → of_ring lists c ≡ []
none_beyond [] c h = refl
none_beyond (xs ∷ lists) zero h = absurd (omega (arith, h))
none_beyond (xs ∷ lists) (suc c) h = none_beyond lists c (omega (arith, h))

pub end_beyond : {X : Type 0} (xs : List X) (c : ℕ) → slice_get xs c ≡ None → length xs ≤ c
end_beyond [] c is = omega arith
end_beyond (x ∷ xs) zero is = absurd cc
end_beyond (x ∷ xs) (suc c) is = omega (arith, end_beyond xs c is)

-- the ends of at most 8 channels, each of which sent few items
module _ (ends : List JoinedEnd) (past : ℕ → Past) (eight : length ends ≤ 8)
    (sent : (c : ℕ) (e : JoinedEnd) → slice_get ends c ≡ Some e → e.sent ≡ sent_in (past c))
    (few : (c : ℕ) → c < length ends → length (sent_in (past c)) ≤ 16000000) where
  few_each : (c : ℕ) (at : Option JoinedEnd) → slice_get ends c ≡ at → length (of_ring (sent_by ends) c) ≤ 16000000
  few_each c (Some e) is =
      let one = few c (slice_get_within ends c e is) in
      omega (arith, one, ap length (sent_at ends c e is), ap length (sent c e is))
  few_each c None is =
      let beyond = end_beyond ends c is in
      let many = length-map ends (λ (e : JoinedEnd). e.sent) in
      omega (arith, ap length (none_beyond (sent_by ends) c (omega (arith, beyond, many))))

  -- a drain of their rings doesn't come to the limit of items
  pub few_at_last : (a b : TransmitterState) → a.taken ≤ 128000008 → WasDrained true (sent_by ends) a b → b.taken < MAX_TAKEN
  few_at_last a b before drained =
      let many = length-map ends (λ (e : JoinedEnd). e.sent) in
      few_drained (sent_by ends) a b before (λ c. few_each c (slice_get ends c) refl)
      (λ c above. ap length (none_beyond (sent_by ends) c (omega (arith, many, eight, above)))) drained.0 drained.1
