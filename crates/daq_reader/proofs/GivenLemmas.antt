-- Packets that are those of samples are all taken, and the samples given back are these.
use Rattle.std.proofs.Common.{true, if◌then◌else◌, ◌==◌, ◌≡◌, ℕ, ◌+◌, ◌<◌, ◌≤◌, List, [], ◌∷◌, ◌++◌, length, take, drop, sym, ap, ◌∙◌, arith, append_assoc, length-append}
use Rattle.std.specs.Prelude.{All, flat_map}
use Rattle.std.proofs.lemmas.Bool.Decides.{nat_tests}
use Rattle.std.proofs.lemmas.List.{append-nil, take-append-drop, take-append-le}
use Rattle.std.proofs.lemmas.List.Elements.{All-head, All-tail, filter-append}
use Rattle.std.proofs.Math.Seq.{take-append_seam}
use Rattle.copy_plan.specs.Config.{ListPlan}
use Rattle.daq_reader.specs.Laws.{AreRead}
use Rattle.daq_reader.specs.Given.{SamplesAreGivenBack, SamplesAreTaken}
use Rattle.daq_reader.specs.Lists.{fault_at, given, of_place, place_in, plans_of}
use Rattle.daq_reader.specs.Reading.{under_way}
use Rattle.daq_reader.specs.Recorded.{Begin, IsRecorded, Recorded, packets_of}
use Rattle.daq_reader.proofs.BeginLemmas.{begun_without_fault, length-packets_of}
use Rattle.daq_reader.proofs.UniqueLemmas.{reading_is_unique, same_front}

pub samples_are_given_back : SamplesAreGivenBack
samples_are_given_back lists qs samples i a rs h at is each whole =
    reading_is_unique a.plan (given i samples) rs (under_way a) [] (of_place (plans_of lists) i qs) is (h.each i a at) (record {
      each = each;
      torn = is.some;
      whole = whole ∙ sym (append-nil (flat_map (packets_of a.plan) rs));
    })

abbrev all_packets : ListPlan → List Recorded → List (List ℕ)
all_packets plan rs = flat_map (packets_of plan) rs

-- no more packets than a sample has, in front of its packets and others
begins : (plan : ListPlan) (r : Recorded) (xs rest more : List (List ℕ)) → IsRecorded plan r → length xs ≤ length plan.odts → xs ++ rest ≡ packets_of plan r ++ more → Begin plan xs
begins plan r xs rest more of few h =
    let fits : length xs ≤ length (packets_of plan r) = omega (arith, few, length-packets_of plan r) in
    let front : xs ≡ take (length xs) (packets_of plan r)
    = sym (take-append_seam xs rest) ∙ ap (take (length xs)) h ∙ take-append-le (length xs) (packets_of plan r) more fits in
    record {
      sample = r;
      is = of;
      front = (drop (length xs) (packets_of plan r), ap (λ zs. zs ++ drop (length xs) (packets_of plan r)) front ∙ take-append-drop (length xs) (packets_of plan r));
    }

-- packets that stand behind those of whole samples, among those of samples, begin one
next_begins : (plan : ListPlan) (ss rs : List Recorded) (xs rest : List (List ℕ)) → All (IsRecorded plan) rs → 0 < length xs → length xs ≤ length plan.odts → all_packets plan ss ++ (xs ++ rest) ≡ all_packets plan rs → Begin plan xs
next_begins plan [] [] xs rest each some few h = absurd (omega (arith, some, ap length h, length-append xs rest))
next_begins plan [] (r ∷ rs) xs rest each some few h = begins plan r xs rest (all_packets plan rs) (All-head (IsRecorded plan) r rs each) few h
next_begins plan (s ∷ ss) [] xs rest each some few h =
    let size = ap length (sym (append_assoc (packets_of plan s) (all_packets plan ss) (xs ++ rest)) ∙ h) in
    absurd (omega (arith, some, few, size, length-append (packets_of plan s) (all_packets plan ss ++ (xs ++ rest)), length-append (all_packets plan ss) (xs ++ rest), length-append xs rest))
next_begins plan (s ∷ ss) (r ∷ rs) xs rest each some few h =
    let parts = same_front (packets_of plan s) (packets_of plan r) (all_packets plan ss ++ (xs ++ rest)) (all_packets plan rs) (length-packets_of plan s ∙ sym (length-packets_of plan r)) (sym (append_assoc (packets_of plan s) (all_packets plan ss) (xs ++ rest)) ∙ h) in
    next_begins plan ss rs xs rest (All-tail (IsRecorded plan) r rs each) some few parts.1

is_same : (a : ℕ) → (a == a) ≡ true
is_same a = grind (arith, nat_tests)

-- the packets of a list, with one of this list and others behind them
of_more : (plans : List ListPlan) (qs more : List (List ℕ)) (q : List ℕ) → of_place plans (place_in plans q) (qs ++ q ∷ more) ≡ of_place plans (place_in plans q) qs ++ q ∷ of_place plans (place_in plans q) more
of_more plans qs more q =
    let i : ℕ = place_in plans q in
    filter-append (λ (p : List ℕ). place_in plans p == i) qs (q ∷ more)
    ∙ ap (λ v. of_place plans i qs ++ (if v then q ∷ of_place plans i more else of_place plans i more)) (is_same i)

pub samples_are_taken : SamplesAreTaken
samples_are_taken lists qs more q samples a rs h at is each whole =
    let i : ℕ = place_in (plans_of lists) q in
    let behind : List (List ℕ) = of_place (plans_of lists) i more in
    let read : AreRead a.plan (given i samples) (under_way a) (of_place (plans_of lists) i qs) = h.each i a at in
    let all : all_packets a.plan (given i samples) ++ ((under_way a ++ q ∷ []) ++ behind) ≡ all_packets a.plan rs
    = ap (λ zs. all_packets a.plan (given i samples) ++ zs) (append_assoc (under_way a) (q ∷ []) behind)
    ∙ sym (append_assoc (all_packets a.plan (given i samples)) (under_way a) (q ∷ behind))
    ∙ ap (λ zs. zs ++ q ∷ behind) (sym read.whole)
    ∙ sym (of_more (plans_of lists) qs more q)
    ∙ whole in
    let size : length (under_way a ++ q ∷ []) ≡ length (under_way a) + 1 = length-append (under_way a) (q ∷ []) in
    let begun : Begin a.plan (under_way a ++ q ∷ []) = next_begins a.plan (given i samples) rs (under_way a ++ q ∷ []) behind each (omega (arith, size)) (omega (arith, size, read.torn)) all in
    ap (λ o. fault_at o q) at ∙ begun_without_fault a.plan (under_way a) q is begun
