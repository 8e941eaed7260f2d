-- A packet that fits behind those that wait.
use Rattle.std.proofs.Common.{inl, inr, Bool, true, false, if◌then◌else◌, ◌==◌, ◌≡◌, ◌≢◌, ℕ, ◌<◌, List, [], ◌∷◌, ◌++◌, length, get_or, refl, sym, ap, ◌∙◌, arith, length-append, Some, None}
use Rattle.std.specs.Prelude.{All}
use Rattle.std.proofs.Math.Seq.{get_or-append_seam}
use Rattle.std.proofs.lemmas.Bool.{cases_lt}
use Rattle.std.proofs.lemmas.Bool.Decides.{nat_tests}
use Rattle.std.proofs.lemmas.List.{get_or_append_left}
use Rattle.std.proofs.lemmas.List.Elements.{All-append, All-cons, All-nil}
use Rattle.copy_plan.specs.Config.{IsPlan, ListPlan}
use Rattle.daq_reader.specs.declared.packet_fault.PacketFault.{PacketFault}
use Rattle.daq_reader.specs.Faults.{fault_of}
use Rattle.daq_reader.specs.Reading.{Reading, is_whole, under_way}
use Rattle.daq_reader.specs.Recorded.{Begin}
use Rattle.daq_reader.specs.Inner.Fitting.{FitInOrder, Fits, HasBytes, HaveBytes, IsReading}
use Rattle.daq_reader.proofs.BeginLemmas.{begun_without_fault}
use Rattle.daq_reader.proofs.FieldLemmas.{fits}
use Rattle.daq_reader.proofs.RecordedLemmas.{begin}

-- the packets that wait are those of a reading, or none
pub record Waits (plan : ListPlan) (qs : List (List ℕ)) : Type 0 where
  pub few : length qs < length plan.odts
  pub fit : FitInOrder plan qs
  pub each : HaveBytes qs

nothing_fits : (plan : ListPlan) → FitInOrder plan []
nothing_fits plan = record { few = omega arith; each = λ k h. absurd (omega (arith, h)) }

waiting : (a : Reading) (b : Bool) → (length a.packets == length a.plan.odts) ≡ b → IsReading a → Waits a.plan (if b then [] else a.packets)
waiting a true e h = record { few = h.plan.some; fit = nothing_fits a.plan; each = All-nil HasBytes }
waiting a false e h =
    let fewer : length a.packets ≢ length a.plan.odts = grind (arith, nat_tests) in
    record { few = omega (arith, fewer, h.packets.few); fit = h.packets; each = h.each }

pub waits : (a : Reading) → IsReading a → Waits a.plan (under_way a)
waits a h = waiting a (is_whole a) refl h

more : (plan : ListPlan) (qs : List (List ℕ)) (q : List ℕ) (k : ℕ) → FitInOrder plan qs → Fits plan (length qs) q → k < length (qs ++ q ∷ []) → Fits plan k (get_or (qs ++ q ∷ []) k [])
more plan qs q k fit last here = elim (cases_lt k (length qs)) [
  | inl before ↦ rw (get_or_append_left qs (q ∷ []) [] k before) (fit.each k before)
  | inr past ↦
      let at : k ≡ length qs = omega (arith, here, past, length-append qs (q ∷ [])) in
      rw at (rw (get_or-append_seam qs q [] []) last)
]

-- the packets that wait and one without fault are a reading
pub one_more : (plan : ListPlan) (qs : List (List ℕ)) (q : List ℕ) → IsPlan plan → Waits plan qs → All (λ (b : ℕ). b < 256) q → fault_of plan (length qs) q ≡ None → IsReading (record { plan = plan; packets = qs ++ q ∷ [] })
one_more plan qs q is h small none =
    let last : Fits plan (length qs) q = fits plan (length qs) q small none in
    record {
      plan = is;
      packets = record {
        few = omega (arith, h.few, length-append qs (q ∷ []));
        each = λ k here. more plan qs q k h.fit last here;
      };
      each = All-append HasBytes qs (q ∷ []) h.each (All-cons HasBytes q [] small (All-nil HasBytes));
    }

-- so they begin a sample
pub begun : (plan : ListPlan) (qs : List (List ℕ)) (q : List ℕ) → IsPlan plan → Waits plan qs → All (λ (b : ℕ). b < 256) q → fault_of plan (length qs) q ≡ None → Begin plan (qs ++ q ∷ [])
begun plan qs q is h small none =
    let a = one_more plan qs q is h small none in
    begin plan (qs ++ q ∷ []) is a.packets a.each

pub whole_len : (a : Reading) → is_whole a ≡ true → length a.packets ≡ length a.plan.odts
whole_len a h = grind (arith, nat_tests)

-- a packet with a fault begins no sample with those that wait
pub not_begun : (a : Reading) (k : ℕ) (q : List ℕ) (fault : PacketFault) → IsReading a → k ≡ length (under_way a) → Some fault ≡ fault_of a.plan k q → Begin a.plan (under_way a ++ q ∷ []) → false ≡ true
not_begun a k q fault is at some b =
    let none : fault_of a.plan (length (under_way a)) q ≡ None = begun_without_fault a.plan (under_way a) q is.plan b in
    let both : Some fault ≡ None = some ∙ ap (λ n. fault_of a.plan n q) at ∙ none in
    absurd (cc)

-- a packet without one does
pub is_begun : (a : Reading) (k : ℕ) (q : List ℕ) → IsReading a → All (λ (b : ℕ). b < 256) q → k ≡ length (under_way a) → None ≡ fault_of a.plan k q → Begin a.plan (under_way a ++ q ∷ [])
is_begun a k q is small at none =
    begun a.plan (under_way a) q is.plan (waits a is) small (ap (λ n. fault_of a.plan n q) (sym at) ∙ sym none)
