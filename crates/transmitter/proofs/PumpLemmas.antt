-- A pump's turns at the rings, one after another.
use Rattle.std.proofs.Common.{◌≡◌, ℕ, zero, suc, ◌+◌, ◌*◌, ◌<◌, ◌≤◌, false, ◌||◌, cond, eqb, nat_eq, List, [], ◌∷◌, ◌++◌, length, Some, None, Ok, Err, refl, ap, ◌∙◌, subst, arith, append-nil, append_assoc, length-append, below_more, true, inl, inr, sym, Bool, Option}
use Rattle.std.specs.List.{AllByRecursion, list_any}
use Rattle.std.specs.Option.{is_some}
use Rattle.std.proofs.lemmas.List.Folds.{list_any-append}
use Rattle.std.proofs.lemmas.Bool.{false≢true}
use Rattle.std.proofs.lemmas.Bool.Decides.{eqb_tells, nat_tests}
use Rattle.std.proofs.lemmas.Nat.Bits.{bit_at-zero}
use Rattle.xcp_base.specs.Samples.{MarkParts, SampleParts}
use Rattle.xcp_base.specs.declared.item.Item.{Item}
use Rattle.xcp_base.specs.declared.item.Item.TheVariants.{Marker, Sample}
use Rattle.xcp_base.specs.Lists.{has_list}
use Rattle.xcp_base.specs.declared.limits.TheConstants.{RUN_CHANNELS}
use Rattle.frame_writer.specs.declared.layout.TheConstants.{MAX_SAMPLE_BYTES}
use Rattle.transmitter.specs.Fills.{Tells}
use Rattle.transmitter.specs.Inner.Fits.{HasTurns}
use Rattle.transmitter.specs.Items.{packets_of, samples}
use Rattle.transmitter.specs.Merge.{AreRising, items_taken, of_ring, taken_from}
use Rattle.transmitter.specs.Written.{TransmitterState}
use Rattle.transmitter.specs.Pumps.{StopsAreLast, CanPump, IsPump, IsSetOfStops, Leads, is_marker_of}
use Rattle.transmitter.specs.declared.pumped.Pumped.{Pumped}
use Rattle.transmitter.specs.declared.pumped_all.PumpedAll.{PumpedAll}
use Rattle.transmitter.specs.declared.faults.PumpFault.TheVariants.{Failed}
use Rattle.transmitter.proofs.TakenLemmas.{items_taken-push, one_each, some_first, packets_of-append, samples-append, taken_from-append, takes-none}
use Rattle.transmitter.proofs.WrittenLemmas.{leads-append, leads-next, leads-none}

-- what is told before the first turn
abbrev pub nothing : PumpedAll
nothing = record { taken = 0; frames = 0; stopped = 0 }

-- all are of rings below c
abbrev pub AreBelow : ℕ → List (ℕ × Item) → Type 0
AreBelow c qs = AllByRecursion (λ (p : ℕ × Item). p.0 < c) qs

pub rising-push : (low : ℕ) (qs : List (ℕ × Item)) (c : ℕ) (x : Item) → AreRising low qs → AreBelow c qs → low ≤ c → AreRising low (qs ++ (c, x) ∷ [])
rising-push low [] c x r b h = (h, tt)
rising-push low (p ∷ qs) c x r b h = (r.0, rising-push (p.0 + 1) qs c x r.1 b.1 (omega (arith, b.0)))

pub below-next : (qs : List (ℕ × Item)) (c : ℕ) → AreBelow c qs → AreBelow (c + 1) qs
below-next [] c b = tt
below-next (p ∷ qs) c b = (omega (arith, b.0), below-next qs c b.1)

pub below-push : (qs : List (ℕ × Item)) (c : ℕ) (x : Item) → AreBelow c qs → AreBelow (c + 1) (qs ++ (c, x) ∷ [])
below-push [] c x b = (omega arith, tt)
below-push (p ∷ qs) c x b = (omega (arith, b.0), below-push qs c x b.1)

-- of a ring at c or above nothing was taken
pub none_above : (c e : ℕ) (qs : List (ℕ × Item)) → AreBelow c qs → c ≤ e → taken_from e qs ≡ []
none_above c e [] b h = refl
none_above c e (p ∷ qs) b h =
    let other : eqb p.0 e ≡ false = grind (arith, nat_tests, b.0, h) in
    rw other (none_above c e qs b.1 h)

pub frames-append : (xs ys : List Item) → length (packets_of (samples (xs ++ ys))) ≡ length (packets_of (samples xs)) + length (packets_of (samples ys))
frames-append xs ys = ap (λ t. length (packets_of t)) (samples-append xs ys) ∙ (ap length (packets_of-append (samples xs) (samples ys)) ∙ length-append (packets_of (samples xs)) (packets_of (samples ys)))

-- of ring c something was taken just now
pub taken_here : (c : ℕ) (qs : List (ℕ × Item)) (x : Item) → 0 < length (taken_from c (qs ++ (c, x) ∷ []))
taken_here c qs x =
    let e = ap length (taken_from-append c qs ((c, x) ∷ [])) ∙ length-append (taken_from c qs) (taken_from c ((c, x) ∷ [])) in
    let one : length (cond (eqb c c) (x ∷ []) []) ≡ 1 = grind (arith, nat_tests) in
    omega (arith, e, one)

-- and of another as before
pub taken_before : (c e : ℕ) (qs : List (ℕ × Item)) (x : Item) → 0 < length (taken_from e qs) → 0 < length (taken_from e (qs ++ (c, x) ∷ []))
taken_before c e qs x h = omega (arith, ap length (taken_from-append e qs ((c, x) ∷ [])) ∙ length-append (taken_from e qs) (taken_from e ((c, x) ∷ [])))

-- the empty set has no list
pub empty_has_none : (l : ℕ) → has_list 0 l ≡ false
empty_has_none l = ap (λ n. nat_eq n 1) (bit_at-zero l)

-- where a ring's list has an item, there is such a ring
some_within : (lists : List (List Item)) (e : ℕ) → 0 < length (of_ring lists e) → e < length lists
some_within [] e h = absurd (omega (arith, h))
some_within (xs ∷ lists) zero h = omega arith
some_within (xs ∷ lists) (suc e) h = omega (arith, some_within lists e h)

-- a pump that is refused takes nothing
pub refused : (a : TransmitterState) → Leads a [] a
refused a = leads-none a a refl (takes-none a.received a.known) refl refl refl refl

-- one item more is told
tells-push : (p q : PumpedAll) (qs : List (ℕ × Item)) (c : ℕ) (x : Item) → Tells p qs → q.taken ≡ p.taken + 1 → q.frames ≡ p.frames + length (packets_of (samples (x ∷ []))) → ((l : ℕ) → has_list q.stopped l ≡ (has_list p.stopped l || list_any (is_marker_of l) (x ∷ []))) → Tells q (qs ++ (c, x) ∷ [])
tells-push p q qs c x t taken frames stopped = record {
  taken = omega (arith, taken, t.taken, length-append qs ((c, x) ∷ []));
  frames = rw (items_taken-push qs c x, frames-append (items_taken qs) (x ∷ []), frames, t.frames) refl;
  stopped = λ l. rw (items_taken-push qs c x, list_any-append (is_marker_of l) (items_taken qs) (x ∷ [])) (stopped l ∙ ap (λ b. b || list_any (is_marker_of l) (x ∷ [])) (t.stopped l));
}

-- nothing was taken yet
pub tells-nothing : (p : PumpedAll) → p.taken ≡ 0 → p.frames ≡ 0 → p.stopped ≡ 0 → Tells p []
tells-nothing p taken frames stopped = record { taken = taken; frames = frames; stopped = λ l. rw stopped (empty_has_none l) }

-- before the first turn
pub no_turns : (low high : ℕ) (a : TransmitterState) (p : PumpedAll) → high ≤ low → a.hand ≡ None → HasTurns low high a a p p
no_turns low high a p h hand = record {
  hand = hand;
  items = [];
  turns = record { rising = tt; below = tt; leads = refused a; known = λ e b l. absurd (omega (arith, h, b, l)) };
  tells = λ before t. subst (Tells p) (sym (append-nil before)) t;
  count = omega arith;
}

-- a turn that took an item
pub item_more : (low c : ℕ) (a b d : TransmitterState) (p q r : PumpedAll) (x : Item) → HasTurns low c a b p q → low ≤ c → Leads b ((c, x) ∷ []) d → d.hand ≡ None → r.taken ≡ q.taken + 1 → r.frames ≡ q.frames + length (packets_of (samples (x ∷ []))) → ((l : ℕ) → has_list r.stopped l ≡ (has_list q.stopped l || list_any (is_marker_of l) (x ∷ []))) → HasTurns low (c + 1) a d p r
item_more low c a b d p q r x s above leads hand taken frames stopped = record {
  hand = hand;
  items = s.items ++ (c, x) ∷ [];
  turns = record {
    rising = rising-push low s.items c x s.turns.rising s.turns.below above;
    below = below-push s.items c x s.turns.below;
    leads = leads-append a b d s.items ((c, x) ∷ []) s.turns.leads leads;
    known = below_more _ _ (λ e h l k. taken_before c e s.items x (s.turns.known e h l k)) (λ l k. taken_here c s.items x);
  };
  tells = λ before t. subst (Tells r) (append_assoc before s.items ((c, x) ∷ [])) (tells-push q r (before ++ s.items) c x (s.tells before t) taken frames stopped);
  count = omega (arith, taken, s.count, length-append s.items ((c, x) ∷ []));
}

-- what was known of a ring that gave nothing: nothing
none_left : (a b : TransmitterState) (c : ℕ) (qs : List (ℕ × Item)) → Leads a qs b → AreBelow c qs → of_ring b.known c ≡ [] → 0 < length (of_ring a.known c) → ⊥
none_left a b c qs leads below none some =
    let front = leads.takes.first c in
    let all : of_ring a.known c ++ front.0 ≡ [] = front.1 ∙ (ap (λ t. t ++ of_ring b.known c) (none_above c c qs below (omega arith)) ∙ none) in
    omega (arith, some, ap length all ∙ refl, length-append (of_ring a.known c) front.0)

-- nothing more was taken
leads-idle : (a b d : TransmitterState) (qs : List (ℕ × Item)) → Leads a qs b → Leads b [] d → Leads a qs d
leads-idle a b d qs leads none = subst (λ ps. Leads a ps d) (append-nil qs) (leads-append a b d qs [] leads none)

-- a turn at a ring that gave nothing
pub idle_more : (low c : ℕ) (a b d : TransmitterState) (p q : PumpedAll) → HasTurns low c a b p q → Leads b [] d → d.hand ≡ None → of_ring b.known c ≡ [] → HasTurns low (c + 1) a d p q
idle_more low c a b d p q s leads hand none = record {
  hand = hand;
  items = s.items;
  turns = record {
    rising = s.turns.rising;
    below = below-next s.items c s.turns.below;
    leads = leads-idle a b d s.items s.turns.leads leads;
    known = below_more _ _ s.turns.known (λ l k. absurd (none_left a b c s.items s.turns.leads s.turns.below none k));
  };
  tells = s.tells;
  count = s.count;
}

-- a look at a ring whose item stays there
pub look_more : (low c : ℕ) (a b d : TransmitterState) (p q : PumpedAll) → HasTurns low c a b p q → Leads b [] d → d.hand ≡ None → HasTurns low c a d p q
look_more low c a b d p q s leads hand = record {
  hand = hand;
  items = s.items;
  turns = record { rising = s.turns.rising; below = s.turns.below; leads = leads-idle a b d s.items s.turns.leads leads; known = s.turns.known };
  tells = s.tells;
  count = s.count;
}

-- a turn at which the writer failed
pub failed_pump : (a b d : TransmitterState) (c : ℕ) (p q : PumpedAll) (r : SampleParts) → HasTurns 0 c a b p q → Leads b ((c, Sample r) ∷ []) d → d.hand ≡ Some r → CanPump a → IsPump a d (Err Failed)
failed_pump a b d c p q r s leads hand can = record {
  taken = s.items ++ (c, Sample r) ∷ [];
  rising = rising-push 0 s.items c (Sample r) s.turns.rising s.turns.below (omega arith);
  leads = leads-append a b d s.items ((c, Sample r) ∷ []) s.turns.leads leads;
  answers = record { could = can; sample = r; ring = c; before = s.items; hand = hand; last = refl; known = λ e h some. s.turns.known e h (omega arith) some };
}

-- the first of some items that is a marker of list l, among the others
find_marker : (l : ℕ) (qs : List (ℕ × Item)) → list_any (is_marker_of l) (items_taken qs) ≡ true
    → (c : ℕ) × (m : MarkParts) × (front : List (ℕ × Item)) × (back : List (ℕ × Item)) × (m.list ≡ l) × (qs ≡ front ++ (c, Marker m) ∷ back)
find_marker l [] e = absurd (false≢true e)
find_marker l ((c, Sample s) ∷ qs) e =
    let r = find_marker l qs e in
    (r.0, r.1, (c, Sample s) ∷ r.2, r.3, r.4, ap (λ ps. (c, Sample s) ∷ ps) r.5)
find_marker l ((c, Marker m) ∷ qs) e = elim (eqb_tells m.list l) [
  | inl w ↦ (c, m, [], qs, w.1, refl)
  | inr w ↦
      let r = find_marker l qs (rw w.0 at e) in
      (r.0, r.1, (c, Marker m) ∷ r.2, r.3, r.4, ap (λ ps. (c, Marker m) ∷ ps) r.5)
]

-- an item among at most one is all of them
alone : (xs ys : List Item) (x : Item) → length (xs ++ x ∷ ys) ≤ 1 → xs ++ x ∷ ys ≡ x ∷ []
alone [] [] x h = refl
alone [] (y ∷ ys) x h = absurd (omega (arith, h))
alone (z ∷ xs) ys x h = absurd (omega (arith, h, length-append xs (x ∷ ys)))

-- the marker of a list that was stopped is the last item received from its ring
stops_last : (a b : TransmitterState) (qs : List (ℕ × Item)) (set : ℕ) → Leads a qs b → AreRising 0 qs → IsSetOfStops set (items_taken qs) → StopsAreLast set b
stops_last a b qs set leads rising stops l has =
    let f = find_marker l qs (sym (stops l) ∙ has) in
    let here : taken_from f.0 qs ≡ taken_from f.0 f.2 ++ Marker f.1 ∷ taken_from f.0 f.3 =
    ap (taken_from f.0) f.5 ∙ (taken_from-append f.0 f.2 ((f.0, Marker f.1) ∷ f.3) ∙ ap (λ xs. taken_from f.0 f.2 ++ xs) (some_first f.0 (Marker f.1) f.3)) in
    let one = subst (λ xs. length xs ≤ 1) here (one_each 0 f.0 qs rising) in
    (f.0, f.1, of_ring a.received f.0, f.4, leads.takes.gains f.0 ∙ ap (λ xs. of_ring a.received f.0 ++ xs) (here ∙ alone (taken_from f.0 f.2) (taken_from f.0 f.3) (Marker f.1) one))

-- turns at all rings are a pump
pub one_pump : (n : ℕ) (a b : TransmitterState) (q : PumpedAll) (one : Pumped) → CanPump a → HasTurns 0 n a b nothing q → length a.known ≤ n → one.taken ≡ q.taken → one.frames ≡ q.frames → one.stopped ≡ q.stopped → IsPump a (record b { next = 0 }) (Ok one)
one_pump n a b q one could s all taken frames stopped =
    let tells = s.tells [] (tells-nothing nothing refl refl refl) in
    let stops : IsSetOfStops one.stopped (items_taken s.items) = λ l. ap (λ set. has_list set l) stopped ∙ tells.stopped l in
    record {
      taken = s.items;
      rising = s.turns.rising;
      leads = leads-next a b s.items 0 s.turns.leads;
      answers = record {
        could = could;
        hand = s.hand;
        taken = taken ∙ tells.taken;
        frames = frames ∙ tells.frames;
        stopped = stops;
        last = stops_last a b s.items one.stopped s.turns.leads s.turns.rising stops;
        known = λ e some. s.turns.known e (omega (arith, some_within a.known e some, all)) (omega arith) some;
        next = refl;
      };
    }

pub none_of : {X : Type 0} → (o : Option X) → is_some o ≡ false → o ≡ None
none_of None e = refl
none_of (Some x) e = absurd (false≢true (sym e))

pub or_false : (b : Bool) → b ≡ (b || false)
or_false true = refl
or_false false = refl

-- a set with one list more, which is the marker's
pub one_stop : (old new list l k : ℕ) → l ≡ list → has_list new k ≡ (has_list old k || nat_eq l k) → has_list new k ≡ (has_list old k || (nat_eq list k || false))
one_stop old new list l k is added = added ∙ (ap (λ n. has_list old k || nat_eq n k) is ∙ ap (λ b. has_list old k || b) (or_false (nat_eq list k)))

-- in a buffer with room for the frames of a sample for each ring, turns stop at no ring
pub all_fit : (stop n room end : ℕ) → (stop < n → room < end + MAX_SAMPLE_BYTES) → end ≤ MAX_SAMPLE_BYTES * stop → MAX_SAMPLE_BYTES * RUN_CHANNELS ≤ room → n ≤ RUN_CHANNELS → n ≤ stop
all_fit stop n room end short bytes enough few = grind (arith, short, bytes, enough, few)
