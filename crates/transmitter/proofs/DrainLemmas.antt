-- A drain that has had one more pump.
use Rattle.std.proofs.Common.{◌≡◌, ℕ, suc, ◌+◌, ◌<◌, ◌≤◌, false, List, [], ◌∷◌, ◌++◌, length, drop, None, Ok, Err, Result, refl, sym, ap, ◌∙◌, subst, arith, append_assoc, append-nil, length-append, inl, inr}
use mathlib.Core.List.{IsPrefix}
use Rattle.std.proofs.lemmas.Bool.{false≢true}
use Rattle.std.proofs.lemmas.Bool.Decides.{eqb_tells}
use Rattle.std.proofs.lemmas.List.{append_cancel_left, get_or-map, get_or_default, length-map, same_lists}
use Rattle.xcp_base.specs.declared.item.Item.{Item}
use Rattle.xcp_base.specs.declared.item.Item.TheVariants.{Sample}
use Rattle.xcp_base.specs.declared.limits.TheConstants.{MAX_TAKEN}
use Rattle.frame_writer.specs.Writing.{WriterState}
use Rattle.transmitter.specs.Looks.{KnowsAll, KnowsNone, KnowsSome, Looked}
use Rattle.transmitter.specs.Merge.{AreRising, of_ring, taken_from}
use Rattle.transmitter.specs.Pumps.{Leads, PumpFails, PumpAnswers, Pumps, TakesMore}
use Rattle.transmitter.specs.Rounds.{Drains, TakesInRounds, next_behind, round, rounds, without_first}
use Rattle.transmitter.specs.Written.{HasTaken, TransmitterState}
use Rattle.transmitter.specs.declared.faults.PumpFault.{PumpFault}
use Rattle.transmitter.specs.declared.faults.PumpFault.TheVariants.{Closed, Failed, Spent}
use Rattle.transmitter.specs.declared.pumped.Pumped.{Pumped}
use Rattle.transmitter.proofs.RoundLemmas.{IsFront, after_rounds, after_rounds-suc, front_begins, rounds-suc}
use Rattle.transmitter.proofs.TakenLemmas.{one_each, taken_from-append, takes-none}
use Rattle.transmitter.proofs.WrittenLemmas.{leads-append, leads-none}

-- a drain that has had so many rounds, and looked at all that was sent
pub record Emptying (sent : List (List Item)) (a b : TransmitterState) : Type 0 where
  pub was_open : a.writer.closed ≡ false
  pub left : List (List Item)
  pub leaves : (c : ℕ) → of_ring a.received c ++ of_ring left c ≡ of_ring sent c
  pub turns : ℕ
  pub leads : Leads (record a { known = left }) (rounds turns left) b
  pub known : b.known ≡ after_rounds turns left
  pub rest : KnowsAll sent b
  pub hand : b.hand ≡ None
  pub next : b.next ≡ next_behind (rounds turns left) a.next

-- all that was sent was looked at: nothing else changed, and what was received and is known is what was sent
pub record LookedAtAll (sent : List (List Item)) (p d : TransmitterState) : Type 0 where
  pub same : Looked p d
  pub rest : KnowsAll sent d

-- a look leaves the rings
pub looked-rings : (p d : TransmitterState) → Looked p d → d.rings ≡ p.rings
looked-rings p d same = ap (λ (t : TransmitterState). t.rings) same

-- and so does a pump before it
pub pumped-rings : (b p d : TransmitterState) (qs : List (ℕ × Item)) → Leads b qs p → Looked p d → d.rings ≡ b.rings
pumped-rings b p d qs l same = looked-rings p d same ∙ l.rings

-- what a transmitter stands after doesn't depend on what is known
pub with_known : (start : WriterState) (p : TransmitterState) (known : List (List Item)) (ps : List (ℕ × Item)) → HasTaken start p ps → HasTaken start (record p { known = known }) ps
with_known start p known ps t = record {
  was_open = t.was_open;
  merge = t.merge;
  taken = t.taken;
  last = t.last;
  whole = t.whole;
  samples = t.samples;
  legal = t.legal;
  writes = t.writes;
  written = t.written;
}

-- items were taken, and then all that was sent was looked at
pub leads-looked : (b p d : TransmitterState) (qs : List (ℕ × Item)) → Leads b qs p → Looked p d → ((c : ℕ) → taken_from c qs ++ of_ring d.known c ≡ of_ring b.known c) → Leads b qs d
leads-looked b p d qs l same at = record {
  rings = ap (λ (t : TransmitterState). t.rings) same ∙ l.rings;
  takes = record {
    gains = λ c. ap (λ (t : TransmitterState). of_ring t.received c) same ∙ l.takes.gains c;
    first = λ c. ([], append-nil (of_ring b.known c) ∙ sym (at c));
  };
  taken = ap (λ (t : TransmitterState). t.taken) same ∙ l.taken;
  stands = λ start ps t. subst (λ u. HasTaken start u (ps ++ qs)) (sym same) (with_known start p d.known (ps ++ qs) (l.stands start ps t));
}

-- what was taken and what is known then is what was known
pub known_taken : (sent : List (List Item)) (b p d : TransmitterState) (qs : List (ℕ × Item)) → KnowsAll sent b → Leads b qs p → LookedAtAll sent p d → (c : ℕ) → taken_from c qs ++ of_ring d.known c ≡ of_ring b.known c
known_taken sent b p d qs rest l look c =
    let gained : of_ring d.received c ≡ of_ring b.received c ++ taken_from c qs = ap (λ (t : TransmitterState). of_ring t.received c) look.same ∙ l.takes.gains c in
    append_cancel_left (of_ring b.received c) (taken_from c qs ++ of_ring d.known c) (of_ring b.known c)
    (sym (append_assoc (of_ring b.received c) (taken_from c qs) (of_ring d.known c)) ∙ (ap (λ t. t ++ of_ring d.known c) (sym gained) ∙ (look.rest c ∙ sym (rest c))))

-- what was taken of a ring is no more than what was taken
at_most : (c : ℕ) (qs : List (ℕ × Item)) → length (taken_from c qs) ≤ length qs
at_most c [] = omega arith
at_most c ((e, x) ∷ qs) = elim (eqb_tells e c) [
  | inl w ↦ rw w.0 (omega (arith, at_most c qs))
  | inr w ↦ rw w.0 (omega (arith, at_most c qs))
]

-- where one item was taken if there was one, the rest is known
dropped : (t d k : List Item) → t ++ d ≡ k → length t ≤ 1 → (0 < length k → 0 < length t) → d ≡ drop 1 k
dropped [] d [] e one some = e
dropped [] d (x ∷ k) e one some = absurd (omega (arith, some (omega arith)))
dropped (x ∷ []) d k e one some = subst (λ z. d ≡ drop 1 z) e refl
dropped (x ∷ y ∷ t) d k e one some = absurd (omega (arith, one))

-- of all rings
all_dropped : (known old : List (List Item)) → length known ≡ length old → ((c : ℕ) → of_ring known c ≡ drop 1 (of_ring old c)) → known ≡ without_first old
all_dropped known old l h = same_lists known (without_first old) (l ∙ sym (length-map old (λ (xs : List Item). drop 1 xs))) (λ k d b.
    let w : k < length old = omega (arith, l, b) in
    get_or_default known k d [] b ∙ (h k ∙ sym (get_or-map (λ (xs : List Item). drop 1 xs) old k [] d w)))

at_zero : (j : ℕ) → 0 + j ≡ j
at_zero j = omega arith

-- what a pump took of what is known is the front of a round, if it took of each ring below one
fronts : (b d : TransmitterState) (qs : List (ℕ × Item)) → AreRising 0 qs → ((c : ℕ) → taken_from c qs ++ of_ring d.known c ≡ of_ring b.known c) → ((i j : ℕ) → i < j → 0 < length (taken_from j qs) → 0 < length (of_ring b.known i) → 0 < length (taken_from i qs)) → IsFront 0 b.known qs
fronts b d qs rising at below = record {
  rising = rising;
  first = λ j. rw (at_zero j) (of_ring d.known j, at j);
  below = λ i j h s k. rw (at_zero i) (below i j h (rw (at_zero j) at s) k);
}

-- a pump that went through took a round of what was known
pub takes_round : (b p d : TransmitterState) (qs : List (ℕ × Item)) (o : Pumped) → AreRising 0 qs → ((c : ℕ) → taken_from c qs ++ of_ring d.known c ≡ of_ring b.known c) → Pumps b p qs o → qs ≡ round 0 b.known
takes_round b p d qs o rising at pumps =
    let front = front_begins 0 b.known qs (fronts b d qs rising at (λ e j h s k. pumps.known e k)) in
    sym (append-nil qs) ∙ (ap (λ zs. qs ++ zs) (sym (front.2 (λ j k. rw (at_zero j) (pumps.known j k)))) ∙ front.1)

-- where something was taken, pumps that fill a buffer begin at the first ring
next_some : (qs : List (ℕ × Item)) (n : ℕ) → 0 < length qs → 0 ≡ next_behind qs n
next_some [] n h = absurd (omega (arith, h))
next_some (q ∷ qs) n h = refl

-- one round more
pub one_round : (sent : List (List Item)) (a b p d : TransmitterState) (qs : List (ℕ × Item)) (o : Pumped) → Emptying sent a b → Leads b qs p → AreRising 0 qs → Pumps b p qs o → LookedAtAll sent p d → length d.known ≡ length b.known → 0 < length qs → Emptying sent a d
one_round sent a b p d qs o i l rising pumps look as_many some =
    let at = known_taken sent b p d qs i.rest l look in
    let whole = takes_round b p d qs o rising at pumps in
    let same : rounds i.turns i.left ++ qs ≡ rounds (suc i.turns) i.left = ap (λ ps. rounds i.turns i.left ++ ps) (whole ∙ ap (round 0) i.known) ∙ sym (rounds-suc i.turns i.left) in
    record {
      was_open = i.was_open;
      left = i.left;
      leaves = i.leaves;
      turns = suc i.turns;
      leads = subst (λ ps. Leads (record a { known = i.left }) ps d) same (leads-append (record a { known = i.left }) b d (rounds i.turns i.left) qs i.leads (leads-looked b p d qs l look.same at));
      known = all_dropped d.known b.known as_many (λ c. dropped (taken_from c qs) (of_ring d.known c) (of_ring b.known c) (at c) (one_each 0 c qs rising) (λ k. pumps.known c k)) ∙ (ap without_first i.known ∙ sym (after_rounds-suc i.turns i.left));
      rest = look.rest;
      hand = ap (λ (t : TransmitterState). t.hand) look.same ∙ pumps.hand;
      next = ap (λ (t : TransmitterState). t.next) look.same ∙ (pumps.next ∙ next_some _ a.next (subst (λ ps. 0 < length ps) same (omega (arith, length-append (rounds i.turns i.left) qs, some))));
    }

-- the first look
pub first_look : (sent : List (List Item)) (a d : TransmitterState) → a.writer.closed ≡ false → a.hand ≡ None → LookedAtAll sent a d → Emptying sent a d
first_look sent a d is_open none look =
    let whole = record a { known = d.known } in
    record {
      was_open = is_open;
      left = d.known;
      leaves = λ c. ap (λ xs. xs ++ of_ring d.known c) (sym (ap (λ (t : TransmitterState). of_ring t.received c) look.same)) ∙ look.rest c;
      turns = 0;
      leads = subst (Leads whole []) (sym look.same) (leads-none whole whole refl (takes-none a.received d.known) refl refl refl refl);
      known = refl;
      rest = look.rest;
      hand = ap (λ (t : TransmitterState). t.hand) look.same ∙ none;
      next = ap (λ (t : TransmitterState). t.next) look.same;
    }

-- nothing is left
pub all_taken : (sent : List (List Item)) (a b : TransmitterState) → Emptying sent a b → KnowsNone b → Drains sent a b (Ok tt)
all_taken sent a b i none =
    (record { was_open = i.was_open; left = i.left; leaves = i.leaves; taken = rounds i.turns i.left; turns = i.turns; in_rounds = ([], append-nil (rounds i.turns i.left)); leads = i.leads }, i.hand, λ c. sym (append-nil (of_ring b.received c)) ∙ (ap (λ xs. of_ring b.received c ++ xs) (sym (none c)) ∙ i.rest c), i.next)

rounds-more : (sent : List (List Item)) (a b : TransmitterState) → TakesInRounds sent a b → TakesMore a b
rounds-more sent a b r = λ start ps h. (r.taken, r.leads.stands start ps (with_known start a r.left ps h))

-- a drain takes some more, whatever it answers
pub drain-more : (sent : List (List Item)) (a b : TransmitterState) (r : Result (Unit {0}) PumpFault) → Drains sent a b r → TakesMore a b
drain-more sent a b (Ok u) drains = rounds-more sent a b drains.0
drain-more sent a b (Err Failed) drains = rounds-more sent a b drains.0
drain-more sent a b (Err Closed) drains = λ start ps h. ([], subst (HasTaken start b) (sym (append-nil ps)) (subst (λ t. HasTaken start t ps) (sym drains.1) h))
drain-more sent a b (Err Spent) drains = rounds-more sent a b drains.0

-- the last ring is no lower than the first
last_above : (low r : ℕ) (x : Item) (qs : List (ℕ × Item)) → AreRising low (qs ++ (r, x) ∷ []) → low ≤ r
last_above low r x [] rising = rising.0
last_above low r x ((e, y) ∷ qs) rising = omega (arith, rising.0, last_above (e + 1) r x qs rising.1)

-- a ring of which something was taken is at most the last
at_most_last : (low r c : ℕ) (x : Item) (qs : List (ℕ × Item)) → AreRising low (qs ++ (r, x) ∷ []) → 0 < length (taken_from c (qs ++ (r, x) ∷ [])) → c ≤ r
at_most_last low r c x [] rising some = elim (eqb_tells r c) [
  | inl w ↦ let at : r ≡ c = w.1 in omega (arith, at)
  | inr w ↦ absurd (omega (arith, rw w.0 at some))
]
at_most_last low r c x ((e, y) ∷ qs) rising some = elim (eqb_tells e c) [
  | inl w ↦ let at : e ≡ c = w.1 in omega (arith, at, last_above (e + 1) r x qs rising.1)
  | inr w ↦ at_most_last (e + 1) r c x qs rising.1 (rw w.0 at some)
]

-- a pump at which the writer failed took the front of a round
failing_front : (b p d : TransmitterState) (qs : List (ℕ × Item)) → AreRising 0 qs → PumpFails b p qs → ((c : ℕ) → taken_from c qs ++ of_ring d.known c ≡ of_ring b.known c) → IsFront 0 b.known qs
failing_front b p d qs rising f at =
    fronts b d qs rising at (λ i j h s k.
    let last = at_most_last 0 f.ring j (Sample f.sample) f.before (subst (AreRising 0) f.last rising) (subst (λ z. 0 < length (taken_from j z)) f.last s) in
    let some = f.known i (omega (arith, h, last)) k in
    let more = ap length (ap (taken_from i) f.last ∙ taken_from-append i f.before ((f.ring, Sample f.sample) ∷ [])) ∙ length-append (taken_from i f.before) (taken_from i ((f.ring, Sample f.sample) ∷ [])) in
    omega (arith, some, more))

-- and so the items are the front of that round
pub takes_front : (b p d : TransmitterState) (qs : List (ℕ × Item)) → AreRising 0 qs → ((c : ℕ) → taken_from c qs ++ of_ring d.known c ≡ of_ring b.known c) → PumpFails b p qs → IsPrefix qs (round 0 b.known)
takes_front b p d qs rising at f =
    let front = front_begins 0 b.known qs (failing_front b p d qs rising f at) in
    (front.0, front.1)

-- the writer failed within a round
broken : (sent : List (List Item)) (a b p d : TransmitterState) (qs : List (ℕ × Item)) → Emptying sent a b → Leads b qs p → AreRising 0 qs → PumpFails b p qs → LookedAtAll sent p d → Drains sent a d (Err Failed)
broken sent a b p d qs i l rising f look =
    let at = known_taken sent b p d qs i.rest l look in
    let front = takes_front b p d qs rising at f in
    let done = rounds i.turns i.left in
    let start = record a { known = i.left } in (
      record {
        was_open = i.was_open;
        left = i.left;
        leaves = i.leaves;
        taken = done ++ qs;
        turns = suc i.turns;
        in_rounds = (front.0, append_assoc done qs front.0 ∙ (ap (λ ps. done ++ ps) (front.1 ∙ ap (round 0) i.known) ∙ sym (rounds-suc i.turns i.left)));
        leads = leads-append start b d done qs i.leads (leads-looked b p d qs l look.same at);
      },
      record {
        sample = f.sample;
        ring = f.ring;
        before = done ++ f.before;
        hand = ap (λ (t : TransmitterState). t.hand) look.same ∙ f.hand;
        last = ap (λ ps. done ++ ps) f.last ∙ sym (append_assoc done f.before ((f.ring, Sample f.sample) ∷ []));
      },
    )

-- too many items were taken
spent : (sent : List (List Item)) (a b p d : TransmitterState) → Emptying sent a b → Leads b [] p → p ≡ b → LookedAtAll sent p d → MAX_TAKEN ≤ b.taken → Drains sent a d (Err Spent)
spent sent a b p d i l same look many =
    let at = known_taken sent b p d [] i.rest l look in
    let done = rounds i.turns i.left in
    let start = record a { known = i.left } in
    let taken : d.taken ≡ b.taken = ap (λ (t : TransmitterState). t.taken) look.same ∙ ap (λ (t : TransmitterState). t.taken) same in (
      record {
        was_open = i.was_open;
        left = i.left;
        leaves = i.leaves;
        taken = done;
        turns = i.turns;
        in_rounds = ([], append-nil done);
        leads = subst (λ ps. Leads start ps d) (append-nil done) (leads-append start b d done [] i.leads (leads-looked b p d [] l look.same at));
      },
      ap (λ (t : TransmitterState). t.hand) look.same ∙ (ap (λ (t : TransmitterState). t.hand) same ∙ i.hand),
      omega (arith, taken, many),
      ap (λ (t : TransmitterState). t.next) look.same ∙ (ap (λ (t : TransmitterState). t.next) same ∙ i.next),
    )

-- a pump that was refused
pub stopped_by : (sent : List (List Item)) (a b p d : TransmitterState) (qs : List (ℕ × Item)) (fault : PumpFault) → Emptying sent a b → b.writer.closed ≡ false → Leads b qs p → AreRising 0 qs → PumpAnswers b p qs (Err fault) → LookedAtAll sent p d → Drains sent a d (Err fault)
stopped_by sent a b p d qs Failed i is_open l rising answers look = broken sent a b p d qs i l rising answers look
stopped_by sent a b p d qs Closed i is_open l rising answers look = absurd (false≢true (sym is_open ∙ answers.0))
stopped_by sent a b p d qs Spent i is_open l rising answers look = spent sent a b p d i (subst (λ ps. Leads b ps p) answers.3 l) answers.2 look answers.1

-- a pump that finds something takes something
pub takes_one : (b p : TransmitterState) (qs : List (ℕ × Item)) (o : Pumped) → Pumps b p qs o → KnowsSome b → 0 < length qs
takes_one b p qs o pumps some =
    let here = pumps.known some.0 some.1 in
    omega (arith, at_most some.0 qs, here)

-- so each such pump takes something
pub takes_some : (b p : TransmitterState) (qs : List (ℕ × Item)) (o : Pumped) → Leads b qs p → Pumps b p qs o → KnowsSome b → b.taken < p.taken
takes_some b p qs o l pumps some = omega (arith, l.taken, takes_one b p qs o pumps some)
