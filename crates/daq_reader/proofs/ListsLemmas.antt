-- A packet more: the list that it is of takes it, and the samples of each list go on.
use Rattle.std.proofs.Common.{inl, inr, ◌⊎◌, Bool, true, false, if◌then◌else◌, ◌==◌, ◌≡◌, ◌≢◌, ℕ, zero, suc, ◌<◌, ◌≤◌, List, [], ◌∷◌, ◌++◌, length, get_or, map, set, refl, sym, ap, subst, ◌∙◌, arith, append_assoc, Option, Some, None, Result, Ok, Err, length-append}
use Rattle.std.specs.Prelude.{All, OnErr, filter, flat_map, slice_get}
use Rattle.std.proofs.Math.Seq.{map-set_same}
use Rattle.std.proofs.lemmas.Bool.Decides.{nat_tests}
use Rattle.std.proofs.lemmas.Grind.{flat_map-append}
use Rattle.std.proofs.lemmas.List.{append-nil, length-set}
use Rattle.std.proofs.lemmas.List.Elements.{All-append, All-cons, All-nil, filter-append}
use Rattle.std.proofs.lemmas.Option.{get_or_from_slice_get, slice_get_past, slice_get_read, slice_get_within}
use Rattle.copy_plan.specs.Config.{ListPlan}
use Rattle.daq_reader.specs.declared.packet_fault.PacketFault.{PacketFault}
use Rattle.daq_reader.specs.declared.packet_fault.PacketFault.TheVariants.{OtherList}
use Rattle.daq_reader.specs.Faults.{fault_of}
use Rattle.daq_reader.specs.Laws.{AreRead}
use Rattle.daq_reader.specs.Lists.{Stands, StandsWith, Takes, fault_at, given, of_place, place_in, plans_of, refusal}
use Rattle.daq_reader.specs.Reading.{Reading, is_whole, under_way}
use Rattle.daq_reader.specs.Recorded.{AreOf, Begin, IsRecorded, Recorded, packets_of}
use Rattle.daq_reader.proofs.BeginLemmas.{length-packets_of}

-- what stands at a place once another place, or this one, was set
set_at : (xs : List Reading) (i j : ℕ) (b c : Reading) → slice_get (set xs i b) j ≡ Some c → ((j ≡ i) × (c ≡ b)) ⊎ ((j ≢ i) × (slice_get xs j ≡ Some c))
set_at [] zero j b c h = absurd (cc)
set_at [] (suc i) j b c h = absurd (cc)
set_at (x ∷ xs) zero zero b c h = inl (refl, cc)
set_at (x ∷ xs) zero (suc j) b c h = inr (λ e. absurd (omega (arith, e)), h)
set_at (x ∷ xs) (suc i) zero b c h = inr (λ e. absurd (omega (arith, e)), h)
set_at (x ∷ xs) (suc i) (suc j) b c h = elim (set_at xs i j b c h) [
  | inl is ↦ inl (ap suc is.0, is.1)
  | inr other ↦ inr (λ e. other.0 (omega (arith, e)), other.1)
]

plans-set : (xs : List Reading) (i : ℕ) (a b : Reading) → slice_get xs i ≡ Some a → b.plan ≡ a.plan → plans_of (set xs i b) ≡ plans_of xs
plans-set xs i a b h same = map-set_same (λ (x : Reading). x.plan) xs i b a (same ∙ ap (λ (x : Reading). x.plan) (sym (get_or_from_slice_get xs i a a h)))

filter_more : {X : Type 0} (p : X → Bool) (xs : List X) (x : X) → filter p (xs ++ x ∷ []) ≡ filter p xs ++ (if p x then x ∷ [] else [])
filter_more p xs x = filter-append p xs (x ∷ [])

is_same : (a b : ℕ) → a ≡ b → (a == b) ≡ true
is_same a b h = grind (arith, nat_tests)

is_other : (a b : ℕ) → a ≢ b → (a == b) ≡ false
is_other a b h = grind (arith, nat_tests)

-- the packets of a list, with one more of this list, or of another
of_same : (plans : List ListPlan) (i : ℕ) (qs : List (List ℕ)) (q : List ℕ) → place_in plans q ≡ i → of_place plans i (qs ++ q ∷ []) ≡ of_place plans i qs ++ q ∷ []
of_same plans i qs q h =
    filter_more (λ (p : List ℕ). place_in plans p == i) qs q
    ∙ ap (λ v. of_place plans i qs ++ (if v then q ∷ [] else [])) (is_same (place_in plans q) i h)

of_other : (plans : List ListPlan) (i : ℕ) (qs : List (List ℕ)) (q : List ℕ) → place_in plans q ≢ i → of_place plans i (qs ++ q ∷ []) ≡ of_place plans i qs
of_other plans i qs q h =
    filter_more (λ (p : List ℕ). place_in plans p == i) qs q
    ∙ ap (λ v. of_place plans i qs ++ (if v then q ∷ [] else [])) (is_other (place_in plans q) i h)
    ∙ append-nil (of_place plans i qs)

-- the samples of a list, with one more of this list, or of another
map_more : (xs : List (ℕ × Recorded)) (r : Recorded) (i : ℕ) → map (λ (s : ℕ × Recorded). s.1) (xs ++ (i, r) ∷ []) ≡ map (λ (s : ℕ × Recorded). s.1) xs ++ r ∷ []
map_more [] r i = refl
map_more (x ∷ xs) r i = ap (λ zs. x.1 ∷ zs) (map_more xs r i)

given_same : (i : ℕ) (gs : List (ℕ × Recorded)) (r : Recorded) → given i (gs ++ (i, r) ∷ []) ≡ given i gs ++ r ∷ []
given_same i gs r =
    let one : ℕ × Recorded = (i, r) in
    let kept : List (ℕ × Recorded) = filter (λ (s : ℕ × Recorded). s.0 == i) gs in
    ap (map (λ (s : ℕ × Recorded). s.1)) (filter_more (λ (s : ℕ × Recorded). s.0 == i) gs one ∙ ap (λ v. kept ++ (if v then one ∷ [] else [])) (is_same i i refl))
    ∙ map_more kept r i

given_other : (i j : ℕ) (gs : List (ℕ × Recorded)) (r : Recorded) → i ≢ j → given j (gs ++ (i, r) ∷ []) ≡ given j gs
given_other i j gs r h =
    let one : ℕ × Recorded = (i, r) in
    let kept : List (ℕ × Recorded) = filter (λ (s : ℕ × Recorded). s.0 == j) gs in
    ap (map (λ (s : ℕ × Recorded). s.1)) (filter_more (λ (s : ℕ × Recorded). s.0 == j) gs one ∙ ap (λ v. kept ++ (if v then one ∷ [] else [])) (is_other i j h) ∙ append-nil kept)

-- packets that begin a sample are no more than its own
begun_few : (plan : ListPlan) (qs : List (List ℕ)) → Begin plan qs → length qs ≤ length plan.odts
begun_few plan qs h = omega (arith, ap length h.front.1, length-append qs h.front.0, length-packets_of plan h.sample)

-- a packet that leaves the sample torn
torn_more : (plan : ListPlan) (rs : List Recorded) (xs ps : List (List ℕ)) (q : List ℕ) → AreRead plan rs xs ps → length (xs ++ q ∷ []) < length plan.odts → AreRead plan rs (xs ++ q ∷ []) (ps ++ q ∷ [])
torn_more plan rs xs ps q h few = record {
  each = h.each;
  torn = few;
  whole = ap (λ zs. zs ++ q ∷ []) h.whole ∙ append_assoc (flat_map (packets_of plan) rs) xs (q ∷ []);
}

-- a packet with which the sample is whole
whole_more : (plan : ListPlan) (rs : List Recorded) (r : Recorded) (xs ps : List (List ℕ)) (q : List ℕ) → AreRead plan rs xs ps → AreOf plan r (xs ++ q ∷ []) → AreRead plan (rs ++ r ∷ []) [] (ps ++ q ∷ [])
whole_more plan rs r xs ps q h of =
    let before : List (List ℕ) = flat_map (packets_of plan) rs in
    let one : flat_map (packets_of plan) (r ∷ []) ≡ packets_of plan r = append-nil (packets_of plan r) in
    record {
      each = All-append (IsRecorded plan) rs (r ∷ []) h.each (All-cons (IsRecorded plan) r [] of.is (All-nil (IsRecorded plan)));
      torn = omega (arith, h.torn);
      whole = ap (λ zs. zs ++ q ∷ []) h.whole
          ∙ append_assoc before xs (q ∷ [])
          ∙ ap (λ zs. before ++ zs) (of.packets ∙ sym one)
          ∙ sym (flat_map-append (packets_of plan) rs (r ∷ []))
          ∙ sym (append-nil (flat_map (packets_of plan) (rs ++ r ∷ [])));
    }

-- what each list has read, with the packet taken
record Step (old now : List Reading) (q : List ℕ) (i : ℕ) (a b : Reading) : Type 0 where
  place : place_in (plans_of old) q ≡ i
  at : slice_get old i ≡ Some a
  begins : Begin a.plan (under_way a ++ q ∷ [])
  is : b ≡ record a { packets = under_way a ++ q ∷ [] }
  others : now ≡ set old i b

other_list : (old now : List Reading) (q : List ℕ) (i : ℕ) (a b : Reading) (qs : List (List ℕ)) (gs : List (ℕ × Recorded)) (j : ℕ) (c : Reading) → Stands old qs gs → Step old now q i a b → j ≢ i → slice_get old j ≡ Some c → AreRead c.plan (given j gs) (under_way c) (of_place (plans_of old) j (qs ++ q ∷ []))
other_list old now q i a b qs gs j c h t differ at =
    let away : place_in (plans_of old) q ≢ j = λ e. differ (sym e ∙ t.place) in
    rw (of_other (plans_of old) j qs q away) (h.each j c at)

plans_stay : (old now : List Reading) (q : List ℕ) (i : ℕ) (a b : Reading) → Step old now q i a b → plans_of now ≡ plans_of old
plans_stay old now q i a b t = ap plans_of t.others ∙ plans-set old i a b t.at (ap (λ (x : Reading). x.plan) t.is)

known_more : (old now : List Reading) (q : List ℕ) (i : ℕ) (a b : Reading) (qs : List (List ℕ)) (gs : List (ℕ × Recorded)) → Stands old qs gs → Step old now q i a b → All (λ (p : List ℕ). place_in (plans_of now) p < length now) (qs ++ q ∷ [])
known_more old now q i a b qs gs h t =
    let here : place_in (plans_of old) q < length old = omega (arith, t.place, slice_get_within old i a t.at) in
    let size : length now ≡ length old = ap length t.others ∙ length-set old i b in
    rw (plans_stay old now q i a b t, size) (All-append (λ (p : List ℕ). place_in (plans_of old) p < length old) qs (q ∷ []) h.known (All-cons (λ (p : List ℕ). place_in (plans_of old) p < length old) q [] here (All-nil (λ (p : List ℕ). place_in (plans_of old) p < length old))))

not_whole : (b : Reading) → is_whole b ≡ false → length b.packets ≢ length b.plan.odts
not_whole b h = grind (arith, nat_tests)

-- the packets that wait, where the sample is torn, and where it is whole
waits_if : (b : Reading) (v : Bool) → is_whole b ≡ v → under_way b ≡ (if v then [] else b.packets)
waits_if b v h = ap (λ w. if w then [] else b.packets) h

torn_here : (old now : List Reading) (q : List ℕ) (i : ℕ) (a b : Reading) (qs : List (List ℕ)) (gs : List (ℕ × Recorded)) → Stands old qs gs → Step old now q i a b → is_whole b ≡ false → AreRead b.plan (given i gs) (under_way b) (of_place (plans_of old) i (qs ++ q ∷ []))
torn_here old now q i a b qs gs h t torn =
    let plan : b.plan ≡ a.plan = ap (λ (x : Reading). x.plan) t.is in
    let packets : b.packets ≡ under_way a ++ q ∷ [] = ap (λ (x : Reading). x.packets) t.is in
    let differ : length b.packets ≢ length b.plan.odts = not_whole b torn in
    let few : length (under_way a ++ q ∷ []) < length a.plan.odts = omega (arith, begun_few a.plan (under_way a ++ q ∷ []) t.begins, differ, ap length packets, ap (λ (p : ListPlan). length p.odts) plan) in
    rw (waits_if b false torn ∙ packets, plan, of_same (plans_of old) i qs q t.place) (torn_more a.plan (given i gs) (under_way a) (of_place (plans_of old) i qs) q (h.each i a t.at) few)

whole_here : (old now : List Reading) (q : List ℕ) (i : ℕ) (a b : Reading) (qs : List (List ℕ)) (gs : List (ℕ × Recorded)) (r : Recorded) → Stands old qs gs → Step old now q i a b → is_whole b ≡ true → AreOf b.plan r b.packets → AreRead b.plan (given i (gs ++ (i, r) ∷ [])) (under_way b) (of_place (plans_of old) i (qs ++ q ∷ []))
whole_here old now q i a b qs gs r h t whole of =
    let plan : b.plan ≡ a.plan = ap (λ (x : Reading). x.plan) t.is in
    let packets : b.packets ≡ under_way a ++ q ∷ [] = ap (λ (x : Reading). x.packets) t.is in
    let of_a : AreOf a.plan r (under_way a ++ q ∷ []) = subst (λ (p : ListPlan). AreOf p r (under_way a ++ q ∷ [])) plan (subst (λ (ps : List (List ℕ)). AreOf b.plan r ps) packets of) in
    rw (waits_if b true whole, plan, of_same (plans_of old) i qs q t.place, given_same i gs r) (whole_more a.plan (given i gs) r (under_way a) (of_place (plans_of old) i qs) q (h.each i a t.at) of_a)

stands_torn : (old now : List Reading) (q : List ℕ) (i : ℕ) (a b : Reading) (qs : List (List ℕ)) (gs : List (ℕ × Recorded)) → Stands old qs gs → Step old now q i a b → is_whole b ≡ false → Stands now (qs ++ q ∷ []) gs
stands_torn old now q i a b qs gs h t torn = record {
  known = known_more old now q i a b qs gs h t;
  each = λ j c at. rw (plans_stay old now q i a b t) (elim (set_at old i j b c (subst (λ (xs : List Reading). slice_get xs j ≡ Some c) t.others at)) [
    | inl here ↦ rw (here.0, here.1) (torn_here old now q i a b qs gs h t torn)
    | inr away ↦ other_list old now q i a b qs gs j c h t away.0 away.1
  ]);
}

stands_whole : (old now : List Reading) (q : List ℕ) (i : ℕ) (a b : Reading) (qs : List (List ℕ)) (gs : List (ℕ × Recorded)) (r : Recorded) → Stands old qs gs → Step old now q i a b → is_whole b ≡ true → AreOf b.plan r b.packets → Stands now (qs ++ q ∷ []) (gs ++ (i, r) ∷ [])
stands_whole old now q i a b qs gs r h t whole of = record {
  known = known_more old now q i a b qs gs h t;
  each = λ j c at. rw (plans_stay old now q i a b t) (elim (set_at old i j b c (subst (λ (xs : List Reading). slice_get xs j ≡ Some c) t.others at)) [
    | inl here ↦ rw (here.0, here.1) (whole_here old now q i a b qs gs r h t whole of)
    | inr away ↦ rw (given_other i j gs r (λ e. away.0 (sym e))) (other_list old now q i a b qs gs j c h t away.0 away.1)
  ]);
}

own_at : (old now : List Reading) (i : ℕ) (a b c : Reading) → slice_get old i ≡ Some a → now ≡ set old i b → slice_get now i ≡ Some c → c ≡ b
own_at old now i a b c at is h = elim (set_at old i i b c (subst (λ (xs : List Reading). slice_get xs i ≡ Some c) is h)) [
  | inl here ↦ here.1
  | inr away ↦ absurd (away.0 refl)
]

stands_if : (old now : List Reading) (q : List ℕ) (i : ℕ) (a b : Reading) (qs : List (List ℕ)) (gs : List (ℕ × Recorded)) (v : Bool) → Stands old qs gs → Step old now q i a b → is_whole b ≡ v → StandsWith now (qs ++ q ∷ []) gs (if v then Some i else None)
stands_if old now q i a b qs gs false h t e = stands_torn old now q i a b qs gs h t e
stands_if old now q i a b qs gs true h t e = λ c r at of.
    let same : c ≡ b = own_at old now i a b c t.at t.others at in
    stands_whole old now q i a b qs gs r h t e (subst (λ (x : Reading). AreOf x.plan r x.packets) same of)

-- one packet more
pub stands_after : (old now : List Reading) (q : List ℕ) (whole : Option ℕ) (qs : List (List ℕ)) (gs : List (ℕ × Recorded)) → Takes old now q whole → Stands old qs gs → StandsWith now (qs ++ q ∷ []) gs whole
stands_after old now q whole qs gs t h =
    let step : Step old now q (place_in (plans_of old) q) t.before t.after = record { place = refl; at = t.at; begins = t.begins; is = t.is; others = t.others } in
    rw t.sample (stands_if old now q (place_in (plans_of old) q) t.before t.after qs gs (is_whole t.after) h step refl)

-- the lists stay the same
pub plans_taken : (old now : List Reading) (q : List ℕ) (whole : Option ℕ) → Takes old now q whole → plans_of now ≡ plans_of old
plans_taken old now q whole t =
    ap plans_of t.others ∙ plans-set old (place_in (plans_of old) q) t.before t.after t.at (ap (λ (x : Reading). x.plan) t.is)

-- the list at the packet's place has taken it
pub takes_at : (old : List Reading) (i : ℕ) (x b : Reading) (q : List ℕ) (whole : Option ℕ) → x ≡ get_or old i x → i < length old → i ≡ place_in (plans_of old) q → Begin x.plan (under_way x ++ q ∷ []) → b ≡ record x { packets = under_way x ++ q ∷ [] } → whole ≡ (if is_whole b then Some i else None) → Takes old (set old i b) q whole
takes_at old i x b q whole read here place begins is sample =
    let at : slice_get old i ≡ Some x = slice_get_read old (length old) i x refl here read in
    record {
      before = x;
      after = b;
      at = ap (slice_get old) (sym place) ∙ at;
      begins = begins;
      is = is;
      others = ap (λ n. set old n b) place;
      sample = sample ∙ ap (λ n. if is_whole b then Some n else None) place;
    }

pub refused_at : (old : List Reading) (i : ℕ) (x : Reading) (q : List ℕ) (o : Option PacketFault) → x ≡ get_or old i x → i < length old → i ≡ place_in (plans_of old) q → fault_of x.plan (length (under_way x)) q ≡ o → refusal old q ≡ o
refused_at old i x q o read here place is =
    let at : slice_get old i ≡ Some x = slice_get_read old (length old) i x refl here read in
    ap (λ a. fault_at a q) (ap (slice_get old) (sym place) ∙ at) ∙ is

-- a list that has read nothing yet, and those before it
last_or : (xs : List Reading) (x : Reading) (i : ℕ) (a : Reading) → slice_get (xs ++ x ∷ []) i ≡ Some a → (slice_get xs i ≡ Some a) ⊎ (a ≡ x)
last_or [] x zero a h = inr (cc)
last_or [] x (suc i) a h = absurd (cc)
last_or (y ∷ xs) x zero a h = inl h
last_or (y ∷ xs) x (suc i) a h = last_or xs x i a h

nothing_waits : (b : Bool) → ◌≡◌ {A = List (List ℕ)} [] (if b then [] else [])
nothing_waits true = refl
nothing_waits false = refl

fresh_read : (plan : ListPlan) → 0 < length plan.odts → AreRead plan [] (under_way (record { plan = plan; packets = [] })) []
fresh_read plan some =
    rw (← nothing_waits (0 == length plan.odts)) (record { each = All-nil (IsRecorded plan); torn = some; whole = refl })

pub added : (xs : List Reading) (plan : ListPlan) → 0 < length plan.odts → Stands xs [] [] → Stands (xs ++ record { plan = plan; packets = [] } ∷ []) [] []
added xs plan some h = record {
  known = All-nil (λ (q : List ℕ). place_in (plans_of (xs ++ record { plan = plan; packets = [] } ∷ [])) q < length (xs ++ record { plan = plan; packets = [] } ∷ []));
  each = λ i a at. elim (last_or xs (record { plan = plan; packets = [] }) i a at) [
    | inl there ↦ h.each i a there
    | inr last ↦ rw last (fresh_read plan some)
  ];
}

-- a list whose sample is whole stands at a place
pub record WholeAt (now : List Reading) (i : ℕ) : Type 0 where
  pub list : Reading
  pub at : slice_get now i ≡ Some list
  pub whole : is_whole list ≡ true

get_set : (xs : List Reading) (i : ℕ) (b : Reading) → i < length xs → slice_get (set xs i b) i ≡ Some b
get_set [] i b h = absurd (omega (arith, h))
get_set (x ∷ xs) zero b h = refl
get_set (x ∷ xs) (suc i) b h = get_set xs i b (omega (arith, h))

whole_if : (now : List Reading) (i place : ℕ) (a : Reading) (v : Bool) → slice_get now place ≡ Some a → is_whole a ≡ v → Some i ≡ (if v then Some place else None) → WholeAt now i
whole_if now i place a true at is h =
    let same : i ≡ place = cc in
    record { list = a; at = ap (slice_get now) same ∙ at; whole = is }
whole_if now i place a false at is h = absurd (cc)

pub whole_at : (old now : List Reading) (q : List ℕ) (whole : Option ℕ) (i : ℕ) → Takes old now q whole → whole ≡ Some i → WholeAt now i
whole_at old now q whole i t is =
    let place : ℕ = place_in (plans_of old) q in
    let at : slice_get now place ≡ Some t.after = ap (λ (xs : List Reading). slice_get xs place) t.others ∙ get_set old place t.after (slice_get_within old place t.before t.at) in
    whole_if now i place t.after (is_whole t.after) at refl (sym is ∙ t.sample)

-- a packet that is of no list
pub refused_past : (old : List Reading) (q : List ℕ) → place_in (plans_of old) q ≡ length old → refusal old q ≡ Some OtherList
refused_past old q past = ap (λ a. fault_at a q) (slice_get_past old (place_in (plans_of old) q) (omega (arith, past)))

pub on_err : {T E P : Type 0} (r : Result T E) → P → OnErr r P
on_err (Ok x) p = tt
on_err (Err e) p = p
