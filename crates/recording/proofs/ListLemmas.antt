-- Of each list, the packets written are those of the first samples that its channel accepted.
use Rattle.std.proofs.Common.{◌≡◌, ◌≢◌, ℕ, ◌+◌, ◌<◌, ◌≤◌, ◌==◌, ◌&&◌, inl, inr, Bool, true, false, cond, eqb, List, [], ◌∷◌, ◌++◌, length, map, Option, Some, refl, sym, ap, ◌∙◌, arith, subst, length-append}
use Rattle.std.specs.Prelude.{All, flat_map, nat_le, slice_get}
use Rattle.std.specs.List.{AllByRecursion}
use mathlib.Core.List.{IsPrefix}
use Rattle.std.proofs.lemmas.Bool.{false≢true}
use Rattle.std.proofs.lemmas.Bool.Decides.{eqb_tells, nat_tests}
use Rattle.std.proofs.lemmas.List.{append-nil, append_cancel_left, length-map, map-append}
use Rattle.std.proofs.lemmas.List.Elements.{All-from_recursion, filter-append}
use Rattle.xcp_base.specs.declared.item.Item.{Item}
use Rattle.xcp_base.specs.declared.item.Item.TheVariants.{Sample, Marker}
use Rattle.xcp_base.specs.Forms.{field_len}
use Rattle.xcp_base.specs.Samples.{SampleParts}
use Rattle.xcp_base.proofs.FormLemmas.{length-id_field, names-id_field}
use Rattle.segments.specs.Image.{image_len}
use Rattle.copy_plan.specs.Config.{IsPlan, ListPlan, odt}
use Rattle.copy_plan.specs.Packet.{elements, packet, packets, timestamp}
use Rattle.copy_plan.specs.Pids.{field}
use Rattle.sampler.specs.Decisions.{overload_bit}
use Rattle.sampler.specs.History.{Trigger}
use Rattle.sampler.specs.Items.{sample}
use Rattle.sampler.specs.Past.{Past}
use Rattle.transmitter.specs.Items.{packets_of as packets_in, samples}
use Rattle.transmitter.specs.Merge.{items_taken, taken_from}
use Rattle.transmitter.proofs.TakenLemmas.{samples-append}
use Rattle.daq_engine.specs.Configuration.{IsConfiguration}
use Rattle.daq_engine.specs.Filters.{is_of_channel, is_of_plan, of_channel, of_list}
use Rattle.daq_engine.specs.Merges.{ArePrefixes, samples_of}
use Rattle.daq_engine.specs.Order.{HasOrder, IsOfSome, items_of}
use Rattle.daq_engine.specs.Overload.{decided_of}
use Rattle.daq_engine.proofs.AccountLemmas.{merge_keeps_lists}
use Rattle.daq_engine.proofs.MergeLemmas.{any_at}
use Rattle.daq_engine.proofs.PidLemmas.{all-append, all-front, all-indexed, all-items, all-map_range}
use Rattle.daq_reader.specs.Lists.{is_of}
use Rattle.daq_reader.specs.Recorded.{IsRecorded, Recorded, packets_of}
use Rattle.daq_reader.specs.Recording.{AreWhole}
use Rattle.recording.specs.Accepted.{HasImages, recorded_of}
use Rattle.recording.specs.Plans.{AreAllPlans}
use Rattle.recording.proofs.AcceptedLemmas.{IsBeside, accepted-items, accepted-recorded, each_packets}
use Rattle.recording.proofs.PlaceLemmas.{IsOfOne, all-as, all-sorted, filter-filter, the_same}

-- elements of which the values begin some values
record IsFront {X Y : Type 0} (f : X → Y) (xs : List X) (ys : List Y) : Type 0 where
  pub front : List X
  pub prefix : IsPrefix front xs
  pub same : map f front ≡ ys

front_of : {X Y : Type 0} (f : X → Y) (xs : List X) (ys zs : List Y) → map f xs ≡ ys ++ zs → IsFront f xs ys
front_of f xs [] zs e = record { front = []; prefix = (xs, refl); same = refl }
front_of f [] (y ∷ ys) zs e = absurd cc
front_of f (x ∷ xs) (y ∷ ys) zs e =
    let here : f x ≡ y = cc in
    let behind : map f xs ≡ ys ++ zs = cc in
    let more = front_of f xs ys zs behind in
    record {
      front = x ∷ more.front;
      prefix = (more.prefix.0, ap (λ t. x ∷ t) more.prefix.1);
      same = ap (λ t. f x ∷ t) more.same ∙ ap (λ v. v ∷ ys) here;
    }

-- a prefix that is as long is the whole
as_many_front : {X : Type 0} (xs ys : List X) → IsPrefix xs ys → length xs ≡ length ys → xs ≡ ys
as_many_front xs ys is many =
    let none : is.0 ≡ [] = nothing is.0 (omega (arith, many, ap length is.1, length-append xs is.0)) in
    sym (append-nil xs) ∙ (ap (λ zs. xs ++ zs) (sym none) ∙ is.1)
  where
    nothing : {Y : Type 0} (zs : List Y) → length zs ≡ 0 → zs ≡ []
    nothing [] h = refl
    nothing (z ∷ zs) h = absurd (omega (arith, h))

joined : (f : Recorded → List (List ℕ)) (ss : List SampleParts) (rs : List Recorded) → map f rs ≡ each_packets ss → packets_in ss ≡ flat_map f rs
joined f [] [] e = refl
joined f [] (r ∷ rs) e = absurd cc
joined f (s ∷ ss) [] e = absurd cc
joined f (s ∷ ss) (r ∷ rs) e =
    let here : f r ≡ s.packets = cc in
    let behind : map f rs ≡ each_packets ss = cc in
    ap (λ qs. qs ++ packets_in ss) (sym here) ∙ ap (λ qs. f r ++ qs) (joined f ss rs behind)

-- what holds of all holds of the first of them
all-prefix : {X : Type 0} (P : X → Type 0) (xs ys : List X) → IsPrefix xs ys → AllByRecursion P ys → AllByRecursion P xs
all-prefix P xs ys is h = all-front P xs is.0 (subst (λ zs. AllByRecursion P zs) (sym is.1) h)

-- the items, all taken from one ring
abbrev from_ring : ℕ → List Item → List (ℕ × Item)
from_ring c xs = map (λ (x : Item). (c, x)) xs

items-from_ring : (c : ℕ) (xs : List Item) → items_taken (from_ring c xs) ≡ xs
items-from_ring c [] = refl
items-from_ring c (x ∷ xs) = ap (λ ys. x ∷ ys) (items-from_ring c xs)

taken-from_ring : (c e : ℕ) (xs : List Item) → taken_from e (from_ring c xs) ≡ cond (eqb c e) xs []
taken-from_ring c e [] = nothing (eqb c e)
  where
    nothing : (b : Bool) → ◌≡◌ {A = List Item} [] (cond b [] [])
    nothing true = refl
    nothing false = refl
taken-from_ring c e (x ∷ xs) =
    ap (λ ys. cond (eqb c e) (x ∷ ys) ys) (taken-from_ring c e xs)
    ∙ elim (eqb c e) as (λ b. cond b (x ∷ cond b xs []) (cond b xs []) ≡ cond b (x ∷ xs) []) [ true ↦ refl | false ↦ refl ]

own_ring : (c : ℕ) (xs : List Item) → taken_from c (from_ring c xs) ≡ xs
own_ring c xs = taken-from_ring c c xs ∙ ap (λ (b : Bool). cond b xs []) (itself c)
  where
    itself : (n : ℕ) → eqb n n ≡ true
    itself n = grind (arith, nat_tests)

other_ring : (c e : ℕ) (xs : List Item) → c ≢ e → taken_from e (from_ring c xs) ≡ []
other_ring c e xs h = taken-from_ring c e xs ∙ ap (λ (b : Bool). cond b xs []) (differ c e h)
  where
    differ : (m n : ℕ) → m ≢ n → eqb m n ≡ false
    differ m n k = grind (arith, nat_tests)

-- the identification field of a packet of a list is there, and names it
both_true : (a b : Bool) → a ≡ true → b ≡ true → (a && b) ≡ true
both_true true b h k = k
both_true false b h k = absurd (false≢true h)

at_least : (m n : ℕ) → m ≤ n → nat_le m n ≡ true
at_least m n h = grind (arith, nat_tests)

packet_is_of : (plan : ListPlan) (image : List ℕ) (stamp : ℕ) (o : Bool) (k : ℕ) → IsPlan plan → k < length plan.odts → is_of plan (packet plan image stamp o k) ≡ true
unfolding packet
packet_is_of plan image stamp o k is h =
    let front : List ℕ = field plan k o in
    let behind : List ℕ = timestamp plan k stamp ++ elements image (odt plan k) in
    let size : length (front ++ behind) ≡ field_len plan.form.id + length behind
    = length-append front behind ∙ ap (λ n. n + length behind) (length-id_field plan.form.id plan.first_pid plan.list k o) in
    both_true (nat_le (field_len plan.form.id) (length (front ++ behind))) (is_of_plan plan (front ++ behind))
    (at_least (field_len plan.form.id) (length (front ++ behind)) (omega (arith, size)))
    (names-id_field plan.form.id plan.first_pid (length plan.odts) plan.list k o behind is.pids h)

packets_are_of : (plan : ListPlan) (image : List ℕ) (stamp : ℕ) (o : Bool) → IsPlan plan → AllByRecursion (λ q. is_of plan q ≡ true) (packets plan image stamp o)
unfolding packets
packets_are_of plan image stamp o is =
    all-map_range (λ q. is_of plan q ≡ true) (packet plan image stamp o) 0 (length plan.odts) (λ k low high. packet_is_of plan image stamp o k is (omega (arith, high)))

module _ (n : ℕ) (past : ℕ → Past) (conf : IsConfiguration n (λ c. (past c).opening)) where
  -- the packets of one list are those of its first samples, and of all where these are those of all items of its channel
  pub record ListIsWhole (c : ℕ) (plan : ListPlan) (qs : List (List ℕ)) (front : List Item) : Type 0 where
    pub samples : List Recorded
    pub whole : AreWhole plan samples qs
    pub first : IsPrefix samples (recorded_of (past c) plan)
    pub all : front ≡ items_of (past c) → samples ≡ recorded_of (past c) plan

  ring_prefixes : (c : ℕ) (front : List Item) → c < n → IsPrefix front (items_of (past c)) → ArePrefixes n past (from_ring c front)
  ring_prefixes c front below is = record {
    front = λ e e_below. elim (eqb_tells c e) [
      | inl w ↦
          let P : ℕ → Type 0 = λ k. IsPrefix (taken_from k (from_ring c front)) (items_of (past k)) in
          let Q : List Item → Type 0 = λ xs. IsPrefix xs (items_of (past c)) in
          subst P w.1 (subst Q (sym (own_ring c front)) is)
      | inr w ↦
          let Q : List Item → Type 0 = λ xs. IsPrefix xs (items_of (past e)) in
          subst Q (sym (other_ring c e front w.1)) (items_of (past e), refl)
    ];
    none = λ e above. other_ring c e front (λ same. absurd (omega (arith, below, above, same)));
  }

  module _ (c k : ℕ) (plan : ListPlan) (below : c < n) (at : slice_get (past c).opening.plans k ≡ Some plan) where
    beside : AllByRecursion (IsBeside (past c) plan (conf.ready c k plan below at)) (past c).opening.plans
    beside = all-indexed (IsBeside (past c) plan (conf.ready c k plan below at)) (past c).opening.plans (λ j r there. record {
      mine = λ same.
          let w = conf.once c c j k r plan below below there at same in
          the_same r plan (sym there ∙ ap (slice_get (past c).opening.plans) w.1 ∙ at);
    })

    packets-list : (received : List Item) (hand : Option SampleParts) (qs : List (List ℕ)) (front : List Item) → HasOrder c (past c) received hand qs front → of_list plan qs ≡ packets_in (samples_of plan.list (samples front))
    packets-list received hand qs front order =
        sym (filter-filter (is_of_plan plan) (is_of_channel (past c).opening) qs (λ q so. any_at (λ (r : ListPlan). is_of_plan r q) (past c).opening.plans k plan at so))
        ∙ ap (of_list plan) order.packets
        ∙ ap (λ xs. of_list plan (packets_in (samples xs))) (sym (items-from_ring c front))
        ∙ merge_keeps_lists n past (from_ring c front) conf (ring_prefixes c front below order.prefix) c k plan below at
        ∙ ap (λ xs. packets_in (samples_of plan.list (samples xs))) (own_ring c front)

    -- the packets of a list of channel c are those of the first samples that the channel accepted of it
    pub list_is_whole : (received : List Item) (hand : Option SampleParts) (qs : List (List ℕ)) (front : List Item) → HasOrder c (past c) received hand qs front → HasImages (past c) → ListIsWhole c plan (of_list plan qs) front
    list_is_whole received hand qs front order images =
        let ready : IsPlan plan = conf.ready c k plan below at in
        let sizes : (place stamp : ℕ) (image : List ℕ) → slice_get (past c).history place ≡ Some (Trigger image stamp) → length image ≡ image_len plan.segments
        = λ place stamp image there. images place k stamp image plan there at in
        let all : List Recorded = recorded_of (past c) plan in
        let rest : List Item = order.prefix.0 in
        let mine : List Item → List SampleParts = λ xs. samples_of plan.list (samples xs) in
        let parts : mine (items_of (past c)) ≡ mine front ++ mine rest
        = ap mine (sym order.prefix.1) ∙ ap (samples_of plan.list) (samples-append front rest) ∙ filter-append (λ (s : SampleParts). s.list == plan.list) (samples front) (samples rest) in
        let f = front_of (packets_of plan) all (each_packets (mine front)) (each_packets (mine rest))
        (accepted-items (past c) plan ready sizes beside ∙ ap each_packets parts ∙ map-append (λ (s : SampleParts). s.packets) (mine front) (mine rest)) in
        record {
          samples = f.front;
          whole = record {
            legal = ready;
            each = All-from_recursion (IsRecorded plan) f.front (all-prefix (IsRecorded plan) f.front all f.prefix (accepted-recorded (past c) plan ready sizes 0 (decided_of (past c))));
            packets = packets-list received hand qs front order ∙ joined (packets_of plan) (mine front) f.front f.same;
          };
          first = f.prefix;
          all = λ whole.
              let none : each_packets (mine rest) ≡ [] = ap (λ xs. each_packets (mine xs)) (append_cancel_left front rest [] (order.prefix.1 ∙ (sym whole ∙ sym (append-nil front)))) in
              let packets : map (packets_of plan) all ≡ each_packets (mine front) =
              accepted-items (past c) plan ready sizes beside ∙ ap each_packets parts ∙ (map-append (λ (s : SampleParts). s.packets) (mine front) (mine rest) ∙ (ap (λ ps. each_packets (mine front) ++ ps) none ∙ append-nil (each_packets (mine front)))) in
              as_many_front f.front all f.prefix (sym (length-map f.front (packets_of plan)) ∙ (ap length (f.same ∙ sym packets) ∙ length-map all (packets_of plan)));
        }

  module _ (plans : List ListPlan) (all : AreAllPlans n past plans) where
    -- the plan whose list a packet's identification field names is the one that the packet is of
    one_plan : (c k j : ℕ) (p r : ListPlan) (q : List ℕ) → c < n → slice_get (past c).opening.plans k ≡ Some p → is_of_plan p q ≡ true → slice_get plans j ≡ Some r → is_of_plan r q ≡ true → r ≡ p
    one_plan c k j p r q below at is there so =
        let w = all.no_other j r there in
        elim (eqb_tells r.list p.list) [
          | inl same ↦
              let o = conf.once w.0 c w.1 k r p w.2 below w.3 at same.1 in
              the_same r p (sym w.3 ∙ ap (λ e. slice_get (past e).opening.plans w.1) o.0 ∙ ap (slice_get (past c).opening.plans) o.1 ∙ at)
          | inr other ↦ absurd (false≢true (sym (conf.apart c w.0 k w.1 p r below w.2 at w.3 (λ same. other.1 (sym same)) q is) ∙ so))
        ]

    of_one : (c k : ℕ) (p : ListPlan) (q : List ℕ) → c < n → slice_get (past c).opening.plans k ≡ Some p → is_of p q ≡ true → IsOfOne plans q
    of_one c k p q below at is =
        let here = all.each c k p below at in
        let names_it : is_of_plan p q ≡ true = second (nat_le (field_len p.form.id) (length q)) (is_of_plan p q) is in
        record {
          place = here.0;
          plan = p;
          at = here.1;
          is = is;
          alone = λ j r there so.
              let same : r ≡ p = one_plan c k j p r q below at names_it there so in
              all.once j here.0 p (there ∙ ap (λ (x : ListPlan). Some x) same) here.1;
          long = λ j r there so. ap (λ (x : ListPlan). is_of x q) (one_plan c k j p r q below at names_it there so) ∙ is;
        }
      where
        second : (a b : Bool) → (a && b) ≡ true → b ≡ true
        second true b e = e
        second false b e = absurd (false≢true e)

    -- each packet of the item is of one plan alone
    abbrev AllOfOne : Item → Type 0
    AllOfOne (Sample s) = AllByRecursion (IsOfOne plans) s.packets
    AllOfOne (Marker m) = Unit {0}

    -- a plan of channel c
    record IsHere (c : ℕ) (p : ListPlan) : Type 0 where
      pub place : ℕ
      pub at : slice_get (past c).opening.plans place ≡ Some p
      pub ready : IsPlan p

    sample-one : (c : ℕ) → c < n → (j stamp : ℕ) (image : List ℕ) (p : ListPlan) → IsHere c p → AllOfOne (sample (past c).opening (past c).history (past c).decisions j p image stamp)
    unfolding sample
    sample-one c below j stamp image p here =
        let bit : Bool = overload_bit (past c).opening (past c).history (past c).decisions j in
        all-as (λ q. is_of p q ≡ true) (IsOfOne plans) (packets p image stamp bit) (λ q is. of_one c here.place p q below here.at is) (packets_are_of p image stamp bit here.ready)

    items-one : (c : ℕ) → c < n → AllByRecursion AllOfOne (items_of (past c))
    items-one c below =
        all-items (past c).opening (past c).history (past c).decisions (IsHere c) AllOfOne (sample-one c below) (λ l. tt)
        (all-indexed (IsHere c) (past c).opening.plans (λ i p at. record { place = i; at = at; ready = conf.ready c i p below at }))

    packets-one : (xs : List Item) → AllByRecursion AllOfOne xs → AllByRecursion (IsOfOne plans) (packets_in (samples xs))
    packets-one [] h = tt
    packets-one (Sample s ∷ xs) h = all-append (IsOfOne plans) s.packets (packets_in (samples xs)) h.0 (packets-one xs h.1)
    packets-one (Marker m ∷ xs) h = packets-one xs h.1

    pub channel-one : (c : ℕ) (received : List Item) (hand : Option SampleParts) (qs : List (List ℕ)) (front : List Item) → c < n → HasOrder c (past c) received hand qs front → AllByRecursion (IsOfOne plans) (of_channel (past c).opening qs)
    channel-one c received hand qs front below order =
        let Q : List (List ℕ) → Type 0 = λ ps. AllByRecursion (IsOfOne plans) ps in
        subst Q (sym order.packets) (packets-one front (all-prefix AllOfOne front (items_of (past c)) order.prefix (items-one c below)))

    -- each packet written is of one plan alone
    pub all_of_one : (qs : List (List ℕ)) → All (IsOfSome n past) qs → ((c : ℕ) → c < n → AllByRecursion (IsOfOne plans) (of_channel (past c).opening qs)) → AllByRecursion (IsOfOne plans) qs
    all_of_one qs some each = all-sorted (IsOfOne plans) n (λ c q. is_of_channel (past c).opening q) qs some each
