-- What the tasks gave back is taken back, all of it, where no list runs.
use Rattle.std.proofs.Common.{◌≡◌, ◌≢◌, ◌⊎◌, ℕ, zero, suc, ◌+◌, ◌<◌, ◌≤◌, Bool, true, false, true≢false, List, [], ◌∷◌, ◌++◌, length, map, get_or, refl, sym, ap, ◌∙◌, subst, inl, inr, append_assoc, append-nil, length-append, arith}
use Rattle.std.specs.Prelude.{slice_get, Option, Some, None}
use Rattle.std.specs.Option.{is_some}
use Rattle.std.proofs.lemmas.Bool.{false≢true}
use Rattle.std.proofs.lemmas.Bool.Decides.{eqb_tells}
use Rattle.std.proofs.lemmas.Option.{same_Some, slice_get_within}
use mathlib.Core.List.{IsPrefix}
use Rattle.frame_ring.specs.contracts.frame_send.FrameSendSendEnd.TheImpl.{ghosts as send}
use Rattle.frame_ring.specs.declared.frame_send.FrameSend.{FrameSend}
use Rattle.xcp_base.specs.Counts.{one_if}
use Rattle.tasks.specs.Links.{AwayState, LinkState, LooksAtNewest, NoneIsBack, NothingCame, is_here, is_out, is_running, takes_orders}
use Rattle.tasks.specs.Tasks.{TaskEndState}
use Rattle.tasks.specs.Ways.{LeftState}
use Rattle.slave_channels.specs.Channels.{ChannelState, FinishedState, IsBackOf, ShareState}
use Rattle.channel_ring.specs.Ends.{RingName}
use Rattle.slave.specs.Closing.{AreEndsOf}
use Rattle.slave_channels.specs.Calls.{GivesBackNewer, GivesBackOlder, IsBeside, IsRingAt, rings_of}
use Rattle.slave_channels.specs.Each.{IsOnlyAt}
use Rattle.slave.specs.Finishing.{GaveAll, IsOfNewest}
use Rattle.slave.specs.Hearing.{NoneComes}
use Rattle.slave.specs.Inner.{Busy, CameBelow, AllCame, Collects, Gathers, GathersFirst, Grows, TakesAll, TakesOne, kept_of}
use Rattle.slave.specs.Returns.{ends_in}
use Rattle.slave_outbox.specs.Deeds.{Deed}
use Rattle.slave.specs.Standing.{ChannelHas, SlaveState, number_of}
use Rattle.slave.proofs.OutLemmas.{opened_of, some-at, was-there}
use Rattle.slave.proofs.TakingLemmas.{ChangesAt, took-none}

is-bool : (b : Bool) → (b ≡ true) ⊎ (b ≡ false)
is-bool true = inl refl
is-bool false = inr refl

none-of : {A : Type 0} (xs : List A) → length xs ≡ 0 → xs ≡ []
none-of [] is = refl
none-of (x ∷ xs) is = absurd (omega (arith, is))

one-kept : (b : Bool) → one_if b ≤ 1
one-kept true = omega arith
one-kept false = omega arith

grows-nothing : (l m : LinkState FrameSend) → NothingCame l m → Grows l m
grows-nothing l m n = (
  [],
  append-nil (l.came ++ l.coming) ∙ ap (λ xs. xs ++ l.coming) (sym n.came) ∙ ap (λ xs. m.came ++ xs) (sym n.coming),
)

grows-next : (l m : LinkState FrameSend) (left : LeftState) → m.came ≡ l.came ++ left ∷ [] → IsPrefix l.coming (left ∷ m.coming) → Grows l m
grows-next l m left more pre = (
  pre.0,
  append_assoc l.came l.coming pre.0 ∙ ap (λ xs. l.came ++ xs) pre.1 ∙ sym (append_assoc l.came (left ∷ []) m.coming)
      ∙ ap (λ xs. xs ++ m.coming) (sym more),
)

grows-none : (l m : LinkState FrameSend) (waits : Bool) (a b : Option (AwayState FrameSend)) → NoneIsBack send l m waits a b → Grows l m
grows-none l m waits a b none =
    elim none.way [
      | inl s ↦ grows-nothing l m s.nothing
      | inr (inl (free, w)) ↦ grows-next l m w.left w.came w.known
      | inr (inr h) ↦ grows-nothing l m h.nothing
    ]

pub grows-twice : (l m n : LinkState FrameSend) → Grows l m → Grows m n → Grows l n
grows-twice l m n one two = (
  one.0 ++ two.0,
  sym (append_assoc (l.came ++ l.coming) one.0 two.0) ∙ ap (λ xs. xs ++ two.0) one.1 ∙ two.1,
)

grows-same : (l : LinkState FrameSend) → Grows l l
grows-same l = ([], append-nil (l.came ++ l.coming))

-- a look leaves as many
looked-some : (a b : Option (AwayState FrameSend)) → LooksAtNewest a b → is_some b ≡ is_some a
looked-some None None looks = refl
looked-some (Some x) (Some y) looks = refl
looked-some None (Some y) looks = elim looks [ ]
looked-some (Some x) None looks = elim looks [ ]

-- nothing of the older came
none-of-older : (x y : LinkState FrameSend) → NoneIsBack send x y false x.older y.older → is_out y.older ≡ true → y.coming ≡ []
none-of-older x y none on =
    elim none.way [
      | inl s ↦ s.nothing.coming ∙ s.no_more refl on
      | inr (inl w) ↦ absurd (true≢false (sym on ∙ w.1.not_out))
      | inr (inr h) ↦ absurd (true≢false (sym on ∙ h.not_out))
    ]

-- nothing is back of either, so nothing is to come, or nothing is out; and nothing is here
rests-none : (x u y : LinkState FrameSend) → NoneIsBack send x u false x.older u.older → NoneIsBack send u y (is_out u.older) u.newer y.newer → y.older ≡ u.older → NoneComes y
rests-none x u y one two same = record {
  older_not_here = ap is_here same ∙ one.not_here;
  newer_not_here = two.not_here;
  line =
      elim two.way [
        | inl s ↦
            elim (is-bool (is_out u.older)) [
              | inl on ↦ inl (s.nothing.coming ∙ none-of-older x u one on)
              | inr off ↦
                  elim (is-bool (is_out y.newer)) [
                    | inl out ↦ inl (s.nothing.coming ∙ s.no_more off out)
                    | inr held ↦ inr (ap is_out same ∙ off, held)
                  ]
            ]
        | inr (inl w) ↦ inr (ap is_out same ∙ w.0, w.1.not_out)
        | inr (inr h) ↦
            elim (is-bool (is_out u.older)) [
              | inl on ↦ inl (h.nothing.coming ∙ none-of-older x u one on)
              | inr off ↦ inr (ap is_out same ∙ off, h.not_out)
            ]
      ];
}

kept-few : (l : LinkState FrameSend) → kept_of l ≤ 2
kept-few l = omega (arith, one-kept (is_some l.older), one-kept (is_some l.newer))

none-out : (o : Option (AwayState FrameSend)) → one_if (is_some o) ≡ 0 → is_out o ≡ false
none-out None is = refl
none-out (Some a) is = absurd (omega (arith, is))

none-here : (o : Option (AwayState FrameSend)) → one_if (is_some o) ≡ 0 → is_here o ≡ false
none-here None is = refl
none-here (Some a) is = absurd (omega (arith, is))

rests-kept : (l : LinkState FrameSend) → kept_of l ≡ 0 → NoneComes l
rests-kept l none = record {
  older_not_here = none-here l.older (omega (arith, none));
  newer_not_here = none-here l.newer (omega (arith, none));
  line = inr (none-out l.older (omega (arith, none)), none-out l.newer (omega (arith, none)));
}

grows-back : (l m : LinkState FrameSend) (o : Option (AwayState FrameSend)) (p : Option ShareState) (f : FinishedState) → IsBackOf l m o p f → Grows l m
grows-back l m None p f back = elim back [ ]
grows-back l m (Some a) None f back = elim back [ ]
grows-back l m (Some a) (Some s) f back =
    elim back.way [
      | inl n ↦ grows-next l m n.left n.next.came n.next.known
      | inr u ↦ grows-nothing l m u.nothing
    ]

was-kept : (l m : LinkState FrameSend) (o : Option (AwayState FrameSend)) (p : Option ShareState) (f : FinishedState) → IsBackOf l m o p f → one_if (is_some o) ≡ 1
was-kept l m None p f back = elim back [ ]
was-kept l m (Some a) p f back = refl

older-grows : (answer : Option FinishedState) (x y : ChannelState) → GivesBackOlder answer x y → Grows x.link y.link
older-grows None x y gives = grows-none x.link y.link false x.link.older y.link.older (gives.none refl).1
older-grows (Some f) x y gives = grows-back x.link y.link x.link.older x.older f gives.back

newer-grows : (answer : Option FinishedState) (x y : ChannelState) → GivesBackNewer answer x y → Grows x.link y.link
newer-grows None x y gives = grows-none x.link y.link (is_out x.link.older) x.link.newer y.link.newer (gives.none refl).1
newer-grows (Some f) x y gives = grows-back x.link y.link x.link.newer x.newer f gives.back

older-kept : (f : FinishedState) (x y : ChannelState) → GivesBackOlder (Some f) x y → kept_of y.link + 1 ≡ kept_of x.link
older-kept f x y gives =
    let gone : one_if (is_some y.link.older) ≡ 0 = ap (λ o. one_if (is_some o)) (gives.some refl).0 in
    let same : one_if (is_some y.link.newer) ≡ one_if (is_some x.link.newer) = ap (λ (l : LinkState FrameSend). one_if (is_some l.newer)) gives.link in
    omega (arith, gone, same, was-kept x.link y.link x.link.older x.older f gives.back)

newer-kept : (f : FinishedState) (x y : ChannelState) → GivesBackNewer (Some f) x y → kept_of y.link + 1 ≡ kept_of x.link
newer-kept f x y gives =
    let gone : one_if (is_some y.link.newer) ≡ 0 = ap (λ o. one_if (is_some o)) (gives.some refl).0 in
    let same : one_if (is_some y.link.older) ≡ one_if (is_some x.link.older) = ap (λ (l : LinkState FrameSend). one_if (is_some l.older)) gives.link in
    omega (arith, gone, same, was-kept x.link y.link x.link.newer x.newer f gives.back)

still-kept : (x y : ChannelState) → GivesBackOlder None x y → kept_of y.link ≡ kept_of x.link
still-kept x y gives =
    let older : one_if (is_some y.link.older) ≡ one_if (is_some x.link.older) = ap one_if (looked-some x.link.older y.link.older (gives.none refl).1.looked) in
    let newer : one_if (is_some y.link.newer) ≡ one_if (is_some x.link.newer) = ap (λ (l : LinkState FrameSend). one_if (is_some l.newer)) gives.link in
    omega (arith, older, newer)

-- there is no such event channel
pub one-beyond : (a : SlaveState) (c : ℕ) → length a.channels ≤ c → TakesOne c false a a
one-beyond a c beyond = record {
  others = λ k other. refl;
  grows = λ x y at now. absurd (omega (arith, slice_get_within a.channels c x at, beyond));
  yes = λ is. absurd (false≢true is);
  no = λ is y now. absurd (omega (arith, slice_get_within a.channels c y now, beyond));
  gave_all = λ is y now. absurd (omega (arith, slice_get_within a.channels c y now, beyond));
}

-- the older came back
pub one-older : (a b : SlaveState) (c : ℕ) (f : FinishedState) → IsOnlyAt (GivesBackOlder (Some f)) c a.channels b.channels → TakesOne c true a b
one-older a b c f only = record {
  others = only.others;
  grows = λ x y at now. older-grows (Some f) x y (only.here x y at now);
  yes = λ is x y at now. older-kept f x y (only.here x y at now);
  no = λ is. absurd (true≢false is);
  gave_all = λ is. absurd (true≢false is);
}

-- where nothing comes, all was given
gave-rest : (s : SlaveState) (ch : ChannelState) → NoneComes ch.link → GaveAll s ch
gave-rest s ch rests = record {
  older_not_here = rests.older_not_here;
  older = λ on. elim rests.line [
    | inl empty ↦ empty
    | inr w ↦ absurd (true≢false (sym on ∙ w.0))
  ];
  newer = inl rests;
}

-- it didn't, and the newer isn't over
pub one-busy : (a b : SlaveState) (c : ℕ) → IsOnlyAt (GivesBackOlder None) c a.channels b.channels → b.session ≡ a.session → Busy b.session
    → ((ch : ChannelState) → slice_get b.channels c ≡ Some ch → IsOfNewest b ch) → TakesOne c false a b
one-busy a b c only same busy newest = record {
  others = only.others;
  grows = λ x y at now. older-grows None x y (only.here x y at now);
  yes = λ is. absurd (false≢true is);
  no = λ is y now. inl (subst Busy same busy);
  gave_all = λ is y now.
      let x = get_or a.channels c y in
      let at = was-there a.channels b.channels c y only.as_many now in
      let none = ((only.here x y at now).none refl).1 in
      record {
        older_not_here = none.not_here;
        older = none-of-older x.link y.link none;
        newer = inr (busy, newest y now);
      };
}

-- or the newer was looked for
pub one-newer : (a m b : SlaveState) (c : ℕ) (answer : Option FinishedState) → IsOnlyAt (GivesBackOlder None) c a.channels m.channels
    → IsOnlyAt (GivesBackNewer answer) c m.channels b.channels → TakesOne c (is_some answer) a b
one-newer a m b c answer one two = record {
  others = λ k other. two.others k other ∙ one.others k other;
  grows = λ x y at now.
      let u = get_or m.channels c y in
      let was = was-there m.channels b.channels c y two.as_many now in
      grows-twice x.link u.link y.link (older-grows None x u (one.here x u at was)) (newer-grows answer u y (two.here u y was now));
  yes = λ is x y at now.
      let u = get_or m.channels c y in
      let was = was-there m.channels b.channels c y two.as_many now in
      kept answer is u y (two.here u y was now) ∙ still-kept x u (one.here x u at was);
  no = λ is y now.
      let u = get_or m.channels c y in
      let was = was-there m.channels b.channels c y two.as_many now in
      let x = get_or a.channels c u in
      let at = was-there a.channels m.channels c u one.as_many was in
      inr (rest answer is x u y (one.here x u at was) (two.here u y was now));
  gave_all = λ is y now.
      let u = get_or m.channels c y in
      let was = was-there m.channels b.channels c y two.as_many now in
      let x = get_or a.channels c u in
      let at = was-there a.channels m.channels c u one.as_many was in
      gave-rest b y (rest answer is x u y (one.here x u at was) (two.here u y was now));
} where
  kept : (answer : Option FinishedState) → is_some answer ≡ true → (u y : ChannelState) → GivesBackNewer answer u y → kept_of y.link + 1 ≡ kept_of u.link
  kept None is u y gives = absurd (false≢true is)
  kept (Some f) is u y gives = newer-kept f u y gives

  rest : (answer : Option FinishedState) → is_some answer ≡ false → (x u y : ChannelState) → GivesBackOlder None x u → GivesBackNewer answer u y → NoneComes y.link
  rest (Some f) is x u y before gives = absurd (true≢false is)
  rest None is x u y before gives =
      rests-none x.link u.link y.link (before.none refl).1 (gives.none refl).1 (ap (λ (l : LinkState FrameSend). l.older) gives.link)

pub all-none : (c : ℕ) (a b : SlaveState) → TakesOne c false a b → TakesAll c a b
all-none c a b one = record { others = one.others; grows = one.grows; rests = λ y now. one.no refl y now }

pub all-two : (c : ℕ) (r : Bool) (a m b : SlaveState) → TakesOne c true a m → m.session ≡ a.session → length m.channels ≡ length a.channels → length b.channels ≡ length m.channels → TakesOne c r m b → TakesAll c a b
all-two c r a m b one same as_many many two = record {
  others = λ k other. two.others k other ∙ one.others k other;
  grows = λ x y at now.
      let u = get_or m.channels c y in
      let was = was-there m.channels b.channels c y many now in
      grows-twice x.link u.link y.link (one.grows x u at was) (two.grows u y was now);
  rests = λ y now.
      elim (is-bool r) [
        | inl on ↦
            let u = get_or m.channels c y in
            let was = was-there m.channels b.channels c y many now in
            let x = get_or a.channels c u in
            let at = was-there a.channels m.channels c u as_many was in
            inr (rests-kept y.link (omega (arith, one.yes refl x u at was, two.yes on u y was now, kept-few x.link)))
        | inr off ↦
            elim (two.no off y now) [
              | inl busy ↦ inl (subst Busy same busy)
              | inr rests ↦ inr rests
            ]
      ];
}

-- all that was given came
gathered : (end : TaskEndState FrameSend) (u v y : ChannelState) → u.link.came ++ u.link.coming ≡ end.gave → Grows u.link v.link → NoneComes v.link → IsBeside end v y → y.link.came ≡ end.gave
gathered end u v y before grows rests beside =
    let same : y.link.came ≡ v.link.came = ap (λ (ch : ChannelState). ch.link.came) beside.rest in
    let none : y.link.coming ≡ [] =
    elim rests.line [
      | inl empty ↦ none-of y.link.coming (omega (
        arith,
        ap length beside.all,
        length-append y.link.came y.link.coming,
        ap length same,
        ap length before,
        ap length grows.1,
        length-append (u.link.came ++ u.link.coming) grows.0,
        length-append v.link.came v.link.coming,
        ap length empty,
      ))
      | inr w ↦ beside.no_more w.0 w.1
    ] in
    sym (append-nil y.link.came) ∙ ap (λ xs. y.link.came ++ xs) (sym none) ∙ beside.all

pub gathers : (c : ℕ) (end later : TaskEndState FrameSend) (a m n b : SlaveState) → later ≡ end → IsOnlyAt (IsBeside end) c a.channels m.channels → m.session ≡ a.session
    → TakesAll c m n → length n.channels ≡ length m.channels → IsOnlyAt (IsBeside later) c n.channels b.channels → Gathers c end a b
gathers c end later a m n b is one same all many two = record {
  others = λ k other. two.others k other ∙ all.others k other ∙ one.others k other;
  all = λ y now.
      let v = get_or n.channels c y in
      let there = was-there n.channels b.channels c y two.as_many now in
      let u = get_or m.channels c v in
      let was = was-there m.channels n.channels c v many there in
      let x = get_or a.channels c u in
      let at = was-there a.channels m.channels c u one.as_many was in
      elim (all.rests v there) [
        | inl busy ↦ inl (subst Busy same busy)
        | inr rests ↦ inr (gathered end u v y (one.here x u at was).all (all.grows u v was there) rests (subst (λ (e : TaskEndState FrameSend). IsBeside e v y) is (two.here v y there now)))
      ];
}

pub gathers-none : (ends : List (TaskEndState FrameSend)) (a : SlaveState) → GathersFirst 0 ends a a
gathers-none ends a = record { others = λ k from. refl; all = λ c end y below. absurd (omega (arith, below)) }

-- at one event channel more
pub gathers-more : (n : ℕ) (ends : List (TaskEndState FrameSend)) (end : TaskEndState FrameSend) (a m b : SlaveState) → slice_get ends n ≡ Some end → m.session ≡ a.session → GathersFirst n ends a m → Gathers n end m b → GathersFirst (n + 1) ends a b
gathers-more n ends end a m b is same first one = record {
  others = λ k from. one.others k (λ e. omega (arith, from, e)) ∙ first.others k (omega (arith, from));
  all = λ c e y below at now.
      elim (eqb_tells c n) [
        | inl w ↦
            let mine : end ≡ e = same_Some end e (sym is ∙ ap (slice_get ends) (sym w.1) ∙ at) in
            elim (one.all y (ap (slice_get b.channels) (sym w.1) ∙ now)) [
              | inl busy ↦ inl (subst Busy same busy)
              | inr came ↦ inr (came ∙ ap (λ (t : TaskEndState FrameSend). t.gave) mine)
            ]
        | inr w ↦ first.all c e y (less c n below w.1) at (sym (one.others c w.1) ∙ now)
      ];
} where
  less : (c n : ℕ) → c < n + 1 → c ≢ n → c < n
  less c n below other = omega (arith, below, λ (e : c ≡ n). other e)

-- a look beside the other end changes nothing that a log tells of
pub looks-beside : (v w : SlaveState) (xs : List ChannelState) (c : ℕ) (end : TaskEndState FrameSend) → w ≡ v → c < length w.channels → IsOnlyAt (IsBeside end) c w.channels xs → Collects 0 v (record w { channels = xs })
looks-beside v w xs c end same below only =
    let b : SlaveState = record w { channels = xs } in
    let (x, was) = some-at w.channels c below in
    let (y, is) = some-at xs c (omega (arith, below, only.as_many)) in
    let rest = (only.here x y was is).rest in
    let changes : ChangesAt w b c x y = record { was = was; is = is; others = only.others; as_many = only.as_many; quiet = λ off. ap (λ (ch : ChannelState). takes_orders ch.link.newer) rest ∙ off; session = refl; plan = refl; number = refl } in
    subst (λ (z : SlaveState). Collects 0 z b) same
    (record {
      session = refl;
      outbox = refl;
      as_many = only.as_many;
      number = refl;
      counted = refl;
      next = refl;
      acts = [];
      are = refl;
      few = omega arith;
      goes =
          took-none w b c x y (Unit {0}) changes (record {
            newer = ap (λ (ch : ChannelState). number_of ch.newer) rest;
            older = ap (λ (ch : ChannelState). number_of ch.older) rest;
            newer_opened = ap (λ (ch : ChannelState). opened_of ch.newer) rest;
            older_opened = ap (λ (ch : ChannelState). opened_of ch.older) rest;
            came = ap (λ (ch : ChannelState). ends_in ch.link.came) rest;
            ring = ap (λ (ch : ChannelState). ch.link.ring) rest;
          }) refl refl (λ log z. tt) (λ n f u has. kept n f x y rest has);
    }) where
      kept : (n : ℕ) (f : ℕ → List Deed) (x y : ChannelState) → y ≡ record x { link = record x.link { coming = y.link.coming } } → ChannelHas n f x → ChannelHas n f y
      kept n f x y rest has = record {
        newer = λ p at. has.newer p (ap (λ (ch : ChannelState). ch.newer) (sym rest) ∙ at);
        older = λ p at. has.older p (ap (λ (ch : ChannelState). ch.older) (sym rest) ∙ at);
        order = λ p q at now. has.order p q (ap (λ (ch : ChannelState). ch.older) (sym rest) ∙ at) (ap (λ (ch : ChannelState). ch.newer) (sym rest) ∙ now);
        newest = λ on p at. has.newest (ap (λ (ch : ChannelState). takes_orders ch.link.newer) (sym rest) ∙ on) p (ap (λ (ch : ChannelState). ch.newer) (sym rest) ∙ at);
        running = λ l below. ap (λ (ch : ChannelState). is_running ch.link.newer l) rest ∙ has.running l below;
      }

get-map : {A B : Type 0} (f : A → B) (xs : List A) (c : ℕ) (x : A) → slice_get xs c ≡ Some x → slice_get (map f xs) c ≡ Some (f x)
get-map f [] c x at = absurd (none_some x at) where
  none_some : {X : Type 0} (x : X) → None ≡ Some x → ⊥
  none_some x e = cc
get-map f (y ∷ xs) zero x at = ap (λ z. Some (f z)) (same_Some y x at)
get-map f (y ∷ xs) (suc c) x at = get-map f xs c x at

-- the line at a place is the same where all are
pub ring-at : (xs ys : List ChannelState) (c : ℕ) (ring later : RingName) → rings_of ys ≡ rings_of xs → length ys ≡ length xs → later ≡ ring → IsRingAt c xs ring → IsRingAt c ys later
ring-at xs ys c ring later same many is at ch now =
    let x = get_or xs c ch in
    let was = was-there xs ys c ch many now in
    let line = λ (z : ChannelState). z.link.ring in
    same_Some ch.link.ring x.link.ring (sym (get-map line ys c ch now) ∙ ap (λ rs. slice_get rs c) same ∙ get-map line xs c x was)
    ∙ at x was ∙ sym is

-- and an end of a task is of the line at its place
pub end-at : (xs : List ChannelState) (ends : List (TaskEndState FrameSend)) (c : ℕ) (end : TaskEndState FrameSend) → AreEndsOf xs ends → slice_get ends c ≡ Some end → IsRingAt c xs end.ring
end-at xs ends c end are at ch there =
    same_Some ch.link.ring end.ring
    (sym (get-map (λ (z : ChannelState). z.link.ring) xs c ch there) ∙ ap (λ rs. slice_get rs c) (sym are)
    ∙ get-map (λ (z : TaskEndState FrameSend). z.ring) ends c end at)

-- all that came back was taken back: nowhere yet, at one event channel more, and at all
pub came-none : (s : SlaveState) → CameBelow 0 s
came-none s c ch below = absurd (omega (arith, below))

pub came-more : (n : ℕ) (a m b : SlaveState) → b.session ≡ m.session → CameBelow n m → TakesAll n m b → CameBelow (n + 1) b
came-more n a m b same first one c ch below at =
    elim (eqb_tells c n) [
      | inl w ↦
          elim (one.rests ch (ap (slice_get b.channels) (sym w.1) ∙ at)) [
            | inl busy ↦ inl (subst Busy (sym same) busy)
            | inr rests ↦ inr rests
          ]
      | inr w ↦
          elim (first c ch (nearer w.1) (sym (one.others c w.1) ∙ at)) [
            | inl busy ↦ inl (subst Busy (sym same) busy)
            | inr rests ↦ inr rests
          ]
    ] where
      nearer : c ≢ n → c < n
      nearer other = omega (arith, below, λ (e : c ≡ n). other e)

pub came-all : (n : ℕ) (s : SlaveState) → length s.channels ≤ n → CameBelow n s → AllCame s
came-all n s all below c ch at = below c ch (omega (arith, slice_get_within s.channels c ch at, all)) at
