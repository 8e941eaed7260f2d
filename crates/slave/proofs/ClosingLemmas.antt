-- The account of a slave that is closed.
use Rattle.std.proofs.Common.{◌≡◌, ◌*◌, ℕ, ◌+◌, ◌-◌, ◌<◌, ◌≤◌, Bool, nat_le, nat_lt, true, false, ◌&&◌, ◌||◌, not, ◌↔◌, ◌⊎◌, List, ◌++◌, length, append_assoc, refl, sym, ap, ◌∙◌, subst, arith, inl, inr}
use Rattle.std.specs.Prelude.{Option, Some, None}
use Rattle.std.specs.Option.{is_some}
use Rattle.std.proofs.lemmas.Bool.{false≢true, le-leb, leb-true, lt-ltb, ltb-true}
use Rattle.std.proofs.lemmas.Option.{slice_get_within}
use Rattle.xcp_base.specs.declared.limits.TheConstants.{MAX_CHANNELS}
use Rattle.frame_ring.specs.declared.frame_send.FrameSend.{FrameSend}
use Rattle.slave_outbox.specs.Outboxes.{has_waiting}
use Rattle.session.specs.declared.profile.Profile.{Profile}
use Rattle.slave_channels.specs.Channels.{ChannelState, ShareState, is_within}
use Rattle.std.proofs.lemmas.List.{length-map}
use Rattle.slave_channels.specs.Calls.{KeepsNone, KeepsNoneWithin, KeepsOne, KeepsOneWithin}
use Rattle.slave.specs.Closing.{AreEndsOf, Closes, IsComplete}
use Rattle.slave.specs.Hearing.{GoesBy}
use Rattle.slave.specs.declared.complete.Complete.{Complete}
use Rattle.slave.specs.Inner.{Collects, GathersFirst, HasAll, HasComplete}
use Rattle.slave.specs.Log.{AllBack, AllBackWithin, Act, discarding, is_back, is_out, losing, past_of}
use Rattle.slave.specs.Returns.{AreReturns, ends_in, returns_at}
use Rattle.tasks.specs.Tasks.{TaskEndState}
use Rattle.slave.specs.Standing.{NoneRuns, PartsStandAfter, SlaveStandsAfter, SlaveState, number_of}
use Rattle.slave.specs.declared.limits.TheConstants.{MOST_ACTS, PER_PACKET}
use Rattle.slave.proofs.SessionLemmas.{session-law}
use Rattle.slave.proofs.WeightLemmas.{short}
use Rattle.slave.proofs.DeedLemmas.{out-back, out-part}
use Rattle.slave.proofs.OutLemmas.{some-at}
use Rattle.slave.proofs.QuietLemmas.{none-new, quiet}

none_some : {X : Type 0} (x : X) → None ≡ Some x → ⊥
none_some x e = cc

-- a part that is kept has a number
numbered : (o : Option ShareState) → is_some o ≡ true → (m : ℕ) × (number_of o ≡ Some m)
numbered None is = absurd (false≢true is)
numbered (Some p) is = (p.number, refl)

not-numbered : (o : Option ShareState) (m : ℕ) → is_some o ≡ false → number_of o ≡ Some m → ⊥
not-numbered None m is at = none_some m at
not-numbered (Some p) m is at = false≢true (sym is)

is-bool : (b : Bool) → (b ≡ true) ⊎ (b ≡ false)
is-bool true = inl refl
is-bool false = inr refl

or-split : (a b : Bool) → (a || b) ≡ true → (a ≡ true) ⊎ (b ≡ true)
or-split true b is = inl refl
or-split false b is = inr is

or-none : (a b : Bool) → (a || b) ≡ false → (a ≡ false) × (b ≡ false)
or-none true b is = absurd (false≢true (sym is))
or-none false b is = (refl, is)

-- a part that is kept, of one of these measurements, has such a number
numbered-within : (o : Option ShareState) (from to : ℕ) → is_within from to o ≡ true → (m : ℕ) × (from ≤ m) × (m < to) × (number_of o ≡ Some m)
numbered-within None from to is = absurd (false≢true is)
numbered-within (Some p) from to is =
    let (least, less) = and-both (nat_le from p.number) (nat_lt p.number to) is in
    (p.number, leb-true from p.number least, ltb-true p.number to less, refl) where
      and-both : (a b : Bool) → (a && b) ≡ true → (a ≡ true) × (b ≡ true)
      and-both true b both = (refl, both)
      and-both false b both = absurd (false≢true both)

not-within : (o : Option ShareState) (m from to : ℕ) → from ≤ m → m < to → is_within from to o ≡ false → number_of o ≡ Some m → ⊥
not-within None m from to least less is at = none_some m at
not-within (Some p) m from to least less is at =
    let same = some-inj p.number m at in
    false≢true (sym is ∙ ap (λ n. nat_le from n && nat_lt n to) same ∙ ap (λ b. b && nat_lt m to) (le-leb from m least) ∙ lt-ltb m to less) where
      some-inj : (x y : ℕ) → Some x ≡ Some y → x ≡ y
      some-inj x y e = cc

-- there are as many ends of tasks as event channels
pub ends-many : (s : SlaveState) (ends : List (TaskEndState FrameSend)) → AreEndsOf s.channels ends → length ends ≡ length s.channels
ends-many s ends are =
    sym (length-map ends (λ (end : TaskEndState _). end.ring)) ∙ ap length are
    ∙ length-map s.channels (λ (ch : ChannelState). ch.link.ring)

-- where no part is kept at an event channel, all came back
all-back : (d : Profile) (s : SlaveState) (log : List Act) → PartsStandAfter d s log
    → KeepsNone s.channels → AllBack d log
all-back d s log stands none m c within there =
    elim (is-bool (is_back m c log)) [
      | inl back ↦ back
      | inr out ↦
          let (ch, at) = some-at s.channels c (omega (arith, within, stands.has.many)) in
          let (older, newer) = or-none (is_some ch.older) (is_some ch.newer) (none c ch at) in
          absurd (elim ((stands.has.out c ch at).kept m (ap (λ b. b && not (is_back m c log)) there ∙ ap not out)) [
            | inl w ↦ not-numbered ch.newer m newer w
            | inr w ↦ not-numbered ch.older m older w
          ])
    ]

-- and where one is kept, one did not
not-back : (d : Profile) (s : SlaveState) (log : List Act) → PartsStandAfter d s log
    → KeepsOne s.channels → AllBack d log → ⊥
not-back d s log stands (c, (ch, at, is)) all =
    let (m, out) = some-out in
    false≢true (sym (out-back m c log out) ∙ all m c (omega (arith, slice_get_within s.channels c ch at, stands.has.many)) (out-part m c log out)) where
      some-out : (m : ℕ) × (is_out m c log ≡ true)
      some-out =
          elim (or-split (is_some ch.older) (is_some ch.newer) is) [
            | inl w ↦ let (m, at_m) = numbered ch.older w in (m, (stands.has.out c ch at).older m at_m)
            | inr w ↦ let (m, at_m) = numbered ch.newer w in (m, (stands.has.out c ch at).newer m at_m)
          ]

-- so it is told
pub told-whole : (d : Profile) (s : SlaveState) (log : List Act) (kept : Bool) → PartsStandAfter d s log
    → (kept ≡ false → KeepsNone s.channels)
    → (kept ≡ true → KeepsOne s.channels)
    → (not kept ≡ true) ↔ AllBack d log
told-whole d s log false stands none some = (λ e. all-back d s log stands (none refl), λ all. refl)
told-whole d s log true stands none some = (λ e. absurd (false≢true e), λ all. absurd (not-back d s log stands (some refl) all))

-- where no part of these measurements is kept, all came back
back-within : (d : Profile) (s : SlaveState) (log : List Act) (from to : ℕ) → PartsStandAfter d s log
    → KeepsNoneWithin from to s.channels → AllBackWithin from to d log
back-within d s log from to stands none m c least less within there =
    elim (is-bool (is_back m c log)) [
      | inl back ↦ back
      | inr out ↦
          let (ch, at) = some-at s.channels c (omega (arith, within, stands.has.many)) in
          let (older, newer) = or-none (is_within from to ch.older) (is_within from to ch.newer) (none c ch at) in
          absurd (elim ((stands.has.out c ch at).kept m (ap (λ b. b && not (is_back m c log)) there ∙ ap not out)) [
            | inl w ↦ not-within ch.newer m from to least less newer w
            | inr w ↦ not-within ch.older m from to least less older w
          ])
    ]

-- and where one is kept, one did not
out-within : (d : Profile) (s : SlaveState) (log : List Act) (from to : ℕ) → PartsStandAfter d s log
    → KeepsOneWithin from to s.channels → AllBackWithin from to d log → ⊥
out-within d s log from to stands (c, (ch, at, is)) all =
    let (m, least, less, out) = some-out in
    false≢true (sym (out-back m c log out) ∙ all m c least less (omega (arith, slice_get_within s.channels c ch at, stands.has.many)) (out-part m c log out)) where
      some-out : (m : ℕ) × (from ≤ m) × (m < to) × (is_out m c log ≡ true)
      some-out =
          elim (or-split (is_within from to ch.older) (is_within from to ch.newer) is) [
            | inl w ↦ let (m, least, less, at_m) = numbered-within ch.older from to w in (m, least, less, (stands.has.out c ch at).older m at_m)
            | inr w ↦ let (m, least, less, at_m) = numbered-within ch.newer from to w in (m, least, less, (stands.has.out c ch at).newer m at_m)
          ]

told-within : (d : Profile) (s : SlaveState) (log : List Act) (from to : ℕ) (has : Bool) → PartsStandAfter d s log → HasAll from to s.channels has
    → (has ≡ true) ↔ AllBackWithin from to d log
told-within d s log from to true stands is = (λ e. back-within d s log from to stands (is.yes refl), λ all. refl)
told-within d s log from to false stands is = (λ e. absurd (false≢true e), λ all. absurd (out-within d s log from to stands (is.no refl) all))

-- so it is told of each measurement
pub told-complete : (d : Profile) (s : SlaveState) (log : List Act) (complete : Complete) → PartsStandAfter d s log → HasComplete s.account.end s.channels complete
    → IsComplete d log complete
told-complete d s log complete stands is =
    let same = stands.has.account.end_is in
    record {
      many = is.many;
      last = λ i has at.
          subst (λ n. (has ≡ true) ↔ AllBackWithin (n - 4 + i) (n - 4 + (i + 1)) d log) same
          (told-within d s log (s.account.end - 4 + i) (s.account.end - 4 + (i + 1)) has stands (is.last i has at));
      older = subst (λ n. (complete.older ≡ true) ↔ AllBackWithin 0 (n - 4) d log) same (told-within d s log 0 (s.account.end - 4) complete.older stands is.older);
    }

-- where the master was lost, or none was connected, no list runs
none-runs : (a : SlaveState) (log : List Act) → SlaveStandsAfter a.session.profile a log
    → NoneRuns (past_of a.session.profile (discarding (has_waiting a.outbox) ++ (losing a.session.connected ++ log)))
none-runs a log stands =
    by (has_waiting a.outbox) a.session.connected refl where
      d : Profile
      d = a.session.profile

      by : (some on : Bool) → a.session.connected ≡ on → NoneRuns (past_of d (discarding some ++ (losing on ++ log)))
      by true true is = none-new
      by false true is = none-new
      by true false is = quiet d log (sym stands.parts.has.session.connected ∙ is)
      by false false is = quiet d log (sym stands.parts.has.session.connected ∙ is)

pub closes : (a h b : SlaveState) (ends : List (TaskEndState FrameSend)) (kept : Bool) (complete : Complete) → b.acts < MOST_ACTS + PER_PACKET → GoesBy a h (discarding (has_waiting a.outbox) ++ losing a.session.connected) → h.session.profile ≡ a.session.profile
    → Collects (2 * MAX_CHANNELS) h b
    → length ends ≡ length h.channels
    → GathersFirst (length h.channels) ends h b
    → (kept ≡ false → KeepsNone b.channels)
    → (kept ≡ true → KeepsOne b.channels)
    → HasComplete b.account.end b.channels complete
    → Closes a ends b.account (not kept) complete
closes a h b ends kept complete fits hangs profile collects as_many gathers none some is_complete = record {
  last = collects.acts;
  are = collects.are;
  few = collects.few;
  closed = λ log stands.
      let d = a.session.profile in
      let gone = discarding (has_waiting a.outbox) ++ (losing a.session.connected ++ log) in
      let all = collects.acts ++ gone in
      let hung = subst (λ xs. SlaveStandsAfter d h xs) (append_assoc (discarding (has_waiting a.outbox)) (losing a.session.connected) log) (hangs.1 log stands) in
      let between = subst (λ p. SlaveStandsAfter p h gone) (sym profile) hung in
      let behind = subst (λ p. PartsStandAfter p b all) profile
      (collects.goes.1 gone (omega (arith, collects.few, short h.session.profile h gone (omega (arith, fits, collects.counted)) between)) between.parts) in
      let has = behind.has in (
        record {
          is_log = has.is_log;
          law = session-law d all has.is_log;
          account_is = has.account;
          whole_is = told-whole d b all kept behind none some;
          complete_is = told-complete d b all complete behind is_complete;
        },
        λ c end at.
            let there : c < length b.channels = omega (arith, slice_get_within ends c end at, as_many, collects.as_many) in
            let (y, now) = some-at b.channels c there in
            elim (gathers.all c end y (omega (arith, there, collects.as_many)) at now) [
              | inl busy ↦ absurd (busy (past_of d gone) hung.parts.has.session (none-runs a log stands))
              | inr came ↦ subst (λ xs. AreReturns (returns_at c all) (ends_in xs)) came (has.as_logged c y now).came
            ],
      );
}
