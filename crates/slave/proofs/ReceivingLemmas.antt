-- Bytes that are taken, piece by piece.
use Rattle.session.specs.Past.{Given}
use Rattle.std.proofs.Common.{◌≡◌, ℕ, ◌+◌, ◌-◌, ◌*◌, ◌<◌, ◌≤◌, true, false, Result, Ok, Err, List, [], ◌∷◌, ◌++◌, append-nil, append_assoc, length, length-append, drop, take as first, refl, sym, ap, ◌∙◌, subst, arith, ◌⊎◌, inl, inr}
use Rattle.std.specs.Prelude.{All, OnErr}
use Rattle.std.proofs.Math.Seq.{take-add, take-length}
use Rattle.std.proofs.lemmas.Bool.{false≢true}
use Rattle.std.proofs.lemmas.Bool.Decides.{nat_tests}
use Rattle.std.proofs.lemmas.List.{length-drop, take-append-drop, take_rest}
use Rattle.frame_writer.specs.Split.{joined_frames}
use Rattle.frame_writer.specs.declared.reach.Reach.TheVariants.{Bad, Part}
use Rattle.frame_writer.specs.Pieces.{IsMasterFrame, SplitsInto}
use Rattle.frame_writer.specs.Reach.{reach, reach_by}
use Rattle.frame_writer.specs.Reading.{IsBadAfter, Leads, ReaderStandsAfter, ReaderState}
use Rattle.frame_writer.proofs.ReadingLemmas.{leads_then}
use Rattle.slave.specs.Hearing.{GoesBy, Hears, may_hear}
use Rattle.slave.specs.Log.{Act}
use Rattle.slave.specs.Standing.{SlaveStandsAfter, SlaveState}
use Rattle.slave.specs.declared.limits.TheConstants.{PER_PACKET}
use Rattle.slave.specs.Receiving.{AreHeard, BreaksOff, HearsAll, HearsDatagram, Receives}

-- packets that were heard, and others behind them
heard-more : (given : Given) (ps qs : List (List ℕ)) (xs ys : List Act) → AreHeard given ps xs → AreHeard given qs ys → AreHeard given (ps ++ qs) (ys ++ xs)
heard-more given [] qs xs ys none are = subst (AreHeard given qs) (sym (append-nil ys) ∙ ap (λ zs. ys ++ zs) (sym none)) are
heard-more given (p ∷ ps) qs xs ys (later, act, opening, is, hearing, may_open, rest) are = (
  ys ++ later,
  act,
  opening,
  ap (λ zs. ys ++ zs) is ∙ sym (append_assoc ys later (act ∷ opening)),
  hearing,
  may_open,
  heard-more given ps qs later ys rest are,
)

-- a LEN is bad whatever stands behind it
bad-anyway : (m len behind other : ℕ) → reach_by m len behind ≡ Bad → reach_by m len other ≡ Bad
bad-anyway m len behind other bad = grind (arith, nat_tests)

bad-more : (m : ℕ) (xs ys : List ℕ) → reach m xs ≡ Bad → reach m (xs ++ ys) ≡ Bad
bad-more m [] ys bad = absurd cc
bad-more m (a ∷ []) ys bad = absurd cc
bad-more m (a ∷ b ∷ xs) ys bad = bad-anyway m (a + 256 * b) (length xs) (length (xs ++ ys)) bad

-- nothing ends in nothing
ends-in-none : (xs ys : List ℕ) → [] ≡ xs ++ ys → ys ≡ []
ends-in-none [] ys none = sym none
ends-in-none (x ∷ xs) ys none = absurd cc

-- what holds of the bytes from a place on, in each turn
rest-length : (at : ℕ) (bytes : List ℕ) → length (first (length bytes - at) (drop at bytes)) ≡ length bytes - at
rest-length at bytes = ap length (take_rest bytes at) ∙ length-drop at bytes

pub within-from : (at n : ℕ) (bytes : List ℕ) → at ≤ length bytes → n ≤ length (first (length bytes - at) (drop at bytes)) → at + n ≤ length bytes
within-from at n bytes there more = omega (arith, there, more, rest-length at bytes)

pub far-from : (turns at n : ℕ) (bytes : List ℕ) → at ≤ length bytes → turns ≤ at → (at ≡ length bytes → ⊥)
    → (0 < length (first (length bytes - at) (drop at bytes)) → 0 < n) → turns + 1 ≤ at + n
far-from turns at n bytes there far other some =
    let left : at < length bytes = omega (arith, there, other) in
    let more : 0 < n = some (omega (arith, left, rest-length at bytes)) in
    omega (arith, far, more)

pub ends-from : (at n : ℕ) (bytes : List ℕ) (s : ReaderState) → at ≤ length bytes → (n ≡ length (first (length bytes - at) (drop at bytes))) ⊎ (s.held ≡ [])
    → (at + n ≡ length bytes) ⊎ ((at + n ≡ 0) ⊎ (s.held ≡ []))
ends-from at n bytes s there ends =
    elim ends [
      | inl all ↦ inl (omega (arith, there, all, rest-length at bytes))
      | inr whole ↦ inr (inr whole)
    ]

-- a slave that is as one without room has none
pub has-room-not : (a b : SlaveState) → true ≡ may_hear a → a ≡ b → may_hear b ≡ false → ⊥
has-room-not a b room same full = false≢true (sym (room ∙ ap (λ (s : SlaveState). may_hear s) same ∙ full))

pub on-err : {X E : Type 0} (r : Result X E) (P : Type 0) → P → OnErr r P
on-err (Ok x) P p = tt
on-err (Err e) P p = p

goes-more : (a m b : SlaveState) (xs ys : List Act) → m.session.profile ≡ a.session.profile → GoesBy a m xs → GoesBy m b ys → GoesBy a b (ys ++ xs)
goes-more a m b xs ys profile one two = (
  two.0 ∙ one.0,
  λ log stands.
      subst (λ zs. SlaveStandsAfter a.session.profile b zs) (sym (append_assoc ys xs log))
      (subst (λ p. SlaveStandsAfter p b (ys ++ (xs ++ log))) profile
      (two.1 (xs ++ log) (subst (λ p. SlaveStandsAfter p m (xs ++ log)) (sym profile) (one.1 log stands)))),
)

hears-none : (a : SlaveState) (given : Given) → HearsAll a a given []
hears-none a given = record { acts = []; are = refl; goes = (refl, λ log stands. stands); counted = omega arith; next = refl; shown = refl; profile = refl }

hears-one : (a b : SlaveState) (given : Given) (packet : List ℕ) → Hears a b packet given → b.acts ≡ a.acts + PER_PACKET → b.next ≡ a.next → b.outbox.shown ≡ a.outbox.shown → b.session.profile ≡ a.session.profile → HearsAll a b given (packet ∷ [])
hears-one a b given packet hears counts next shown profile = record {
  acts = hears.act ∷ hears.opening;
  are = ([], hears.act, hears.opening, refl, hears.is, hears.may_open, refl);
  goes = hears.goes;
  counted = omega (arith, counts);
  next = next;
  shown = shown;
  profile = profile;
}

hears-more : (a m b : SlaveState) (given : Given) (ps qs : List (List ℕ)) → HearsAll a m given ps → HearsAll m b given qs → HearsAll a b given (ps ++ qs)
hears-more a m b given ps qs one two = record {
  acts = two.acts ++ one.acts;
  are = heard-more given ps qs one.acts two.acts one.are two.are;
  goes = goes-more a m b one.acts two.acts one.profile one.goes two.goes;
  counted = omega (arith, one.counted, two.counted, length-append ps qs);
  next = two.next ∙ one.next;
  shown = two.shown ∙ one.shown;
  profile = two.profile ∙ one.profile;
}

-- no bytes
pub receives-none : (r : ReaderState) (a : SlaveState) (given : Given) → Receives r r a a given []
receives-none r a given = record {
  packets = [];
  leads = record {
    max_cto = refl;
    after = λ bytes packets stands.
        subst (λ zs. ReaderStandsAfter r zs (packets ++ [])) (sym (append-nil bytes))
        (subst (λ zs. ReaderStandsAfter r bytes zs) (sym (append-nil packets)) stands);
  };
  hears = hears-none a given;
}

-- bytes that end no frame
pub no-packet : (r s : ReaderState) (a : SlaveState) (given : Given) (bytes : List ℕ) → Leads r s bytes [] → Receives r s a a given bytes
no-packet r s a given bytes leads = record { packets = []; leads = leads; hears = hears-none a given }

-- bytes that end a frame, whose packet is heard
pub one-packet : (r s : ReaderState) (a b : SlaveState) (given : Given) (bytes packet : List ℕ) → Leads r s bytes (packet ∷ []) → Hears a b packet given → b.acts ≡ a.acts + PER_PACKET → b.next ≡ a.next → b.outbox.shown ≡ a.outbox.shown → b.session.profile ≡ a.session.profile
    → Receives r s a b given bytes
one-packet r s a b given bytes packet leads hears counts next shown profile = record { packets = packet ∷ []; leads = leads; hears = hears-one a b given packet hears counts next shown profile }

-- some bytes, and then others
receives-more : (r s t : ReaderState) (a m b : SlaveState) (given : Given) (xs ys : List ℕ) → Receives r s a m given xs → Receives s t m b given ys → Receives r t a b given (xs ++ ys)
receives-more r s t a m b given xs ys one two = record {
  packets = one.packets ++ two.packets;
  leads = leads_then r s t xs ys one.packets two.packets one.leads two.leads;
  hears = hears-more a m b given one.packets two.packets one.hears two.hears;
}

-- the same of bytes from a place on
pub receives-from : (r s t : ReaderState) (a m b : SlaveState) (given : Given) (at n : ℕ) (bytes : List ℕ) → Receives r s a m given (first at bytes)
    → Receives s t m b given (first n (first (length bytes - at) (drop at bytes))) → Receives r t a b given (first (at + n) bytes)
receives-from r s t a m b given at n bytes one two =
    subst (λ zs. Receives r t a b given zs) (ap (λ zs. first at bytes ++ first n zs) (take_rest bytes at) ∙ sym (take-add at n bytes))
    (receives-more r s t a m b given (first at bytes) (first n (first (length bytes - at) (drop at bytes))) one two)

-- bytes from a place on came to the begin of a bad frame
pub breaks-from : (r s t : ReaderState) (a m : SlaveState) (given : Given) (at : ℕ) (bytes : List ℕ) → at ≤ length bytes → Receives r s a m given (first at bytes)
    → IsBadAfter s t (first (length bytes - at) (drop at bytes)) → BreaksOff r t a m given bytes
breaks-from r s t a m given at bytes there one bad =
    record {
      taken = at + bad.taken;
      within = within-from at bad.taken bytes there bad.within;
      receives = receives-from r s t a m m given at bad.taken bytes one (no-packet s t m given (first bad.taken (first (length bytes - at) (drop at bytes))) bad.leads);
      closed = bad.closed;
    }

-- a datagram is what a stream takes of which no byte came before
pub datagram-ok : (r s : ReaderState) (a b : SlaveState) (given : Given) (n : ℕ) (bytes : List ℕ) → ReaderStandsAfter r [] [] → r.max_cto ≡ a.session.profile.max_cto → s.closed ≡ false
    → (n ≡ length bytes) ⊎ ((n ≡ 0) ⊎ (s.held ≡ [])) → Receives r s a b given (first n bytes) → HearsDatagram a b given bytes n
datagram-ok r s a b given n bytes fresh by_profile is_open ends got =
    let stands = got.leads.after [] [] fresh in
    let same : s.max_cto ≡ a.session.profile.max_cto = got.leads.max_cto ∙ by_profile in
    record {
      packets = got.packets;
      left = s.held;
      split = subst (λ m. SplitsInto m (first n bytes) got.packets s.held) same stands.split;
      ends = inl (subst (λ m. reach m s.held ≡ Part) same (stands.part is_open));
      rest = elim ends [
        | inl all ↦ inr all
        | inr w ↦ elim w [
          | inl none ↦ inl (ends-in-none (joined_frames stands.split.frames) s.held (sym (ap (λ k. first k bytes) none) ∙ stands.split.whole))
          | inr whole ↦ inl whole
        ]
      ];
      hears = got.hears;
    }

pub datagram-bad : (r s : ReaderState) (a b : SlaveState) (given : Given) (bytes : List ℕ) → ReaderStandsAfter r [] [] → r.max_cto ≡ a.session.profile.max_cto → BreaksOff r s a b given bytes
    → HearsDatagram a b given bytes (length bytes)
datagram-bad r s a b given bytes fresh by_profile off =
    let stands = off.receives.leads.after [] [] fresh in
    let same : s.max_cto ≡ a.session.profile.max_cto = off.receives.leads.max_cto ∙ by_profile in
    let behind = drop off.taken bytes in
    let whole : first (length bytes) bytes ≡ joined_frames stands.split.frames ++ (s.held ++ behind) =
    take-length bytes ∙ sym (take-append-drop off.taken bytes) ∙ ap (λ zs. zs ++ behind) stands.split.whole
    ∙ append_assoc (joined_frames stands.split.frames) s.held behind in
    record {
      packets = off.receives.packets;
      left = s.held ++ behind;
      split = record { frames = stands.split.frames; legal = subst (λ m. All (IsMasterFrame m) stands.split.frames) same stands.split.legal; carry = stands.split.carry; whole = whole };
      ends = inr (subst (λ m. reach m (s.held ++ behind) ≡ Bad) same (bad-more s.max_cto s.held behind (stands.bad off.closed)));
      rest = inr refl;
      hears = off.receives.hears;
    }
