-- A slave goes on by what it hears, takes and sends.
use Rattle.std.proofs.Common.{◌≡◌, ℕ, Bool, true, false, zero, suc, ◌+◌, ◌*◌, ◌≤◌, List, [], ◌∷◌, ◌++◌, append-nil, length, length-append, take as first, Result, Ok, Err, IfOk, OnOk, refl, sym, ap, ◌∙◌, subst, arith, inl, inr}
use Rattle.std.specs.List.{list_all}
use Rattle.slave_outbox.specs.Outboxes.{has_waiting, packets_in}
use Rattle.slave_outbox.proofs.LaidLemmas.{more_text}
use Rattle.frame_writer.specs.Frame.{text}
use Rattle.session.specs.Past.{Given}
use Rattle.session.specs.declared.profile.Profile.{Profile}
use Rattle.slave.specs.Hearing.{GoesBy, Hears, most_before}
use Rattle.slave.specs.Finishing.{GivesBack}
use Rattle.slave_channels.specs.Channels.{FinishedState, IsFinished}
use Rattle.std.specs.Prelude.{Some, min}
use Rattle.slave.specs.Log.{Act, CameBack, Discarded, HungUp, Sent, discarding, losing, sending as sent_acts, sent_laid, waits}
use Rattle.slave.specs.Pages.{page_at}
use Rattle.slave.specs.Standing.{SlaveStandsAfter, SlaveState}
use Rattle.slave.specs.Taking.{TakesItems, most_taken}
use Rattle.session_file.specs.Lines.{LineData, master}
use Rattle.session_file.specs.Playing.{Advances, Does, HasPlayed, Sending, StandsSo, heard_by, masters, most_a_line, sending}
use Rattle.slave.specs.Session.{sent_text}
use Rattle.slave.proofs.SessionLemmas.{session-law}
use Rattle.slave.specs.Thinned.{IsWithout}
use Rattle.session_file.proofs.LogLemmas.{heard-append, heard-one, is_silent, masters-append, takes-nothing, text-stays}
use Rattle.slave.proofs.ThinnedLemmas.{assoc, without-append}

pub if-ok-both : {A B : Type 0} (r : Result A B) (P Q R : A → Type 0) → ((x : A) → P x → Q x → R x) → IfOk r P → IfOk r Q → IfOk r R
if-ok-both (Ok x) P Q R f p q = f x p q
if-ok-both (Err e) P Q R f p q = tt

-- what is shown is no more than what waits
first-none : {X : Type 0} (n : ℕ) → ◌≡◌ {A = List X} (first n []) []
first-none zero = refl
first-none (suc n) = refl

first-min : {X : Type 0} (n : ℕ) (xs : List X) → first (min n (length xs)) xs ≡ first n xs
first-min zero xs =
    let none : min 0 (length xs) ≡ 0 = omega arith in
    ap (λ n. first n xs) none
first-min (suc n) [] = first-none (min (suc n) 0)
first-min (suc n) (x ∷ xs) =
    let same : min (suc n) (suc (length xs)) ≡ suc (min n (length xs)) = omega arith in
    ap (λ k. first k (x ∷ xs)) same ∙ ap (λ ys. x ∷ ys) (first-min n xs)

pub on_ok : {A E : Type 0} (r : Result A E) {P Q : Type 0} → (P → Q) → OnOk r P → OnOk r Q
on_ok (Ok a) f p = f p
on_ok (Err e) f p = tt

-- what holds anyway holds where a call succeeds
pub on-any : {A E : Type 0} (r : Result A E) {P : Type 0} → P → OnOk r P
on-any (Ok a) p = p
on-any (Err e) p = tt

pub if_ok : {A E : Type 0} (r : Result A E) {P Q : A → Type 0} → ((x : A) → P x → Q x) → IfOk r P → IfOk r Q
if_ok (Ok a) f p = f a p
if_ok (Err e) f p = tt

-- a log of the slave, whatever profile is asked for
log-goes : (a b : SlaveState) (acts : List Act) → GoesBy a b acts → (d : Profile) (log : List Act)
    → SlaveStandsAfter d a log → SlaveStandsAfter d b (acts ++ log)
log-goes a b acts goes d log stands =
    let profile : a.session.profile ≡ d = stands.parts.has.profile in
    subst (λ p. SlaveStandsAfter p b (acts ++ log)) profile
    (goes.1 log (subst (λ p. SlaveStandsAfter p a log) (sym profile) stands))

-- acts that send nothing
pub silent : (most : ℕ) (a b : SlaveState) (acts : List Act) (sent : List ℕ) (packets : List (List ℕ)) → length acts ≤ most → GoesBy a b acts
    → heard_by acts ≡ packets → list_all is_silent acts ≡ true → Advances most (sending a sent) (sending b sent) packets
silent most a b acts sent packets below goes heard none = record {
  lines = goes.0;
  acts = acts;
  few = below;
  heard = heard;
  goes = λ d log so. record {
    stands = log-goes a b acts goes d log so.stands;
    text_is = so.text_is ∙ sym (text-stays d acts log none);
  };
}

pub nothing : (a : SlaveState) (sent : List ℕ) → Advances 0 (sending a sent) (sending a sent) []
nothing a sent = record { lines = refl; acts = []; few = omega arith; heard = refl; goes = λ d log before. before }

pub hears : (a b : SlaveState) (sent packet : List ℕ) (given : Given) → Hears a b packet given → Advances (1 + most_before) (sending a sent) (sending b sent) (packet ∷ [])
hears a b sent packet given h =
    let one = heard-one h.act h.opening packet given h.is h.may_open in
    let few = h.may_open.few in
    silent (1 + most_before) a b (h.act ∷ h.opening) sent (packet ∷ []) (omega (arith, few)) h.goes one.0 one.1

-- a part of a measurement came back
pub came-back : (a b : SlaveState) (c : ℕ) (sent : List ℕ) (f : FinishedState) → GivesBack a b c (Some f) → IsFinished f
    → Advances 1 (sending a sent) (sending b sent) []
came-back a b c sent f gives whole = silent 1 a b (CameBack f.number c whole.0 ∷ []) sent [] (omega arith) (gives.some whole.0 whole.1) refl refl

pub takes : (a b : SlaveState) (sent : List ℕ) → TakesItems most_taken a b → Advances most_taken (sending a sent) (sending b sent) []
takes a b sent t =
    let none = takes-nothing t.acts t.are in
    silent most_taken a b t.acts sent [] t.few t.goes none.0 none.1

-- the first frames that wait are sent
text-sends : (a : SlaveState) (d : Profile) (log : List Act) (sent : List ℕ) (n : ℕ) → SlaveStandsAfter d a log → sent ≡ sent_text d log
    → sent ++ text a.outbox.counter (packets_in (first n a.outbox.waits)) ≡ sent_text d (Sent n ∷ log)
text-sends a d log sent n stands so =
    ap (λ bs. bs ++ text a.outbox.counter (packets_in (first n a.outbox.waits))) so
    ∙ more_text a.outbox (page_at d log) n (sent_laid d log) (waits d log) stands.parts.has.outbox

sends-some : (a b : SlaveState) (sent more : List ℕ) (n : ℕ) → more ≡ sent ++ text a.outbox.counter (packets_in (first n a.outbox.waits)) → GoesBy a b (sent_acts n)
    → Advances 1 (sending a sent) (sending b more) []
sends-some a b sent more zero is goes = record {
  lines = goes.0;
  acts = [];
  few = omega arith;
  heard = refl;
  goes = λ d log so. record { stands = log-goes a b [] goes d log so.stands; text_is = is ∙ append-nil sent ∙ so.text_is };
}
sends-some a b sent more (suc n) is goes = record {
  lines = goes.0;
  acts = Sent (suc n) ∷ [];
  few = omega arith;
  heard = refl;
  goes = λ d log so. record {
    stands = log-goes a b (Sent (suc n) ∷ []) goes d log so.stands;
    text_is = is ∙ text-sends a d log sent (suc n) so.stands so.text_is;
  };
}

pub sends : (a b : SlaveState) (sent more : List ℕ) → more ≡ sent ++ text a.outbox.counter (packets_in (first a.outbox.shown a.outbox.waits))
    → GoesBy a b (sent_acts (min a.outbox.shown (length a.outbox.waits))) → Advances 1 (sending a sent) (sending b more) []
sends a b sent more is goes =
    let n = min a.outbox.shown (length a.outbox.waits) in
    sends-some a b sent more n (is ∙ ap (λ xs. sent ++ text a.outbox.counter (packets_in xs)) (sym (first-min a.outbox.shown a.outbox.waits))) goes

-- the master is lost, if one was connected, and what waits is thrown away
hangs-if : (a b : SlaveState) (sent : List ℕ) (some on : Bool) → GoesBy a b (discarding some ++ losing on) → Advances 2 (sending a sent) (sending b sent) []
hangs-if a b sent true true goes = silent 2 a b (Discarded ∷ HungUp ∷ []) sent [] (omega arith) goes refl refl
hangs-if a b sent true false goes = silent 2 a b (Discarded ∷ []) sent [] (omega arith) goes refl refl
hangs-if a b sent false true goes = silent 2 a b (HungUp ∷ []) sent [] (omega arith) goes refl refl
hangs-if a b sent false false goes = silent 2 a b [] sent [] (omega arith) goes refl refl

pub hangs : (a b : SlaveState) (sent : List ℕ) → GoesBy a b (discarding (has_waiting a.outbox) ++ losing a.session.connected) → Advances 2 (sending a sent) (sending b sent) []
hangs a b sent goes = hangs-if a b sent (has_waiting a.outbox) a.session.connected goes

-- one advance behind another
pub advances-more : (n k : ℕ) (a m b : Sending) (ps qs : List (List ℕ)) → Advances n a m ps → Advances k m b qs → Advances (n + k) a b (ps ++ qs)
advances-more n k a m b ps qs one two = record {
  acts = two.acts ++ one.acts;
  few = omega (arith, length-append two.acts one.acts, one.few, two.few);
  heard = heard-append two.acts one.acts ∙ ap (λ zs. zs ++ heard_by two.acts) one.heard ∙ ap (λ zs. ps ++ zs) two.heard;
  lines = two.lines ∙ one.lines;
  goes = λ d log before. subst (StandsSo d b) (sym (assoc two.acts one.acts log)) (two.goes d (one.acts ++ log) (one.goes d log before));
}

-- no more acts than so many are no more than more
pub advances-within : (n k : ℕ) (a b : Sending) (ps : List (List ℕ)) → n ≤ k → Advances n a b ps → Advances k a b ps
advances-within n k a b ps below one = record { lines = one.lines; acts = one.acts; few = omega (arith, below, one.few); heard = one.heard; goes = one.goes }

-- lines of no packet, of which none or one is refused
pub does-other : (a b : Sending) (before after : ℕ) (line : LineData) → masters (line ∷ []) ≡ [] → before ≤ after → after ≤ before + 1
    → Advances most_a_line a b [] → Does a b before after (line ∷ [])
does-other a b before after line none up low advances = record {
  unheard = 0;
  packets = [];
  thinned = subst (λ ps. IsWithout 0 ps []) (sym none) (refl, refl);
  counted = omega (arith, up);
  most = low;
  advances = advances-within most_a_line (most_a_line * 1) a b _ (omega arith) advances;
}

-- a packet of the master that is heard, and one that is refused
pub does-heard : (a b : Sending) (n : ℕ) (packet : List ℕ) → Advances most_a_line a b (packet ∷ []) → Does a b n n (master packet ∷ [])
does-heard a b n packet advances = record {
  unheard = 0;
  packets = packet ∷ [];
  thinned = inl ([], refl, (refl, refl));
  counted = omega arith;
  most = omega arith;
  advances = advances-within most_a_line (most_a_line * 1) a b _ (omega arith) advances;
}

pub does-unheard : (a b : Sending) (n : ℕ) (packet : List ℕ) → Advances most_a_line a b [] → Does a b n (n + 1) (master packet ∷ [])
does-unheard a b n packet advances = record {
  unheard = 1;
  packets = [];
  thinned = inr (0, refl, (refl, refl));
  counted = omega arith;
  most = omega arith;
  advances = advances-within most_a_line (most_a_line * 1) a b _ (omega arith) advances;
}

-- lines behind lines
pub does-more : (a m b : Sending) (x y z : ℕ) (xs ys : List LineData) → Does a m x y xs → Does m b y z ys → Does a b x z (xs ++ ys)
does-more a m b x y z xs ys one two = record {
  unheard = one.unheard + two.unheard;
  packets = one.packets ++ two.packets;
  thinned = subst (λ ps. IsWithout (one.unheard + two.unheard) ps (one.packets ++ two.packets)) (sym (masters-append xs ys))
      (without-append one.unheard two.unheard (masters xs) one.packets (masters ys) two.packets one.thinned two.thinned);
  counted = omega (arith, one.counted, two.counted);
  most = let both = length-append xs ys in omega (arith, one.most, two.most, both);
  advances =
      let both = length-append xs ys in
      advances-within (most_a_line * length xs + most_a_line * length ys) (most_a_line * length (xs ++ ys)) a b (one.packets ++ two.packets) (omega (arith, both))
      (advances-more (most_a_line * length xs) (most_a_line * length ys) a m b one.packets two.packets one.advances two.advances);
}

pub does-nothing : (a : Sending) (n : ℕ) → Does a a n n []
does-nothing a n = record {
  unheard = 0;
  packets = [];
  thinned = (refl, refl);
  counted = omega arith;
  most = omega arith;
  advances = record { lines = refl; acts = []; few = omega arith; heard = refl; goes = λ d log before. before };
}

-- from a slave that was just opened to its end
pub played : (d : Profile) (a m b : Sending) (lines : List LineData) (refused : ℕ) → SlaveStandsAfter d a.slave [] → a.sent ≡ []
    → Does a m 0 refused lines → Advances most_a_line m b [] → HasPlayed d lines refused b.sent
played d a m b lines refused stands none does ends =
    let all = advances-more (most_a_line * length lines) most_a_line a m b does.packets [] does.advances ends in
    let log = all.acts ++ [] in
    let same : log ≡ all.acts = append-nil all.acts in
    let heard : does.packets ≡ heard_by log = sym (append-nil does.packets) ∙ sym all.heard ∙ sym (ap heard_by same) in
    let last : StandsSo d b log = all.goes d [] (record { stands = stands; text_is = none }) in
    record {
      slave = b.slave;
      play = record {
        log = log;
        few = let n = ap length same in let k = all.few in omega (arith, n, k);
        unheard = does.unheard;
        thinned = subst (IsWithout does.unheard (masters lines)) heard does.thinned;
        counted = omega (arith, does.counted);
        is_log = last.stands.parts.has.is_log;
        law = session-law d log last.stands.parts.has.is_log;
        bytes_are = last.text_is;
      };
      stands = last.stands;
    }
