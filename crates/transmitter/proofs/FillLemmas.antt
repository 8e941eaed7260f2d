-- Pumps, one after another, into one buffer.
use Rattle.std.proofs.Common.{◌≡◌, ℕ, inl, inr, ◌+◌, ◌<◌, ◌≤◌, List, [], ◌∷◌, ◌++◌, length, None, refl, sym, ap, ◌∙◌, subst, arith, append-nil, append_assoc, length-append, drop, take}
use Rattle.std.proofs.lemmas.List.{drop-drop}
use Rattle.xcp_base.specs.declared.item.Item.{Item}
use Rattle.frame_writer.specs.Shown.{OutState}
use Rattle.transmitter.specs.Fills.{ArePumps, Fills, FindsNoRoom, IsInFront, TakesTurns, Tells, all_taken, ring_behind}
use Rattle.transmitter.specs.Inner.Fits.{HasTurns, LaysOn}
use Rattle.transmitter.specs.Inner.Places.{Lays}
use Rattle.transmitter.specs.Pumps.{CanPump, Leads}
use Rattle.xcp_base.specs.declared.limits.TheConstants.{MAX_TAKEN}
use Rattle.transmitter.specs.Written.{TransmitterState}
use Rattle.transmitter.specs.declared.pumped_all.PumpedAll.{PumpedAll}
use Rattle.transmitter.proofs.PumpLemmas.{nothing, refused, tells-nothing}
use Rattle.transmitter.proofs.WrittenLemmas.{leads-append, leads-next}

-- nothing was laid out
pub lays_nothing : (a : OutState) (buffer : List ℕ) (at : ℕ) → at ≤ length buffer → LaysOn a a buffer buffer at at
lays_nothing a buffer at h = record { text = []; wrote = sym (append-nil a.contents); front = sym (append-nil (take at buffer)); end_is = omega arith; behind = refl; len = refl; inside = h }

-- what was laid out from the front on stands there
pub lays-front : (a b : OutState) (old new : List ℕ) (end : ℕ) → LaysOn a b old new 0 end → IsInFront a b old new end
lays-front a b old new end l = record { within = l.inside; written = ap (λ t. a.contents ++ t) l.front ∙ sym l.wrote; behind = l.behind }

-- text was laid out, and then more
pub lays-append : (a b d : OutState) (start buffer new : List ℕ) (at end last : ℕ) → LaysOn a b start buffer at end → LaysOn b d buffer new end last → LaysOn a d start new at last
lays-append a b d start buffer new at end last p l =
    let more = l.text in
    let same : drop (end + length more) buffer ≡ drop (end + length more) start =
    sym (drop-drop (length more) end buffer) ∙ ap (drop (length more)) p.behind ∙ drop-drop (length more) end start in
    record {
      text = p.text ++ more;
      wrote = l.wrote ∙ ap (λ t. t ++ more) p.wrote ∙ append_assoc a.contents p.text more;
      front = l.front ∙ ap (λ t. t ++ more) p.front ∙ append_assoc (take at start) p.text more;
      end_is = omega (arith, p.end_is, l.end_is, length-append p.text more);
      behind = l.behind ∙ ap (λ n. drop n buffer) l.end_is ∙ same ∙ ap (λ n. drop n start) (sym l.end_is);
      len = l.len ∙ p.len;
      inside = omega (arith, l.inside, p.len);
    }

-- a turn that laid some text out
pub lays_more : (a b d : OutState) (start buffer new : List ℕ) (at end last : ℕ) → LaysOn a b start buffer at end → Lays b d buffer new end last → last ≤ length buffer → LaysOn a d start new at last
lays_more a b d start buffer new at end last p l inside = lays-append a b d start buffer new at end last p (record { text = l.text; wrote = l.wrote; front = l.front; end_is = l.end_is; behind = l.behind; len = l.len; inside = inside })

-- a turn that laid nothing out
pub lays_same : (a b d : OutState) (start buffer new : List ℕ) (at end last : ℕ) → LaysOn a b start buffer at end → (d ≡ b) × (new ≡ buffer) × (last ≡ end) → LaysOn a d start new at last
lays_same a b d start buffer new at end last p same = rw (same.0, same.1, same.2) p

-- a pump begins at ring 0 behind any that does
behind_zero : (pumps : List (List (ℕ × Item))) → ring_behind 0 pumps ≡ 0
behind_zero [] = refl
behind_zero (qs ∷ pumps) = refl

-- one pump more
pub pumps-push : (n from : ℕ) (a b d : TransmitterState) (pumps : List (List (ℕ × Item))) (qs : List (ℕ × Item)) → ArePumps n from a pumps b → TakesTurns (ring_behind from pumps) n b d qs → ArePumps n from a (pumps ++ qs ∷ []) d
pumps-push n from a b d [] qs is turns = (d, subst (λ s. TakesTurns from n s d qs) is turns, refl)
pumps-push n from a b d (ps ∷ pumps) qs is turns = (is.0, is.1, pumps-push n 0 is.0 b d pumps qs is.2 (subst (λ k. TakesTurns k n b d qs) (sym (behind_zero pumps)) turns))

pub all_taken-push : (pumps : List (List (ℕ × Item))) (qs : List (ℕ × Item)) → all_taken (pumps ++ qs ∷ []) ≡ all_taken pumps ++ qs
all_taken-push [] qs = append-nil qs
all_taken-push (ps ∷ pumps) qs = ap (λ t. ps ++ t) (all_taken-push pumps qs) ∙ sym (append_assoc ps (all_taken pumps) qs)

pub ring_behind-push : (from : ℕ) (pumps : List (List (ℕ × Item))) (qs : List (ℕ × Item)) → ring_behind from (pumps ++ qs ∷ []) ≡ 0
ring_behind-push from [] qs = refl
ring_behind-push from (ps ∷ pumps) qs = refl

-- whole pumps were made, and the next has its turns from ring `now` on
pub record Filled (n from : ℕ) (a b : TransmitterState) (now : ℕ) (p : PumpedAll) : Type 0 where
  pub hand : b.hand ≡ None
  pub pumps : List (List (ℕ × Item))
  pub are : ArePumps n from a pumps b
  pub at : now ≡ ring_behind from pumps
  pub leads : Leads a (all_taken pumps) b
  pub tells : Tells p (all_taken pumps)

-- before the first
pub filled_none : (n from : ℕ) (a : TransmitterState) → a.hand ≡ None → Filled n from a a from nothing
filled_none n from a hand = record {
  hand = hand;
  pumps = [];
  are = refl;
  at = refl;
  leads = refused a;
  tells = tells-nothing nothing refl refl refl;
}

-- one more
pub filled_more : (n from now stop : ℕ) (a b d : TransmitterState) (p q : PumpedAll) → Filled n from a b now p → HasTurns now stop b d p q → stop ≡ n → Filled n from a d 0 q
filled_more n from now stop a b d p q f s whole = record {
  hand = s.hand;
  pumps = f.pumps ++ s.items ∷ [];
  are = pumps-push n from a b d f.pumps s.items f.are (subst (λ k. TakesTurns (ring_behind from f.pumps) k b d s.items) whole (subst (λ k. TakesTurns k stop b d s.items) f.at s.turns));
  at = sym (ring_behind-push from f.pumps s.items);
  leads = subst (λ ps. Leads a ps d) (sym (all_taken-push f.pumps s.items)) (leads-append a b d (all_taken f.pumps) s.items f.leads s.turns.leads);
  tells = subst (Tells q) (sym (all_taken-push f.pumps s.items)) (s.tells (all_taken f.pumps) f.tells);
}

-- turns don't depend on the ring at which pumps that fill a buffer go on behind them
turns-next : (low high : ℕ) (a b : TransmitterState) (qs : List (ℕ × Item)) (n : ℕ) → TakesTurns low high a b qs → TakesTurns low high a (record b { next = n }) qs
turns-next low high a b qs n t = record { rising = t.rising; below = t.below; leads = leads-next a b qs n t.leads; known = t.known }

-- the last stopped before a sample that doesn't fit
pub fills_no_room : (from now stop room end : ℕ) (a b d : TransmitterState) (p q : PumpedAll) → CanPump a → Filled (length a.rings) from a b now p → HasTurns now stop b d p q → stop < length a.rings → FindsNoRoom stop d room end → Fills from stop room end a (record d { next = stop }) q
fills_no_room from now stop room end a b d p q could f s short finds = record {
  could = could;
  hand = s.hand;
  pumps = f.pumps;
  last = s.items;
  between = b;
  before = f.are;
  stop = stop;
  turns = turns-next _ stop b d s.items stop (subst (λ k. TakesTurns k stop b d s.items) f.at s.turns);
  why = inl (refl, short, record { sample = finds.sample; first = finds.first; too_long = finds.too_long });
  leads = leads-next a d _ stop (leads-append a b d (all_taken f.pumps) s.items f.leads s.turns.leads);
  tells = s.tells (all_taken f.pumps) f.tells;
}

none_more : (qs : List (ℕ × Item)) (p q : ℕ) → q ≡ p → q ≡ p + length qs → qs ≡ []
none_more [] p q same more = refl
none_more (x ∷ qs) p q same more = absurd (omega (arith, same, more))

-- the last was a whole one that found nothing
pub fills_all : (from now stop room end : ℕ) (a b d : TransmitterState) (p q : PumpedAll) → CanPump a → Filled (length a.rings) from a b now p → HasTurns now stop b d p q → stop ≡ length a.rings → (now ≡ 0) × (q.taken ≡ p.taken) → Fills from 0 room end a (record d { next = 0 }) q
fills_all from now stop room end a b d p q could f s whole none = record {
  could = could;
  hand = s.hand;
  pumps = f.pumps;
  last = s.items;
  between = b;
  before = f.are;
  stop = stop;
  turns = turns-next _ stop b d s.items 0 (subst (λ k. TakesTurns k stop b d s.items) f.at s.turns);
  why = inr (inl (whole, refl, sym f.at ∙ none.0, none_more s.items p.taken q.taken none.1 s.count));
  leads = leads-next a d _ 0 (leads-append a b d (all_taken f.pumps) s.items f.leads s.turns.leads);
  tells = s.tells (all_taken f.pumps) f.tells;
}

-- there was no leave for a further one
pub fills_spent : (from now room end : ℕ) (a b : TransmitterState) (p : PumpedAll) → CanPump a → Filled (length a.rings) from a b now p → MAX_TAKEN ≤ b.taken → Fills from 0 room end a (record b { next = 0 }) p
fills_spent from now room end a b p could f spent = record {
  could = could;
  hand = f.hand;
  pumps = f.pumps;
  last = [];
  between = b;
  before = f.are;
  stop = 0;
  turns = record { rising = tt; below = tt; leads = leads-next b b [] 0 (refused b); known = λ e h. absurd (omega (arith, h)) };
  why = inr (inr (refl, refl, refl, spent));
  leads = leads-next a b _ 0 (subst (λ ps. Leads a ps b) (sym (append-nil (all_taken f.pumps))) f.leads);
  tells = subst (Tells p) (sym (append-nil (all_taken f.pumps))) f.tells;
}
