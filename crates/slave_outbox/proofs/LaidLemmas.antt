-- What is laid out behind what waits, and what is sent of it.
use Rattle.std.proofs.Common.{◌≡◌, ℕ, ◌+◌, ◌%◌, ◌≤◌, List, [], ◌∷◌, ◌++◌, length, take, drop, map, refl, sym, ap, ◌∙◌, arith, length-append, zero, suc}
use Rattle.std.proofs.lemmas.List.{length-take-le, map-append}
use Rattle.frame_writer.specs.Frame.{text}
use Rattle.frame_writer.proofs.TextLemmas.{text-append, text-mod}
use Rattle.slave_outbox.specs.Outboxes.{Laid, LaysOut, OutboxState, StandsAfter, packets_in, together}
use Rattle.slave_outbox.specs.declared.origin.Origin.{Origin}

module _ {X Y : Type 0} (f : X → Y) where
  pub take-map : (n : ℕ) (xs : List X) → take n (map f xs) ≡ map f (take n xs)
  take-map zero xs = refl
  take-map (suc n) [] = refl
  take-map (suc n) (x ∷ xs) = ap (λ ys. f x ∷ ys) (take-map n xs)

  pub drop-map : (n : ℕ) (xs : List X) → drop n (map f xs) ≡ map f (drop n xs)
  drop-map zero xs = refl
  drop-map (suc n) [] = refl
  drop-map (suc n) (x ∷ xs) = drop-map n xs

  pub many-map : (xs : List X) → length (map f xs) ≡ length xs
  many-map [] = refl
  many-map (x ∷ xs) = ap suc (many-map xs)

pub packets_in-append : (xs ys : List Laid) → packets_in (xs ++ ys) ≡ packets_in xs ++ packets_in ys
packets_in-append xs ys = map-append (λ (x : Laid). x.packet) xs ys

pub many_packets : (xs : List Laid) → length (packets_in xs) ≡ length xs
many_packets xs = many-map (λ (x : Laid). x.packet) xs

-- packets that are laid out together are these packets
pub packets_together : (origin : Origin) (qs : List (List ℕ)) → packets_in (together origin qs) ≡ qs
packets_together origin [] = refl
packets_together origin (q ∷ qs) = ap (λ ps. q ∷ ps) (packets_together origin qs)

pub many_together : (origin : Origin) (qs : List (List ℕ)) → length (together origin qs) ≡ length qs
many_together origin [] = refl
many_together origin (q ∷ qs) = ap suc (many_together origin qs)

-- the frames of what was sent, and of what is sent behind it
pub whole_text : (sent more : List Laid) → text 0 (packets_in sent) ++ text (length sent) (packets_in more) ≡ text 0 (packets_in (sent ++ more))
whole_text sent more =
    let from_0 : length sent ≡ 0 + length (packets_in sent) = omega (arith, many_packets sent) in
    ap (λ k. text 0 (packets_in sent) ++ text k (packets_in more)) from_0 ∙ sym (text-append 0 (packets_in sent) (packets_in more)) ∙ ap (text 0) (sym (packets_in-append sent more))

-- what is laid out behind what waits waits too
pub stands-laid : (a b : OutboxState) (page : ℕ) (xs sent waits : List Laid) → LaysOut a b xs → StandsAfter a page sent waits → StandsAfter b page sent (waits ++ xs)
stands-laid a b page xs sent waits lays s = record {
  gone = ap (λ (o : OutboxState). o.sent) lays ∙ s.gone;
  counter = ap (λ (o : OutboxState). o.counter) lays ∙ s.counter;
  waiting = ap (λ (o : OutboxState). o.waits) lays ∙ ap (λ ys. ys ++ xs) s.waiting;
  page_is = ap (λ (o : OutboxState). o.page) lays ∙ s.page_is;
}

mod-mod : (n : ℕ) → n % 65536 % 65536 ≡ n % 65536
mod-mod n = omega arith

-- the frames of what was sent, and the first that wait, as they are numbered
pub more_text : (a : OutboxState) (page n : ℕ) (sent waits : List Laid) → StandsAfter a page sent waits → text 0 (packets_in sent) ++ text a.counter (packets_in (take n a.waits)) ≡ text 0 (packets_in (sent ++ take n waits))
more_text a page n sent waits s =
    ap (λ xs. text 0 (packets_in sent) ++ text a.counter (packets_in (take n xs))) s.waiting
    ∙ ap (λ xs. text 0 (packets_in sent) ++ xs) (text-mod a.counter (length sent) (packets_in (take n waits)) (ap (λ k. k % 65536) s.counter ∙ mod-mod (length sent)))
    ∙ whole_text sent (take n waits)

-- what goes off the front of what waits is sent
pub stands-sent : (a b : OutboxState) (page n : ℕ) (sent waits : List Laid) → b.sent ≡ a.sent ++ text a.counter (packets_in (take n a.waits)) → b.counter ≡ (a.counter + n) % 65536 → b.waits ≡ drop n a.waits
    → n ≤ length a.waits → b.page ≡ a.page → StandsAfter a page sent waits → StandsAfter b page (sent ++ take n waits) (drop n waits)
stands-sent a b page n sent waits gone counter left few same s =
    let many : length (take n waits) ≡ n = length-take-le n waits (omega (arith, few, ap length s.waiting)) in
    record {
      gone = gone ∙ ap (λ xs. xs ++ text a.counter (packets_in (take n a.waits))) s.gone ∙ more_text a page n sent waits s;
      counter = omega (arith, counter, s.counter, many, length-append sent (take n waits));
      waiting = left ∙ ap (drop n) s.waiting;
      page_is = same ∙ s.page_is;
    }

-- what waits is thrown away
pub stands-thrown : (a b : OutboxState) (page : ℕ) (sent waits : List Laid) → b.sent ≡ a.sent → b.counter ≡ a.counter → b.waits ≡ [] → b.page ≡ a.page → StandsAfter a page sent waits → StandsAfter b page sent []
stands-thrown a b page sent waits gone counter none same s = record {
  gone = gone ∙ s.gone;
  counter = counter ∙ s.counter;
  waiting = none;
  page_is = same ∙ s.page_is;
}
