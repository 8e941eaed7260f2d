-- Datagrams that wait, and what is kept of them.
use Rattle.std.proofs.Common.{◌≡◌, ℕ, zero, suc, ◌+◌, ◌-◌, ◌^◌, ◌<◌, ◌≤◌, min, Bool, true, false, ◌&&◌, if◌then◌else◌, nat_eq, List, [], ◌∷◌, ◌++◌, drop, length, get_or, set, Option, Some, None, refl, sym, ap, subst, ◌∙◌, arith, below_more}
use Rattle.std.specs.Option.{option_or}
use Rattle.std.specs.List.{remove, slice_get}
use Rattle.std.proofs.lemmas.List.{length-set}
use Rattle.std.specs.Str.{bytes_eq}
use Rattle.std.proofs.lemmas.Bool.{false≢true}
use Rattle.std.proofs.lemmas.Bool.Decides.{Decides-eqb}
use Rattle.std.proofs.lemmas.Option.{get_or_from_slice_get, none-some, same_Some, slice_get-get_or}
use Rattle.std.proofs.lemmas.Slice.Eq.{bytes_eq-Decides}
use Rattle.datagrams.specs.Inner.{BeginsToWait, GainsPiece, IsFirst, IsJoined, IsNew, IsWholeWith}
use Rattle.datagrams.specs.Parts.{IsWhole, KeyOf, PieceOf, WaitOf, byte_at, byte_in, end_told, pieces_under, same_key, too_many, with_piece, without}
use Rattle.datagrams.specs.Waiting.{AllKeep, AreWaiting, KeptOf, Keeps, MakesWhole, PartsOf, WaitsOn, WholeOf}

-- one part more comes last
or-assoc : (a b c : Option ℕ) → option_or (option_or a b) c ≡ option_or a (option_or b c)
or-assoc None b c = refl
or-assoc (Some x) b c = refl

or-none : (o : Option ℕ) → option_or o None ≡ o
or-none None = refl
or-none (Some x) = refl

byte_at-push : (ps : List PieceOf) (p : PieceOf) (i : ℕ) → byte_at (ps ++ p ∷ []) i ≡ option_or (byte_at ps i) (byte_in p i)
byte_at-push [] p i = or-none (byte_in p i)
byte_at-push (q ∷ ps) p i = ap (option_or (byte_in q i)) (byte_at-push ps p i) ∙ sym (or-assoc (byte_in q i) (byte_at ps i) (byte_in p i))

front-stays : (xs : List ℕ) (y k : ℕ) → k < length xs → slice_get (xs ++ y ∷ []) k ≡ slice_get xs k
front-stays [] y k within = absurd (omega (arith, within))
front-stays (x ∷ xs) y zero within = refl
front-stays (x ∷ xs) y (suc k) within = front-stays xs y k (omega (arith, within))

last-is : (xs : List ℕ) (y : ℕ) → slice_get (xs ++ y ∷ []) (length xs) ≡ Some y
last-is [] y = refl
last-is (x ∷ xs) y = last-is xs y

-- a byte more is what came at its place
pub joined-more : (came : ℕ → Option ℕ) (bytes : List ℕ) (b i : ℕ) → length bytes ≡ i → ((k : ℕ) → k < i → came k ≡ slice_get bytes k) → came i ≡ Some b
    → (k : ℕ) → k < i + 1 → came k ≡ slice_get (bytes ++ b ∷ []) k
joined-more came bytes b i many each here =
    below_more (λ k. came k ≡ slice_get (bytes ++ b ∷ []) k) i (λ k below. each k below ∙ sym (front-stays bytes b k (omega (arith, many, below))))
    (subst (λ n. came n ≡ slice_get (bytes ++ b ∷ []) n) many (ap came many ∙ here ∙ sym (last-is bytes b)))

-- where nothing came no byte of what is joined stands
pub none-joined : (slots : List (Option ℕ)) (p : PieceOf) (end i : ℕ) (bytes : List ℕ) → IsJoined slots p end bytes → i < end → option_or (get_or slots i None) (byte_in p i) ≡ None → ⊥
none-joined slots p end i bytes j below none =
    let within : i < length bytes = omega (arith, below, j.many) in
    none-some _ (sym none ∙ j.each i within ∙ slice_get-get_or bytes i 0 within)

end_told-push : (ps : List PieceOf) (p : PieceOf) → end_told (ps ++ p ∷ []) ≡ option_or (end_told ps) p.end
end_told-push [] p = or-none p.end
end_told-push (q ∷ ps) p = ap (option_or q.end) (end_told-push ps p) ∙ sym (or-assoc q.end (end_told ps) p.end)

keeps-more : (k new : KeptOf) (w : WaitOf) (p : PieceOf) → Keeps k w → GainsPiece k new p
    → Keeps new record { key = w.key; pieces = w.pieces ++ p ∷ [] }
keeps-more k new w p h g = record {
  key = g.key ∙ h.key;
  each = λ i. g.each i ∙ ap (λ o. option_or o (byte_in p i)) (h.each i) ∙ sym (byte_at-push w.pieces p i);
  end = g.end ∙ ap (λ o. option_or o p.end) h.end ∙ sym (end_told-push w.pieces p);
}

-- what is kept tells whether a datagram is whole with one part more
pub whole-with : (k : KeptOf) (w : WaitOf) (p : PieceOf) (bytes : List ℕ) → Keeps k w → IsWholeWith k p bytes → IsWhole (w.pieces ++ p ∷ []) bytes
whole-with k w p bytes h g = record {
  end = end_told-push w.pieces p ∙ ap (λ o. option_or o p.end) (sym h.end) ∙ g.end;
  each = λ i l. byte_at-push w.pieces p i ∙ ap (λ o. option_or o (byte_in p i)) (sym (h.each i)) ∙ g.each i l;
}

pub with-whole : (k : KeptOf) (w : WaitOf) (p : PieceOf) (bytes : List ℕ) → Keeps k w → IsWhole (w.pieces ++ p ∷ []) bytes → IsWholeWith k p bytes
with-whole k w p bytes h g = record {
  end = ap (λ o. option_or o p.end) h.end ∙ sym (end_told-push w.pieces p) ∙ g.end;
  each = λ i l. ap (λ o. option_or o (byte_in p i)) (h.each i) ∙ sym (byte_at-push w.pieces p i) ∙ g.each i l;
}

-- all that wait, one by one
length-keep : (ks : List KeptOf) (ws : List WaitOf) → AllKeep ks ws → length ks ≡ length ws
length-keep [] [] a = refl
length-keep [] (w ∷ ws) a = absurd a
length-keep (k ∷ ks) [] a = absurd a
length-keep (k ∷ ks) (w ∷ ws) a = ap suc (length-keep ks ws a.1)

keep-push : (ks : List KeptOf) (ws : List WaitOf) (k : KeptOf) (w : WaitOf) → AllKeep ks ws → Keeps k w → AllKeep (ks ++ k ∷ []) (ws ++ w ∷ [])
keep-push [] [] k w a h = (h, tt)
keep-push [] (v ∷ ws) k w a h = absurd a
keep-push (j ∷ ks) [] k w a h = absurd a
keep-push (j ∷ ks) (v ∷ ws) k w a h = (a.0, keep-push ks ws k w a.1 h)

keep-drop : (n : ℕ) (ks : List KeptOf) (ws : List WaitOf) → AllKeep ks ws → AllKeep (drop n ks) (drop n ws)
keep-drop zero ks ws a = a
keep-drop (suc n) [] [] a = tt
keep-drop (suc n) [] (w ∷ ws) a = absurd a
keep-drop (suc n) (k ∷ ks) [] a = absurd a
keep-drop (suc n) (k ∷ ks) (w ∷ ws) a = keep-drop n ks ws a.1

-- the key of what is kept is that of the datagram
same-there : (key : KeyOf) (k : KeptOf) (w : WaitOf) (b : Bool) → Keeps k w → same_key key k.key ≡ b → same_key key w.key ≡ b
same-there key k w b h same = ap (same_key key) (sym h.key) ∙ same

-- the first under a key
record Found (key : KeyOf) (ks : List KeptOf) (ws : List WaitOf) (i : ℕ) (here : KeptOf) : Type 0 where
  pub wait : WaitOf
  pub keeps : Keeps here wait
  pub pieces : pieces_under key ws ≡ wait.pieces
  pub others : AllKeep (remove ks i) (without key ws)
  pub more : (new : KeptOf) (p : PieceOf) → GainsPiece here new p → AllKeep (set ks i new) (with_piece key p ws)

found : (key : KeyOf) (ks : List KeptOf) (ws : List WaitOf) (i : ℕ) (here : KeptOf) → AllKeep ks ws → slice_get ks i ≡ Some here → same_key key here.key ≡ true
    → ((j : ℕ) (k : KeptOf) → j < i → slice_get ks j ≡ Some k → same_key key k.key ≡ false) → Found key ks ws i here
found key [] ws i here a at same before = absurd (none-some here at)
found key (k ∷ ks) [] i here a at same before = absurd a
found key (k ∷ ks) (w ∷ ws) zero here a at same before =
    let is : k ≡ here = same_Some k here at in
    let h : Keeps here w = subst (λ x. Keeps x w) is a.0 in
    let e = same-there key here w true h same in
    record {
      wait = w;
      keeps = h;
      pieces = ap (λ b. if b then w.pieces else pieces_under key ws) e;
      others = subst (λ b. AllKeep ks (if b then ws else w ∷ without key ws)) (sym e) a.1;
      more = λ new p g.
          subst (λ b. AllKeep (new ∷ ks) (if b then record { key = w.key; pieces = w.pieces ++ p ∷ [] } ∷ ws else w ∷ with_piece key p ws)) (sym e)
          (keeps-more here new w p h g, a.1);
    }
found key (k ∷ ks) (w ∷ ws) (suc i) here a at same before =
    let e = same-there key k w false a.0 (before 0 k (omega arith) refl) in
    let f = found key ks ws i here a.1 at same (λ j other l there. before (suc j) other (omega (arith, l)) there) in
    record {
      wait = f.wait;
      keeps = f.keeps;
      pieces = ap (λ b. if b then w.pieces else pieces_under key ws) e ∙ f.pieces;
      others = subst (λ b. AllKeep (k ∷ remove ks i) (if b then ws else w ∷ without key ws)) (sym e) (a.0, f.others);
      more = λ new p g.
          subst (λ b. AllKeep (k ∷ set ks i new) (if b then record { key = w.key; pieces = w.pieces ++ p ∷ [] } ∷ ws else w ∷ with_piece key p ws)) (sym e)
          (a.0, f.more new p g);
    }

-- none under a key
pieces-none : (key : KeyOf) (ks : List KeptOf) (ws : List WaitOf) → AllKeep ks ws → IsNew key ks → pieces_under key ws ≡ []
pieces-none key [] [] a none = refl
pieces-none key [] (w ∷ ws) a none = absurd a
pieces-none key (k ∷ ks) [] a none = absurd a
pieces-none key (k ∷ ks) (w ∷ ws) a none =
    ap (λ b. if b then w.pieces else pieces_under key ws) (same-there key k w false a.0 (none 0 k refl))
    ∙ pieces-none key ks ws a.1 (λ j other there. none (suc j) other there)

without-none : (key : KeyOf) (ks : List KeptOf) (ws : List WaitOf) → AllKeep ks ws → IsNew key ks → without key ws ≡ ws
without-none key [] [] a none = refl
without-none key [] (w ∷ ws) a none = absurd a
without-none key (k ∷ ks) [] a none = absurd a
without-none key (k ∷ ks) (w ∷ ws) a none =
    ap (λ b. if b then ws else w ∷ without key ws) (same-there key k w false a.0 (none 0 k refl))
    ∙ ap (λ others. w ∷ others) (without-none key ks ws a.1 (λ j other there. none (suc j) other there))

with-none : (key : KeyOf) (p : PieceOf) (ks : List KeptOf) (ws : List WaitOf) → AllKeep ks ws → IsNew key ks
    → with_piece key p ws ≡ ws ++ record { key = key; pieces = p ∷ [] } ∷ []
with-none key p [] [] a none = refl
with-none key p [] (w ∷ ws) a none = absurd a
with-none key p (k ∷ ks) [] a none = absurd a
with-none key p (k ∷ ks) (w ∷ ws) a none =
    ap (λ b. if b then record { key = w.key; pieces = w.pieces ++ p ∷ [] } ∷ ws else w ∷ with_piece key p ws)
    (same-there key k w false a.0 (none 0 k refl))
    ∙ ap (λ others. w ∷ others) (with-none key p ks ws a.1 (λ j other there. none (suc j) other there))

both : (a b : Bool) → (a && b) ≡ true → (a ≡ true) × (b ≡ true)
both true b e = (refl, e)
both false b e = absurd (false≢true e)

same-parts : (a b : KeyOf) → same_key a b ≡ true → (a.from ≡ b.from) × (a.to ≡ b.to) × (a.protocol ≡ b.protocol)
same-parts a b same =
    let three = both (bytes_eq a.from b.from && bytes_eq a.to b.to && nat_eq a.protocol b.protocol) (nat_eq a.id b.id) same in
    let two = both (bytes_eq a.from b.from && bytes_eq a.to b.to) (nat_eq a.protocol b.protocol) three.0 in
    let one = both (bytes_eq a.from b.from) (bytes_eq a.to b.to) two.0 in
    ((bytes_eq-Decides a.from b.from).0 one.0, (bytes_eq-Decides a.to b.to).0 one.1, (Decides-eqb a.protocol b.protocol).0 two.1)

-- what stands at a place
pub same-place : (ks : List KeptOf) (i : ℕ) (here k : KeptOf) → slice_get ks i ≡ Some here → k ≡ get_or ks i k → k ≡ here
same-place ks i here k at read = read ∙ get_or_from_slice_get ks i here k at

-- a part came that makes a datagram whole which waited
pub makes-whole : (key : KeyOf) (waits : List WaitOf) (i : ℕ) (p : PieceOf) (d : WholeOf) (old new : PartsOf) (f : IsFirst key old.waiting i) → AreWaiting old waits
    → IsWholeWith f.here p d.payload → (d.from ≡ f.here.key.from) × (d.to ≡ f.here.key.to) × (d.protocol ≡ f.here.key.protocol)
    → new.waiting ≡ remove old.waiting i → new.dropped ≡ old.dropped → MakesWhole waits key p d old new
makes-whole key waits i p d old new f a whole of rest dropped =
    let g = found key old.waiting waits i f.here a f.at f.same f.before in
    let same = same-parts key f.here.key f.same in
    record {
      whole = subst (λ ps. IsWhole (ps ++ p ∷ []) d.payload) (sym g.pieces) (whole-with f.here g.wait p d.payload g.keeps whole);
      from = of.0 ∙ sym same.0;
      to = of.1 ∙ sym same.1;
      protocol = of.2 ∙ sym same.2;
      others = subst (λ ks. AllKeep ks (without key waits)) (sym rest) g.others;
      dropped = dropped;
    }

-- or one that waits on
pub waits-on : (key : KeyOf) (waits : List WaitOf) (i : ℕ) (p : PieceOf) (k : KeptOf) (old new : PartsOf) (f : IsFirst key old.waiting i) → AreWaiting old waits
    → ((bytes : List ℕ) → IsWholeWith f.here p bytes → ⊥) → GainsPiece f.here k p → new.waiting ≡ set old.waiting i k → new.dropped ≡ old.dropped
    → length old.waiting ≤ 64 → old.dropped < 2 ^ 64 → WaitsOn waits key p old new
waits-on key waits i p k old new f a none gains now dropped few small =
    let g = found key old.waiting waits i f.here a f.at f.same f.before in
    let more : AllKeep (set old.waiting i k) (with_piece key p waits) = g.more k p gains in
    let many : length (set old.waiting i k) ≡ length (with_piece key p waits) = length-keep _ _ more in
    let over : too_many (with_piece key p waits) ≡ 0 = omega (arith, many, length-set old.waiting i k) in
    record {
      not_whole = λ bytes whole. none bytes (with-whole f.here g.wait p bytes g.keeps (subst (λ ps. IsWhole (ps ++ p ∷ []) bytes) g.pieces whole));
      waits_on = subst (λ n. AllKeep new.waiting (drop n (with_piece key p waits))) (sym over) (subst (λ ks. AllKeep ks (with_piece key p waits)) (sym now) more);
      dropped = omega (arith, over, dropped);
    }

keeps-none : (key : KeyOf) (p : PieceOf) → Keeps record { key = key; slots = []; end = None } record { key = key; pieces = [] }
keeps-none key p = record { key = refl; each = λ i. refl; end = refl }

-- a part came of a new one, which is whole by it
pub begins-whole : (key : KeyOf) (waits : List WaitOf) (p : PieceOf) (d : WholeOf) (old : PartsOf) (k : KeptOf) → IsNew key old.waiting → AreWaiting old waits
    → k ≡ record { key = key; slots = []; end = None } → IsWholeWith k p d.payload
    → (d.from ≡ k.key.from) × (d.to ≡ k.key.to) × (d.protocol ≡ k.key.protocol) → MakesWhole waits key p d old old
begins-whole key waits p d old k none a fresh whole of =
    let same : k.key ≡ key = ap (λ (x : KeptOf). x.key) fresh in
    let own : IsWholeWith record { key = key; slots = []; end = None } p d.payload = subst (λ x. IsWholeWith x p d.payload) fresh whole in
    record {
      whole = subst (λ ps. IsWhole (ps ++ p ∷ []) d.payload) (sym (pieces-none key old.waiting waits a none)) (whole-with _ _ p d.payload (keeps-none key p) own);
      from = of.0 ∙ ap (λ (x : KeyOf). x.from) same;
      to = of.1 ∙ ap (λ (x : KeyOf). x.to) same;
      protocol = of.2 ∙ ap (λ (x : KeyOf). x.protocol) same;
      others = subst (λ ws. AllKeep old.waiting ws) (sym (without-none key old.waiting waits a none)) a;
      dropped = refl;
    }

-- or begins to wait
pub begins-waiting : (key : KeyOf) (waits : List WaitOf) (p : PieceOf) (old new : PartsOf) (first k : KeptOf) → IsNew key old.waiting → AreWaiting old waits
    → first ≡ record { key = key; slots = []; end = None } → ((bytes : List ℕ) → IsWholeWith first p bytes → ⊥)
    → GainsPiece first k p → BeginsToWait k old new → WaitsOn waits key p old new
begins-waiting key waits p old new first k none a fresh not gains begins =
    let gains-own : GainsPiece record { key = key; slots = []; end = None } k p = subst (λ x. GainsPiece x k p) fresh gains in
    let own : Keeps k record { key = key; pieces = p ∷ [] } = keeps-more _ k record { key = key; pieces = [] } p (keeps-none key p) gains-own in
    let all : AllKeep (old.waiting ++ k ∷ []) (waits ++ record { key = key; pieces = p ∷ [] } ∷ []) = keep-push old.waiting waits k _ a own in
    let now : AllKeep (old.waiting ++ k ∷ []) (with_piece key p waits) = subst (λ ws. AllKeep (old.waiting ++ k ∷ []) ws) (sym (with-none key p old.waiting waits a none)) all in
    let many : length (old.waiting ++ k ∷ []) ≡ length (with_piece key p waits) = length-keep _ _ now in
    let over : length (old.waiting ++ k ∷ []) - 64 ≡ too_many (with_piece key p waits) = ap (λ n. n - 64) many in
    record {
      not_whole = λ bytes whole.
          not bytes (subst (λ x. IsWholeWith x p bytes) (sym fresh)
          (with-whole _ record { key = key; pieces = [] } p bytes (keeps-none key p) (subst (λ ps. IsWhole (ps ++ p ∷ []) bytes) (pieces-none key old.waiting waits a none) whole)));
      waits_on = subst (λ ks. AllKeep ks (drop (too_many (with_piece key p waits)) (with_piece key p waits))) (sym begins.waiting)
          (subst (λ n. AllKeep (drop (length (old.waiting ++ k ∷ []) - 64) (old.waiting ++ k ∷ [])) (drop n (with_piece key p waits))) over
          (keep-drop (length (old.waiting ++ k ∷ []) - 64) _ _ now));
      dropped = begins.dropped ∙ ap (λ n. min (old.dropped + n) (2 ^ 64 - 1)) over;
    }
