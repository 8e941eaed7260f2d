-- One byte more, and that bytes split in one way.
use Rattle.std.proofs.Common.{◌≡◌, ◌<◌, ◌≤◌, ◌+◌, ◌*◌, ◌/◌, ◌%◌, ℕ, true, false, List, [], ◌∷◌, ◌++◌, length, map, drop, take, refl, sym, ap, ◌∙◌, subst, inl, inr, arith, length-append, append_assoc, append-nil}
use Rattle.std.specs.Prelude.{All}
use Rattle.std.proofs.Math.Seq.{take-append_seam}
use Rattle.std.proofs.lemmas.List.{append_cancel_left, take_at, map_push}
use Rattle.std.proofs.lemmas.List.Elements.{All-push, All-head, All-tail}
use Rattle.std.proofs.lemmas.Bool.Decides.{nat_tests}
use Rattle.xcp_base.specs.declared.limits.TheConstants.{MAX_CTO}
use Rattle.frame_writer.specs.Frame.{frame}
use Rattle.frame_writer.specs.Split.{joined_frames}
use Rattle.frame_writer.specs.declared.reach.Reach.TheVariants.{Part, Whole, Bad}
use Rattle.frame_writer.specs.Reach.{reach_by, reach}
use Rattle.frame_writer.specs.Pieces.{IsMasterFrame, EndsSplit, OneReading}
use Rattle.frame_writer.specs.Reading.{ReaderState, ReaderStandsAfter, Leads}

-- what each answer says of LEN and of the bytes behind it
by_part : (m len behind : ℕ) → reach_by m len behind ≡ Part → behind < 2 + len
by_part m len behind h = grind (arith, nat_tests)

by_whole : (m len behind : ℕ) → reach_by m len behind ≡ Whole → (0 < len) × (len ≤ m) × (2 + len ≤ behind)
by_whole m len behind h = grind (arith, nat_tests)

is_whole : (m len behind : ℕ) → 0 < len → len ≤ m → 2 + len ≤ behind → reach_by m len behind ≡ Whole
is_whole m len behind some fits there = grind (arith, nat_tests)

-- the frame that some bytes are, with a packet of at most so many
pub record IsFrameOf (m : ℕ) (h q : List ℕ) : Type 0 where
  pub counter : ℕ
  pub small : counter < 65536
  pub some : 0 < length q
  pub fits : length q ≤ m
  pub is : h ≡ frame counter q

four_and_packet : (m a b c d : ℕ) (q : List ℕ) → a < 256 → b < 256 → c < 256 → d < 256 → a + 256 * b ≡ length q → 0 < length q → length q ≤ m
    → IsFrameOf m (a ∷ b ∷ c ∷ d ∷ q) q
four_and_packet m a b c d q ha hb hc hd len some fits =
    let len_low : a ≡ length q % 256 = omega (arith, len, ha, hb) in
    let len_high : b ≡ length q / 256 % 256 = omega (arith, len, ha, hb) in
    let low : c ≡ (c + 256 * d) % 65536 % 256 = omega (arith, hc, hd) in
    let high : d ≡ (c + 256 * d) % 65536 / 256 % 256 = omega (arith, hc, hd) in
    record { counter = c + 256 * d; small = omega (arith, hc, hd); some = some; fits = fits; is = cc }

-- a byte that makes bytes whole ends the frame that they begin
pub whole_ends : (m : ℕ) (h : List ℕ) (x : ℕ) → All (λ b. b < 256) (h ++ x ∷ []) → reach m h ≡ Part → reach m (h ++ x ∷ []) ≡ Whole
    → IsFrameOf m (h ++ x ∷ []) (drop 4 (h ++ x ∷ []))
whole_ends m [] x fit part whole = absurd (cc)
whole_ends m (a ∷ []) x fit part whole =
    let w = by_whole m (a + 256 * x) 0 whole in
    absurd (omega (arith, w.2))
whole_ends m (a ∷ b ∷ []) x fit part whole =
    let w = by_whole m (a + 256 * b) 1 whole in
    absurd (omega (arith, w.2))
whole_ends m (a ∷ b ∷ c ∷ []) x fit part whole =
    let w = by_whole m (a + 256 * b) 2 whole in
    absurd (omega (arith, w.0, w.2))
whole_ends m (a ∷ b ∷ c ∷ d ∷ q) x fit part whole =
    let P : ℕ → Type 0 = λ n. n < 256 in
    let tail1 = All-tail P a (b ∷ c ∷ d ∷ (q ++ x ∷ [])) fit in
    let tail2 = All-tail P b (c ∷ d ∷ (q ++ x ∷ [])) tail1 in
    let tail3 = All-tail P c (d ∷ (q ++ x ∷ [])) tail2 in
    let p = by_part m (a + 256 * b) (length (c ∷ d ∷ q)) part in
    let w = by_whole m (a + 256 * b) (length (c ∷ d ∷ (q ++ x ∷ []))) whole in
    let l = length-append q (x ∷ []) in
    let len : a + 256 * b ≡ length (q ++ x ∷ []) = omega (arith, p, w.2, l) in
    four_and_packet m a b c d (q ++ x ∷ []) (All-head P a (b ∷ c ∷ d ∷ (q ++ x ∷ [])) fit) (All-head P b (c ∷ d ∷ (q ++ x ∷ [])) tail1) (All-head P c (d ∷ (q ++ x ∷ [])) tail2) (All-head P d (q ++ x ∷ []) tail3) len (omega (arith, len, w.0)) (omega (arith, len, w.1))

joined-push : (fs : List (ℕ × List ℕ)) (f : ℕ × List ℕ) → joined_frames (fs ++ f ∷ []) ≡ joined_frames fs ++ frame f.0 f.1
joined-push [] f = append-nil (frame f.0 f.1)
joined-push (g ∷ gs) f =
    ap (λ t. frame g.0 g.1 ++ t) (joined-push gs f) ∙ sym (append_assoc (frame g.0 g.1) (joined_frames gs) (frame f.0 f.1))

-- a byte more is held
pub leads_on : (old : ReaderState) (new : ReaderState) (x : ℕ) → new.max_cto ≡ old.max_cto → new.held ≡ old.held ++ x ∷ []
    → (new.closed ≡ false → reach new.max_cto new.held ≡ Part) → (new.closed ≡ true → reach new.max_cto new.held ≡ Bad) → Leads old new (x ∷ []) []
leads_on old new x same held part bad = record {
  max_cto = same;
  after = λ bytes packets h. record {
    split = record {
      frames = h.split.frames;
      legal = subst (λ m. All (IsMasterFrame m) h.split.frames) (sym same) h.split.legal;
      carry = append-nil packets ∙ h.split.carry;
      whole = ap (λ bs. bs ++ x ∷ []) h.split.whole ∙ append_assoc (joined_frames h.split.frames) old.held (x ∷ []) ∙ ap (λ bs. joined_frames h.split.frames ++ bs) (sym held);
    };
    part = part;
    bad = bad;
  };
}

-- a byte more ends a frame
pub leads_to_packet : (old : ReaderState) (new : ReaderState) (x : ℕ) (q : List ℕ) → new.max_cto ≡ old.max_cto → IsFrameOf old.max_cto (old.held ++ x ∷ []) q
    → new.held ≡ [] → new.closed ≡ false → Leads old new (x ∷ []) (q ∷ [])
leads_to_packet old new x q same f held is_open = record {
  max_cto = same;
  after = λ bytes packets h.
      let fs : List (ℕ × List ℕ) = h.split.frames in
      let whole : bytes ++ x ∷ [] ≡ joined_frames (fs ++ (f.counter, q) ∷ []) ++ new.held =
      ap (λ bs. bs ++ x ∷ []) h.split.whole ∙ append_assoc (joined_frames fs) old.held (x ∷ [])
      ∙ ap (λ bs. joined_frames fs ++ bs) f.is
      ∙ sym (joined-push fs (f.counter, q))
      ∙ sym (append-nil (joined_frames (fs ++ (f.counter, q) ∷ [])))
      ∙ ap (λ bs. joined_frames (fs ++ (f.counter, q) ∷ []) ++ bs) (sym held) in
      record {
        split = record {
          frames = fs ++ (f.counter, q) ∷ [];
          legal =
              subst (λ m. All (IsMasterFrame m) (fs ++ (f.counter, q) ∷ [])) (sym same)
              (All-push (IsMasterFrame old.max_cto) fs (f.counter, q) h.split.legal (record { counter = f.small; some = f.some; fits = f.fits }));
          carry = ap (λ ps. ps ++ q ∷ []) h.split.carry ∙ sym (map_push (λ (g : ℕ × List ℕ). g.1) fs (f.counter, q));
          whole = whole;
        };
        part = λ _. ap (reach new.max_cto) held;
        bad = λ shut. absurd (cc);
      };
}

-- what leads on twice
pub leads_then : (a b c : ReaderState) (xs ys : List ℕ) (ps qs : List (List ℕ)) → Leads a b xs ps → Leads b c ys qs → Leads a c (xs ++ ys) (ps ++ qs)
leads_then a b c xs ys ps qs first next = record {
  max_cto = next.max_cto ∙ first.max_cto;
  after = λ bytes packets h.
      let there = next.after (bytes ++ xs) (packets ++ ps) (first.after bytes packets h) in
      let P : List ℕ → Type 0 = λ bs. ReaderStandsAfter c bs (packets ++ (ps ++ qs)) in
      let Q : List (List ℕ) → Type 0 = λ gs. ReaderStandsAfter c ((bytes ++ xs) ++ ys) gs in
      subst P (append_assoc bytes xs ys) (subst Q (append_assoc packets ps qs) there);
}

-- two lists of one length are equal where they begin the same bytes
same_front : (a b x y : List ℕ) → length a ≡ length b → a ++ x ≡ b ++ y → (a ≡ b) × (x ≡ y)
same_front a b x y l e =
    let front : a ≡ b = sym (take-append_seam a x) ∙ ap (take (length a)) e ∙ take_at b y (length a) (sym l) in
    (front, append_cancel_left a x y (rw (← front) at e))

-- bytes that begin with a frame are no less than one, and no bad one
frame_reaches : (m : ℕ) (f : ℕ × List ℕ) (more : List ℕ) → m ≤ MAX_CTO → IsMasterFrame m f → EndsSplit m (frame f.0 f.1 ++ more) → ⊥
frame_reaches m f more small legal ends =
    let len : length f.1 % 256 + 256 * (length f.1 / 256 % 256) ≡ length f.1 = omega (arith, small, legal.fits) in
    let l = length-append f.1 more in
    let whole : reach m (frame f.0 f.1 ++ more) ≡ Whole =
    is_whole m (length f.1 % 256 + 256 * (length f.1 / 256 % 256)) (length (0 ∷ 0 ∷ (f.1 ++ more))) (omega (arith, len, legal.some)) (omega (arith, len, legal.fits)) (omega (arith, len, l)) in
    elim ends as (λ _. ⊥) [ inl part ↦ cc | inr bad ↦ cc ]

one_split : (m : ℕ) (fs gs : List (ℕ × List ℕ)) (x y : List ℕ) → m ≤ MAX_CTO → All (IsMasterFrame m) fs → All (IsMasterFrame m) gs → EndsSplit m x → EndsSplit m y
    → joined_frames fs ++ x ≡ joined_frames gs ++ y → (map (λ (f : ℕ × List ℕ). f.1) fs ≡ map (λ (f : ℕ × List ℕ). f.1) gs) × (x ≡ y)
one_split m [] [] x y small hf hg ex ey e = (refl, e)
one_split m [] (g ∷ gs) x y small hf hg ex ey e =
    let is : x ≡ frame g.0 g.1 ++ (joined_frames gs ++ y) = e ∙ append_assoc (frame g.0 g.1) (joined_frames gs) y in
    absurd (frame_reaches m g (joined_frames gs ++ y) small (All-head (IsMasterFrame m) g gs hg) (subst (EndsSplit m) is ex))
one_split m (f ∷ fs) [] x y small hf hg ex ey e =
    let is : y ≡ frame f.0 f.1 ++ (joined_frames fs ++ x) = sym e ∙ append_assoc (frame f.0 f.1) (joined_frames fs) x in
    absurd (frame_reaches m f (joined_frames fs ++ x) small (All-head (IsMasterFrame m) f fs hf) (subst (EndsSplit m) is ey))
one_split m (f ∷ fs) (g ∷ gs) x y small hf hg ex ey e =
    let legal_f = All-head (IsMasterFrame m) f fs hf in
    let legal_g = All-head (IsMasterFrame m) g gs hg in
    let low : length f.1 % 256 ≡ length g.1 % 256 = cc in
    let high : length f.1 / 256 % 256 ≡ length g.1 / 256 % 256 = cc in
    let bodies : (f.1 ++ joined_frames fs) ++ x ≡ (g.1 ++ joined_frames gs) ++ y = cc in
    let apart : f.1 ++ (joined_frames fs ++ x) ≡ g.1 ++ (joined_frames gs ++ y) =
    sym (append_assoc f.1 (joined_frames fs) x) ∙ bodies ∙ append_assoc g.1 (joined_frames gs) y in
    let len : length f.1 ≡ length g.1 = omega (arith, small, low, high, legal_f.fits, legal_g.fits) in
    let both = same_front f.1 g.1 (joined_frames fs ++ x) (joined_frames gs ++ y) len apart in
    let rest = one_split m fs gs x y small (All-tail (IsMasterFrame m) f fs hf) (All-tail (IsMasterFrame m) g gs hg) ex ey both.1 in
    let packets : f.1 ∷ map (λ (f : ℕ × List ℕ). f.1) fs ≡ g.1 ∷ map (λ (f : ℕ × List ℕ). f.1) gs =
    ap (λ q. q ∷ map (λ (f : ℕ × List ℕ). f.1) fs) both.0 ∙ ap (λ qs. g.1 ∷ qs) rest.0 in
    (packets, rest.1)

pub one_reading : OneReading
one_reading m small bytes packets packets' left left' a ends b ends' =
    let both = one_split m a.frames b.frames left left' small a.legal b.legal ends ends' (sym a.whole ∙ b.whole) in
    (a.carry ∙ both.0 ∙ sym b.carry, both.1)
