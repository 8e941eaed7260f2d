-- A trigger that has handled one list more.
use Rattle.std.proofs.Common.{◌≡◌, ℕ, zero, suc, ◌+◌, ◌<◌, ◌≤◌, Bool, true, false, not, ◌&&◌, ◌||◌, List, [], ◌∷◌, ◌++◌, length, get_or, set, take, drop, map, refl, sym, ap, ◌∙◌, arith, subst, nat_eq, append_assoc, length-append, length-take, ◌^◌, inl, inr}
use Rattle.std.specs.Prelude.{if◌then◌else◌}
use Rattle.std.specs.List.{list_any}
use Rattle.std.proofs.Math.Seq.{take-suc, drop-cons}
use Rattle.channel_ring.specs.Room.{units, units-append}
use Rattle.channel_ring.specs.declared.ends.SendEnd.{Ghosts as SendGhosts}
use Rattle.channel_ring.specs.declared.ends.RingEnd.{Ghosts as EndGhosts}
use Rattle.segments.specs.declared.segment.Segment.{Segment}
use Rattle.copy_plan.specs.Config.{ListPlan}
use Rattle.std.proofs.lemmas.Nat.Bits.{bit_at-zero}
use Rattle.sampler.specs.State.{ArePlansOf}
use Rattle.channel_ring.specs.Making.{SampleLimit}
use Rattle.sampler.specs.Limits.{AllKeepTo}
use Rattle.sampler.specs.Inner.Fits.{TracksFit, NoneDueBefore, IsSampler}
use Rattle.sampler.specs.Inner.Moments.{MomentParts}
use Rattle.sampler.specs.Inner.AtTrigger.{Row, AreDue, due_now, triggered, row_after, row_due, row_accepted, row_dropped, item_of, row_items, row_of, row_count, rows_items, rows_count, Adds, Stage, first_stage, HandlesLists}
use Rattle.sampler.specs.declared.track.Track.{Track}
use Rattle.sampler.proofs.Histories.{append_nil, length-map_of}
use Rattle.sampler.proofs.Drops.{split_last}
use Rattle.sampler.proofs.Places.{no_track}

pub map-append_of : {X Y : Type 0} (f : X → Y) (xs ys : List X) → map f (xs ++ ys) ≡ map f xs ++ map f ys
map-append_of f [] ys = refl
map-append_of f (x ∷ xs) ys = ap (λ zs. f x ∷ zs) (map-append_of f xs ys)

AreDue-one : (trigger : ℕ) (rows : List Row) (row : Row) → AreDue trigger rows → row.due ≡ due_now trigger row.track → AreDue trigger (rows ++ row ∷ [])
AreDue-one trigger [] row are is = (is, tt)
AreDue-one trigger (r ∷ rows) row are is = (are.0, AreDue-one trigger rows row are.1 is)

pub list_any-one : {X : Type 0} (p : X → Bool) (xs : List X) (x : X) → list_any p (xs ++ x ∷ []) ≡ (list_any p xs || p x)
list_any-one p [] x = or_false (p x)
  where
    or_false : (b : Bool) → (b || false) ≡ b
    or_false true = refl
    or_false false = refl
list_any-one p (y ∷ xs) x = ap (λ b. p y || b) (list_any-one p xs x) ∙ assoc (p y) (list_any p xs) (p x)
  where
    assoc : (a b c : Bool) → (a || (b || c)) ≡ ((a || b) || c)
    assoc true b c = refl
    assoc false b c = refl

pub rows_count-one : (rows : List Row) (row : Row) → rows_count (rows ++ row ∷ []) ≡ rows_count rows + row_count row
unfolding rows_count
rows_count-one [] row = omega arith
rows_count-one (r ∷ rows) row = omega (arith, rows_count-one rows row)

pub rows_items-one : (m : MomentParts) (number : ℕ) (rows : List Row) (row : Row) → rows_items m number (rows ++ row ∷ []) ≡ rows_items m number rows ++ row_items m (number + rows_count rows) row
unfolding rows_items rows_count
rows_items-one m number [] row = append_nil (row_items m number row) ∙ ap (λ n. row_items m n row) (omega arith)
rows_items-one m number (r ∷ rows) row =
    ap (λ xs. row_items m number r ++ xs) (rows_items-one m (number + row_count r) rows row)
    ∙ ap (λ n. row_items m number r ++ (rows_items m (number + row_count r) rows ++ row_items m n row)) (omega arith)
    ∙ sym (append_assoc (row_items m number r) (rows_items m (number + row_count r) rows) (row_items m (number + (row_count r + rows_count rows)) row))

set-seam : (xs : List Track) (old : List Track) (i : ℕ) (t : Track) → length xs ≡ i → i < length old → set (xs ++ drop i old) i t ≡ (xs ++ t ∷ []) ++ drop (i + 1) old
set-seam xs old i t e h =
    let one : suc i ≡ i + 1 = omega arith in
    ap (λ rest. set (xs ++ rest) i t) (drop-cons old i no_track h ∙ ap (λ n. get_or old i no_track ∷ drop n old) one) ∙ at_seam xs i e
  where
    at_seam : (ys : List Track) (k : ℕ) → length ys ≡ k → set (ys ++ (get_or old i no_track ∷ drop (i + 1) old)) k t ≡ (ys ++ t ∷ []) ++ drop (i + 1) old
    at_seam [] zero e = refl
    at_seam [] (suc k) e = absurd (omega arith)
    at_seam (y ∷ ys) zero e = absurd (omega arith)
    at_seam (y ∷ ys) (suc k) e = ap (λ zs. y ∷ zs) (at_seam ys k (omega arith))

module _ {S E : Type 0} (send : SendGhosts S E) (ring : EndGhosts E) (m : MomentParts) (plans : List ListPlan) (first mid last : Stage S) (row : Row) where
  -- where a trigger has come so far, and does the step of one list more, it has come so far
  pub handles-more :
      HandlesLists send ring m plans first mid →
      length plans < length first.tracks →
      row.track ≡ get_or first.tracks (length plans) no_track →
      row.due ≡ due_now m.trigger row.track →
      last.tracks ≡ set mid.tracks (length plans) (row_after row) →
      send.sent last.end ≡ send.sent mid.end ++ row_items m mid.next row →
      send.free mid.end ≤ send.free last.end + units ring.cost (row_items m mid.next row) →
      (row.due ≡ true → row.accepted ≡ false → send.free mid.end < ring.cost (item_of m row.plan mid.next row.track.pending)) →
      Adds mid.taken last.taken row →
      last.next ≡ mid.next + row_count row →
      HandlesLists send ring m (plans ++ row.plan ∷ []) first last
  handles-more t room track_is due_is after_is sent free over adds count =
      let rows : List Row = t.rows in
      let N : ℕ → Type 0 = λ k. row.due ≡ true → row.accepted ≡ false → send.free mid.end < ring.cost (item_of m row.plan k row.track.pending) in
      let over_at : N (first.next + rows_count rows) = subst N t.count over in
      let n : length rows ≡ length plans = sym (length-map_of (λ (r : Row). r.plan) rows) ∙ ap length t.of_plans in
      let longer : length (plans ++ row.plan ∷ []) ≡ length plans + 1 = omega (arith, length-append plans (row.plan ∷ [])) in
      let one_more : suc (length plans) ≡ length (plans ++ row.plan ∷ []) = omega (arith, longer) in
      let keep : Row → Track = λ (r : Row). triggered r.plan r.track r.due r.accepted in
      record {
        rows = rows ++ row ∷ [];
        of_plans = map-append_of (λ (r : Row). r.plan) rows (row ∷ []) ∙ ap (λ ps. ps ++ row.plan ∷ []) t.of_plans;
        kept =
            map-append_of (λ (r : Row). r.track) rows (row ∷ [])
            ∙ ap (λ ts. ts ++ row.track ∷ []) t.kept
            ∙ ap (λ x. take (length plans) first.tracks ++ x ∷ []) track_is
            ∙ sym (take-suc first.tracks (length plans) no_track room)
            ∙ ap (λ k. take k first.tracks) one_more;
        dues = AreDue-one m.trigger rows row t.dues due_is;
        keeps =
            after_is
            ∙ ap (λ ts. set ts (length plans) (keep row)) t.keeps
            ∙ set-seam (map keep rows) first.tracks (length plans) (keep row) (length-map_of keep rows ∙ n) room
            ∙ ap (λ ts. ts ++ drop (length plans + 1) first.tracks) (sym (map-append_of keep rows (row ∷ [])))
            ∙ ap (λ k. map keep (rows ++ row ∷ []) ++ drop k first.tracks) (sym longer);
        count = omega (arith, count, t.count, rows_count-one rows row);
        sends =
            sent
            ∙ ap (λ xs. xs ++ row_items m mid.next row) t.sends
            ∙ append_assoc (send.sent first.end) (rows_items m first.next rows) (row_items m mid.next row)
            ∙ ap (λ k. send.sent first.end ++ (rows_items m first.next rows ++ row_items m k row)) t.count
            ∙ ap (λ xs. send.sent first.end ++ xs) (sym (rows_items-one m first.next rows row));
        free = rw (rows_items-one m first.next rows row, units-append, ← t.count) (omega (arith, free, t.free));
        over = λ done rest r is due dropped.
            elim (split_last rows done rest row r is) [
              | inl w ↦
                  let P : Row → Type 0 = λ r'. r'.due ≡ true → r'.accepted ≡ false → send.free first.end < units ring.cost (rows_items m first.next rows) + ring.cost (item_of m r'.plan (first.next + rows_count rows) r'.track.pending) in
                  let Q : List Row → Type 0 = λ rs. send.free first.end < units ring.cost (rows_items m first.next rs) + ring.cost (item_of m r.plan (first.next + rows_count rs) r.track.pending) in
                  let at_row : P row = λ a b. omega (arith, t.free, over_at a b) in
                  subst Q w.1 (subst P w.2 at_row due dropped)
              | inr w ↦ t.over done w.0 r w.1.1 due dropped
            ];
        due = λ l. adds.due l ∙ ap (λ b. b || (row_due row && nat_eq row.plan.list l)) (t.due l) ∙ sym (list_any-one (λ (r : Row). row_due r && nat_eq r.plan.list l) rows row);
        accepted = λ l. adds.accepted l ∙ ap (λ b. b || (row_accepted row && nat_eq row.plan.list l)) (t.accepted l) ∙ sym (list_any-one (λ (r : Row). row_accepted r && nat_eq r.plan.list l) rows row);
        dropped = λ l. adds.dropped l ∙ ap (λ b. b || (row_dropped row && nat_eq row.plan.list l)) (t.dropped l) ∙ sym (list_any-one (λ (r : Row). row_dropped r && nat_eq r.plan.list l) rows row);
      }

pub nothing : {X : Type 0} (done rest : List X) (x : X) → [] ≡ done ++ x ∷ rest → ⊥
nothing [] rest x is = cc
nothing (y ∷ done) rest x is = cc

-- no list was handled
pub handles-none : {S E : Type 0} (send : SendGhosts S E) (ring : EndGhosts E) (m : MomentParts) (end : S) (tracks : List Track) (number : ℕ) → HandlesLists send ring m [] (first_stage end tracks number) (first_stage end tracks number)
unfolding rows_items rows_count
handles-none send ring m end tracks number = record {
  rows = [];
  of_plans = refl;
  kept = refl;
  dues = tt;
  keeps = refl;
  count = omega arith;
  sends = sym (append_nil (send.sent end));
  free = omega arith;
  over = λ done rest row is. absurd (nothing done rest row is);
  due = λ l. ap (λ n. nat_eq n 1) (bit_at-zero l);
  accepted = λ l. ap (λ n. nat_eq n 1) (bit_at-zero l);
  dropped = λ l. ap (λ n. nat_eq n 1) (bit_at-zero l);
}

get_or-seam : (xs : List Track) (old : List Track) (i : ℕ) → length xs ≡ i → i < length old → get_or (xs ++ drop i old) i no_track ≡ get_or old i no_track
get_or-seam xs old i e h =
    let one : suc i ≡ i + 1 = omega arith in
    ap (λ rest. get_or (xs ++ rest) i no_track) (drop-cons old i no_track h) ∙ at_seam xs i e
  where
    at_seam : (ys : List Track) (k : ℕ) → length ys ≡ k → get_or (ys ++ (get_or old i no_track ∷ drop (suc i) old)) k no_track ≡ get_or old i no_track
    at_seam [] zero e = refl
    at_seam [] (suc k) e = absurd (omega arith)
    at_seam (y ∷ ys) zero e = absurd (omega arith)
    at_seam (y ∷ ys) (suc k) e = at_seam ys k (omega arith)

-- a list that is not handled yet is kept as it was
track-there : {S E : Type 0} {send : SendGhosts S E} {ring : EndGhosts E} {m : MomentParts} {plans : List ListPlan} {first mid : Stage S} → HandlesLists send ring m plans first mid → length plans < length first.tracks → get_or mid.tracks (length plans) no_track ≡ get_or first.tracks (length plans) no_track
track-there {plans = plans} {first = first} t room =
    let rows : List Row = t.rows in
    let n : length rows ≡ length plans = sym (length-map_of (λ (r : Row). r.plan) rows) ∙ ap length t.of_plans in
    ap (λ ts. get_or ts (length plans) no_track) t.keeps
    ∙ get_or-seam (map (λ (r : Row). triggered r.plan r.track r.due r.accepted) rows) first.tracks (length plans) (length-map_of (λ (r : Row). triggered r.plan r.track r.due r.accepted) rows ∙ n) room

pub fit-at : (triggers : ℕ) (plans : List ListPlan) (tracks : List Track) (i : ℕ) (d : ListPlan) → TracksFit triggers plans tracks → i < length plans → ((get_or tracks i no_track).counts.due ≤ triggers) × ((get_or tracks i no_track).counts.accepted + (get_or tracks i no_track).counts.dropped ≡ (get_or tracks i no_track).counts.due)
fit-at triggers [] tracks i d f h = absurd (omega arith)
fit-at triggers (plan ∷ plans) [] i d f h = absurd f
fit-at triggers (plan ∷ plans) (t ∷ tracks) zero d f h = f.0
fit-at triggers (plan ∷ plans) (t ∷ tracks) (suc i) d f h = fit-at triggers plans tracks i d f.1 (omega arith)

pub plan-at : (channel : ℕ) (segments : List Segment) (plans : List ListPlan) (i : ℕ) (d : ListPlan) → ArePlansOf channel segments plans → i < length plans → (get_or plans i d).segments ≡ segments
plan-at channel segments [] i d a h = absurd (omega arith)
plan-at channel segments (plan ∷ plans) zero d a h = a.0.2
plan-at channel segments (plan ∷ plans) (suc i) d a h = plan-at channel segments plans i d a.1 (omega arith)

pub track-at : {S E : Type 0} {send : SendGhosts S E} {ring : EndGhosts E} {m : MomentParts} (plans : List ListPlan) {first mid : Stage S} (i : ℕ) → HandlesLists send ring m (take i plans) first mid → i < length plans → length plans ≤ length first.tracks → get_or mid.tracks i no_track ≡ get_or first.tracks i no_track
track-at plans {first = first} {mid = mid} i t h fits =
    let n : length (take i plans) ≡ i = simp length-take (omega arith) in
    let P : ℕ → Type 0 = λ k. k < length first.tracks → get_or mid.tracks k no_track ≡ get_or first.tracks k no_track in
    subst P n (track-there t) (omega arith)

pub row_count-yes : (plan : ListPlan) (track : Track) (due accepted : Bool) → accepted ≡ true → due ≡ true → row_count (row_of plan track due accepted) ≡ 1
row_count-yes plan track due accepted took is = rw (is, took) refl

pub row_count-no : (plan : ListPlan) (track : Track) (due accepted : Bool) → accepted ≡ false → row_count (row_of plan track due accepted) ≡ 0
row_count-no plan track due accepted refused = rw refused (by_case due)
  where
    by_case : (b : Bool) → ◌≡◌ {A = ℕ} (if b && false then 1 else 0) 0
    by_case true = refl
    by_case false = refl

pub row_count-le : (row : Row) → row_count row ≤ 1
row_count-le row = by_case (row.due && row.accepted)
  where
    by_case : (b : Bool) → (if b then 1 else 0) ≤ 1
    by_case true = omega arith
    by_case false = omega arith

pub TracksFit-mono : (n m : ℕ) (plans : List ListPlan) (tracks : List Track) → n ≤ m → TracksFit n plans tracks → TracksFit m plans tracks
TracksFit-mono n m [] tracks le f = tt
TracksFit-mono n m (plan ∷ plans) [] le f = absurd f
TracksFit-mono n m (plan ∷ plans) (t ∷ tracks) le f = ((omega (arith, f.0.0), f.0.1), TracksFit-mono n m plans tracks le f.1)

triggered-fits : (n : ℕ) (plan : ListPlan) (t : Track) (due accepted : Bool) → (t.counts.due ≤ n) × (t.counts.accepted + t.counts.dropped ≡ t.counts.due) → ((triggered plan t due accepted).counts.due ≤ n + 1) × ((triggered plan t due accepted).counts.accepted + (triggered plan t due accepted).counts.dropped ≡ (triggered plan t due accepted).counts.due)
unfolding triggered
triggered-fits n plan t due accepted f = (
  elim due as (λ b. t.counts.due + (if b then 1 else 0) ≤ n + 1) [ true ↦ omega (arith, f.0) | false ↦ omega (arith, f.0) ],
  sums due accepted,
)
  where
    sums : (b a : Bool) → t.counts.accepted + (if b && a then 1 else 0) + (t.counts.dropped + (if b && not a then 1 else 0)) ≡ t.counts.due + (if b then 1 else 0)
    sums true true = omega (arith, f.1)
    sums true false = omega (arith, f.1)
    sums false a = omega (arith, f.1)

pub channel-at : (channel : ℕ) (segments : List Segment) (plans : List ListPlan) (i : ℕ) (d : ListPlan) → ArePlansOf channel segments plans → i < length plans → (get_or plans i d).channel ≡ channel
channel-at channel segments [] i d a h = absurd (omega arith)
channel-at channel segments (plan ∷ plans) zero d a h = a.0.1
channel-at channel segments (plan ∷ plans) (suc i) d a h = channel-at channel segments plans i d a.1 (omega arith)

rows-fit : (channel : ℕ) (segments : List Segment) (n : ℕ) (rows : List Row) (plans : List ListPlan) (before rest : List Track) → map (λ (r : Row). r.plan) rows ≡ plans → map (λ (r : Row). r.track) rows ≡ take (length plans) before → ArePlansOf channel segments plans → TracksFit n plans before → TracksFit (n + 1) plans (map (λ (r : Row). triggered r.plan r.track r.due r.accepted) rows ++ rest)
rows-fit channel segments n rows [] before rest of_plans kept a f = tt
rows-fit channel segments n [] (plan ∷ plans) before rest of_plans kept a f = absurd cc
rows-fit channel segments n (r ∷ rows) (plan ∷ plans) [] rest of_plans kept a f = absurd f
rows-fit channel segments n (r ∷ rows) (plan ∷ plans) (t ∷ before) rest of_plans kept a f =
    let p : r.plan ≡ plan = cc in
    let x : r.track ≡ t = cc in
    let ps : map (λ (y : Row). y.plan) rows ≡ plans = cc in
    let ts : map (λ (y : Row). y.track) rows ≡ take (length plans) before = cc in
    (rw (p, x) (triggered-fits n plan t r.due r.accepted f.0), rows-fit channel segments n rows plans before rest ps ts a.1 f.1)

pub IsSampler-handled : {S E : Type 0} (send : SendGhosts S E) (ring : EndGhosts E) (m : MomentParts) (image_len : ℕ) (segments : List Segment) (plans : List ListPlan) (first last : Stage S) (triggers soonest later : ℕ) (most after : SampleLimit) → IsSampler m.channel image_len segments plans first.tracks triggers soonest first.next most → after ≡ most → HandlesLists send ring m plans first last → last.next ≤ first.next + length plans → length last.tracks ≡ length first.tracks → triggers < 2 ^ 59 → NoneDueBefore later (take (length plans) last.tracks) → IsSampler m.channel image_len segments plans last.tracks (triggers + 1) later last.next after
IsSampler-handled send ring m image_len segments plans first last triggers soonest later most after s stays t limit same below none = record {
  long = s.long;
  plans_of = s.plans_of;
  rising = s.rising;
  keep = subst (λ k. AllKeepTo k plans) (sym stays) s.keep;
  room = s.room;
  places = same ∙ s.places;
  tracks_fit = rw t.keeps (rows-fit m.channel segments triggers t.rows plans first.tracks (drop (length plans) first.tracks) t.of_plans t.kept s.plans_of s.tracks_fit);
  soonest_due = none;
  limit = omega (arith, below);
  accepted_limit = omega (arith, limit, s.accepted_limit, s.room);
}

-- the same once what was sent is published
pub handles-published :
    {S E : Type 0} (send : SendGhosts S E) (ring : EndGhosts E) (m : MomentParts) (plans : List ListPlan) (first last : Stage S) (e : S)
    → send.sent e ≡ send.sent last.end → send.free last.end ≤ send.free e
    → HandlesLists send ring m plans first last → HandlesLists send ring m plans first (record last { end = e })
handles-published send ring m plans first last e same grows h =
    record {
      rows = h.rows;
      of_plans = h.of_plans;
      kept = h.kept;
      dues = h.dues;
      keeps = h.keeps;
      count = h.count;
      sends = same ∙ h.sends;
      free = omega (arith, h.free, grows);
      over = h.over;
      due = h.due;
      accepted = h.accepted;
      dropped = h.dropped;
    }
