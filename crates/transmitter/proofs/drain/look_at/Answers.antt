use Rattle.std.proofs.Common.{◌++◌, ◌≡◌, ℕ, ◌<◌, IsTrue, nat_lt, List, [], length, map, get_or, set, sym, ap, ◌∙◌, arith}
use Rattle.std.proofs.Math.Seq.{map-set_same}
use Rattle.std.proofs.lemmas.List.{get_or-map, length-map}
use Rattle.std.proofs.lemmas.Bool.Decides.{nat_tests}
use Rattle.xcp_base.specs.declared.item.Item.{Item}
use Rattle.channel_ring.specs.declared.ends.RingEnd.{Ghosts as EndGhosts}
use Rattle.sampler.specs.State.{SamplerEndState, joined, sent_by}
use Rattle.transmitter.specs.Merge.{of_ring}
use Rattle.transmitter.proofs.PlaceLemmas.{shown_elsewhere, shown_here}
use Rattle.transmitter.proofs.RingLemmas.{sent_joined}
use Rattle.transmitter.proofs.drain.look_at.Goals as goal

-- where two lists show the same, so do their elements at a place
same_at : {A B R : Type 0} → (f : A → R) (g : B → R) (xs : List A) (ys : List B) (c : ℕ) (x : A) (y : B) → map f xs ≡ map g ys → c < length ys → x ≡ get_or xs c x → y ≡ get_or ys c y → f x ≡ g y
same_at f g xs ys c x y e h ex ey =
    let l : length xs ≡ length ys = sym (length-map xs f) ∙ (ap length e ∙ length-map ys g) in
    let hx : c < length xs = omega (arith, l, h) in
    ap f ex ∙ (sym (get_or-map f xs c x (f x) hx) ∙ (ap (λ t. get_or t c (f x)) e ∙ (get_or-map g ys c y (f x) h ∙ ap g (sym ey))))

more : (m n : ℕ) → m ≡ n → (IsTrue (nat_lt 0 m) → 0 < n) × (0 < n → IsTrue (nat_lt 0 m))
more m n e = (λ h. grind (arith, nat_tests), λ h. grind (arith, nat_tests))

-- an end that was looked at says what it said
joined-after : {E : Type 0} (ring : EndGhosts E) (a b : SamplerEndState E) → b ≡ record a { end = b.end } → ring.all_sent b.end ≡ ring.all_sent a.end → joined ring b ≡ joined ring a
joined-after ring a b same sent = ap (joined ring) same ∙ ap (λ xs. record (joined ring a) { sent = xs }) sent

-- the end and the take end at a place are of one ring
pub after-requires : goal.after-requires
after-requires g c =
    let e = c.index-ends-c.result in
    record { one_ring = rw (← c.index-ends-c.is) (sym (same_at g.T.TakeEnd.ring (λ (x : SamplerEndState g.row.T-End.Denot). g.T.End.RingEnd.ring x.end) c.args.takes.now.items c.args.ends.now c.args.c c.index_mut-take.result.now e c.requires.rings c.requires.ring c.index_mut-take.ensures.value c.index-ends-c.is)) }

pub returns-clause-stay : goal.returns-clause-stay
returns-clause-stay g c =
    let k = g.T.TakeEnd in
    let r = g.T.End.RingEnd in
    let xs = c.args.takes.now.items in
    let ys = c.args.ends.now in
    let v = c.index_mut-take.ensures.value in
    let e = c.index-ends-c.result in
    record {
      rings = map-set_same k.ring xs c.args.c c.after.new.take c.index_mut-take.result.now (c.after.ensures.take_ring_stays ∙ ap k.ring v);
      received = map-set_same k.received xs c.args.c c.after.new.take c.index_mut-take.result.now (c.after.ensures.received_stays ∙ ap k.received v);
      ends = record {
        rings = map-set_same (λ (x : SamplerEndState g.row.T-End.Denot). r.ring x.end) ys c.args.c c.after.new.self e c.after.ensures.ring_stays;
        ends = map-set_same (joined r) ys c.args.c c.after.new.self e (joined-after r (get_or ys c.args.c e) c.after.new.self c.after.ensures.rest_stays c.after.ensures.sent_stays);
      };
    }

pub returns-clause-others : goal.returns-clause-others
returns-clause-others g c = λ e ne. shown_elsewhere g.T.TakeEnd.known c.args.takes.now.items c.args.c e c.after.new.take [] ne

-- there are as many take ends as ends
within : {A B R : Type 0} (f : A → R) (g : B → R) (xs : List A) (ys : List B) (c : ℕ) → map f xs ≡ map g ys → c < length ys → c < length xs
within f g xs ys c e h = omega (arith, ap length e, length-map xs f, length-map ys g, h)

-- what was sent to a ring is what the new end says, and so what the joined old one says
left_at : {T E : Type 0} (received known : T → List Item) (ring : EndGhosts E) (xs : List T) (ys : List (SamplerEndState E)) (c : ℕ) (take : T) (end : SamplerEndState E)
    → c < length xs → c < length ys → map (joined ring) (set ys c end) ≡ map (joined ring) ys → received take ++ known take ≡ ring.all_sent end.end
    → of_ring (map received (set xs c take)) c ++ of_ring (map known (set xs c take)) c ≡ of_ring (sent_by (map (joined ring) ys)) c
left_at received known ring xs ys c take end w h same left =
    let sent : of_ring (map (λ (x : SamplerEndState _). ring.all_sent x.end) (set ys c end)) c ≡ ring.all_sent end.end = shown_here (λ (x : SamplerEndState _). ring.all_sent x.end) ys c end [] h in
    let whole : map (λ (x : SamplerEndState _). ring.all_sent x.end) (set ys c end) ≡ sent_by (map (joined ring) ys) = sent_joined ring (set ys c end) ∙ ap sent_by same in
    rw (shown_here received xs c take [] w, shown_here known xs c take [] w) (left ∙ (sym sent ∙ ap (λ t. of_ring t c) whole))

pub returns-clause-left : goal.returns-clause-left
returns-clause-left g c =
    let k = g.T.TakeEnd in
    let r = g.T.End.RingEnd in
    let xs = c.args.takes.now.items in
    let ys = c.args.ends.now in
    let w = within k.ring (λ (x : SamplerEndState g.row.T-End.Denot). r.ring x.end) xs ys c.args.c c.requires.rings c.requires.ring in
    left_at k.received k.known r xs ys c.args.c c.after.new.take c.after.new.self w c.requires.ring (returns-clause-stay g c).ends.ends c.after.ensures.left

pub returns-clause-some : goal.returns-clause-some
returns-clause-some g c =
    let k = g.T.TakeEnd in
    let w = within k.ring (λ (x : SamplerEndState g.row.T-End.Denot). g.T.End.RingEnd.ring x.end) c.args.takes.now.items c.args.ends.now c.args.c c.requires.rings c.requires.ring in
    rw (shown_here k.known c.args.takes.now.items c.args.c c.after.new.take [] w) (more c.after.result (length (k.known c.after.new.take)) c.after.ensures.count)
