use Rattle.std.proofs.Common.{◌≡◌, ℕ, zero, suc, List, [], ◌∷◌, Some, get_or, map, refl, ap, subst, ◌∙◌, arith}
use Rattle.std.proofs.Math.Seq.{map-set_same}
use Rattle.std.proofs.lemmas.List.{length-map}
use Rattle.std.proofs.lemmas.Option.{slice_get_within}
use Rattle.std.specs.List.{slice_get}
use Rattle.channel_ring.specs.Ends.{RingName}
use Rattle.xcp_base.specs.declared.item.Item.{Item}
use Rattle.transmitter.specs.Written.{TransmitterState, transmission}
use Rattle.transmitter.proofs.PlaceLemmas.{shown_at, shown_elsewhere}
use Rattle.transmitter.proofs.transmitter.Transmitter.beside.Goals as goal

-- what an element shows stands at its place
shows_that : {A Q : Type 0} (f : A → Q) (xs : List A) (c : ℕ) (x : A) (q : Q) → slice_get (map f xs) c ≡ Some q → x ≡ get_or xs c x → q ≡ f x
shows_that f [] c x q at is = absurd cc
shows_that f (y ∷ xs) zero x q at is = cc
shows_that f (y ∷ xs) (suc c) x q at is = shows_that f xs c x q at is

-- the sampler's ring is one of the transmitter's
pub index_mut-take-requires : goal.index_mut-take-requires
index_mut-take-requires g c =
    let t = g.T.TakeEnd in
    let xs = c.args.self.now.ends.items in
    omega (arith, slice_get_within (map t.ring xs) c.args.sampler.now.channel _ c.requires.one_ring, length-map xs t.ring, c.channel-c.ensures, c.args.self.now.ends.ok.0)

-- and that of the take end there
pub beside-requires : goal.beside-requires
beside-requires g c =
    let t = g.T.TakeEnd in
    let xs = c.args.self.now.ends.items in
    let take = c.index_mut-take.result.now in
    record { one_ring = shows_that t.ring xs c.args.sampler.now.channel take _ c.requires.one_ring (subst (λ k. take ≡ get_or xs k take) c.channel-c.ensures c.index_mut-take.ensures.value) }

-- no number changed
pub invariant_of-self : goal.invariant_of-self
invariant_of-self g c = record { few = c.args.self.now.few; counted = c.args.self.now.counted; held = c.args.self.now.held }

pub returns-clause-count : goal.returns-clause-count
returns-clause-count g c =
    let t = g.T.TakeEnd in
    let at = shown_at t.ring t.known c.args.self.now.ends.items c.channel-c.result c.args.sampler.now.channel c.beside.new.take [] _ c.channel-c.ensures c.requires.one_ring in
    rw at c.beside.ensures.count

pub returns-clause-left : goal.returns-clause-left
returns-clause-left g c =
    let t = g.T.TakeEnd in
    let received = shown_at t.ring t.received c.args.self.now.ends.items c.channel-c.result c.args.sampler.now.channel c.beside.new.take [] _ c.channel-c.ensures c.requires.one_ring in
    let known = shown_at t.ring t.known c.args.self.now.ends.items c.channel-c.result c.args.sampler.now.channel c.beside.new.take [] _ c.channel-c.ensures c.requires.one_ring in
    rw (received, known) c.beside.ensures.left

pub returns-clause-roomy : goal.returns-clause-roomy
returns-clause-roomy g c =
    let t = g.T.TakeEnd in
    let known = shown_at t.ring t.known c.args.self.now.ends.items c.channel-c.result c.args.sampler.now.channel c.beside.new.take [] _ c.channel-c.ensures c.requires.one_ring in
    rw known c.beside.ensures.roomy

-- rings and what was received stay
but_known : (a : TransmitterState) (rings : List RingName) (received known : List (List Item)) → rings ≡ a.rings → received ≡ a.received → record a { rings = rings; received = received; known = known } ≡ record a { known = known }
but_known a rings received known r s = rw (r, s) refl

pub returns-clause-looked : goal.returns-clause-looked
returns-clause-looked g c =
    let t = g.T.TakeEnd in
    let e = c.beside.ensures in
    let v = c.index_mut-take.ensures.value in
    let xs = c.args.self.now.ends.items in
    let k = c.channel-c.result in
    record {
      same = but_known (transmission g.O.Out t c.args.self.now) _ _ _ (map-set_same t.ring xs k c.beside.new.take c.index_mut-take.result.now (e.take_ring_stays ∙ ap t.ring v)) (map-set_same t.received xs k c.beside.new.take c.index_mut-take.result.now (e.received_stays ∙ ap t.received v));
      others = λ j n. shown_elsewhere t.known xs k j c.beside.new.take [] (λ q. n (q ∙ c.channel-c.ensures));
    }
