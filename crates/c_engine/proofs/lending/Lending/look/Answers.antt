use Rattle.std.proofs.Common.{◌≡◌, ◌∙◌, ◌++◌, [], List, ap, arith, drop, length, map, reverse, subst, sym, take}
use Rattle.std.proofs.lemmas.Grind.{common_steps}
use Rattle.std.proofs.lemmas.List.{length-map}
use Rattle.sampler.specs.State.{JoinedEnd, SamplerEndState, joined, sent_by}
use Rattle.transmitter.specs.Looks.{EndsStay, KnowsAll}
use Rattle.transmitter.specs.Written.{transmission}
use Rattle.c_engine.specs.Lendings.{HaveComeOf, LendingState}
use Rattle.c_engine.proofs.LendingLemmas.{ends-stay, out, prefix-same, rings-back}
use Rattle.c_engine.proofs.lending.Lending.look.Goals as goal

-- what came back is one of each ring, in their order
pub after-requires : goal.after-requires
after-requires g c = let ring = g.R.Send.End.RingEnd in record {
  one_rings =
      sym c.requires.rings
      ∙ sym (rings-back g.R.Send.SendEnd ring _ _ c.requires.back)
      ∙ ap (λ (l : LendingState _ _). map (λ (e : SamplerEndState _). ring.ring e.end) l.ends) (sym c.self.view_is)
      ∙ ap (λ (es : List (SamplerEndState _)). map (λ (e : SamplerEndState _). ring.ring e.end) es) (sym c.as_mut_slice.ensures.value);
}

-- it is left of the same samplers
pub invariant_of-self : goal.invariant_of-self
invariant_of-self g c =
    let send = g.R.Send.SendEnd in
    let ring = g.R.Send.End.RingEnd in
    let old = c.self.inside.ends.items in
    let new = c.after.new.ends in
    let stay : EndsStay ring old new = subst (λ (xs : List (SamplerEndState _)). EndsStay ring xs new) c.as_mut_slice.ensures.value c.after.ensures.ends_stay in
    let len : length new ≡ length old
    = sym (length-map new (λ (e : SamplerEndState _). ring.ring e.end)) ∙ ap length stay.rings ∙ length-map old (λ (e : SamplerEndState _). ring.ring e.end) in
    let items : take c.self.inside.ends.len (new ++ drop (length new) old) ≡ new = grind (arith, common_steps) in
    let rest = c.self.inside.ways.items ++ reverse c.self.inside.samplers.items in (
      c.self.invariant.0,
      c.self.invariant.1,
      c.self.invariant.2,
      subst (λ (xs : List (SamplerEndState _)). HaveComeOf send ring c.self.inside.began.value.items xs rest) (sym items)
          (ends-stay send ring c.self.inside.began.value.items old new rest stay.ends stay.rings c.self.invariant.3),
    )

-- it says the same of what was sent
pub returns-clause-looks : goal.returns-clause-looks
returns-clause-looks g c =
    let send = g.R.Send.SendEnd in
    let ring = g.R.Send.End.RingEnd in
    let old = c.self.inside.ends.items in
    let new = c.after.new.ends in
    let stay : EndsStay ring old new = subst (λ (xs : List (SamplerEndState _)). EndsStay ring xs new) c.as_mut_slice.ensures.value c.after.ensures.ends_stay in
    let len : length new ≡ length old
    = sym (length-map new (λ (e : SamplerEndState _). ring.ring e.end)) ∙ ap length stay.rings ∙ length-map old (λ (e : SamplerEndState _). ring.ring e.end) in
    let items : take c.self.inside.ends.len (new ++ drop (length new) old) ≡ new = grind (arith, common_steps) in
    let back : HaveComeOf send ring c.self.inside.began.value.items old []
    = subst (λ (l : LendingState _ _). HaveComeOf send ring l.began l.ends []) (sym c.self.view_is) c.requires.back in
    record {
      back =
          subst (λ (xs : List (SamplerEndState _)). HaveComeOf send ring c.self.inside.began.value.items xs []) (sym items)
          (ends-stay send ring c.self.inside.began.value.items old new [] stay.ends stay.rings back);
      kept =
          prefix-same _ _
          (ap (λ (xs : List (SamplerEndState _)). map (joined ring) xs) items ∙ stay.ends
          ∙ ap (λ (l : LendingState _ _). map (joined ring) l.ends) c.self.view_is);
      looked = c.after.ensures.looked;
      all =
          subst (λ (js : List JoinedEnd). KnowsAll (sent_by js) (transmission out g.R.Take.TakeEnd c.after.new.self))
          (sym (ap (λ (xs : List (SamplerEndState _)). map (joined ring) xs) items ∙ stay.ends ∙ ap (λ (xs : List (SamplerEndState _)). map (joined ring) xs) (sym c.as_mut_slice.ensures.value)))
          c.after.ensures.left;
      began = ap (λ (l : LendingState _ _). l.began) c.self.view_is;
      samplers = ap (λ (l : LendingState _ _). l.samplers) c.self.view_is;
    }
