use Rattle.std.proofs.Common.{take as first, inl, inr, refl, ap, subst, sym, ◌∙◌, arith}
use Rattle.slave.specs.Inner.{AreSets, NoneIsTooLong, OneIsTooLong}
use Rattle.slave.proofs.PreparingLemmas.{are-front, front-many, looks-of, starts-of}
use Rattle.slave.proofs.slave.Slave.start.Goals as goal

pub returns-then-not-can_start-clause-err : goal.returns-then-not-can_start-clause-err
returns-then-not-can_start-clause-err c = looks-of c.args.self.now _ c.can_start.new.self c.self.view_is c.can_start.ensures.looked

pub returns-then-not-can_start-clause-refused : goal.returns-then-not-can_start-clause-refused
returns-then-not-can_start-clause-refused c = inl (
  refl,
  record {
    sets = first c.len.result c.sets_of-sets.result;
    are = are-front c.args.self.now.session c.args.lists c.sets_of-sets.result c.len.result c.sets_of-sets.ensures.sets;
    none = c.can_start.ensures.no c.if-not-can_start.true;
  },
)

pub returns-clause-ok : goal.returns-clause-ok
returns-clause-ok c =
    let sets = c.sets_of-sets.ensures.sets in
    starts-of c.args.self.now _ c.can_start.new.self c.start_checked.new.self c.args.lists _ c.self.view_is c.can_start.ensures.looked
    (are-front c.self.inside.session c.args.lists c.sets_of-sets.result c.len.result (subst (λ s. AreSets s c.args.lists c.sets_of-sets.result) (sym (ap (λ s. s.session) c.self.view_is)) sets))
    (front-many c.len.result _ _ c.sets_of-sets.result (c.len.ensures.value ∙ sym c.can_start.ensures.looked.as_many) c.sets_of-sets.ensures.many (omega (arith, c.len.ensures.value, c.len.ensures.limit, c.can_start.ensures.looked.as_many)))
    (c.can_start.ensures.yes c.if-not-can_start.false) c.start_checked.ensures.starts

pub returns-then-has_too_long-clause-err : goal.returns-then-has_too_long-clause-err
returns-then-has_too_long-clause-err c = looks-of c.args.self.now _ c.can_start.new.self c.self.view_is c.can_start.ensures.looked

pub returns-then-has_too_long-clause-refused : goal.returns-then-has_too_long-clause-refused
returns-then-has_too_long-clause-refused c = inr (
  refl,
  subst (λ s. OneIsTooLong s c.args.lists) (ap (λ s. s.session) c.self.view_is) (c.has_too_long.ensures.yes c.if-has_too_long.true),
  record {
    sets = first c.len.result c.sets_of-sets.result;
    as_many = front-many c.len.result _ _ c.sets_of-sets.result (c.len.ensures.value ∙ sym c.can_start.ensures.looked.as_many) c.sets_of-sets.ensures.many (omega (arith, c.len.ensures.value, c.len.ensures.limit, c.can_start.ensures.looked.as_many));
    are = are-front c.args.self.now.session c.args.lists c.sets_of-sets.result c.len.result c.sets_of-sets.ensures.sets;
    can = c.can_start.ensures.yes c.if-not-can_start.false;
  },
)

pub returns-clause-rings : goal.returns-clause-rings
returns-clause-rings c = subst (λ s. NoneIsTooLong s c.args.lists) (ap (λ s. s.session) c.self.view_is) (c.has_too_long.ensures.no c.if-has_too_long.false)
