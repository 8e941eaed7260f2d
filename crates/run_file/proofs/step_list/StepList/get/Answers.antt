use Rattle.std.proofs.Common.{◌≡◌, ◌+◌, ◌≤◌, Some, drop, length, slice_get, slice_range, refl, sym, ap, ◌∙◌, subst, rules, arith}
use Rattle.std.proofs.lemmas.Option.{slice_get_past, slice_get_read}
use Rattle.run_file.specs.Inner.{next_from, step_with}
use Rattle.run_file.proofs.KeptLemmas.{none_at, step_at}
use Rattle.run_file.proofs.step_list.StepList.get.Goals as goal

-- behind the kept steps is none
pub returns-in_default : goal.returns-in_default
returns-in_default c =
    let is : c.deref.result.now ≡ c.self.inside.kept.items = search (rules, c.deref.ensures.value) in
    let past : length c.self.inside.kept.items ≤ c.args.i = subst (λ ks. length ks ≤ c.args.i) is c.in_default.ensures.lookup.3 in
    let none = slice_get_past c.self.inside.kept.items c.args.i past in
    record {
      value = sym (none_at c.self.inside.images.items c.self.inside.kept.items c.args.i none) ∙ ap (λ l. slice_get l c.args.i) c.self.view_is;
    }

-- its image begins before it ends
pub lent-requires-clause-up : goal.lent-requires-clause-up
lent-requires-clause-up c =
    let is : c.deref.result.now ≡ c.self.inside.kept.items = search (rules, c.deref.ensures.value) in
    let there : slice_get c.self.inside.kept.items c.args.i ≡ Some c.in-Some.kept.now =
    ap (λ ks. slice_get ks c.args.i) (sym is)
    ∙ slice_get_read c.deref.result.now (length c.deref.result.now) c.args.i c.in-Some.kept.now refl c.in-Some.ensures.lookup.3.0 c.in-Some.ensures.lookup.1 in
    let at = step_at c.self.inside.images.items c.self.inside.kept.items c.args.i c.in-Some.kept.now there c.self.invariant in
    let is_end : c.end_of-end.result ≡ next_from (length c.self.inside.images.items) (drop (c.args.i + 1) c.self.inside.kept.items) =
    search (rules, c.end_of-end.ensures, c.len.ensures, c.deref-2.ensures.value) in
    omega (arith, at.up, is_end)

-- and that among all images
pub lent-requires-clause-low : goal.lent-requires-clause-low
lent-requires-clause-low c =
    let is : c.deref.result.now ≡ c.self.inside.kept.items = search (rules, c.deref.ensures.value) in
    let there : slice_get c.self.inside.kept.items c.args.i ≡ Some c.in-Some.kept.now =
    ap (λ ks. slice_get ks c.args.i) (sym is)
    ∙ slice_get_read c.deref.result.now (length c.deref.result.now) c.args.i c.in-Some.kept.now refl c.in-Some.ensures.lookup.3.0 c.in-Some.ensures.lookup.1 in
    let at = step_at c.self.inside.images.items c.self.inside.kept.items c.args.i c.in-Some.kept.now there c.self.invariant in
    let is_end : c.end_of-end.result ≡ next_from (length c.self.inside.images.items) (drop (c.args.i + 1) c.self.inside.kept.items) =
    search (rules, c.end_of-end.ensures, c.len.ensures, c.deref-2.ensures.value) in
    let all : length c.deref-3.result.now ≡ length c.self.inside.images.items = search (rules, c.deref-3.ensures.value) in
    omega (arith, at.low, is_end, all)

-- the step kept there is the one that is lent
pub returns : goal.returns
returns c =
    let is : c.deref.result.now ≡ c.self.inside.kept.items = search (rules, c.deref.ensures.value) in
    let there : slice_get c.self.inside.kept.items c.args.i ≡ Some c.in-Some.kept.now =
    ap (λ ks. slice_get ks c.args.i) (sym is)
    ∙ slice_get_read c.deref.result.now (length c.deref.result.now) c.args.i c.in-Some.kept.now refl c.in-Some.ensures.lookup.3.0 c.in-Some.ensures.lookup.1 in
    let at = step_at c.self.inside.images.items c.self.inside.kept.items c.args.i c.in-Some.kept.now there c.self.invariant in
    let is_end : c.end_of-end.result ≡ next_from (length c.self.inside.images.items) (drop (c.args.i + 1) c.self.inside.kept.items) =
    search (rules, c.end_of-end.ensures, c.len.ensures, c.deref-2.ensures.value) in
    let all : c.deref-3.result.now ≡ c.self.inside.images.items = search (rules, c.deref-3.ensures.value) in
    record {
      value =
          ap Some
          (c.lent.ensures.value ∙ ap (λ xs. step_with c.in-Some.kept.now.action (slice_range xs c.in-Some.kept.now.from c.end_of-end.result)) all
          ∙ ap (λ e. step_with c.in-Some.kept.now.action (slice_range c.self.inside.images.items c.in-Some.kept.now.from e)) is_end)
          ∙ sym at.is ∙ ap (λ l. slice_get l c.args.i) c.self.view_is;
    }
