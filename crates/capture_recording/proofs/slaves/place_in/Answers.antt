use Rattle.std.proofs.Common.{◌≡◌, ⊎_elim, ℕ, ◌<◌, ◌≤◌, length, slice_get, ap, sym, subst, true≢false, arith, ◌∙◌, Some}
use Rattle.std.proofs.lemmas.Option.{slice_get-get_or}
use Rattle.capture_recording.specs.declared.slave.Slave.{Slave}
use Rattle.capture_recording.proofs.SlavesLemmas.{address-is, at-place, met-within, same-or-other}
use Rattle.capture_recording.proofs.slaves.place_in.Goals as goal

pub returns-then-is_same_address-clause-some : goal.returns-then-is_same_address-clause-some
returns-then-is_same_address-clause-some g c =
    let same = ap (λ (s : Slave _). s.address) c.index-slaves-i.is ∙ c.is_same_address.ensures.0 c.if-is_same_address.true in
    let within : c.slaves.i < length c.args.slaves.now = search in (
      within,
      at-place c.args.slaves.now c.slaves.i c.index-slaves-i.result
          (slice_get-get_or c.args.slaves.now c.slaves.i c.index-slaves-i.result within ∙ ap Some (sym c.index-slaves-i.is))
          ∙ ap Some same,
    )

pub slaves-preserved : goal.slaves-preserved
slaves-preserved g c k lt at =
    let other : c.index-slaves-i.result.address ≡ c.args.address → ⊥ =
    λ e. true≢false (sym (c.is_same_address.ensures.1 (sym (ap (λ (s : Slave _). s.address) c.index-slaves-i.is) ∙ e)) ∙ c.if-is_same_address.false) in
    let within : c.slaves.i < length c.args.slaves.now = search in
    ⊎_elim
    (λ (e : c.slaves.i ≡ k).
    other (address-is c.args.slaves.now k c.index-slaves-i.result c.args.address
    (subst (λ (n : ℕ). slice_get c.args.slaves.now n ≡ Some c.index-slaves-i.result) e
    (slice_get-get_or c.args.slaves.now c.slaves.i c.index-slaves-i.result within ∙ ap Some (sym c.index-slaves-i.is))) at))
    (λ n. c.slaves.invariant k (omega (arith, lt, n)) at) (same-or-other c.slaves.i k)

pub returns-clause-none : goal.returns-clause-none
returns-clause-none g c none met =
    let past : length c.args.slaves.now ≤ c.slaves.i = search in
    c.slaves.invariant met.0 (omega (arith, past, met-within c.args.slaves.now c.args.address met)) met.1
