-- `content` lends what stands in the box of a full handle, and the handle follows it.
use Rattle.std.proofs.Common.{◌≡◌, ◌∙◌, ℕ, Bool, true, false, List, [], ◌∷◌, refl, sym, ap, lit<, Some, None}
use seplogic.Ra.Ura.{Ura}
use base.Fraction.{full_share}
use base.Logic.{ent, sep}
use base.Fml.{GName, Fml, ftrue, fsep, flft, fres}
use mir.Raw.{raw as bare}
use mir.Syntax.{named}
use mir.Val.{Val, vptr, vcons, vnil}
use types.Logic.{Logic, sem}
use types.Kit.{‵, ◌⊛◌, some, later, at_ret, ◌$◌, ◌∵◌, !, qed, move, keep, use0, use1, split, split3, join, group, pick, await, rewrite, fsplit, fsplit3, fjoin, fpack, suffices, frame, done}
use types.Part.{look_in, sub, whole, agg}
use types.Match.{live}
use types.Run.{stop, fld, load, addr, lit, un, of_opd, and_then, no_more, first, blocks, skips, branches, exec, returns, returns_within, enter}
use types.ByLocal.{alloc_all, pass_all, free_all, look_at, get, through, sets, sets_last, env}
use contract.Running.{tables}
use denote.RattleType.{RattleType}
use denote.Exit.{no}
use denote.RawPtr.{block_ptr}
use denote.Ref.{MutRef, MutBor, mut_vals, mut_Tells}
use denote.Memory.{mem, cell_at, part_at, part_of, lone}
use denote.Follow.{follows, follows_by, lends_Part}
use denote.Signature.{plain, mut_ref_to}
use denote.Steps.{nothing, opens, closes}
use denote.Triple.Walked.{says, Stays, stay_dropped, walk_of, ends_at, Goes-spent_ref}
use Rattle.std.proofs.raw_atomic.Walks.{proved}
use Rattle.std.specs.contracts.option.Option as Opt
use Rattle.std.proofs.option.Made.{Some-of, none_of}
use Rattle.c_engine.proofs.HandleValues.{word}
use Rattle.c_engine.specs.Owned.{token}
use Rattle.c_slave.specs.contracts.content.Content as content
use Rattle.c_slave.specs.HandleLends.{with_held}
use Rattle.c_slave.proofs.HandleValues.{Row, handle_known, empty_in, full_in}
use Rattle.c_slave.specs.contracts.handle.Handle.content as F
use Rattle.c_slave.proofs.handle.Handle.content.Statement.{statement}
use Rattle.c_slave.proofs.handle.Handle.content.Code as code

abbrev stayed : Stays F.ended.signature.params F.ended.kept
stayed = (stay_dropped (mut_ref_to (0 ∷ []) tt (plain (λ _. Row))) no, tt)

-- all of a full handle but what it holds
abbrev Rest : ℕ → ℕ → ℕ → ℕ → Fml
Rest b o bc oc = fsep (token (bare (lone content.the_row.mir)) (block_ptr bc oc)) (cell_at full_share Row.mir (word (block_ptr bc oc) true ∷ []) b o)

module _ {M : Type 1} {𝓤 : Ura M} (𝓛 : Logic 𝓤) where
  -- whatever stands in the box then, the handle holds
  back : (d : Row.Denot) (b o bc oc : ℕ) → d.at ≡ block_ptr bc oc → d.full ≡ true → (w : content.the_row.Denot)
      → ent 𝓤 (sep 𝓤 (sem 𝓛 ((mem content.the_row).own_at w bc oc)) (sem 𝓛 (Rest b o bc oc))) (sem 𝓛 ((mem Row).own_at (with_held d w) b o))
  unfolding part_of
  back d b o bc oc e ef w = let v = word (block_ptr bc oc) true in
      qed 𝓛 (‵ (part_at content.the_row full_share w bc oc) ∷ ‵ (Rest b o bc oc) ∷ []) ∵ move ! (1 ∷ []) $ fsplit ! $
      move ! (2 ∷ 0 ∷ []) $ fjoin ! $ full_in ! (block_ptr bc oc) w $
      rewrite ! 0 (λ (h : Row.Denot). ‵ (Row.own_val h (v ∷ []))) (λ i. record { at = sym e i; full = sym ef i; held = Some w }) refl $
      move ! (1 ∷ 0 ∷ []) $ fjoin ! $
      fpack ! (List Val) (λ vs. fsep (cell_at full_share Row.mir vs b o) (Row.own_val (with_held d w) vs)) (v ∷ []) $ done !

pub content_spec : {M : Type 1} → statement M
unfolding follows_by
content_spec 𝓤 𝓛 𝓜 𝓡 wired =
    let H = 𝓛.H in let c = F.clauses 𝓛 𝓜.mem 𝓡.returns in let W = walk_of 𝓛 F.ended stayed c in let 𝓣 = tables 𝓤 𝓛.H 𝓜 𝓡 𝓡.env in
    proved 𝓛 F.ended stayed c 𝓜 𝓡 (Goes-spent_ref 𝓛 1 (0 ∷ []) tt (plain (λ _. Row)), tt)
    F.Key.name code.function (code.unfolded 𝓤 𝓛.H 𝓜 𝓡 wired)
    (λ κs. (mut_vals, tt)) (λ κs. (mut_Tells (named 0) κs.0 Row, tt)) (λ κs qs bounds a _ are.
    let κ = κs.0 in let q = qs.0 in let b = a.0.ref_ptr.0 in let o = a.0.ref_ptr.1 in let γ = a.0.ghost_name in let d = a.0.now in let us = mut_vals a.0 in
    let y : W.Ghost = ((κs, qs, bounds, a, (us, tt)), tt) in let Post = W.post y in
    let Lent : RattleType = MutRef (named 0) κ content.the_row in let was = Row.coded.code d in
    let Cell = λ (ws : List Val). ‵ (cell_at full_share Row.mir ws b o) in
    qed 𝓛 (((‵ (flft κ q) ⊛ ‵ ftrue) ⊛ ‵ ((MutRef (named 0) κ Row).own_val a.0 us) ⊛ ‵ ftrue) ∷ ‵ ftrue ∷ []) ∵
    split ! $ split ! $ move ! (2 ∷ []) $ split ! $ keep ! (0 ∷ 2 ∷ []) $
    enter ! _ _ _ _ _ $ alloc_all ! (λ l. pass_all ! refl ((tt, tt), tt) $
    let En = env code.function.locals l in
    fsplit3 ! $ move ! (1 ∷ 2 ∷ 3 ∷ []) $ opens ! tt Row {h = d} b o (λ vs. move ! (1 ∷ []) $ handle_known ! d vs
    -- an empty handle is put back as it was
    (λ ws ef is.
    let v = live 0 vnil in let w = word d.at false in
    rewrite ! 0 Cell (ws ∙ ap (λ (full : Bool). word d.at full ∷ []) ef) refl $
    sets ! (of_opd ! (load ! (through ! refl (fld ! refl (stop !))) (look_in ! 0 (sub ! 1 refl (whole !))))) refl (tt, tt) $
    sets ! (un ! (get ! refl) tt) refl (tt, tt) $
    first ! $ branches ! (get ! refl)
    (λ _. sets ! (agg ! (and_then ! (lit ! tt) (no_more !))) refl (tt, (record { fits = lit< tt }, tt)) $
    empty_in ! d.at $
    rewrite ! 0 (λ (h : Row.Denot). ‵ (Row.own_val h (w ∷ []))) (λ i. record { at = d.at; full = sym ef i; held = sym is i }) refl $
    move ! (1 ∷ 0 ∷ []) $ closes ! tt Row d (w ∷ []) b o $
    use1 𝓛 (‵ (fres γ was)) (𝓛.names.obs-res γ was) $
    use0 𝓛 (‵ ((Opt.the_row Lent).own_val None (v ∷ []))) (none_of 𝓛 Lent) $
    returns_within ! Post refl (look_at ! 0 refl) $ free_all ! refl $ keep ! (0 ∷ 3 ∷ 1 ∷ []) $
    suffices ! _ (ends_at 𝓛 F.ended stayed c y v None (tt, tt) (tt, tt)) $
    nothing ! $ nothing ! $ fjoin ! $ join ! $ nothing ! $ move ! (2 ∷ 0 ∷ []) $ join ! $ join ! $ frame ! $ says ! (sym is) $ done !)
    (λ wrong. absurd wrong))
    -- [the box; the cell; the open borrow; obs; auth]
    (λ bc oc s ws ef e is.
    let p = vptr bc oc in let v = live 1 (vcons p vnil) in let w = word (block_ptr bc oc) true in
    rewrite ! 1 Cell (ws ∙ (λ i. word (e i) (ef i) ∷ [])) refl $ fsplit ! $
    sets ! (of_opd ! (load ! (through ! refl (fld ! refl (stop !))) (look_in ! 2 (sub ! 1 refl (whole !))))) refl (tt, tt) $
    sets ! (un ! (get ! refl) tt) refl (tt, tt) $
    first ! $ branches ! (get ! refl) (λ wrong. absurd wrong)
    (λ _. skips ! $ exec ! 𝓣.C 𝓣.Λ En code.Mir.t-4 (at_ret En Post) $ first ! $ blocks ! $
    sets ! (of_opd ! (load ! (through ! refl (fld ! refl (stop !))) (look_in ! 2 (sub ! 0 refl (whole !))))) refl (tt, tt) $
    sets ! (of_opd ! (get ! refl)) refl (tt, tt) $
    sets_last ! (addr ! (through ! refl (stop !))) refl (tt, tt) $
    exec ! 𝓣.C 𝓣.Λ En code.Mir.t-5 (at_ret En Post) $
    sets ! (of_opd ! (get ! refl)) refl (tt, tt) $
    sets ! (agg ! (and_then ! (lit ! tt) (and_then ! (get ! refl) (no_more !)))) refl (tt, (record { fits = lit< tt }, (tt, tt))) $
    move ! (1 ∷ 2 ∷ []) $ fjoin ! $ move ! (2 ∷ 3 ∷ 4 ∷ 1 ∷ 0 ∷ []) $ group ! 5 $
    use1 𝓛 (later (some (λ (δ : GName). ‵ (Lent.own_val (record { ref_ptr = (bc, oc); ghost_name = δ; now = s }) (p ∷ [])) ⊛ ‵ (flft κ q) ⊛ ‵ (follows Row content.the_row γ δ (with_held d)))))
    (lends_Part 𝓛 Row content.the_row (with_held d) (named 0) κ q b o bc oc γ (sem 𝓛 (Rest b o bc oc)) (back 𝓛 d b o bc oc e ef) was was s) $ await ! tt $ pick ! (λ δ.
    let r : MutBor content.the_row.Denot = record { ref_ptr = (bc, oc); ghost_name = δ; now = s } in
    split3 ! $ use1 𝓛 (‵ ((Opt.the_row Lent).own_val (Some r) (v ∷ []))) (Some-of 𝓛 Lent r p) $
    returns ! (look_at ! 0 refl) $ free_all ! refl $ keep ! (0 ∷ 1 ∷ 2 ∷ []) $
    suffices ! _ (ends_at 𝓛 F.ended stayed c y v (Some r) (tt, tt) (tt, tt)) $
    nothing ! $ nothing ! $ fjoin ! $ join ! $ nothing ! $ move ! (2 ∷ 0 ∷ []) $ join ! $ join ! $ frame ! $ says ! (sym is) $ done !))))))
