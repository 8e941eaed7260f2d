-- `into_parts` moves the pointer back, where there is one.
use mathlib.Core.Bool.{true, false}
use mathlib.Core.Path.{refl, sym, subst}
use mathlib.Core.List.{List, [], ◌∷◌, ◌++◌}
use seplogic.Ra.Ura.{Ura}
use mir.Val.{Val, vptr, vcons, vnil}
use base.Logic.{SProp, ent, emp, id⊢}
use base.Fml.{ftrue, fsep}
use prog.Memory.{Memory}
use prog.Routine.{Routine}
use prog.Wp.{WpFn, Tables}
use types.Logic.{Logic}
use contract.Monad.{Fun}
use contract.Running.{tables, tables_of}
use sound.WpLaws.{WpFn-mono}
use types.Kit.{‵, raw, ◌⊛◌, at_ret, ◌$◌, ◌∵◌, !, qed, move, keep, drop, use0, use1, join, split, fsplit, fjoin, suffices, done}
use types.Part.{whole, sub, agg}
use types.Match.{live}
use types.Run.{stop, fld, lit, no_more, and_then, of_opd, first, branches, skips, exec, returns, returns_within, enter}
use types.ByLocal.{alloc_all, pass_all, free_all, look_at, get, get_in, sets, env}
use denote.Exit.{yes}
use denote.Signature.{Slot, type_at, plain}
use denote.Steps.{nothing}
use denote.Triple.Spec.{triple_of}
use denote.Triple.Table.{entered}
use denote.Triple.Walked.{says, Stays, stay_dropped, walk_of, ends_at, Goes-dropped, walk_Meets}
use Rattle.std.specs.contracts.alloc.Global as heap
use Rattle.std.specs.contracts.impls.GlobalAllocator.TheImpl.{ghosts}
use Rattle.std.proofs.alloc.Global.TheLaws as heap_laws
use Rattle.c_engine.specs.contracts.content.Content as content
use lib.Dec.{lit<}
use denote.RawPtr.{block_ptr}
use Rattle.std_alloc.proofs.ResultValues.{and_tt}
use Rattle.std.specs.declared.option.Option.TheVariants.{None, Some}
use Rattle.std.proofs.alloc.Calls.{handle_tells}
use Rattle.std.proofs.option.Made.{Some-of, none_of}
use Rattle.c_engine.specs.contracts.parts.Parts as parts
use Rattle.c_engine.proofs.PartsValues.{al, both, parts_good, parts_in}
use Rattle.c_engine.proofs.HandleValues.{Row, word, word_good, ptr_good, handle_out}
use Rattle.c_engine.specs.contracts.handle.Handle.into_parts as F
use Rattle.c_engine.specs.contracts.handle.Handle.into_parts.Key.{name as #self}
use Rattle.c_engine.proofs.handle.Handle.into_parts.Statement as stated
use Rattle.c_engine.proofs.handle.Handle.into_parts.Code as code

abbrev From : Slot 0
From = plain (λ _. Row)

abbrev Heap : Slot 0
Heap = plain (λ _. heap.the_row)

abbrev stayed : Stays (F.ended).signature.params (F.ended).kept
stayed = (stay_dropped From yes, (stay_dropped Heap yes, tt))

module _ {M : Type 1} {𝓤 : Ura M} (𝓛 : Logic 𝓤) (at_mem : Memory → SProp 𝓤) (run : Routine → Fun 𝓤) (𝓣 : Tables 𝓤 𝓛.H) where
  open 𝓛 use {H}

  walk : (z : (walk_of 𝓛 F.ended stayed (F.clauses 𝓛 at_mem run)).Ghost)
      → ent 𝓤 ((walk_of 𝓛 F.ended stayed (F.clauses 𝓛 at_mem run)).pre z)
      (WpFn 𝓤 H 𝓣.C 𝓣.Λ code.function ((walk_of 𝓛 F.ended stayed (F.clauses 𝓛 at_mem run)).args z) ((walk_of 𝓛 F.ended stayed (F.clauses 𝓛 at_mem run)).post z))
  walk z =
      let Post = (walk_of 𝓛 F.ended stayed (F.clauses 𝓛 at_mem run)).post z in
      let Run : List Val → SProp 𝓤 = λ ws. WpFn 𝓤 H 𝓣.C 𝓣.Λ code.function ws Post in
      let d = z.0.3.0 in let a = z.0.3.1.0 in let LZ = heap_laws.the_row_laws in
      let To = type_at (F.signature).result tt in let Made = parts.the_row content.the_row heap.the_row ghosts in
      qed 𝓛 ((‵ ftrue ⊛ ‵ (fsep (Row.own_val d z.0.4.0) (fsep (heap.the_row.own_val a z.0.4.1.0) ftrue))) ∷ raw (emp 𝓤) ∷ []) ∵ split ! $ drop ! $ fsplit ! $
      move ! (1 ∷ []) $ fsplit ! $ handle_tells (al content.the_row heap.the_row LZ ghosts) ! a z.0.4.1.0 (λ h eh fits.
      -- [the allocator; nothing; the handle; nothing]
      move ! (2 ∷ []) $ handle_out ! d z.0.4.0
      (λ ws is.
      let w = word d.at false in let v = live 0 vnil in
      suffices ! (Run (w ∷ h ∷ [])) (subst (λ (us : List Val). ent 𝓤 (Run (w ∷ h ∷ [])) (Run us)) (sym (λ i. ws i ++ (eh i ++ []))) (id⊢ 𝓤 (Run (w ∷ h ∷ [])))) $
      keep ! [] $ use0 𝓛 (‵ (To.own_val None (v ∷ []))) (none_of 𝓛 Made) $
      enter ! 𝓣.C 𝓣.Λ code.function (w ∷ h ∷ []) Post $ alloc_all ! (λ ls. pass_all ! refl (word_good d.at false, (fits, tt)) $
      sets ! (of_opd ! (get_in ! (fld ! refl (stop !)) (sub ! 0 refl (whole !)))) refl (ptr_good d.at) $
      sets ! (of_opd ! (get_in ! (fld ! refl (stop !)) (sub ! 1 refl (whole !)))) refl (tt, tt) $ sets ! (of_opd ! (get ! refl)) refl (tt, tt) $
      first ! $ branches ! (get ! refl) (λ wrong. absurd wrong)
      (λ _. skips ! $ exec ! 𝓣.C 𝓣.Λ (env code.function.locals ls) code.Mir.t-5 (at_ret (env code.function.locals ls) Post) $
      sets ! (agg ! (and_then ! (lit ! tt) (no_more !))) refl (tt, (record { fits = lit< tt }, tt)) $ returns ! (look_at ! 0 refl) $ free_all ! refl $
      suffices ! _ (ends_at 𝓛 F.ended stayed (F.clauses 𝓛 at_mem run) z v None (tt, (tt, tt)) (tt, (tt, tt))) $ says ! is $
      nothing ! $ nothing ! $ fjoin ! $ nothing ! $ fjoin ! $ join ! $ nothing ! $ join ! $ done !)))
      (λ b o s ws is.
      let w = word (block_ptr b o) true in let u = both (vptr b o) h in let v = live 1 (vcons u vnil) in
      let made : Made.Denot = record { ptr = block_ptr b o; alloc = a; value = s } in
      let typed = parts_good content.the_row heap.the_row LZ ghosts b o h fits in
      suffices ! (Run (w ∷ h ∷ [])) (subst (λ (us : List Val). ent 𝓤 (Run (w ∷ h ∷ [])) (Run us)) (sym (λ i. ws i ++ (eh i ++ []))) (id⊢ 𝓤 (Run (w ∷ h ∷ [])))) $
      parts_in content.the_row heap.the_row LZ ghosts ! b o h a s $ keep ! (0 ∷ []) $ use1 𝓛 (‵ (To.own_val (Some made) (v ∷ []))) (Some-of 𝓛 Made made u) $
      enter ! 𝓣.C 𝓣.Λ code.function (w ∷ h ∷ []) Post $ alloc_all ! (λ ls. pass_all ! refl (word_good (block_ptr b o) true, (fits, tt)) $
      sets ! (of_opd ! (get_in ! (fld ! refl (stop !)) (sub ! 0 refl (whole !)))) refl (tt, tt) $
      sets ! (of_opd ! (get_in ! (fld ! refl (stop !)) (sub ! 1 refl (whole !)))) refl (tt, tt) $ sets ! (of_opd ! (get ! refl)) refl (tt, tt) $
      first ! $ branches ! (get ! refl)
      (λ _. sets ! (of_opd ! (get ! refl)) refl (tt, tt) $ sets ! (agg ! (and_then ! (get ! refl) (and_then ! (get ! refl) (no_more !)))) refl typed $
      sets ! (agg ! (and_then ! (lit ! tt) (and_then ! (get ! refl) (no_more !)))) refl (and_tt _ typed.0, (record { fits = lit< tt }, (typed.1, tt))) $
      returns_within ! Post refl (look_at ! 0 refl) $ free_all ! refl $
      suffices ! _ (ends_at 𝓛 F.ended stayed (F.clauses 𝓛 at_mem run) z v (Some made) (tt, (tt, tt)) (tt, (tt, tt))) $ says ! is $
      nothing ! $ nothing ! $ fjoin ! $ nothing ! $ fjoin ! $ join ! $ nothing ! $ join ! $ done !)
      (λ wrong. absurd wrong))))

pub into_parts_spec : {M : Type 1} → stated.statement M
unfolding tables_of
into_parts_spec 𝓤 𝓛 𝓜 𝓡 wired =
    let 𝓣 : Tables 𝓤 𝓛.H = tables_of 𝓤 𝓛.H 𝓜 (tables 𝓤 𝓛.H 𝓜 𝓡 𝓡.env) in
    entered 𝓤 𝓛.H (triple_of 𝓛 F.signature (F.spec 𝓛 𝓜.mem 𝓡.returns)) 𝓣.C 𝓣.Λ #self code.function (code.unfolded 𝓤 𝓛.H 𝓜 𝓡 wired)
    (walk_Meets 𝓛 F.ended stayed (Goes-dropped 𝓛 0 From yes (λ κs x f. refl), (Goes-dropped 𝓛 0 Heap yes (λ κs x f. refl), tt)) (F.clauses 𝓛 𝓜.mem 𝓡.returns) (WpFn 𝓤 𝓛.H 𝓣.C 𝓣.Λ code.function) (WpFn-mono 𝓤 𝓛.H 𝓛.laws 𝓣 code.function)
    (walk 𝓛 𝓜.mem 𝓡.returns 𝓣))
