-- The machine values of a handle of a slave or of a task: a pointer and whether it is full.
use Rattle.std.proofs.Common.{◌≡◌, ℕ, Bool, true, false, List, [], ◌∷◌, ◌++◌, refl, subst, Option, Some, None}
use seplogic.Ra.Ura.{Ura}
use mir.Val.{Val, vstruct, vbool, of_list}
use base.Fml.{feq, fsep}
use types.Logic.{Logic}
use types.Kit.{Item, Goal, Seq, Step, step, ‵, ◌$◌, drop, fsplit, fjoin, fpick, fpack, feq_i, feq_l}
use denote.RattleType.{RattleType, Valss}
use denote.Builtin.{RawPtr, bool}
use denote.RawPtr.{Ptr, block_ptr, ptr_val}
use denote.Steps.{nothing}
use denote.Struct.Struct.{within}
use denote.Struct.Owning.{shape}
use Rattle.std_alloc.specs.Box.Ownership.{box_owns}
use Rattle.c_slave.specs.contracts.content.Content as content
use Rattle.c_engine.proofs.HandleValues.{owns_out, word}
use Rattle.c_engine.specs.Owned.{token}
use Rattle.c_slave.specs.Owned.{owns_held}
use Rattle.c_slave.specs.contracts.handle.Handle as handle

abbrev pub Row : RattleType
Row = handle.the_row

module _ {M : Type 1} {𝓤 : Ura M} {𝓛 : Logic 𝓤} {K : Type 0} {Γ : List (Item 𝓤)} {G : Goal 𝓤 𝓛.H} where
  -- a handle by value is empty, or has the box of what it holds
  pub handle_known : K → (d : Row.Denot) (vs : List Val)
      → (vs ≡ word d.at d.full ∷ [] → d.full ≡ false → d.held ≡ None → Seq K 𝓛 Γ G)
      → ((b o : ℕ) (s : content.the_row.Denot) → vs ≡ word d.at d.full ∷ [] → d.full ≡ true → d.at ≡ block_ptr b o → d.held ≡ Some s
      → Seq K 𝓛 (‵ (box_owns token content.the_row (block_ptr b o) s) ∷ Γ) G)
      → Seq K 𝓛 (‵ (Row.own_val d vs) ∷ Γ) G
  handle_known t d vs empty filled =
      fsplit t $ fpick t (λ vss. fsplit t $ feq_l t (λ ev. fsplit t $ feq_l t (λ ep. fsplit t $ feq_l t (λ eb. drop t $
      let ws : vs ≡ word d.at d.full ∷ [] =
      subst (λ (bs : List Val). vs ≡ vstruct (of_list (ptr_val d.at ∷ (bs ++ []))) ∷ []) eb
      (subst (λ (ps : List Val). vs ≡ vstruct (of_list (ps ++ (vss.1.0 ++ []))) ∷ []) ep ev) in
      owns_out t content.the_row d.full d.at d.held (empty ws) (λ b o s. filled b o s ws)))))

  pub handle_out : K → (d : Row.Denot) (vs : List Val)
      → (vs ≡ word d.at false ∷ [] → d.held ≡ None → Seq K 𝓛 Γ G)
      → ((b o : ℕ) (s : content.the_row.Denot) → vs ≡ word (block_ptr b o) true ∷ [] → d.held ≡ Some s
      → Seq K 𝓛 (‵ (box_owns token content.the_row (block_ptr b o) s) ∷ Γ) G)
      → Seq K 𝓛 (‵ (Row.own_val d vs) ∷ Γ) G
  handle_out t d vs empty filled = handle_known t d vs
      (λ ws ef is. empty (subst (λ (y : Bool). vs ≡ word d.at y ∷ []) ef ws) is)
      (λ b o s ws ef e is. filled b o s (subst (λ (p : Ptr). vs ≡ word p true ∷ []) e (subst (λ (y : Bool). vs ≡ word d.at y ∷ []) ef ws)) is)

  handle_in : K → (at : Ptr) (full : Bool) (held : Option content.the_row.Denot)
      → Step K 𝓛 (‵ (Row.own_val (record { at = at; full = full; held = held }) (word at full ∷ [])) ∷ Γ) G
      (‵ (owns_held full at held) ∷ Γ) G
  handle_in t at full held = step (λ s. let v : Val = word at full in
      nothing t $ feq_i t (List Val) (vbool full ∷ []) (vbool full ∷ []) refl $ fjoin t $
      feq_i t (List Val) (ptr_val at ∷ []) (ptr_val at ∷ []) refl $ fjoin t $ feq_i t (List Val) (v ∷ []) (v ∷ []) refl $ fjoin t $
      fpack t (Valss (RawPtr ∷ bool ∷ [])) (within (shape handle.the_type) (at, (full, tt)) (v ∷ [])) (ptr_val at ∷ [], (vbool full ∷ [], tt)) $ fjoin t $ s)

  -- a full handle is made of a box
  pub full_in : K → (at : Ptr) (s : content.the_row.Denot)
      → Step K 𝓛 (‵ (Row.own_val (record { at = at; full = true; held = Some s }) (word at true ∷ [])) ∷ Γ) G
      (‵ (box_owns token content.the_row at s) ∷ Γ) G
  full_in t at s = step (λ next.
      feq_i t (Option content.the_row.Denot) (Some s) (Some s) refl $ fjoin t $
      fpack t content.the_row.Denot (λ x. fsep (feq (Option content.the_row.Denot) (Some s) (Some x)) (box_owns token content.the_row at x)) s $
      handle_in t at true (Some s) $ next)

  -- an empty handle is made of nothing
  pub empty_in : K → (at : Ptr)
      → Step K 𝓛 (‵ (Row.own_val (record { at = at; full = false; held = None }) (word at false ∷ [])) ∷ Γ) G Γ G
  empty_in t at = step (λ next.
      feq_i t (Option content.the_row.Denot) None None refl $ handle_in t at false None $ next)
