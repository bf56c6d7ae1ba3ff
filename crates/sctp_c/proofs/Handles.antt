-- The machine values of a handle, and what it owns by its two cases. Assumes `Logic`.
use Rattle.std.proofs.Common.{◌≡◌, ℕ, List, [], ◌∷◌, ◌++◌, refl, subst, lit<}
use seplogic.Ra.Ura.{Ura}
use mir.Raw.{raw as bare}
use mir.Val.{Val, vstruct, of_list, has_ty}
use base.Logic.{ent, guard, guard_i, via, never, fst∗, snd∗}
use base.Fml.{Fml}
use types.Logic.{Logic, sem}
use types.Kit.{Item, Goal, Seq, Step, step, ‵, ◌$◌, move, drop, fsplit, fjoin, fpick, fpack, feq_i, feq_l}
use contract.Monad.{fact_use}
use denote.RattleType.{RattleType, Valss}
use denote.Memory.{lone}
use denote.RawPtr.{Ptr, RawPtr, block_ptr, null_ptr, ptr_val, in_a_block, Testable}
use denote.Steps.{nothing}
use denote.Param.{layout}
use denote.Struct.Struct.{within}
use denote.Struct.Owning.{shape, to}
use Rattle.core.specs.Ptr.{points_to}
use Rattle.core.specs.declared.option.Option.{Option}
use Rattle.core.specs.declared.option.Option.TheVariants.{None, Some}
use Rattle.core.proofs.alloc.Calls.{Al, handle_tells}
use Rattle.core.proofs.cell.Inside.{Good}
use Rattle.std_alloc.specs.Box.Ownership.{box_owns}
use Rattle.std_alloc.proofs.ResultValues.{and_tt}
use Rattle.std.specs.contracts.alloc.Global as heap
use Rattle.std.proofs.alloc.Global.TheLaws as heap_laws
use Rattle.std.specs.contracts.impls.GlobalAllocator.TheImpl.{ghosts}
use Rattle.std.proofs.GlobalToken.{dealloc_token-Testable}
use Rattle.sctp_c.specs.contracts.endpoint.Endpoint.{the_row as R}
use Rattle.sctp_c.specs.Handle.{held_at}
use Rattle.sctp_c.specs.contracts.handle.Handle as handle
use Rattle.sctp_c.proofs.LooseValues.{both}

abbrev pub Z : RattleType
Z = heap.the_row

abbrev pub Held : RattleType
Held = handle.the_row

abbrev pub holds : Z.Denot → Ptr → Option R.Denot → Fml
holds a = held_at (ghosts.dealloc_token a) R

abbrev pub owns_box : Z.Denot → Ptr → R.Denot → Fml
owns_box a = box_owns (ghosts.dealloc_token a) R

abbrev pub al : Al
al = record { row = Z; laws = heap_laws.the_row_laws; g = ghosts; d = mir.Syntax.impl [] mir.Syntax.tnil mir.Syntax.dnil; drops = mir.Syntax.impl [] mir.Syntax.tnil mir.Syntax.dnil }

module _ {M : Type 1} {𝓤 : Ura M} (𝓛 : Logic 𝓤) where
  -- a box's pointer may be compared with null
  pub tested : (a : Z.Denot) (p : Ptr) (x : R.Denot) → ent 𝓤 (sem 𝓛 (owns_box a p x)) (guard 𝓤 (Testable p) (sem 𝓛 (owns_box a p x)))
  tested a p x = fact_use 𝓤 (Testable p) (via 𝓤 _ (snd∗ 𝓤 (sem 𝓛 (points_to R p x)) (sem 𝓛 (ghosts.dealloc_token a (bare (lone R.mir)) p))) (dealloc_token-Testable 𝓛 a (bare (lone R.mir)) p)) (guard_i 𝓤 (Testable p) (sem 𝓛 (owns_box a p x)))

module _ {M : Type 1} {𝓤 : Ura M} {𝓛 : Logic 𝓤} {K : Type 0} {Γ : List (Item 𝓤)} {G : Goal 𝓤 𝓛.H} where
  pub either_held : K → (a : Z.Denot) (p : Ptr) (s : Option R.Denot) → (p ≡ null_ptr → s ≡ None → Seq K 𝓛 Γ G)
      → ((b o : ℕ) (x : R.Denot) → p ≡ block_ptr b o → s ≡ Some x → Seq K 𝓛 (‵ (owns_box a (block_ptr b o) x) ∷ Γ) G) → Seq K 𝓛 (‵ (holds a p s) ∷ Γ) G
  either_held t a p None empty full = feq_l t (λ e. empty e refl)
  either_held t a p (Some x) empty full = in_a_block t p (λ q. owns_box a q x) (fst∗ 𝓤 (never 𝓤) (sem 𝓛 (ghosts.dealloc_token a (bare (lone R.mir)) null_ptr))) (λ b o e. full b o x e refl)

  pub handle_out : K → (d : Held.Denot) (vs : List Val)
      → ((h : Val) → vs ≡ both (ptr_val d.at) h ∷ [] → Good (layout Z) h → Seq K 𝓛 (‵ (holds d.alloc d.at d.held) ∷ ‵ (Z.own_val d.alloc (h ∷ [])) ∷ Γ) G)
      → Seq K 𝓛 (‵ (Held.own_val d vs) ∷ Γ) G
  handle_out t d vs k =
      fsplit t $ fpick t (λ vss. fsplit t $ feq_l t (λ ev. fsplit t $ feq_l t (λ ep. fsplit t $ handle_tells al t d.alloc vss.1.0 (λ h ea fits. move t (1 ∷ []) $ drop t $ move t (1 ∷ []) $ k h
      (subst (λ (ws : List Val). vs ≡ vstruct (of_list (ptr_val d.at ∷ (ws ++ []))) ∷ []) ea (subst (λ (ps : List Val). vs ≡ vstruct (of_list (ps ++ (vss.1.0 ++ []))) ∷ []) ep ev)) fits))))

  pub handle_in : K → (p : Ptr) (h : Val) (a : Z.Denot) (s : Option R.Denot)
      → Step K 𝓛 (‵ (Held.own_val (record { at = p; alloc = a; held = s }) (both (ptr_val p) h ∷ [])) ∷ Γ) G (‵ (holds a p s) ∷ ‵ (Z.own_val a (h ∷ [])) ∷ Γ) G
  handle_in t p h a s = step (λ k. let v : Val = both (ptr_val p) h in
      nothing t $ move t (2 ∷ 0 ∷ []) $ fjoin t $ feq_i t (List Val) (ptr_val p ∷ []) (ptr_val p ∷ []) refl $ fjoin t $ feq_i t (List Val) (v ∷ []) (v ∷ []) refl $ fjoin t $
      fpack t (Valss (RawPtr ∷ Z ∷ [])) (within (shape handle.the_type) (to handle.the_type (record { at = p; alloc = a; held = s })) (v ∷ [])) (ptr_val p ∷ [], (h ∷ [], tt)) $ fjoin t $ k)

pub null_good : (h : Val) → Good (layout Z) h → Good (layout Held) (both (ptr_val null_ptr) h)
null_good h fits = (and_tt (has_ty (layout Z) h) fits.0, (record { fits = lit< tt }, (fits.1, tt)))
