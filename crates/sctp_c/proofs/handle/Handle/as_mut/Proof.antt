-- `as_mut` tests the pointer, and lends the socket where it isn't null; the handle follows it. Assumes `Logic`.
use Rattle.std.proofs.Common.{◌≡◌, ℕ, List, [], ◌∷◌, refl, sym, ap, lit<, MutBor}
use seplogic.Ra.Ura.{Ura}
use base.Fraction.{full_share}
use mir.Syntax.{named}
use mir.Raw.{raw as bare}
use mir.Val.{Val, vptr, vcons, vnil}
use base.Logic.{ent, sep}
use base.Fml.{GName, Fml, fsep, flft, fres, ftrue}
use types.Logic.{Logic, sem}
use types.Kit.{‵, ◌⊛◌, some, later, given, at_ret, ◌$◌, ◌∵◌, !, qed, done, move, keep, drop, use0, use1, split, split3, join, group, frame, pick, await, rewrite, learn, suffices, fsplit, fsplit3, fjoin, fpack, feq_i}
use types.Part.{whole, sub, look_in, agg}
use types.Run.{stop, fld, addr, load, lit, of_opd, bin, no_more, and_then, first, blocks, branches, skips, exec, returns, returns_within, enter}
use types.ByLocal.{alloc_all, pass_all, free_all, look_at, get, through, sets, sets_last, is, env}
use types.Match.{live}
use contract.Running.{tables}
use denote.Exit.{no}
use denote.Follow.{follows, follows_by, lends_Part}
use denote.Memory.{cell_at, part_at, part_of, mem, lone}
use denote.RattleType.{RattleType}
use denote.RawPtr.{Ptr, block_ptr, null_ptr, ptr_val, tests_null, Testable}
use denote.Ref.{MutRef, mut_vals, mut_Tells}
use denote.Signature.{plain, mut_ref_to}
use denote.Steps.{nothing, opens, closes}
use denote.Triple.Walked.{says, Stays, stay_dropped, walk_of, ends_at, Goes-spent_ref}
use Rattle.core.specs.declared.option.Option.{Option}
use Rattle.core.specs.declared.option.Option.TheVariants.{None, Some}
use Rattle.core.specs.contracts.option.Option as Opt
use Rattle.core.proofs.alloc.Shapes.{after}
use Rattle.core.proofs.option.Made.{Some-of, none_of}
use Rattle.std.specs.contracts.impls.GlobalAllocator.TheImpl.{ghosts}
use Rattle.std.proofs.raw_atomic.Walks.{proved}
use Rattle.sctp_c.specs.contracts.endpoint.Endpoint.{the_row as R}
use Rattle.sctp_c.specs.Lending.{with_held}
use Rattle.sctp_c.proofs.LooseValues.{both}
use Rattle.sctp_c.proofs.Handles.{Z, Held, owns_box, tested, either_held, handle_out, handle_in}
use Rattle.sctp_c.specs.contracts.handle.Handle.as_mut as f
use Rattle.sctp_c.proofs.handle.Handle.as_mut.Statement.{statement}
use Rattle.sctp_c.proofs.handle.Handle.as_mut.Code as code

abbrev stayed : Stays f.ended.signature.params f.ended.kept
stayed = (stay_dropped (mut_ref_to (0 ∷ []) tt (plain (λ _. Held))) no, tt)

-- all of the handle but the socket
abbrev Rest : Held.Denot → Val → (rb ro b o : ℕ) → Fml
Rest d hv rb ro b o = fsep (fsep (ghosts.dealloc_token d.alloc (bare (lone R.mir)) (block_ptr b o)) (Z.own_val d.alloc (hv ∷ []))) (cell_at full_share Held.mir (both (ptr_val d.at) hv ∷ []) rb ro)

back : {M : Type 1} {𝓤 : Ura M} (𝓛 : Logic 𝓤) (d : Held.Denot) (hv : Val) (rb ro b o : ℕ) → d.at ≡ block_ptr b o
    → (w : R.Denot) → ent 𝓤 (sep 𝓤 (sem 𝓛 ((mem R).own_at w b o)) (sem 𝓛 (Rest d hv rb ro b o))) (sem 𝓛 ((mem Held).own_at (with_held d w) rb ro))
unfolding part_of
back 𝓛 d hv rb ro b o e w =
    qed 𝓛 (‵ (part_at R full_share w b o) ∷ ‵ (Rest d hv rb ro b o) ∷ []) ∵ move ! (1 ∷ []) $ fsplit ! $ fsplit ! $ move ! (3 ∷ []) $ fjoin ! $
    rewrite ! 0 (λ (p : Ptr). ‵ (owns_box d.alloc p w)) (sym e) refl $ handle_in ! d.at hv d.alloc (Some w) $ move ! (1 ∷ 0 ∷ []) $ fjoin ! $
    fpack ! (List Val) (λ us. fsep (cell_at full_share Held.mir us rb ro) (Held.own_val (with_held d w) us)) (both (ptr_val d.at) hv ∷ []) $ done !

pub as_mut_spec : {M : Type 1} → statement M
unfolding follows_by
as_mut_spec 𝓤 𝓛 𝓜 𝓡 wired =
    let c = f.clauses 𝓛 𝓜.mem 𝓡.returns in let W = walk_of 𝓛 f.ended stayed c in let 𝓣 = tables 𝓤 𝓛.H 𝓜 𝓡 𝓡.env in
    proved 𝓛 f.ended stayed c 𝓜 𝓡 (Goes-spent_ref 𝓛 1 (0 ∷ []) tt (plain (λ _. Held)), tt)
    f.Key.name code.function (code.unfolded 𝓤 𝓛.H 𝓜 𝓡 wired)
    (λ κs. (mut_vals, tt)) (λ κs. (mut_Tells (named 0) κs.0 Held, tt)) (λ κs qs bounds a _ are.
    let κ = κs.0 in let q = qs.0 in let rb = a.0.ref_ptr.0 in let ro = a.0.ref_ptr.1 in let γ = a.0.ghost_name in let d = a.0.now in let vs = mut_vals a.0 in
    let y : W.Ghost = ((κs, qs, bounds, a, (vs, tt)), tt) in let Lent : RattleType = MutRef (named 0) κ R in
    qed 𝓛 (((‵ (flft κ q) ⊛ ‵ ftrue) ⊛ ‵ ((MutRef (named 0) κ Held).own_val a.0 vs) ⊛ ‵ ftrue) ∷ ‵ ftrue ∷ []) ∵
    split ! $ split ! $ move ! (2 ∷ []) $ split ! $ keep ! (0 ∷ 2 ∷ []) $
    enter ! _ _ _ _ _ $ alloc_all ! (λ l. pass_all ! refl ((tt, tt), tt) $ let En = env (code.function).locals l in
    fsplit3 ! $ move ! (1 ∷ 2 ∷ 3 ∷ []) $ opens ! tt Held rb ro (λ us. move ! (1 ∷ []) $ handle_out ! d us (λ hv ws fits.
    rewrite ! 2 (λ (xs : List Val). ‵ (cell_at full_share Held.mir xs rb ro)) ws refl $
    -- [what it holds; the allocator; the words; the open borrow; obs; auth]
    either_held ! d.alloc d.at d.held
    (λ is_null empty.
    sets ! (is ! (of_opd ! (load ! (through ! refl (fld ! refl (stop !))) (look_in ! 1 (sub ! 0 refl (whole !))))) (ap ptr_val is_null)) refl (tt, record { fits = lit< tt }) $
    sets ! (bin ! (get ! refl) (lit ! tt) tt) refl (tt, tt) $ first ! $ branches ! (get ! refl)
    (λ _. sets ! (agg ! (and_then ! (lit ! tt) (no_more !))) refl (tt, (record { fits = lit< tt }, tt)) $
    feq_i ! Ptr d.at null_ptr is_null $ handle_in ! d.at hv d.alloc None $
    rewrite ! 0 (λ (s : Option R.Denot). ‵ (Held.own_val (record { at = d.at; alloc = d.alloc; held = s }) (both (ptr_val d.at) hv ∷ []))) (sym empty) refl $
    move ! (1 ∷ 0 ∷ []) $ closes ! tt Held d (both (ptr_val d.at) hv ∷ []) rb ro $
    use1 𝓛 (‵ (fres γ (Held.coded.code d))) (𝓛.names.obs-res γ (Held.coded.code d)) $ move ! (1 ∷ []) $ drop ! $
    use0 𝓛 (‵ ((Opt.the_row Lent).own_val None (live 0 vnil ∷ []))) (none_of 𝓛 Lent) $
    returns_within ! (W.post y) refl (look_at ! 0 refl) $ free_all ! refl $ keep ! (0 ∷ 2 ∷ 1 ∷ []) $
    suffices ! _ (ends_at 𝓛 f.ended stayed c y (live 0 vnil) None (tt, tt) (tt, tt)) $
    nothing ! $ nothing ! $ fjoin ! $ join ! $ nothing ! $ move ! (2 ∷ 0 ∷ []) $ join ! $ join ! $ frame ! $ says ! empty $ done !)
    (λ wrong. absurd wrong))
    (λ b o x is_block full.
    use1 𝓛 (given (Testable (block_ptr b o)) (‵ (owns_box d.alloc (block_ptr b o) x))) (tested 𝓛 d.alloc (block_ptr b o) x) $ learn ! (λ t.
    sets ! (is ! (of_opd ! (load ! (through ! refl (fld ! refl (stop !))) (look_in ! 2 (sub ! 0 refl (whole !))))) (ap ptr_val is_block)) refl (tt, tt) $
    sets ! (bin ! (get ! refl) (lit ! tt) (tests_null (block_ptr b o) t)) refl (tt, tt) $ first ! $ branches ! (get ! refl) (λ wrong. absurd wrong)
    (λ _. skips ! $ exec ! 𝓣.C 𝓣.Λ En (after 3 (code.function).body) (at_ret En (W.post y)) $
    first ! $ blocks ! $
    sets ! (is ! (of_opd ! (load ! (through ! refl (fld ! refl (stop !))) (look_in ! 2 (sub ! 0 refl (whole !))))) (ap ptr_val is_block)) refl (tt, tt) $
    sets ! (of_opd ! (get ! refl)) refl (tt, tt) $ sets_last ! (addr ! (through ! refl (stop !))) refl (tt, tt) $
    exec ! 𝓣.C 𝓣.Λ En (after 4 (code.function).body) (at_ret En (W.post y)) $
    sets ! (of_opd ! (get ! refl)) refl (tt, tt) $
    sets ! (agg ! (and_then ! (lit ! tt) (and_then ! (get ! refl) (no_more !)))) refl (tt, (record { fits = lit< tt }, (tt, tt))) $
    fsplit ! $ move ! (1 ∷ 2 ∷ []) $ fjoin ! $ move ! (0 ∷ 2 ∷ []) $ fjoin ! $ move ! (2 ∷ 3 ∷ 4 ∷ 1 ∷ 0 ∷ []) $ group ! 5 $
    use1 𝓛 (later (some (λ (δ : GName). ‵ (Lent.own_val (record { ref_ptr = (b, o); ghost_name = δ; now = x }) (vptr b o ∷ [])) ⊛ ‵ (flft κ q) ⊛ ‵ (follows Held R γ δ (with_held d)))))
    (lends_Part 𝓛 Held R (with_held d) (named 0) κ q rb ro b o γ (sem 𝓛 (Rest d hv rb ro b o)) (back 𝓛 d hv rb ro b o is_block) (Held.coded.code d) (Held.coded.code d) x) $ await ! tt $ pick ! (λ δ.
    let r : MutBor R.Denot = record { ref_ptr = (b, o); ghost_name = δ; now = x } in
    split3 ! $ use1 𝓛 (‵ ((Opt.the_row Lent).own_val (Some r) (live 1 (vcons (vptr b o) vnil) ∷ []))) (Some-of 𝓛 Lent r (vptr b o)) $
    returns ! (look_at ! 0 refl) $ free_all ! refl $ keep ! (0 ∷ 1 ∷ 2 ∷ []) $
    suffices ! _ (ends_at 𝓛 f.ended stayed c y (live 1 (vcons (vptr b o) vnil)) (Some r) (tt, tt) (tt, tt)) $
    nothing ! $ nothing ! $ fjoin ! $ join ! $ nothing ! $ move ! (2 ∷ 0 ∷ []) $ join ! $ join ! $ frame ! $ says ! full $ done !))))))))
