-- `give` writes the pointer, and the handle owns what the parts owned.
use Rattle.std.proofs.Common.{◌≡◌, true, false, List, [], ◌∷◌, ◌++◌, refl, sym, subst}
use mir.Val.{Val, vbool, vptr, vunit, vstruct, vcons, vnil}
use base.Fraction.{full_share}
use base.Logic.{SProp, ent, emp, id⊢}
use base.Fml.{ftrue, flft}
use prog.Wp.{WpFn}
use types.Kit.{‵, raw, ◌⊛◌, ◌$◌, ◌∵◌, !, qed, by, move, keep, drop, split, join, fsplit, fsplit3, fjoin, fjoin3, fpack, feq_i, suffices, use0, use1, rewrite}
use types.Run.{stop, fld, of_opd, unit_lit, true_lit, assigns, returns, enter}
use types.ByLocal.{alloc_all, pass_all, free_all, look_at, get, get_in, through, sets}
use types.Part.{whole, sub, store_in}
use contract.Monad.{fact, fact_i}
use contract.Running.{tables}
use denote.Exit.{yes}
use denote.Laws.{Is, shows}
use denote.Memory.{cell_at}
use denote.RattleType.{owns, Valss}
use denote.Builtin.{RawPtr, bool}
use denote.Plain.{bool_Makes}
use denote.Signature.{types_at, plain}
use denote.RawPtr.{block_ptr}
use denote.Struct.Owning.{shape}
use denote.Struct.Struct.{within}
use denote.Steps.{nothing, owned, opens, closes, peeks}
use denote.Triple.Walked.{Stays, stay_dropped, stay_ref, walk_of, Goes-dropped, Goes-ref}
use Rattle.std.proofs.raw_atomic.Walks.{proved_at, leaves}
use Rattle.std.proofs.BoxSteps.Form.{D, B, word, box_typed}
use Rattle.std.proofs.BoxSteps.Steps.{box_out}
use Rattle.std.specs.contracts.alloc.Global as heap
use Rattle.std.specs.contracts.impls.GlobalAllocator.TheImpl.{ghosts}
use Rattle.box_parts.specs.contracts.Parts as parts
use Rattle.ele_embed.specs.contracts.Store as store
use Rattle.ele_c.proofs.AsStore.{E}
use Rattle.ele_c.specs.contracts.handle.Elephant.{the_row as T, the_type}
use Rattle.ele_c.proofs.handle.Elephant.TheLaws.{lowers}
use Rattle.ele_c.specs.contracts.handle.Elephant.give as f
use Rattle.ele_c.proofs.handle.Elephant.give.Statement.{statement}
use Rattle.ele_c.proofs.handle.Elephant.give.Code as code

abbrev stayed : Stays f.ended.signature.params f.ended.kept
stayed = (stay_ref (0 ∷ []) tt (plain (λ _. T)), (stay_dropped (plain (λ _. parts.the_row store.the_row heap.the_row ghosts)) yes, tt))

pub give_spec : {M : Type 1} → statement M
give_spec 𝓤 𝓛 𝓜 𝓡 wired =
    let H = 𝓛.H in let c = f.clauses 𝓛 𝓜.mem 𝓡.returns in let 𝓣 = tables 𝓤 H 𝓜 𝓡 𝓡.env in let fn = code.function in
    proved_at 𝓛 f.ended stayed c 𝓜 𝓡 (Goes-ref 𝓛 1 0 tt (plain (λ _. T)), (Goes-dropped 𝓛 1 (plain (λ _. parts.the_row store.the_row heap.the_row ghosts)) yes (λ κs x w. refl), tt)) f.Key.name fn (code.unfolded 𝓤 H 𝓜 𝓡 wired) (λ z are.
    let κs = z.0.0 in let qs = z.0.1 in let r = z.0.3.0 in let h = r.now in let b = r.ref_ptr.0 in let o = r.ref_ptr.1 in
    let v : D E = record { ptr = z.0.3.1.0.at; alloc = z.0.3.1.0.alloc; value = z.0.3.1.0.value } in
    let Post : Val → SProp 𝓤 = (walk_of 𝓛 f.ended stayed c).post z in let Run : List Val → SProp 𝓤 = λ ws. WpFn 𝓤 H 𝓣.C 𝓣.Λ fn ws Post in
    qed 𝓛 (((‵ (flft κs.0 qs.0) ⊛ ‵ ftrue) ⊛ ‵ (owns (types_at f.signature.params κs) z.0.3 z.0.4)) ∷ raw (fact 𝓤 (h.is_full ≡ false)) ∷ []) ∵
    move ! (1 ∷ []) $ drop ! $ split ! $ split ! $ move ! (2 ∷ []) $ fsplit ! $ move ! (1 ∷ []) $ fsplit ! $ use1 𝓛 (‵ ((B E).own_val v z.0.4.1.0)) (id⊢ 𝓤 _) $
    box_out E ! v z.0.4.1.0 (λ b' o' hv e ws fa. keep ! (4 ∷ 0 ∷ 1 ∷ 5 ∷ []) $
    -- [self; the store; the right to its block; the token]
    let w : Val = word E hv b' o' in
    suffices ! (Run (vptr b o ∷ w ∷ [])) (subst (λ (us : List Val). ent 𝓤 (Run (vptr b o ∷ w ∷ [])) (Run us)) (sym (λ i. are.0.0 i ++ (ws i ++ []))) (id⊢ 𝓤 (Run (vptr b o ∷ w ∷ [])))) $
    enter ! 𝓣.C 𝓣.Λ fn (vptr b o ∷ w ∷ []) Post $ alloc_all ! (λ l. pass_all ! refl ((tt, tt), (box_typed E hv b' o' fa, tt)) $
    fsplit3 ! $ move ! (1 ∷ 2 ∷ 5 ∷ []) $ opens ! tt T b o (λ us. move ! (1 ∷ []) $ peeks ! T _ (shows 𝓛 T) h us (λ is. drop ! $
    rewrite ! 0 (λ (xs : List Val). ‵ (cell_at full_share T.mir xs b o)) (lowers.val_is h us is) refl $
    -- [the handle's cell; the open borrow, in three entries; self's first part; the store; the right to its block]
    sets ! (of_opd ! (get_in ! (fld ! refl (stop !)) (sub ! 0 refl (whole !)))) refl (tt, tt) $ sets ! (of_opd ! (get ! refl)) refl (tt, tt) $
    assigns ! (of_opd ! (get ! refl)) (through ! refl (fld ! refl (stop !))) (store_in ! 0 (sub ! 0 refl (whole !)) (tt, tt)) $
    assigns ! (of_opd ! (true_lit !)) (through ! refl (fld ! refl (stop !))) (store_in ! 0 (sub ! 1 refl (whole !)) (tt, tt)) $
    sets ! (of_opd ! (unit_lit !)) refl (tt, tt) $
    let new = record h { at = block_ptr b' o'; is_full = true; held = v.value } in let pv : Val = vptr b' o' in let nv : Val = vstruct (vcons pv (vcons (vbool true) vnil)) in
    move ! (5 ∷ 6 ∷ []) $ fjoin ! $ nothing ! $ owned ! bool (Is bool) (bool_Makes 𝓛) true (vbool true ∷ []) refl $ fjoin ! $ feq_i ! (List Val) (pv ∷ []) (pv ∷ []) refl $ fjoin ! $ feq_i ! (List Val) (nv ∷ []) (nv ∷ []) refl $ fjoin ! $
    fpack ! (Valss (RawPtr ∷ bool ∷ [])) (within (shape the_type) (block_ptr b' o', (true, tt)) (nv ∷ [])) (pv ∷ [], (vbool true ∷ [], tt)) $ fjoin ! $
    -- [what the handle owns; its cell; the open borrow; self's first part]
    move ! (1 ∷ 0 ∷ 2 ∷ 3 ∷ 4 ∷ []) $ closes ! tt T new (nv ∷ []) b o $
    returns ! (look_at ! 0 refl) $ free_all ! refl $
    -- [two parts of self; the token; self's first part]
    move ! (3 ∷ 0 ∷ 1 ∷ []) $ fjoin3 ! $ nothing ! $ nothing ! $ fjoin ! $ move ! (1 ∷ 0 ∷ []) $ fjoin ! $ nothing ! $ move ! (2 ∷ 0 ∷ []) $ join ! $
    feq_i ! (List Val) (vunit ∷ []) (vunit ∷ []) refl $ use0 𝓛 (raw (fact 𝓤 (v.value ≡ v.value))) (fact_i 𝓤 (v.value ≡ v.value) (emp 𝓤) refl) $ use0 𝓛 (raw (fact 𝓤 (true ≡ true))) (fact_i 𝓤 (true ≡ true) (emp 𝓤) refl) $ join ! $
    keep ! (2 ∷ 3 ∷ 1 ∷ 0 ∷ []) $ by ! (leaves 𝓛 f.ended stayed c z vunit tt (new, (tt, tt)) (tt, (tt, tt))))))))
