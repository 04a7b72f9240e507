-- `take` reads the pointer, and the parts own what the handle owned.
use Rattle.std.proofs.Common.{◌≡◌, Bool, true, false, List, [], ◌∷◌, ◌++◌, refl, sym, ap, ◌∙◌, subst}
use mir.Raw.{raw as bare}
use mir.Val.{Val, vbool, vptr, vstruct, vcons, vnil}
use base.Fraction.{full_share}
use base.Logic.{SProp, ent, emp, never, id⊢, fst∗}
use base.Fml.{ftrue, flft}
use prog.Wp.{WpFn}
use types.Logic.{sem}
use types.Kit.{‵, raw, ◌⊛◌, ◌$◌, ◌∵◌, !, qed, by, move, keep, drop, split, join, fsplit, fsplit3, fjoin, fjoin3, fpack, feq_i, suffices, use0, use1, rewrite}
use types.Run.{stop, fld, load, of_opd, false_lit, assigns, no_more, and_then, returns, enter}
use types.ByLocal.{alloc_all, pass_all, free_all, look_at, get, through, sets}
use types.Part.{whole, sub, look_in, store_in, agg}
use contract.Monad.{fact, fact_i}
use contract.Running.{tables}
use denote.Exit.{yes}
use denote.Laws.{Is, shows}
use denote.Builtin.{RawPtr, bool}
use denote.Plain.{bool_Makes}
use denote.Struct.Owning.{shape}
use denote.Struct.Struct.{within}
use denote.Memory.{cell_at}
use denote.RattleType.{owns, Valss}
use denote.Signature.{types_at, type_at, plain}
use denote.RawPtr.{Ptr, block_ptr, null_ptr, in_a_block}
use denote.Steps.{nothing, owned, opens, closes, peeks, heard}
use denote.Triple.Walked.{Stays, stay_dropped, stay_ref, walk_of, Goes-dropped, Goes-ref}
use Rattle.std.proofs.raw_atomic.Walks.{proved_at, leaves}
use Rattle.std.proofs.alloc.Calls.{handle_tells, token}
use Rattle.std.proofs.BoxSteps.Form.{D, τ, word, box_typed}
use Rattle.std.proofs.BoxSteps.Steps.{box_in}
use Rattle.std.specs.contracts.alloc.Global as heap
use Rattle.ele_c.specs.Held.{owns_store}
use Rattle.ele_c.proofs.AsStore.{E}
use Rattle.ele_c.specs.contracts.handle.Elephant.{the_row as T, the_type}
use Rattle.ele_c.proofs.handle.Elephant.TheLaws.{lowers}
use Rattle.ele_c.specs.contracts.handle.Elephant.take as f
use Rattle.ele_c.proofs.handle.Elephant.take.Statement.{statement}
use Rattle.ele_c.proofs.handle.Elephant.take.Code as code

abbrev stayed : Stays f.ended.signature.params f.ended.kept
stayed = (stay_ref (0 ∷ []) tt (plain (λ _. T)), (stay_dropped (plain (λ _. heap.the_row)) yes, tt))

pub take_spec : {M : Type 1} → statement M
take_spec 𝓤 𝓛 𝓜 𝓡 wired =
    let H = 𝓛.H in let c = f.clauses 𝓛 𝓜.mem 𝓡.returns in let 𝓣 = tables 𝓤 H 𝓜 𝓡 𝓡.env in let fn = code.function in
    proved_at 𝓛 f.ended stayed c 𝓜 𝓡 (Goes-ref 𝓛 1 0 tt (plain (λ _. T)), (Goes-dropped 𝓛 1 (plain (λ _. heap.the_row)) yes (λ κs x w. refl), tt)) f.Key.name fn (code.unfolded 𝓤 H 𝓜 𝓡 wired) (λ z are.
    let κs = z.0.0 in let qs = z.0.1 in let r = z.0.3.0 in let a = z.0.3.1.0 in let h = r.now in let b = r.ref_ptr.0 in let o = r.ref_ptr.1 in
    let Post : Val → SProp 𝓤 = (walk_of 𝓛 f.ended stayed c).post z in let Run : List Val → SProp 𝓤 = λ ws. WpFn 𝓤 H 𝓣.C 𝓣.Λ fn ws Post in let Out = type_at f.signature.result κs in
    qed 𝓛 (((‵ (flft κs.0 qs.0) ⊛ ‵ ftrue) ⊛ ‵ (owns (types_at f.signature.params κs) z.0.3 z.0.4)) ∷ raw (fact 𝓤 (h.is_full ≡ true)) ∷ []) ∵
    move ! (1 ∷ []) $ heard ! (h.is_full ≡ true) (λ full. let x = h.held in split ! $ split ! $ move ! (2 ∷ []) $ fsplit ! $ move ! (1 ∷ []) $ fsplit ! $
    handle_tells E.al ! a z.0.4.1.0 (λ hv ea fa. keep ! (2 ∷ 0 ∷ 3 ∷ []) $
    -- [self; the allocator; the token]
    suffices ! (Run (vptr b o ∷ hv ∷ [])) (subst (λ (us : List Val). ent 𝓤 (Run (vptr b o ∷ hv ∷ [])) (Run us)) (sym (λ i. are.0.0 i ++ (ea i ++ []))) (id⊢ 𝓤 (Run (vptr b o ∷ hv ∷ [])))) $
    enter ! 𝓣.C 𝓣.Λ fn (vptr b o ∷ hv ∷ []) Post $ alloc_all ! (λ l. pass_all ! refl ((tt, tt), (fa, tt)) $
    fsplit3 ! $ move ! (1 ∷ 2 ∷ 4 ∷ []) $ opens ! tt T b o (λ us. move ! (1 ∷ []) $ peeks ! T _ (shows 𝓛 T) h us (λ is. fsplit ! $ move ! (1 ∷ []) $
    rewrite ! 0 (λ (open' : Bool). ‵ (owns_store open' h.at x)) full refl $
    in_a_block ! h.at (λ p. owns_store true p x) (fst∗ 𝓤 (never 𝓤) (sem 𝓛 (token E.al a (bare (τ E)) null_ptr))) (λ b' o' e. fsplit ! $
    let word' = lowers.val_is h us is ∙ ap (λ (p : Ptr). lowers.lowered (record h { at = p }) ∷ []) e in
    let Cell = λ (ws : List Val). ‵ (cell_at full_share T.mir ws b o) in rewrite ! 3 Cell word' refl $
    move ! (2 ∷ []) $ drop ! $
    -- [the store; the right to its block; the handle's cell; the open borrow, in three entries; self's first part; the allocator]
    assigns ! (of_opd ! (false_lit !)) (through ! refl (fld ! refl (stop !))) (store_in ! 2 (sub ! 1 refl (whole !)) (tt, tt)) $
    sets ! (of_opd ! (load ! (through ! refl (fld ! refl (stop !))) (look_in ! 2 (sub ! 0 refl (whole !))))) refl (tt, tt) $ sets ! (of_opd ! (get ! refl)) refl (tt, tt) $
    sets ! (agg ! (and_then ! (get ! refl) (and_then ! (get ! refl) (no_more !)))) refl (box_typed E hv b' o' fa) $
    let d : D E = record { ptr = block_ptr b' o'; alloc = a; value = x } in let made : Out.Denot = record { at = block_ptr b' o'; alloc = a; value = x } in let w : Val = word E hv b' o' in
    move ! (0 ∷ 1 ∷ 7 ∷ []) $ box_in E ! d b' o' x refl refl $ use1 𝓛 (‵ (Out.own_val made (w ∷ []))) (id⊢ 𝓤 _) $
    -- [the parts; the handle's cell; the open borrow; self's first part]
    let new = record h { at = block_ptr b' o'; is_full = false } in let pv : Val = vptr b' o' in let nv : Val = vstruct (vcons pv (vcons (vbool false) vnil)) in
    nothing ! $ nothing ! $ owned ! bool (Is bool) (bool_Makes 𝓛) false (vbool false ∷ []) refl $ fjoin ! $ feq_i ! (List Val) (pv ∷ []) (pv ∷ []) refl $ fjoin ! $ feq_i ! (List Val) (nv ∷ []) (nv ∷ []) refl $ fjoin ! $
    fpack ! (Valss (RawPtr ∷ bool ∷ [])) (within (shape the_type) (block_ptr b' o', (false, tt)) (nv ∷ [])) (pv ∷ [], (vbool false ∷ [], tt)) $ fjoin ! $
    move ! (2 ∷ 0 ∷ 3 ∷ 4 ∷ 5 ∷ []) $ closes ! tt T new (nv ∷ []) b o $
    returns ! (look_at ! 0 refl) $ free_all ! refl $
    -- [two parts of self; the token; the parts; self's first part]
    move ! (4 ∷ 0 ∷ 1 ∷ []) $ fjoin3 ! $ nothing ! $ nothing ! $ fjoin ! $ move ! (1 ∷ 0 ∷ []) $ fjoin ! $ nothing ! $ move ! (2 ∷ 0 ∷ []) $ join ! $
    use0 𝓛 (raw (fact 𝓤 (new.is_full ≡ false))) (fact_i 𝓤 (new.is_full ≡ false) (emp 𝓤) refl) $ use0 𝓛 (raw (fact 𝓤 (x ≡ h.held))) (fact_i 𝓤 (x ≡ h.held) (emp 𝓤) refl) $ join ! $
    keep ! (1 ∷ 2 ∷ 3 ∷ 0 ∷ []) $ by ! (leaves 𝓛 f.ended stayed c z w made (new, (tt, tt)) (tt, (tt, tt))))))))))
