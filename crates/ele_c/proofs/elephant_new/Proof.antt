-- `elephant_new` writes the pointer from `fresh`, and passes on what it owns.
use Rattle.std.proofs.Common.{List, [], ◌∷◌, ◌++◌, refl, sym, ap, subst, lit<}
use lib.Dec.{T as Holds}
use mir.Syntax.{ty_ptr}
use mir.Val.{Val, vptr, vunit, vstruct, vcons, vnil, has_ty, WT}
use base.Fraction.{full_share}
use base.Logic.{SProp, ent, id⊢}
use base.Fml.{ftrue, flft}
use prog.Wp.{WpFn}
use types.Kit.{‵, raw, ◌⊛◌, some, later, ◌$◌, ◌∵◌, !, qed, by, move, keep, drop, split, join, fsplit, fsplit3, fjoin, fjoin3, feq_i, pick, await, suffices, use1, use2, rewrite}
use types.Run.{stop, fld, store, of_opd, unit_lit, assigns, no_more, and_then, returns, enter}
use types.ByLocal.{alloc_all, pass_all, free_all, look_at, get, get_in, through, sets, lands_as}
use types.Part.{whole, sub}
use contract.Running.{tables}
use denote.Exit.{yes}
use denote.Laws.{shows}
use denote.Memory.{cell_at}
use denote.Param.{layout}
use denote.RattleType.{owns}
use denote.Builtin.{RawPtr}
use denote.Signature.{types_at, plain}
use denote.RawPtr.{Ptr, block_ptr, null_ptr, ptr_val, rawptr_Tells}
use denote.Steps.{nothing, only, opens, closes, peeks}
use denote.Triple.Call.{calls_at}
use denote.Triple.Clauses.{Lasts, lasts, at_exit}
use denote.Triple.Spec.{triple_of}
use denote.Triple.Walked.{Stays, stay_dropped, stay_ref, walk_of, Goes-dropped, Goes-ref}
use denote.Triple.Table.{framed}
use Rattle.std.proofs.raw_atomic.Walks.{proved_at, leaves}
use Rattle.std.proofs.alloc.Calls.{handle_tells}
use Rattle.std.specs.contracts.alloc.Global as heap
use Rattle.ele_c.proofs.AsHandle.{E}
use Rattle.ele_c.specs.contracts.fresh.Grip.{the_row as G}
use Rattle.ele_c.proofs.fresh.Grip.TheLaws.{lowers}
use Rattle.ele_c.specs.contracts.fresh.fresh as g
use Rattle.ele_c.proofs.fresh.fresh.Met.{met}
use Rattle.ele_c.specs.contracts.elephant_new as f
use Rattle.ele_c.proofs.elephant_new.Statement.{statement}
use Rattle.ele_c.proofs.elephant_new.Code as code

abbrev stayed : Stays f.ended.signature.params f.ended.kept
stayed = (stay_dropped (plain (λ _. heap.the_row)) yes, (stay_ref (0 ∷ []) tt (plain (λ _. RawPtr)), tt))

good : (p : Ptr) → Holds (has_ty ty_ptr (ptr_val p)) × WT (ptr_val p)
good null_ptr = (tt, record { fits = lit< tt })
good (block_ptr b o) = (tt, tt)

held : (p : Ptr) → Holds (has_ty (layout G) (vstruct (vcons (ptr_val p) vnil))) × WT (vstruct (vcons (ptr_val p) vnil))
held null_ptr = (tt, (record { fits = lit< tt }, tt))
held (block_ptr b o) = (tt, (tt, tt))

pub elephant_new_spec : {M : Type 1} → statement M
elephant_new_spec 𝓤 𝓛 𝓜 𝓡 wired =
    let H = 𝓛.H in let c = f.clauses 𝓛 𝓜.mem 𝓡.returns in let 𝓣 = tables 𝓤 H 𝓜 𝓡 𝓡.env in let fn = code.function in
    proved_at 𝓛 f.ended stayed c 𝓜 𝓡 (Goes-dropped 𝓛 1 (plain (λ _. heap.the_row)) yes (λ κs x w. refl), (Goes-ref 𝓛 1 0 tt (plain (λ _. RawPtr)), tt)) f.Key.name fn (code.unfolded 𝓤 H 𝓜 𝓡 wired) (λ z are.
    let κs = z.0.0 in let qs = z.0.1 in let a = z.0.3.0 in let r = z.0.3.1.0 in let b = r.ref_ptr.0 in let o = r.ref_ptr.1 in
    let Post : Val → SProp 𝓤 = (walk_of 𝓛 f.ended stayed c).post z in let Run : List Val → SProp 𝓤 = λ ws. WpFn 𝓤 H 𝓣.C 𝓣.Λ fn ws Post in
    qed 𝓛 (((‵ (flft κs.0 qs.0) ⊛ ‵ ftrue) ⊛ ‵ (owns (types_at f.signature.params κs) z.0.3 z.0.4)) ∷ raw ((c κs z.0.3).requires z.1) ∷ []) ∵
    split ! $ split ! $ move ! (2 ∷ []) $ fsplit ! $ handle_tells E.al ! a z.0.4.0 (λ hv ea fa. move ! (1 ∷ []) $ fsplit ! $ keep ! (2 ∷ 0 ∷ 3 ∷ []) $
    -- [the allocator; out; the token]
    suffices ! (Run (hv ∷ vptr b o ∷ [])) (subst (λ (us : List Val). ent 𝓤 (Run (hv ∷ vptr b o ∷ [])) (Run us)) (sym (λ i. ea i ++ (are.1.0.0 i ++ []))) (id⊢ 𝓤 (Run (hv ∷ vptr b o ∷ [])))) $
    enter ! 𝓣.C 𝓣.Λ fn (hv ∷ vptr b o ∷ []) Post $ alloc_all ! (λ l. pass_all ! refl (fa, ((tt, tt), tt)) $
    let k = triple_of 𝓛 g.signature (g.spec 𝓛 𝓜.mem 𝓡.returns) in let y : k.Ghost = ((tt, tt, tt, (a, tt), (hv ∷ [], tt)), tt) in
    nothing ! $ move ! (1 ∷ 0 ∷ []) $ fjoin ! $ nothing ! $ join ! $ nothing ! $ move ! (1 ∷ 0 ∷ []) $ use2 𝓛 (raw (k.pre y)) (id⊢ 𝓤 _) $
    calls_at ! (framed 𝓤 H 𝓜 𝓣) k (met 𝓤 𝓛 𝓜 𝓡 (code.calls-ele_c::fresh::fresh 𝓡.env wired)) y (and_then ! (get ! refl) (no_more !)) (λ v.
    use1 𝓛 (later (some (λ (d : G.Denot). (‵ ftrue ⊛ ‵ (G.own_val d (v ∷ []))) ⊛
    some (λ (ws : Lasts g.ended tt y.0.3). ‵ (lasts g.ended tt y.0.3 ws) ⊛ raw ((g.clauses 𝓛 𝓜.mem 𝓡.returns tt y.0.3).ensures tt d (at_exit g.ended tt y.0.3 ws)))))) (id⊢ 𝓤 _) $
    await ! tt $ pick ! (λ d. split ! $ split ! $ drop ! $ peeks ! G _ (shows 𝓛 G) d (v ∷ []) (λ is. fsplit ! $ drop ! $ move ! (1 ∷ []) $ drop ! $
    -- [what the pointer owns; out; the token]
    lands_as ! (ap only (lowers.val_is d (v ∷ []) is)) refl (held d.at) $ sets ! (of_opd ! (get_in ! (fld ! refl (stop !)) (sub ! 0 refl (whole !)))) refl (good d.at) $
    move ! (1 ∷ []) $ fsplit3 ! $ move ! (1 ∷ 2 ∷ 4 ∷ []) $ opens ! tt RawPtr b o (λ us. move ! (1 ∷ []) $ peeks ! RawPtr _ (shows 𝓛 RawPtr) r.now us (λ was. drop ! $
    rewrite ! 0 (λ (xs : List Val). ‵ (cell_at full_share RawPtr.mir xs b o)) (rawptr_Tells r.now us was) refl $
    -- [the place; the open borrow, in three entries; out's first part; what the pointer owns]
    assigns ! (of_opd ! (get ! refl)) (through ! refl (stop !)) (store ! 0 refl (good d.at)) $ sets ! (of_opd ! (unit_lit !)) refl (tt, tt) $
    let pv : Val = ptr_val d.at in feq_i ! (List Val) (pv ∷ []) (pv ∷ []) refl $ move ! (1 ∷ 0 ∷ 2 ∷ 3 ∷ 4 ∷ []) $ closes ! tt RawPtr d.at (pv ∷ []) b o $
    returns ! (look_at ! 0 refl) $ free_all ! refl $
    -- [two parts of out; the token; out's first part; what the pointer owns]
    move ! (3 ∷ 0 ∷ 1 ∷ []) $ fjoin3 ! $ nothing ! $ move ! (1 ∷ 0 ∷ []) $ fjoin ! $ nothing ! $ fjoin ! $ nothing ! $ move ! (2 ∷ 0 ∷ []) $ join ! $
    feq_i ! (List Val) (vunit ∷ []) (vunit ∷ []) refl $ keep ! (1 ∷ 2 ∷ 0 ∷ 3 ∷ []) $ by ! (leaves 𝓛 f.ended stayed c z vunit tt (tt, (d.at, tt)) (tt, (tt, tt)))))))))))
