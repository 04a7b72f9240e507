-- `elephant_delete` makes the parts of what the pointer owns, and passes them on.
use Rattle.std.proofs.Common.{◌≡◌, List, [], ◌∷◌, ◌++◌, refl, sym, ap, ◌∙◌, subst}
use mir.Raw.{raw as bare}
use mir.Syntax.{impl, tnil, dnil}
use mir.Val.{Val, vptr, vunit}
use base.Logic.{SProp, ent, never, id⊢, fst∗}
use base.Fml.{ftrue}
use prog.Wp.{WpFn}
use types.Logic.{sem}
use types.Kit.{‵, raw, ◌⊛◌, some, later, ◌$◌, ◌∵◌, !, qed, by, move, keep, drop, split, join, fsplit, fjoin, feq_i, feq_l, pick, await, suffices, use1, use2}
use types.Run.{of_opd, unit_lit, no_more, and_then, returns, enter}
use types.ByLocal.{alloc_all, pass_all, free_all, look_at, get, sets, lands_as}
use types.Part.{agg}
use contract.Running.{tables}
use denote.Exit.{yes}
use denote.Builtin.{RawPtr, unit}
use denote.RattleType.{owns}
use denote.Signature.{types_at, plain}
use denote.RawPtr.{Ptr, block_ptr, null_ptr, ptr_val, in_a_block}
use denote.Steps.{nothing, only}
use denote.Triple.Call.{calls_at}
use denote.Triple.Clauses.{Lasts, lasts, at_exit}
use denote.Triple.Spec.{triple_of}
use denote.Triple.Walked.{Stays, stay_dropped, walk_of, Goes-dropped}
use denote.Triple.Table.{framed}
use Rattle.std.proofs.raw_atomic.Walks.{proved_at, leaves}
use Rattle.std.proofs.alloc.Calls.{handle_tells, token}
use Rattle.std.proofs.BoxSteps.Form.{Bx, D, τ, word, box_typed}
use Rattle.std.proofs.BoxSteps.Steps.{box_in}
use Rattle.std.specs.contracts.alloc.Global as heap
use Rattle.std.proofs.alloc.Global.TheLaws as heap_laws
use Rattle.std.specs.contracts.impls.GlobalAllocator.TheImpl.{ghosts, dict}
use Rattle.box_parts.specs.contracts.Parts as parts
use Rattle.ele_c.specs.Given.{handle_at}
use Rattle.ele_c.specs.contracts.handle.Elephant.{the_row as T}
use Rattle.ele_c.proofs.handle.Elephant.TheLaws as laws
use Rattle.ele_c.specs.contracts.finish as g
use Rattle.ele_c.proofs.finish.Met.{met}
use Rattle.ele_c.specs.contracts.elephant_delete as f
use Rattle.ele_c.proofs.elephant_delete.Statement.{statement}
use Rattle.ele_c.proofs.elephant_delete.Code as code

abbrev E : Bx
E = record { row = T; laws = laws.the_row_laws; al = record { row = heap.the_row; laws = heap_laws.the_row_laws; g = ghosts; d = dict; drops = impl [] tnil dnil } }

abbrev stayed : Stays f.ended.signature.params f.ended.kept
stayed = (stay_dropped (plain (λ _. heap.the_row)) yes, (stay_dropped (plain (λ _. RawPtr)) yes, tt))

pub elephant_delete_spec : {M : Type 1} → statement M
elephant_delete_spec 𝓤 𝓛 𝓜 𝓡 wired =
    let H = 𝓛.H in let c = f.clauses 𝓛 𝓜.mem 𝓡.returns in let 𝓣 = tables 𝓤 H 𝓜 𝓡 𝓡.env in let fn = code.function in
    proved_at 𝓛 f.ended stayed c 𝓜 𝓡 (Goes-dropped 𝓛 0 (plain (λ _. heap.the_row)) yes (λ κs x w. refl), (Goes-dropped 𝓛 0 (plain (λ _. RawPtr)) yes (λ κs x w. refl), tt)) f.Key.name fn (code.unfolded 𝓤 H 𝓜 𝓡 wired) (λ z are.
    let a = z.0.3.0 in let p = z.0.3.1.0 in let x = z.1 in
    let Post : Val → SProp 𝓤 = (walk_of 𝓛 f.ended stayed c).post z in let Run : List Val → SProp 𝓤 = λ ws. WpFn 𝓤 H 𝓣.C 𝓣.Λ fn ws Post in
    qed 𝓛 ((‵ ftrue ⊛ ‵ (owns (types_at f.signature.params tt) z.0.3 z.0.4)) ∷ ‵ (handle_at p x) ∷ []) ∵
    split ! $ drop ! $ fsplit ! $ handle_tells E.al ! a z.0.4.0 (λ hv ea fa. move ! (1 ∷ []) $ fsplit ! $ feq_l ! (λ ev. drop ! $ move ! (1 ∷ []) $
    in_a_block ! p (λ q. handle_at q x) (fst∗ 𝓤 (never 𝓤) (sem 𝓛 (token E.al a (bare (τ E)) null_ptr))) (λ b o e. fsplit ! $
    -- [the handle; the right to its block; the allocator]
    let is : z.0.4.1.0 ≡ vptr b o ∷ [] = ev ∙ ap (λ (q : Ptr). ptr_val q ∷ []) e in
    suffices ! (Run (hv ∷ vptr b o ∷ [])) (subst (λ (us : List Val). ent 𝓤 (Run (hv ∷ vptr b o ∷ [])) (Run us)) (sym (λ i. ea i ++ (is i ++ []))) (id⊢ 𝓤 (Run (hv ∷ vptr b o ∷ [])))) $
    enter ! 𝓣.C 𝓣.Λ fn (hv ∷ vptr b o ∷ []) Post $ alloc_all ! (λ l. pass_all ! refl (fa, ((tt, tt), tt)) $
    sets ! (agg ! (and_then ! (get ! refl) (and_then ! (get ! refl) (no_more !)))) refl (box_typed E hv b o fa) $
    let d : D E = record { ptr = block_ptr b o; alloc = a; value = x } in let w : Val = word E hv b o in
    let To = parts.the_row T heap.the_row ghosts in let made : To.Denot = record { at = block_ptr b o; alloc = a; value = x } in
    box_in E ! d b o x refl refl $ use1 𝓛 (‵ (To.own_val made (w ∷ []))) (id⊢ 𝓤 _) $
    let k = triple_of 𝓛 g.signature (g.spec 𝓛 𝓜.mem 𝓡.returns) in let y : k.Ghost = ((tt, tt, tt, (made, tt), (w ∷ [], tt)), tt) in
    nothing ! $ move ! (1 ∷ 0 ∷ []) $ join ! $ nothing ! $ join ! $ nothing ! $ move ! (1 ∷ 0 ∷ []) $ use2 𝓛 (raw (k.pre y)) (id⊢ 𝓤 _) $
    calls_at ! (framed 𝓤 H 𝓜 𝓣) k (met 𝓤 𝓛 𝓜 𝓡 (code.calls-ele_c::finish 𝓡.env wired)) y (and_then ! (get ! refl) (no_more !)) (λ v.
    use1 𝓛 (later (some (λ (r : Unit {0}). (‵ ftrue ⊛ ‵ (unit.own_val r (v ∷ []))) ⊛
    some (λ (ws : Lasts g.ended tt y.0.3). ‵ (lasts g.ended tt y.0.3 ws) ⊛ raw ((g.clauses 𝓛 𝓜.mem 𝓡.returns tt y.0.3).ensures tt r (at_exit g.ended tt y.0.3 ws)))))) (id⊢ 𝓤 _) $
    await ! tt $ pick ! (λ r. split ! $ split ! $ drop ! $ feq_l ! (λ is_unit. drop ! $
    lands_as ! (ap only is_unit) refl (tt, tt) $ sets ! (of_opd ! (unit_lit !)) refl (tt, tt) $ returns ! (look_at ! 0 refl) $ free_all ! refl $
    feq_i ! (List Val) (vunit ∷ []) (vunit ∷ []) refl $ nothing ! $ nothing ! $ fjoin ! $ nothing ! $ fjoin ! $ nothing ! $ nothing ! $
    keep ! (0 ∷ 2 ∷ 3 ∷ 1 ∷ []) $ by ! (leaves 𝓛 f.ended stayed c z vunit tt (tt, (tt, tt)) (tt, (tt, tt)))))))))))
