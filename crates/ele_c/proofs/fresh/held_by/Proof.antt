-- `held_by` moves the pointer, and what the parts own goes with it.
use Rattle.std.proofs.Common.{◌≡◌, List, [], ◌∷◌, ◌++◌, refl, sym, subst}
use mir.Val.{Val, vptr, vstruct, vcons, vnil}
use base.Logic.{SProp, ent, emp, id⊢}
use base.Fml.{ftrue}
use prog.Wp.{WpFn}
use types.Kit.{‵, raw, ◌⊛◌, ◌$◌, ◌∵◌, !, qed, by, move, keep, drop, split, fsplit, fjoin, fpack, feq_i, suffices, use0, use1, rewrite}
use types.Run.{stop, fld, no_more, and_then, of_opd, returns, enter}
use types.ByLocal.{alloc_all, pass_all, free_all, look_at, get, get_in, sets}
use types.Part.{whole, sub, agg}
use contract.Monad.{fact, fact_i}
use contract.Running.{tables}
use denote.Exit.{yes}
use denote.RattleType.{owns, Valss}
use denote.Builtin.{RawPtr}
use denote.Signature.{types_at, plain}
use denote.RawPtr.{block_ptr}
use denote.Struct.Owning.{shape}
use denote.Struct.Struct.{within}
use denote.Steps.{nothing, heard}
use denote.Triple.Walked.{Stays, stay_dropped, walk_of, Goes-dropped}
use Rattle.std.proofs.raw_atomic.Walks.{proved_at, leaves}
use Rattle.std.proofs.BoxSteps.Form.{D, B, word, box_typed}
use Rattle.std.proofs.BoxSteps.Steps.{box_out}
use Rattle.std.specs.contracts.alloc.Global as heap
use Rattle.std.specs.contracts.impls.GlobalAllocator.TheImpl.{ghosts}
use Rattle.box_parts.specs.contracts.Parts as parts
use Rattle.ele_c.specs.Given.{handle_at, closed_handle}
use Rattle.ele_c.proofs.AsHandle.{E}
use Rattle.ele_c.specs.contracts.handle.Elephant.{the_row as T}
use Rattle.ele_c.specs.contracts.fresh.Grip.{the_row as G, the_type}
use Rattle.ele_c.specs.contracts.fresh.held_by as f
use Rattle.ele_c.proofs.fresh.held_by.Statement.{statement}
use Rattle.ele_c.proofs.fresh.held_by.Code as code

abbrev stayed : Stays f.ended.signature.params f.ended.kept
stayed = (stay_dropped (plain (λ _. parts.the_row T heap.the_row ghosts)) yes, tt)

pub held_by_spec : {M : Type 1} → statement M
held_by_spec 𝓤 𝓛 𝓜 𝓡 wired =
    let H = 𝓛.H in let c = f.clauses 𝓛 𝓜.mem 𝓡.returns in let 𝓣 = tables 𝓤 H 𝓜 𝓡 𝓡.env in let fn = code.function in
    proved_at 𝓛 f.ended stayed c 𝓜 𝓡 (Goes-dropped 𝓛 0 (plain (λ _. parts.the_row T heap.the_row ghosts)) yes (λ κs x w. refl), tt) f.Key.name fn (code.unfolded 𝓤 H 𝓜 𝓡 wired) (λ z are.
    let v : D E = record { ptr = z.0.3.0.at; alloc = z.0.3.0.alloc; value = z.0.3.0.value } in
    let Post : Val → SProp 𝓤 = (walk_of 𝓛 f.ended stayed c).post z in let Run : List Val → SProp 𝓤 = λ ws. WpFn 𝓤 H 𝓣.C 𝓣.Λ fn ws Post in
    qed 𝓛 ((‵ ftrue ⊛ ‵ (owns (types_at f.signature.params tt) z.0.3 z.0.4)) ∷ raw (fact 𝓤 (v.value ≡ closed_handle)) ∷ []) ∵
    move ! (1 ∷ []) $ heard ! (v.value ≡ closed_handle) (λ is. split ! $ drop ! $ fsplit ! $ use1 𝓛 (‵ ((B E).own_val v z.0.4.0)) (id⊢ 𝓤 _) $
    box_out E ! v z.0.4.0 (λ b o hv e ws fa. keep ! (0 ∷ 1 ∷ []) $ let w : Val = word E hv b o in
    suffices ! (Run (w ∷ [])) (subst (λ (us : List Val). ent 𝓤 (Run (w ∷ [])) (Run us)) (sym (λ i. ws i ++ [])) (id⊢ 𝓤 (Run (w ∷ [])))) $
    enter ! 𝓣.C 𝓣.Λ fn (w ∷ []) Post $ alloc_all ! (λ l. pass_all ! refl (box_typed E hv b o fa, tt) $
    sets ! (of_opd ! (get_in ! (fld ! refl (stop !)) (sub ! 0 refl (whole !)))) refl (tt, tt) $ sets ! (agg ! (and_then ! (get ! refl) (no_more !))) refl (tt, (tt, tt)) $
    returns ! (look_at ! 0 refl) $ free_all ! refl $ fjoin ! $ rewrite ! 0 (λ (x : T.Denot). ‵ (handle_at (block_ptr b o) x)) is refl $
    let new : G.Denot = record { at = block_ptr b o } in let pv : Val = vptr b o in let nv : Val = vstruct (vcons pv vnil) in
    nothing ! $ feq_i ! (List Val) (pv ∷ []) (pv ∷ []) refl $ fjoin ! $ feq_i ! (List Val) (nv ∷ []) (nv ∷ []) refl $ fjoin ! $
    fpack ! (Valss (RawPtr ∷ [])) (within (shape the_type) (block_ptr b o, tt) (nv ∷ [])) (pv ∷ [], tt) $ fjoin ! $
    nothing ! $ nothing ! $ fjoin ! $ nothing ! $ use0 𝓛 (raw (fact 𝓤 (new ≡ new))) (fact_i 𝓤 (new ≡ new) (emp 𝓤) refl) $
    keep ! (1 ∷ 2 ∷ 3 ∷ 0 ∷ []) $ by ! (leaves 𝓛 f.ended stayed c z nv new (tt, tt) (tt, tt))))))
