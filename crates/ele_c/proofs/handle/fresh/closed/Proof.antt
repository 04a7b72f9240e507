-- `closed` makes the handle, which owns nothing.
use Rattle.std.proofs.Common.{◌≡◌, false, List, [], ◌∷◌, refl, lit<}
use mir.Val.{Val, vbool, vstruct, vcons, vnil}
use base.Logic.{SProp, emp}
use types.Kit.{raw, ◌$◌, ◌∵◌, !, qed, by, keep, drop, fjoin, fpack, feq_i, use0}
use types.Run.{lit, false_lit, no_more, and_then, returns, enter}
use types.ByLocal.{alloc_all, pass_all, free_all, look_at, sets}
use types.Part.{agg}
use contract.Monad.{fact, fact_i}
use contract.Running.{tables}
use denote.Laws.{Is}
use denote.RattleType.{Valss}
use denote.Builtin.{RawPtr, bool}
use denote.Plain.{bool_Makes}
use denote.RawPtr.{null_ptr, ptr_val}
use denote.Struct.Owning.{shape}
use denote.Struct.Struct.{within}
use denote.Steps.{nothing, owned}
use denote.Triple.Walked.{walk_of}
use Rattle.std.proofs.raw_atomic.Walks.{proved_at, leaves}
use Rattle.ele_c.specs.contracts.handle.Elephant.{the_row as T, the_type}
use Rattle.ele_embed.specs.Embedding.{fresh_plain}
use Rattle.ele_model.specs.Bounds.{largest_bounds}
use Rattle.ele_c.specs.contracts.handle.fresh.closed as f
use Rattle.ele_c.proofs.handle.fresh.closed.Statement.{statement}
use Rattle.ele_c.proofs.handle.fresh.closed.Code as code

pub closed_spec : {M : Type 1} → statement M
closed_spec 𝓤 𝓛 𝓜 𝓡 wired =
    let H = 𝓛.H in let c = f.clauses 𝓛 𝓜.mem 𝓡.returns in let 𝓣 = tables 𝓤 H 𝓜 𝓡 𝓡.env in let fn = code.function in
    proved_at 𝓛 f.ended tt c 𝓜 𝓡 tt f.Key.name fn (code.unfolded 𝓤 H 𝓜 𝓡 wired) (λ z are.
    let Post : Val → SProp 𝓤 = (walk_of 𝓛 f.ended tt c).post z in
    qed 𝓛 (raw ((walk_of 𝓛 f.ended tt c).pre z) ∷ []) ∵ drop ! $ enter ! 𝓣.C 𝓣.Λ fn [] Post $ alloc_all ! (λ l. pass_all ! refl tt $
    sets ! (agg ! (and_then ! (lit ! tt) (and_then ! (false_lit !) (no_more !)))) refl (tt, (record { fits = lit< tt }, (tt, tt))) $
    returns ! (look_at ! 0 refl) $ free_all ! refl $
    let new : T.Denot = record { at = null_ptr; is_full = false; held = fresh_plain largest_bounds } in let pv : Val = ptr_val null_ptr in let nv : Val = vstruct (vcons pv (vcons (vbool false) vnil)) in
    nothing ! $ nothing ! $ owned ! bool (Is bool) (bool_Makes 𝓛) false (vbool false ∷ []) refl $ fjoin ! $ feq_i ! (List Val) (pv ∷ []) (pv ∷ []) refl $ fjoin ! $ feq_i ! (List Val) (nv ∷ []) (nv ∷ []) refl $ fjoin ! $
    fpack ! (Valss (RawPtr ∷ bool ∷ [])) (within (shape the_type) (null_ptr, (false, tt)) (nv ∷ [])) (pv ∷ [], (vbool false ∷ [], tt)) $ fjoin ! $
    nothing ! $ nothing ! $ use0 𝓛 (raw (fact 𝓤 (new ≡ new))) (fact_i 𝓤 (new ≡ new) (emp 𝓤) refl) $
    keep ! (1 ∷ 2 ∷ 3 ∷ 0 ∷ []) $ by ! (leaves 𝓛 f.ended tt c z nv new tt tt)))
