use Rattle.ele_output.proofs.Basics.{◌≡◌, ◌++◌, refl, ap, ◌∙◌, append_assoc, List, ℕ, take, drop, Appends-trans, Appends-kept, take-append-drop}
use Rattle.ele_output.proofs.printer.write_all.Goals.{in-Ok, in-Err+else-ne}
use Rattle.ele_output.proofs.printer.write_all.Goals as goal

pub parts-preserved : goal.parts-preserved
parts-preserved g c =
    let i = c.parts.invariant in
    elim c.match-write.branch [
      | in-Ok w ↦
          let d : c.match-write.rest.now ≡ drop w.in-Ok.n c.parts.rest.now = ap (λ r. r.now) w.rest-is ∙ w.split_at.ensures.back in
          (i.0 ++ take w.in-Ok.n c.parts.rest.now, cc (take-append-drop w.in-Ok.n c.parts.rest.now, append_assoc i.0 (take w.in-Ok.n c.parts.rest.now) (drop w.in-Ok.n c.parts.rest.now)), Appends-trans _ _ _ _ _ i.2 w.in-Ok.ensures.bytes)
      | in-Err+else-ne w ↦ (i.0, i.1 ∙ ap (λ (x : List ℕ). i.0 ++ x) (rw w.rest-is refl), Appends-kept _ _ _ _ i.2 w.in-Err.ensures.bytes)
    ]
