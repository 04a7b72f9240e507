use Rattle.std.proofs.Common.{◌≡◌, ap, ◌∙◌, refl, sym}
use Rattle.ele_shared_history.specs.Knowledge.{Knowledge, Object}
use Rattle.ele_shared_history.proofs.Ends.{closes, closes_with}
use Rattle.ele_shared_history.proofs.Shared.close.Goals as goal

pub handed_over-requires : goal.handed_over-requires
handed_over-requires g c = λ even.
    let p = c.seat.inside.place in
    let t = c.self.inside.table in
    let same : p.me.0.opening ≡ t.shared.key.value = ap (λ (z : Object). z.opening) (ap (λ (k : Knowledge). k.object) c.seat.view_is ∙ (c.requires ∙ sym c.self.view_is)) in
    rw ((closes t.shared.key.value p.table_id p.id p.me.0 _ _ c.word-word.result c.take-slot.result same c.seat.invariant.live c.close_with-closed.ensures.values.2 c.word-word.ensures c.take-slot.ensures.value even).1) refl

pub returns : goal.returns
returns g c =
    let p = c.seat.inside.place in
    let t = c.self.inside.table in
    let same : p.me.0.opening ≡ t.shared.key.value = ap (λ (z : Object). z.opening) (ap (λ (k : Knowledge). k.object) c.seat.view_is ∙ (c.requires ∙ sym c.self.view_is)) in
    let found = closes t.shared.key.value p.table_id p.id p.me.0 _ _ c.word-word.result c.take-slot.result same c.seat.invariant.live c.close_with-closed.ensures.values.2 c.word-word.ensures c.take-slot.ensures.value in
    rw (← c.seat.view_is, ← c.self.view_is) (closes_with t.shared.key.value _ c.word-word.result c.take-slot.result c.handed_over.result found c.handed_over.ensures.ok)
