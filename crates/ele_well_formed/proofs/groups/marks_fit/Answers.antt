use Rattle.std.proofs.lemmas.Result.{IfOk-weaker}
use Rattle.std.specs.Prelude.{IsTrue, ◌↔◌}
use Rattle.ele_well_formed.proofs.Words.{AllByRecursion, AllLater, AreMarks, IsMark, MarkRow, arith, false, later-map, map, map-later, ℕ, ◌==◌, ◌∙◌, ◌≡◌}
use Rattle.ele_well_formed.proofs.groups.marks_fit.Goals as goal

pub returns : goal.returns
returns c =
    let marks = c.args.marks.now in
    let each : AllByRecursion (IsMark c.args.moment) marks = c.all_fit.ensures.0 (grind (arith, c.if-not-all_fit.false)) in
    let items : c.deref.result.now ≡ map (λ (mark : MarkRow). mark.at) marks = c.deref.ensures.value ∙ c.in_ok-moments.ensures in
    IfOk-weaker c.are_different.result (λ different. IsTrue different ↔ AllLater (λ (x y : ℕ). (x == y) ≡ false) c.deref.result.now) (λ fit. IsTrue fit ↔ AreMarks c.args.moment marks)
    (λ fit h. ((λ t. record { each = each; once = map-later (λ (mark : MarkRow). mark.at) (λ (x y : ℕ). (x == y) ≡ false) marks (rw items at (h.0 t)) }), (λ are. h.1 (rw items (later-map (λ (mark : MarkRow). mark.at) (λ (x y : ℕ). (x == y) ≡ false) marks are.once)))))
    c.are_different.ensures
