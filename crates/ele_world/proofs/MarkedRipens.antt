-- When a version ripens that marks cover.
use Rattle.ele_model.proofs.Basics.{◌≡◌, ℕ, Bool, false, Option, Some, ap, sym, ◌∙◌, IfSome, AllByRecursion, all-split, option_and_then, refl}
use Rattle.ele_model.proofs.Words.{IsLawful, Policy, HasParts, World, beside, cover_by, file_view, is_open, ripe_in, ripe_past}
use Rattle.ele_policy.specs.RipeCase.{ripe_by}
use Rattle.ele_model.specs.Due.{ripe_of}
use Rattle.ele_model.proofs.Readers.{numbers_are}
use Rattle.ele_model.proofs.RipeMoments.{ripe_if, ripe_told}
use Rattle.ele_model.proofs.Views.{closings_in_order, view_is}
use Rattle.ele_world.proofs.Words.{VersionRow}
use Rattle.ele_world.specs.MarkedRipens.{RipensPastMarks}

-- by its policy and its end, if no handle reads it
by_cover : (w : World) (row : VersionRow) (policy : Policy) (ended : ℕ) → IfSome (file_view w row.file).policy IsLawful → (file_view w row.file).policy ≡ Some policy → row.ended ≡ Some ended → is_open w.handles row.file row.number ≡ false
    → ripe_in (file_view w row.file) row ≡ option_and_then (ripe_past (cover_by row.closed (Some ended) (file_view w row.file).marks)) (ripe_by policy row.closed (beside (file_view w row.file) row) ended)
by_cover w row policy ended governed filed ends unread =
    let v = file_view w row.file in
    ripe_told v row governed
    ∙ ap (λ (b : Bool). ripe_if b v row v.policy row.ended) (numbers_are w.handles row.file row.number ∙ unread)
    ∙ ap (λ (p : Option Policy). ripe_if false v row p row.ended) filed
    ∙ ap (λ (e : Option ℕ). ripe_if false v row (Some policy) e) ends

pub marked_ripens : (w : World) → HasParts w → AllByRecursion (RipensPastMarks w) w.versions
unfolding ripe_of
marked_ripens w k = all-split (RipensPastMarks w) w.versions (λ before row behind whole policy ended answer filed ends unread is.
    let v = file_view w row.file in
    let view = view_is w k row.file in
    let told : answer ≡ ripe_by policy row.closed (beside v row) ended = is (beside v row) (record { in_order = closings_in_order w before row behind view whole; next = refl; enough = refl }) in
    by_cover w row policy ended view.governed filed ends unread ∙ ap (λ (m : Option ℕ). option_and_then (ripe_past (cover_by row.closed (Some ended) v.marks)) m) (sym told))
