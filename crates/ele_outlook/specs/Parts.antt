-- Parts of plans, and the texts of labels.
use Rattle.std.specs.Prelude.{ℕ, List, [], ◌∷◌, map}
use Rattle.ele_forecast_text.specs.declared.label.Label.{Label}
use Rattle.ele_forecast_text.specs.declared.plan.Plan.{Plan}
use Rattle.ele_forecast_text.specs.declared.staying.Staying.{Staying}

-- the moments of the first plan, with the versions that stay then
abbrev pub stayings_of : List Plan → List Staying
stayings_of [] = []
stayings_of (plan ∷ plans) = plan.stayings.items

abbrev pub texts_of : List Label → List (List ℕ)
texts_of labels = map (λ label. label.text.items) labels
