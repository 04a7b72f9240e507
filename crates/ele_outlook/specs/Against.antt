-- What a forecast keeps at the first of its moments, and what another tool keeps, by its labels, a line for each.
use Rattle.std.specs.Prelude.{◌≡◌, ℕ, Bool, true, false, List, [], ◌∷◌, ◌++◌, Option, Some, None, codes, map, slice_get}
use Rattle.ele_against.specs.Compared.{IsCompared}
use Rattle.ele_against.specs.ComparedCsv.{compared_csv, heading_text}
use Rattle.ele_against.specs.ComparedJson.{compared_json}
use Rattle.ele_against.specs.ComparedTable.{compared_text, unknown_text}
use Rattle.ele_against.specs.declared.compared.Compared.{Compared}
use Rattle.ele_forecast.specs.declared.forecast.Forecast.{Forecast}
use Rattle.ele_forecast_text.specs.Plan.{versions_of}
use Rattle.ele_forecast_text.specs.declared.details.Details.{Details}
use Rattle.ele_forecast_text.specs.declared.label.Label.{Label}
use Rattle.ele_forecast_text.specs.declared.plan.Plan.{Plan}
use Rattle.ele_forecast_text.specs.declared.staying.Staying.{Staying}
use Rattle.ele_rule_forecast.specs.declared.judged.Judged.{Judged}
use Rattle.ele_svg.specs.ComparedDrawing.{compared_drawing}
use Rattle.ele_outlook.specs.Input.{lines_of}
use Rattle.ele_outlook.specs.Parts.{stayings_of, texts_of}
use Rattle.ele_outlook.specs.declared.options.Form.{Form}
use Rattle.ele_outlook.specs.declared.options.Form.TheVariants.{Against, AgainstDrawing}
use Rattle.ele_outlook.specs.declared.options.Layout.{Layout}
use Rattle.ele_outlook.specs.declared.options.Layout.TheVariants.{Table, Json, Csv}

-- which form compares what is kept
abbrev pub compares : Form → Bool
compares AgainstDrawing = true
compares (Against layout) = true
compares form = false

-- the moments, with the versions that are kept then: by the first of the rules, or without a rule under the first policy
abbrev pub kept_here : List Plan → List Judged → List Staying
kept_here plans [] = stayings_of plans
kept_here plans (judged ∷ others) = map (λ verdict. verdict.staying) judged.verdicts.items

-- the rule or the policy by which they are kept, as it was given
abbrev pub word_here : List Plan → List Judged → List ℕ
word_here [] [] = []
word_here (plan ∷ plans) [] = plan.word.items
word_here plans (judged ∷ others) = judged.word.items

-- who keeps the versions at the moment of the staying, where the other labels are the lines of this text
pub record AreComparedAt (labels : List Label) (forecasts : List Forecast) (others : List ℕ) (staying : Staying) (compared : Compared) : Type 0 where
  pub names : List Label
  pub lines : texts_of names ≡ lines_of others
  pub are : IsCompared labels forecasts staying names compared

-- the same at the moment of this staying, if there is one
abbrev pub AreComparedFor : List Label → List Forecast → List ℕ → Option Staying → Option Compared → Type 0
AreComparedFor labels forecasts others None compared = compared ≡ None
AreComparedFor labels forecasts others (Some staying) None = ⊥
AreComparedFor labels forecasts others (Some staying) (Some compared) = AreComparedAt labels forecasts others staying compared

-- at the first of the moments, if it is wanted
abbrev pub AreCompared : Bool → List Label → List Plan → List Judged → List ℕ → Option Compared → Type 0
AreCompared false labels plans judged others compared = compared ≡ None
AreCompared true labels plans judged others compared =
    AreComparedFor labels (versions_of plans) others (slice_get (kept_here plans judged) 0) compared

-- in which the word says by what versions are kept here
abbrev pub against_text : Layout → Details → List ℕ → Option Compared → List ℕ
against_text layout details word None = []
against_text Table details word (Some compared) = compared_text details word compared ++ unknown_text compared.unknown.items
against_text Json details word (Some compared) = compared_json details compared ++ codes "\n"
against_text Csv details word (Some compared) = heading_text details ++ compared_csv details word compared

-- the same as a drawing with this title
abbrev pub against_drawing : List ℕ → Details → List Plan → List Judged → Option Compared → List ℕ
against_drawing title details plans judged None = []
against_drawing title details plans judged (Some compared) =
    compared_drawing title (word_here plans judged) details (versions_of plans) compared
