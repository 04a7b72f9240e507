-- The tables of plans, and their moments.
use Rattle.std.proofs.Common.{◌≡◌, ◌≢◌, ℕ, ◌⊎◌, inl, inr, Bool, true, false, List, [], ◌∷◌, length, map, refl, ap, subst, ◌∙◌, ◌==◌, arith}
use Rattle.std.proofs.lemmas.Bool.Decides.{nat_tests}
use Rattle.ele_forecast_forms.specs.Compared.{compared_text}
use Rattle.ele_forecast.specs.FileOf.{lives_from}
use Rattle.ele_forecast.specs.ForecastOf.{told_life}
use Rattle.ele_forecast.specs.declared.forecast.Forecast.{Forecast}
use Rattle.ele_forecast_text.specs.Plan.{ArePlans, versions_of}
use Rattle.ele_forecast_text.specs.declared.details.Details.{Details}
use Rattle.ele_forecast_text.specs.declared.plan.AskedPolicy.{AskedPolicy}
use Rattle.ele_forecast_text.specs.declared.plan.Plan.{Plan}
use Rattle.ele_forecast_text.specs.declared.staying.Staying.{Staying}
use Rattle.std.specs.Prelude.{decimal}
use Rattle.ele_svg.specs.Drawing.{has_curves}
use Rattle.ele_rule_parts.specs.declared.row.Row.{Row}
use Rattle.ele_rule_forecast.specs.Judged.{AreJudged}
use Rattle.ele_rule_forecast.specs.RuledCsv.{ruled_csv}
use Rattle.ele_rule_forecast.specs.RuledTable.{ruled_text}
use Rattle.ele_rule_forecast.specs.declared.judged.AskedRule.{AskedRule}
use Rattle.ele_rule_forecast.specs.declared.judged.Judged.{Judged}
use Rattle.ele_forecast_forms.specs.Csv.{csv_text}
use Rattle.ele_forecast_forms.specs.declared.counts.Counts.{Counts}
use Rattle.ele_space.specs.Amounts.{AreAmountsAt}
use Rattle.ele_outlook.specs.declared.options.Form.{Form}
use Rattle.ele_outlook.specs.declared.options.Form.TheVariants.{Table, Drawing, BytesDrawing, Due, Kept, Json, Csv, Every, EveryCsv, AgainstDrawing, Against, Suggest}
use Rattle.ele_outlook.specs.Reading.{IsFoundIn, IsOfForm, MayLack}
use Rattle.ele_outlook.specs.declared.input.ReadLines.{ReadLines}
use Rattle.ele_outlook.specs.declared.found.Found.{Found}
use Rattle.ele_outlook.specs.declared.options.ForecastOptions.{ForecastOptions}
use Rattle.ele_outlook.specs.Suggested.{IsSuggested, suggests}
use Rattle.ele_outlook.specs.Parts.{stayings_of, texts_of}
use Rattle.ele_outlook.specs.Told.{AreRows, AsksMuch, IsForecastText, IsOver, amount_moments, clock_of, is_over, plain_table, told_csv, told_of, told_table}

-- the table of several plans, or none
pub compared_for : (named : Bool) (details : Details) (plans : List Plan) (moments : ℕ) → length plans ≢ 1 → compared_text details plans moments ≡ plain_table named details plans moments
compared_for named details [] moments several = refl
compared_for named details (plan ∷ []) moments several = absurd (several refl)
compared_for named details (plan ∷ next ∷ plans) moments several = refl

no_stayings : (stayings : List Staying) (moments : List ℕ) → map (λ (staying : Staying). staying.at) stayings ≡ moments → moments ≡ [] → stayings ≡ []
no_stayings [] moments at none = refl
no_stayings (staying ∷ stayings) moments at none = absurd (let e : map (λ (staying : Staying). staying.at) (staying ∷ stayings) ≡ [] = at ∙ none in cc)

-- if there is a staying, a moment is given
pub asked : (policies : List AskedPolicy) (closings moments : List ℕ) (plans : List Plan) → ArePlans policies closings moments plans → stayings_of plans ≢ [] → moments ≢ []
asked policies closings moments [] are some none = some refl
asked [] closings moments (plan ∷ plans) are some none = are
asked (policy ∷ policies) closings moments (plan ∷ plans) are some none = some (no_stayings plan.stayings.items moments are.0.stay.at none)

no_forecasts : (forecasts : List Forecast) (closings : List ℕ) → map told_life forecasts ≡ lives_from 1 closings → closings ≡ [] → forecasts ≡ []
no_forecasts [] closings lives none = refl
no_forecasts (told ∷ forecasts) closings lives none = absurd (let e : map told_life (told ∷ forecasts) ≡ [] = lives ∙ ap (lives_from 1) none in cc)

-- if there is a forecast, there is a closing
pub closed_some : (policies : List AskedPolicy) (closings moments : List ℕ) (plans : List Plan) → ArePlans policies closings moments plans → versions_of plans ≢ [] → closings ≢ []
closed_some policies closings moments [] are some none = some refl
closed_some [] closings moments (plan ∷ plans) are some none = are
closed_some (policy ∷ policies) closings moments (plan ∷ plans) are some none = some (no_forecasts plan.forecasts.items closings are.0.told.lives none)

-- if a drawing has curves, there is a policy
pub drawn_some : (policies : List AskedPolicy) (closings moments : List ℕ) (plans : List Plan) → ArePlans policies closings moments plans → has_curves plans ≡ true → policies ≢ []
drawn_some [] closings moments [] are drawn = absurd cc
drawn_some [] closings moments (plan ∷ plans) are drawn = absurd are
drawn_some (policy ∷ policies) closings moments plans are drawn = λ none. absurd cc

-- if there is a plan, there is a policy
pub planned_some : (policies : List AskedPolicy) (closings moments : List ℕ) (plans : List Plan) → ArePlans policies closings moments plans → plans ≢ [] → policies ≢ []
planned_some [] closings moments [] are some = absurd (some refl)
planned_some [] closings moments (plan ∷ plans) are some = absurd are
planned_some (policy ∷ policies) closings moments plans are some = λ none. absurd cc

-- there was no memory for what the form shows
pub unfound : (options : ForecastOptions) (closings : List ℕ) (plans : List Plan) → ArePlans options.policies.items closings options.moments.items plans → MayLack options plans → (closings ≢ []) ⊎ AsksMuch options
unfound options closings plans are (inl rules) = inr (inr (inr (inl rules)))
unfound options closings plans are (inr (inl some)) = inr (inl some)
unfound options closings plans are (inr (inr (inl some))) = inr (inl (asked options.policies.items closings options.moments.items plans are some))
unfound options closings plans are (inr (inr (inr (inl some)))) = inl (closed_some options.policies.items closings options.moments.items plans are some)
unfound options closings plans are (inr (inr (inr (inr (inl drawn))))) = inr (inr (inl (drawn_some options.policies.items closings options.moments.items plans are drawn)))
unfound options closings plans are (inr (inr (inr (inr (inr (inl some)))))) = inr (inr (inl (planned_some options.policies.items closings options.moments.items plans are some)))
unfound options closings plans are (inr (inr (inr (inr (inr (inr wanted)))))) = inr (inr (inr (inr wanted)))

-- if the form shows bytes at some moment, there is a row or a plan
pub shown_some : (form : Form) (sizes : Bool) (plans : List Plan) (rows : List Counts) → amount_moments form sizes plans rows ≢ [] → (rows ≢ []) ⊎ (plans ≢ [])
shown_some Table sizes plans rows some = absurd (some refl)
shown_some Drawing sizes plans rows some = absurd (some refl)
shown_some BytesDrawing sizes [] rows some = absurd (some refl)
shown_some BytesDrawing sizes (plan ∷ plans) rows some = inr (λ none. absurd cc)
shown_some Due sizes plans rows some = absurd (some refl)
shown_some Kept sizes plans rows some = absurd (some refl)
shown_some Json sizes plans rows some = absurd (some refl)
shown_some Csv sizes plans rows some = absurd (some refl)
shown_some (Every step) false plans rows some = absurd (some refl)
shown_some (Every step) true plans (row ∷ rows) some = inl (λ none. absurd cc)
shown_some (Every step) true plans [] some = absurd (some refl)
shown_some (EveryCsv step) sizes plans [] some = absurd (some refl)
shown_some (EveryCsv step) sizes plans (row ∷ rows) some = inl (λ none. absurd cc)
shown_some AgainstDrawing sizes plans rows some = absurd (some refl)
shown_some (Against layout) sizes plans rows some = absurd (some refl)
shown_some (Suggest layout) sizes plans rows some = absurd (some refl)

-- no rules keep nothing
pub none_judged : (rules : List AskedRule) (rows : List Row) (moments : List ℕ) → (length rules == 0) ≡ true → AreJudged rules rows moments []
none_judged [] rows moments e = tt
none_judged (rule ∷ rules) rows moments e = absurd (grind (arith, nat_tests))

pub some_rules : (rules : List AskedRule) → (length rules == 0) ≡ false → rules ≢ []
some_rules [] e = λ none. absurd cc
some_rules (rule ∷ rules) e = λ none. absurd cc

-- the texts with rules, and without
pub plain_for : (named : Bool) (details : Details) (plans : List Plan) (moments : ℕ) (judged : List Judged) → (length judged == 0) ≡ true → plain_table named details plans moments ≡ told_table named details plans moments judged
plain_for named details plans moments [] e = refl
plain_for named details plans moments (one ∷ others) e = grind (arith, nat_tests)

pub ruled_for : (named : Bool) (details : Details) (plans : List Plan) (moments : ℕ) (judged : List Judged) → (length judged == 0) ≡ false → ruled_text details plans moments judged ≡ told_table named details plans moments judged
ruled_for named details plans moments [] e = absurd cc
ruled_for named details plans moments (one ∷ others) e = refl

pub csv_for : (details : Details) (plans : List Plan) (judged : List Judged) → (length judged == 0) ≡ true → csv_text details plans ≡ told_csv details plans judged
csv_for details plans [] e = refl
csv_for details plans (one ∷ others) e = grind (arith, nat_tests)

pub ruled_csv_for : (details : Details) (plans : List Plan) (judged : List Judged) → (length judged == 0) ≡ false → ruled_csv details plans judged ≡ told_csv details plans judged
ruled_csv_for details plans [] e = absurd cc
ruled_csv_for details plans (one ∷ others) e = refl

-- the output for plans is a forecast of what was read
pub is_text : (options : ForecastOptions) (read : ReadLines) (plans : List Plan) (found : Found) → IsOfForm options read → ArePlans options.policies.items read.closings options.moments.items plans
    → is_over options.form plans ≡ false → IsFoundIn options read plans found
    → IsForecastText options read.rows.items (texts_of read.details.labels.items) (map decimal read.details.sizes.items) (told_of options read.details plans found)
is_text options read plans found form are short found_is =
    record {
      plans = plans;
      are = subst (λ (closings : List ℕ). ArePlans options.policies.items closings options.moments.items plans) form.closings are;
      details = read.details;
      detailed = record { columns_are = form.columns; labels_are = refl; sizes_are = refl };
      short = short;
      found = found;
      found_is = record {
        judged = found_is.judged;
        listed = found_is.listed;
        counts = subst (λ (closings : List ℕ). AreRows options.form closings plans found.counts.items) form.closings found_is.counts;
        amounts = subst (λ (closings : List ℕ). AreAmountsAt (amount_moments options.form options.sizes plans found.counts.items) closings read.details.sizes.items plans found.amounts.items) form.closings found_is.amounts;
        bytes = found_is.bytes;
        removals = found_is.removals;
        compared = found_is.compared;
        suggested = subst
            (λ (closings : List ℕ). IsSuggested (suggests options.form) options.keep (clock_of options) read.details.sizes.items closings options.moments.items found.suggested)
            form.closings found_is.suggested;
      };
      text_is = refl;
    }

-- what was read has too many moments
pub too_long : (options : ForecastOptions) (read : ReadLines) (plans : List Plan) → IsOfForm options read → ArePlans options.policies.items read.closings options.moments.items plans → is_over options.form plans ≡ true → IsOver options read.rows.items
too_long options read plans form are long =
    record { plans = plans; are = subst (λ (closings : List ℕ). ArePlans options.policies.items closings options.moments.items plans) form.closings are; long = long }
