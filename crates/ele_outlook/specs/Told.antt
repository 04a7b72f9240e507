-- The text of a forecast, in each form.
use Rattle.std.specs.Prelude.{◌≡◌, ◌≢◌, ◌⊎◌, ℕ, ◌==◌, ◌&&◌, ◌||◌, min, nat_lt, not, Bool, true, false, List, [], ◌∷◌, ◌++◌, codes, decimal, length, map, unwrap_or}
use Rattle.std.specs.List.{AllZip}
use Rattle.ele_forecast.specs.declared.forecast.Forecast.{Forecast}
use Rattle.ele_svg.specs.Drawing.{bytes_text, drawing_text, drawn_moments}
use Rattle.ele_svg.specs.Summary.{column_moments}
use Rattle.ele_policy.specs.PolicyText.{policy_word}
use Rattle.ele_forecast_forms.specs.Compared.{compared_text}
use Rattle.ele_forecast_forms.specs.OverTime.{AreCountsAt, AreCountsEvery, is_too_long, over_time_text}
use Rattle.ele_forecast_forms.specs.declared.counts.Counts.{Counts}
use Rattle.ele_forecast_forms.specs.Csv.{csv_text}
use Rattle.ele_forecast_forms.specs.Json.{members_text}
use Rattle.ele_forecast_forms.specs.Parts.{part_if}
use Rattle.ele_forecast_text.specs.Labels.{listed_at, names_text}
use Rattle.ele_forecast_text.specs.Plan.{ArePlans}
use Rattle.ele_forecast_text.specs.Table.{table_text}
use Rattle.ele_forecast_text.specs.declared.details.Columns.{Columns}
use Rattle.ele_forecast_text.specs.declared.details.Details.{Details}
use Rattle.ele_forecast_text.specs.declared.plan.Plan.{Plan}
use Rattle.ele_forecast_text.specs.declared.staying.Staying.{Staying}
use Rattle.ele_rule_parts.specs.declared.row.Row.{Row}
use Rattle.ele_tool_words.specs.declared.zone.Offset.{Offset}
use Rattle.ele_tool_words.specs.declared.zone.Offset.TheVariants.{Ahead}
use Rattle.ele_rule_forecast.specs.Judged.{AreJudged}
use Rattle.ele_rule_forecast.specs.RuledCsv.{ruled_csv}
use Rattle.ele_rule_forecast.specs.RuledJson.{rules_member}
use Rattle.ele_rule_forecast.specs.RuledTable.{ruled_text}
use Rattle.ele_rule_forecast.specs.declared.judged.Judged.{Judged}
use Rattle.ele_space.specs.Amounts.{AreAmountsAt}
use Rattle.ele_space.specs.AmountsText.{amounts_csv, amounts_text}
use Rattle.ele_space.specs.declared.amounts.Amount.{Amount}
use Rattle.ele_space.specs.declared.amounts.Amounts.{Amounts}
use Rattle.ele_space.specs.Removals.{AreRemovals, removals_member, removals_text}
use Rattle.ele_space.specs.declared.removals.Removals.{Removals}
use Rattle.ele_outlook.specs.Against.{AreCompared, against_drawing, against_text, compares, word_here}
use Rattle.ele_outlook.specs.Input.{closings_of}
use Rattle.ele_outlook.specs.Parts.{texts_of}
use Rattle.ele_outlook.specs.Suggested.{IsSuggested, suggested_text, suggests}
use Rattle.ele_outlook.specs.declared.found.Found.{Found}
use Rattle.ele_outlook.specs.declared.options.ForecastOptions.{ForecastOptions}
use Rattle.ele_outlook.specs.declared.options.Form.{Form}
use Rattle.ele_outlook.specs.declared.options.Form.TheVariants.{Table, Drawing, BytesDrawing, Due, Kept, Json, Csv, Every, EveryCsv, AgainstDrawing, Against, Suggest}
use Rattle.ele_outlook.specs.declared.options.LineForm.{LineForm}

-- the numbers of the listed versions: those that are due at the first of the moments, or kept then
abbrev pub numbers_at : Form → List Forecast → List Staying → List ℕ
numbers_at form forecasts [] = []
numbers_at Due forecasts (staying ∷ others) = listed_at false forecasts staying
numbers_at Kept forecasts (staying ∷ others) = listed_at true forecasts staying
numbers_at Table forecasts (staying ∷ others) = []
numbers_at Drawing forecasts (staying ∷ others) = []
numbers_at BytesDrawing forecasts (staying ∷ others) = []
numbers_at Json forecasts (staying ∷ others) = []
numbers_at Csv forecasts (staying ∷ others) = []
numbers_at (Every step) forecasts (staying ∷ others) = []
numbers_at (EveryCsv step) forecasts (staying ∷ others) = []
numbers_at AgainstDrawing forecasts (staying ∷ others) = []
numbers_at (Against layout) forecasts (staying ∷ others) = []
numbers_at (Suggest layout) forecasts (staying ∷ others) = []

abbrev pub listed_numbers : Form → List Plan → List ℕ
listed_numbers form [] = []
listed_numbers form (plan ∷ plans) = numbers_at form plan.forecasts.items plan.stayings.items

-- a line with the policy, if it is wanted
abbrev pub policy_line : Bool → Plan → List ℕ
policy_line false plan = []
policy_line true plan = codes "policy " ++ (policy_word plan.policy ++ codes "\n")

-- the table of one policy, or of several side by side, with this number of moments
abbrev pub plain_table : Bool → Details → List Plan → ℕ → List ℕ
plain_table named details [] moments = compared_text details [] moments
plain_table named details (plan ∷ []) moments = policy_line named plan ++ table_text details plan
plain_table named details (plan ∷ next ∷ plans) moments = compared_text details (plan ∷ next ∷ plans) moments

-- the same, with what rules keep if there are rules
abbrev pub told_table : Bool → Details → List Plan → ℕ → List Judged → List ℕ
told_table named details plans moments [] = plain_table named details plans moments
told_table named details plans moments (judged ∷ others) = ruled_text details plans moments (judged ∷ others)

-- policies are named beside others, and beside rules
abbrev pub names_policies : List Plan → List Judged → Bool
names_policies plans rules = not (length rules == 0) || nat_lt 1 (length plans)

-- the table, with a line for each moment and policy about what the removals free, if there are some
abbrev pub freed_table : ForecastOptions → Details → List Plan → Found → List ℕ
freed_table options details plans found =
    told_table options.named details plans (length options.moments.items) found.judged.items
    ++ removals_text (names_policies plans found.judged.items) details found.removals.items

-- the rules and the removals of an object, if there are some
abbrev pub rules_part : Details → List Plan → List Judged → List ℕ
rules_part details plans rules = part_if (not (length rules == 0)) (rules_member details plans rules)

abbrev pub removals_part : Details → List Removals → List ℕ
removals_part details removals = part_if (not (length removals == 0)) (removals_member details removals)

-- these, before the policies and the versions
abbrev pub told_json : Details → List Plan → List Judged → List Removals → List ℕ
told_json details plans rules removals =
    codes "{" ++ (rules_part details plans rules ++ (removals_part details removals ++ members_text details plans))

-- a table over time, with bytes if versions have sizes
abbrev pub told_over_time : Bool → List Plan → Found → List ℕ
told_over_time false plans found = over_time_text plans found.counts.items
told_over_time true plans found = amounts_text plans found.amounts.items

abbrev pub told_csv : Details → List Plan → List Judged → List ℕ
told_csv details plans [] = csv_text details plans
told_csv details plans (judged ∷ others) = ruled_csv details plans (judged ∷ others)

abbrev pub told_text : Form → ForecastOptions → Details → List Plan → Found → List ℕ
told_text Table options details plans found = freed_table options details plans found
told_text Drawing options details plans found = drawing_text options.title.items plans found.counts.items
told_text BytesDrawing options details plans found = bytes_text options.title.items plans found.bytes.items
told_text Due options details plans found = names_text details.labels.items found.listed.items
told_text Kept options details plans found = names_text details.labels.items found.listed.items
told_text Json options details plans found = told_json details plans found.judged.items found.removals.items
told_text Csv options details plans found = told_csv details plans found.judged.items
told_text (Every step) options details plans found = told_over_time options.sizes plans found
told_text (EveryCsv step) options details plans found = amounts_csv options.sizes plans found.amounts.items
told_text AgainstDrawing options details plans found =
    against_drawing options.title.items details plans found.judged.items found.compared
told_text (Against layout) options details plans found = against_text layout details (word_here plans found.judged.items) found.compared
told_text (Suggest layout) options details plans found = suggested_text layout options.sizes found.suggested

abbrev pub told_of : ForecastOptions → Details → List Plan → Found → List ℕ
told_of options details plans found = told_text options.form options details plans found

-- the rows of a table over time count the versions that stay at its moments, and those of a drawing at the moments of its curves' points;
-- another form has none
abbrev pub AreRows : Form → List ℕ → List Plan → List Counts → Type 0
AreRows Table closings plans rows = rows ≡ []
AreRows Drawing closings plans rows = AreCountsAt (drawn_moments plans) closings plans rows
AreRows BytesDrawing closings plans rows = rows ≡ []
AreRows Due closings plans rows = rows ≡ []
AreRows Kept closings plans rows = rows ≡ []
AreRows Json closings plans rows = rows ≡ []
AreRows Csv closings plans rows = rows ≡ []
AreRows (Every step) closings plans rows = AreCountsEvery step closings plans rows
AreRows (EveryCsv step) closings plans rows = AreCountsEvery step closings plans rows
AreRows AgainstDrawing closings plans rows = rows ≡ []
AreRows (Against layout) closings plans rows = rows ≡ []
AreRows (Suggest layout) closings plans rows = rows ≡ []

-- the moments of the rows of a table over time, if it has bytes
abbrev pub moments_if : Bool → List Counts → List ℕ
moments_if false rows = []
moments_if true rows = map (λ row. row.at) rows

-- the moments of the points of the curves, if there is a policy
abbrev pub points_of : List Plan → List ℕ
points_of [] = []
points_of (plan ∷ plans) = column_moments (plan ∷ plans)

-- the moments at which the form shows the bytes that stay
abbrev pub amount_moments : Form → Bool → List Plan → List Counts → List ℕ
amount_moments Table sizes plans rows = []
amount_moments Drawing sizes plans rows = []
amount_moments BytesDrawing sizes plans rows = points_of plans
amount_moments Due sizes plans rows = []
amount_moments Kept sizes plans rows = []
amount_moments Json sizes plans rows = []
amount_moments Csv sizes plans rows = []
amount_moments (Every step) sizes plans rows = moments_if sizes rows
amount_moments (EveryCsv step) sizes plans rows = moments_if true rows
amount_moments AgainstDrawing sizes plans rows = []
amount_moments (Against layout) sizes plans rows = []
amount_moments (Suggest layout) sizes plans rows = []

-- a curve shows at most the largest number of 64 bits
abbrev pub drawn_bytes : Amount → ℕ
drawn_bytes amount = min amount.bytes 18446744073709551615

-- the bytes of amounts, as the points of curves
pub record IsByteRow (row : Amounts) (drawn : Counts) : Type 0 where
  pub at_is : drawn.at ≡ row.at
  pub bytes_are : drawn.counts.items ≡ map drawn_bytes row.amounts.items

-- a drawing of bytes has these points, and another form has none
abbrev pub AreDrawn : Form → List Amounts → List Counts → Type 0
AreDrawn Table amounts drawn = drawn ≡ []
AreDrawn Drawing amounts drawn = drawn ≡ []
AreDrawn BytesDrawing amounts drawn = AllZip IsByteRow amounts drawn
AreDrawn Due amounts drawn = drawn ≡ []
AreDrawn Kept amounts drawn = drawn ≡ []
AreDrawn Json amounts drawn = drawn ≡ []
AreDrawn Csv amounts drawn = drawn ≡ []
AreDrawn (Every step) amounts drawn = drawn ≡ []
AreDrawn (EveryCsv step) amounts drawn = drawn ≡ []
AreDrawn AgainstDrawing amounts drawn = drawn ≡ []
AreDrawn (Against layout) amounts drawn = drawn ≡ []
AreDrawn (Suggest layout) amounts drawn = drawn ≡ []

-- which forms list the versions that are due at each moment
abbrev pub lists_due : Form → Bool
lists_due Table = true
lists_due Json = true
lists_due Drawing = false
lists_due BytesDrawing = false
lists_due Due = false
lists_due Kept = false
lists_due Csv = false
lists_due (Every step) = false
lists_due (EveryCsv step) = false
lists_due AgainstDrawing = false
lists_due (Against layout) = false
lists_due (Suggest layout) = false

-- they do so if versions have sizes and a moment is given
abbrev pub has_removals : ForecastOptions → Bool
has_removals options = lists_due options.form && (options.sizes && not (length options.moments.items == 0))

-- the removals under each of the plans, if they are wanted
abbrev pub AreFreed : Bool → List Plan → List Removals → Type 0
AreFreed false plans removals = removals ≡ []
AreFreed true plans removals = AllZip AreRemovals plans removals

-- a table over time has at most 400 moments
abbrev pub is_over : Form → List Plan → Bool
is_over Table plans = false
is_over Drawing plans = false
is_over BytesDrawing plans = false
is_over Due plans = false
is_over Kept plans = false
is_over Json plans = false
is_over Csv plans = false
is_over (Every step) plans = is_too_long step plans
is_over (EveryCsv step) plans = is_too_long step plans
is_over AgainstDrawing plans = false
is_over (Against layout) plans = false
is_over (Suggest layout) plans = false

-- only in JSON of versions must a label be UTF-8
abbrev pub is_json : Form → Bool
is_json Json = true
is_json Table = false
is_json Drawing = false
is_json BytesDrawing = false
is_json Due = false
is_json Kept = false
is_json Csv = false
is_json (Every step) = false
is_json (EveryCsv step) = false
is_json AgainstDrawing = false
is_json (Against layout) = false
is_json (Suggest layout) = false

-- the clock of a time that names no offset
abbrev pub clock_of : ForecastOptions → Offset
clock_of options = unwrap_or options.clock (Ahead 0)

-- the fields that the lines of an input must have
abbrev pub line_form : ForecastOptions → LineForm
line_form options = record { columns = record { labels = options.labels; sizes = options.sizes }; texts = is_json options.form; clock = clock_of options }

-- the details of versions: these columns, with these labels and the sizes that these words spell
pub record AreDetails (columns : Columns) (texts words : List (List ℕ)) (details : Details) : Type 0 where
  pub columns_are : details.columns ≡ columns
  pub labels_are : texts_of details.labels.items ≡ texts
  pub sizes_are : map decimal details.sizes.items ≡ words

-- what the form shows of versions with these rows and details beside their plans: what the rules keep, the listed numbers, the counts, the
-- bytes and their curves, what the removals free, what another tool keeps, and which policy is suggested
pub record IsFound (options : ForecastOptions) (rows : List Row) (details : Details) (plans : List Plan) (found : Found) : Type 0 where
  pub judged : AreJudged options.rules.items rows options.moments.items found.judged.items
  pub listed : found.listed.items ≡ listed_numbers options.form plans
  pub counts : AreRows options.form (closings_of rows) plans found.counts.items
  pub amounts : AreAmountsAt (amount_moments options.form options.sizes plans found.counts.items) (closings_of rows) details.sizes.items plans found.amounts.items
  pub bytes : AreDrawn options.form found.amounts.items found.bytes.items
  pub removals : AreFreed (has_removals options) plans found.removals.items
  pub compared : AreCompared (compares options.form) details.labels.items plans found.judged.items options.others.items found.compared
  pub suggested : IsSuggested (suggests options.form) options.keep (clock_of options) details.sizes.items (closings_of rows) options.moments.items found.suggested

-- the text is a forecast in the form of the options: what becomes of the versions with these rows, labels and sizes under
-- each policy, what each rule keeps, and which stay at each moment
pub record IsForecastText (options : ForecastOptions) (rows : List Row) (texts words : List (List ℕ)) (text : List ℕ) : Type 0 where
  pub plans : List Plan
  pub are : ArePlans options.policies.items (closings_of rows) options.moments.items plans
  pub details : Details
  pub detailed : AreDetails (line_form options).columns texts words details
  pub short : is_over options.form plans ≡ false
  pub found : Found
  pub found_is : IsFound options rows details plans found
  pub text_is : text ≡ told_of options details plans found

-- versions with these rows have too many moments for a table over time
pub record IsOver (options : ForecastOptions) (rows : List Row) : Type 0 where
  pub plans : List Plan
  pub are : ArePlans options.policies.items (closings_of rows) options.moments.items plans
  pub long : is_over options.form plans ≡ true

-- a moment is given, there is a policy or a rule, or a policy is suggested
abbrev pub AsksMuch : ForecastOptions → Type 0
AsksMuch options = (options.moments.items ≢ []) ⊎ (options.policies.items ≢ []) ⊎ (options.rules.items ≢ []) ⊎ (suggests options.form ≡ true)
