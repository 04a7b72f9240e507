-- A forecast that is asked for takes so many policies, moments and rules.
use Rattle.std.proofs.Common.{◌≡◌, ◌∙◌, ℕ, List, Option, Result, Ok, Err, IfErr, Some, None, Bor, codes, is_some, length, map, option_map, ap, arith}
use Rattle.std.proofs.lemmas.List.{length-map}
use Rattle.clap.specs.Words.{Row, Text}
use Rattle.ele_outlook.specs.declared.options.Form.{Form}
use Rattle.ele_outlook.specs.declared.options.ForecastOptions.{ForecastOptions}
use Rattle.ele_invocation.specs.Forecasts.{AsksForecast, Fits, IsForm, IsPlainForm, answer_of}
use Rattle.ele_invocation.specs.Matches.{is_given, is_on, values_of}
use Rattle.ele_invocation.specs.Unread.{NoneAsks}
use Rattle.ele_invocation.specs.declared.reading.Unread.{Unread}
use Rattle.ele_invocation.proofs.Spelled.{none_at_all}

same_form : (a b : Form) → ◌≡◌ {A = Result Form Unread} (Ok a) (Ok b) → a ≡ b
same_form a b e = cc

-- if it has this form, these words of policies, these times and these rules
pub asks_fit : (now : Option ℕ) (rows : List Row) (ask : ForecastOptions) (form : Form) (policies times names : List (Bor Text)) → ((f : Form) → IsForm rows f → ◌≡◌ {A = Result Form Unread} (Ok form) (Ok f))
    → values_of (codes "policy") rows ≡ map (λ (word : Bor Text). word.now) policies → values_of (codes "at") rows ≡ map (λ (word : Bor Text). word.now) times
    → values_of (codes "rule") rows ≡ map (λ (word : Bor Text). word.now) names → AsksForecast now rows ask → Fits rows form (length policies) (length times) (length names)
asks_fit now rows ask form policies times names only policy at rule asks =
    let same : form ≡ ask.form = same_form form ask.form (only ask.form asks.form) in
    let many : length policies ≡ length (values_of (codes "policy") rows) = omega (arith, ap length policy, length-map policies (λ (word : Bor Text). word.now)) in
    let moments : length times ≡ length (values_of (codes "at") rows) = omega (arith, ap length at, length-map times (λ (word : Bor Text). word.now)) in
    let rules : length names ≡ length (values_of (codes "rule") rows) = omega (arith, ap length rule, length-map names (λ (word : Bor Text). word.now)) in
    rw (same, many, moments, rules) asks.fit

-- the only form beside no answer gives the only form
pub only_answer : (rows : List Row) (plain form : Form) (given : Option Form) → ((f : Form) → IsPlainForm rows f → ◌≡◌ {A = Result Form Unread} (Ok plain) (Ok f))
    → given ≡ answer_of (is_given (codes "against") rows) (is_on (codes "suggest") rows) plain → IsForm rows form → given ≡ Some form
only_answer rows plain form given only answered is =
    answered ∙ ap (answer_of (is_given (codes "against") rows) (is_on (codes "suggest") rows)) (same_form plain is.plain (only is.plain is.plain_is)) ∙ is.answered

-- a value is given, if there is one
pub some_given : (o : Option (Bor Text)) (got : Option Text) → option_map (λ v. v.now) o ≡ got → is_some o ≡ is_some got
some_given None got e = ap is_some e
some_given (Some v) got e = ap is_some e

err_ok : (why : Unread) (form : Form) → ◌≡◌ {A = Result Form Unread} (Err why) (Ok form) → ⊥
err_ok why form e = absurd cc

-- words that have no form ask for no forecast, whatever the reason
pub no_form : {T : Type 0} (now : Option ℕ) (rows : List Row) (why : Unread) (r : Result T Unread) → ((f : Form) → IsForm rows f → ◌≡◌ {A = Result Form Unread} (Err why) (Ok f)) → IfErr r (NoneAsks (AsksForecast now rows))
no_form now rows why (Ok t) only = tt
no_form now rows why (Err other) only = none_at_all (AsksForecast now rows) other (λ ask asks. err_ok why ask.form (only ask.form asks.form))
