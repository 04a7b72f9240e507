-- Which forecast the matches of `forecast` ask for.
use Rattle.std.specs.Prelude.{◌≡◌, ◌+◌, ◌<◌, ◌≤◌, ◌==◌, ◌&&◌, ◌||◌, if◌then◌else◌, nat_eq, nat_lt, not, MatchOption, ℕ, Bool, true, false, List, [], ◌∷◌, Ok, Err, Option, Some, None, length, unwrap_or, codes}
use Rattle.std.specs.Int.{from_bool}
use Rattle.std.specs.List.{All, AllZip, Any, list_any, starts_with}
use Rattle.ele_forecast_text.specs.declared.plan.AskedPolicy.{AskedPolicy}
use Rattle.ele_outlook.specs.declared.options.Form.{Form}
use Rattle.ele_outlook.specs.Against.{compares}
use Rattle.ele_outlook.specs.Suggested.{suggests}
use Rattle.ele_outlook.specs.declared.options.Form.TheVariants.{Table, Drawing, BytesDrawing, Due, Kept, Json, Csv, Every, EveryCsv, AgainstDrawing, Against, Suggest}
use Rattle.ele_outlook.specs.declared.options.ForecastOptions.{ForecastOptions}
use Rattle.ele_outlook.specs.declared.options.Layout.{Layout}
use Rattle.ele_outlook.specs.declared.options.Layout.TheVariants as laid
use Rattle.ele_moment.specs.Number.{SpellsNumber}
use Rattle.ele_peer_rules.specs.Words.{MeansRule}
use Rattle.ele_policy.specs.declared.policy.Policy.{Policy}
use Rattle.ele_printer.specs.declared.fault.LineFault.{LineFault}
use Rattle.ele_rule_forecast.specs.declared.judged.AskedRule.{AskedRule}
use Rattle.ele_script.specs.PolicyWord.{ReadsPolicy}
use Rattle.ele_suggest.specs.Asked.{rise_from}
use Rattle.ele_suggest.specs.Words.{SpellsSpans}
use Rattle.ele_suggest.specs.declared.asked.Asked.{Asked}
use Rattle.ele_suggest.specs.declared.grain.Span.{Span}
use Rattle.ele_tool_words.specs.Length.{SpellsLength}
use Rattle.ele_tool_words.specs.PolicyWord.{MeansPolicy}
use Rattle.ele_tool_words.specs.Time.{SpellsTime}
use Rattle.ele_tool_words.specs.Zone.{SpellsZone}
use Rattle.ele_tool_words.specs.declared.zone.Offset.{Offset}
use Rattle.ele_typed_words.specs.When.{SpellsWhen}
use Rattle.ele_invocation.specs.Matches.{is_given, is_on, values_of}
use Rattle.clap.specs.Words.{Row, Text, all_of, first_of}

-- how many of the forms that exclude each other are asked for; a table over time may be CSV
abbrev pub forms_in : List Row → ℕ
forms_in rows = from_bool (is_on (codes "svg") rows) + from_bool (is_on (codes "json") rows) + from_bool (is_given (codes "list") rows)
    + from_bool (is_on (codes "csv") rows || is_given (codes "every") rows)

-- `--list` has the name of this form
abbrev pub IsList : Text → Form → Type 0
IsList word Due = word ≡ codes "due"
IsList word Kept = word ≡ codes "kept"
IsList word form = ⊥

-- a table over time with these steps, or its CSV
abbrev pub over_time : Bool → ℕ → Form
over_time false step = Every step
over_time true step = EveryCsv step

-- `--every` has the length of its steps, which isn't 0
pub record IsOverTime (csv : Bool) (word : Text) (form : Form) : Type 0 where
  pub step : ℕ
  pub spelled : SpellsLength word step
  pub some : 0 < step
  pub form_is : form ≡ over_time csv step

-- a drawing of bytes if lines have sizes, and else of versions
abbrev pub drawing_of : Bool → Form
drawing_of sizes = if sizes then BytesDrawing else Drawing

-- the form of the flag that is on, or a table
abbrev pub flagged_form : Bool → Bool → Bool → Bool → Form
flagged_form svg sizes json csv = if svg then drawing_of sizes else (if json then Json else (if csv then Csv else Table))

-- the form is the one that is asked for beside no answer, and no other is
pub record IsPlainForm (rows : List Row) (form : Form) : Type 0 where
  pub alone : forms_in rows ≤ 1
  pub asked : MatchOption (first_of (codes "list") rows)
      (MatchOption (first_of (codes "every") rows)
      (form ≡ flagged_form (is_on (codes "svg") rows) (is_on (codes "sizes") rows) (is_on (codes "json") rows) (is_on (codes "csv") rows))
      (λ word. IsOverTime (is_on (codes "csv") rows) word form))
      (λ word. IsList word form)

-- an answer in the layout of a form, if it has one
abbrev pub in_layout : (Layout → Form) → Form → Option Form
in_layout answer Table = Some (answer laid.Table)
in_layout answer Json = Some (answer laid.Json)
in_layout answer Csv = Some (answer laid.Csv)
in_layout answer form = None

-- a comparison in the layout of a form, if it has one, or as a drawing
abbrev pub compared_as : Form → Option Form
compared_as Drawing = Some AgainstDrawing
compared_as BytesDrawing = Some AgainstDrawing
compared_as form = in_layout Against form

-- the form, or an answer in its layout: a comparison or a suggestion, and not both
abbrev pub answer_of : Bool → Bool → Form → Option Form
answer_of false false form = Some form
answer_of true false form = compared_as form
answer_of false true form = in_layout Suggest form
answer_of true true form = None

-- the form is the one that is asked for, and no other is
pub record IsForm (rows : List Row) (form : Form) : Type 0 where
  pub plain : Form
  pub plain_is : IsPlainForm rows plain
  pub answered : answer_of (is_given (codes "against") rows) (is_on (codes "suggest") rows) plain ≡ Some form

-- a comparison is of one policy or one rule at one moment
abbrev pub is_compared : ℕ → ℕ → ℕ → Bool
is_compared policies moments rules = (moments == 1) && (((policies == 1) && (rules == 0)) || ((policies == 0) && (rules == 1)))

-- a list is of one policy at one moment, and a table over time has moments of its own; in CSV only rules are about moments. A suggestion
-- is of none, at one moment at most
abbrev pub suits : Form → ℕ → ℕ → ℕ → Bool
suits Due policies moments rules = (policies == 1) && (moments == 1)
suits Kept policies moments rules = (policies == 1) && (moments == 1)
suits (Every step) policies moments rules = moments == 0
suits (EveryCsv step) policies moments rules = moments == 0
suits Csv policies moments rules = (moments == 0) || nat_lt 0 rules
suits AgainstDrawing policies moments rules = is_compared policies moments rules
suits (Against layout) policies moments rules = is_compared policies moments rules
suits (Suggest layout) policies moments rules = nat_lt moments 2 && ((policies == 0) && (rules == 0))
suits form policies moments rules = true

-- a script reads a policy in the word too, or refuses the word
abbrev pub IsPlain : Text → Type 0
IsPlain word = (policy : Policy) × ReadsPolicy word (Ok policy)

abbrev pub IsForeign : Text → Type 0
IsForeign word = (fault : LineFault) × ReadsPolicy word (Err fault)

-- the word spells the moment, if a clock shows now or nothing
abbrev pub SpellsAt : Option ℕ → Text → ℕ → Type 0
SpellsAt None word m = SpellsTime word m
SpellsAt (Some now) word m = SpellsWhen now word m

-- drawings of policies, a table over time and a suggestion have no place for labels
abbrev pub takes_labels : Form → Bool
takes_labels Drawing = false
takes_labels BytesDrawing = false
takes_labels (Every step) = false
takes_labels (EveryCsv step) = false
takes_labels (Suggest layout) = false
takes_labels form = true

-- a drawing of versions and a list have none for sizes
abbrev pub takes_sizes : Form → Bool
takes_sizes Drawing = false
takes_sizes Due = false
takes_sizes Kept = false
takes_sizes form = true

-- only drawings have a title
abbrev pub takes_title : Form → Bool
takes_title Drawing = true
takes_title BytesDrawing = true
takes_title AgainstDrawing = true
takes_title form = false

-- rules of other tools are for tables, JSON and CSV, and for a comparison
abbrev pub takes_rules : Form → Bool
takes_rules Table = true
takes_rules Json = true
takes_rules Csv = true
takes_rules Drawing = false
takes_rules BytesDrawing = false
takes_rules Due = false
takes_rules Kept = false
takes_rules (Every step) = false
takes_rules (EveryCsv step) = false
takes_rules AgainstDrawing = true
takes_rules (Against layout) = true
takes_rules (Suggest layout) = false

-- an option that is given is one that the form takes
abbrev pub fits : Bool → Bool → Bool
fits taken given = taken || not given

-- a suggested policy may have bounds
abbrev pub has_bounds : List Row → Bool
has_bounds rows = is_given (codes "versions") rows || is_given (codes "bytes") rows

-- no file is given, and the form takes so many policies, moments and rules, and each option that is given; a comparison has labels, and a
-- suggestion says what is kept
pub record Fits (rows : List Row) (form : Form) (policies moments rules : ℕ) : Type 0 where
  pub no_file : first_of (codes "file") rows ≡ None
  pub few : policies ≤ 16
  pub suited : suits form policies moments rules ≡ true
  pub ruled : (takes_rules form || (rules == 0)) ≡ true
  pub labelled : fits (takes_labels form) (is_on (codes "labels") rows) ≡ true
  pub sized : fits (takes_sizes form) (is_on (codes "sizes") rows) ≡ true
  pub titled : fits (takes_title form) (is_given (codes "title") rows) ≡ true
  pub compared : (not (compares form) || is_on (codes "labels") rows) ≡ true
  pub asked : is_given (codes "keep") rows ≡ suggests form
  pub bounded : fits (suggests form) (has_bounds rows) ≡ true

-- the words of policies; beside rules alone it is `all`, and a suggestion needs none
abbrev pub policies_beside : Bool → List Text → Option (List Text) → Option (List Text)
policies_beside suggested rules (Some words) = Some words
policies_beside true rules None = Some []
policies_beside false [] None = None
policies_beside false (rule ∷ rules) None = Some (codes "all" ∷ [])

-- a rule of sanoid, which tells the kind of a version by its label
abbrev pub needs_labels : Text → Bool
needs_labels word = starts_with nat_eq word (codes "sanoid:")

-- the word means the policy
pub record AsksPolicy (word : Text) (asked : AskedPolicy) : Type 0 where
  pub word_is : asked.word.items ≡ word
  pub means : MeansPolicy word asked.policy

-- the word means the rule
pub record AsksRule (word : Text) (asked : AskedRule) : Type 0 where
  pub word_is : asked.word.items ≡ word
  pub means : MeansRule word asked.rule.tool asked.rule.parts.items

-- the offset that `--offset` spells, if it is given
abbrev pub IsClock : Option Text → Option Offset → Type 0
IsClock None clock = clock ≡ None
IsClock (Some word) None = ⊥
IsClock (Some word) (Some offset) = SpellsZone word offset

-- the spans that `--keep` spells, if it is given; their ages rise
abbrev pub AreSpans : Option Text → List Span → Type 0
AreSpans None spans = spans ≡ []
AreSpans (Some word) spans = SpellsSpans word spans × (rise_from 0 spans ≡ true)

-- the number that an option spells, if it is given
abbrev pub IsBound : Option Text → Option ℕ → Type 0
IsBound None most = most ≡ None
IsBound (Some word) None = ⊥
IsBound (Some word) (Some most) = SpellsNumber word most

-- what a suggested policy is to keep: of each of these spans, and no more than these bounds
pub record AsksKept (rows : List Row) (keep : Asked) : Type 0 where
  pub spans : AreSpans (first_of (codes "keep") rows) keep.spans.items
  pub versions : IsBound (first_of (codes "versions") rows) keep.most_versions
  pub bytes : IsBound (first_of (codes "bytes") rows) keep.most_bytes

-- whether some word is one that a script refuses
abbrev pub IsNamed : List Text → Bool → Type 0
IsNamed words true = Any IsForeign words
IsNamed words false = All IsPlain words

-- the forecast under the policies and rules that the words mean, in their order, at the moments that the others spell if a clock shows now;
-- the labels of another tool aren't read yet
pub record AsksForecast (now : Option ℕ) (rows : List Row) (ask : ForecastOptions) : Type 0 where
  pub words : List Text
  pub given : policies_beside (is_on (codes "suggest") rows) (values_of (codes "rule") rows) (all_of (codes "policy") rows) ≡ Some words
  pub policies : AllZip AsksPolicy words ask.policies.items
  pub named : IsNamed words ask.named
  pub moments : AllZip (SpellsAt now) (values_of (codes "at") rows) ask.moments.items
  pub rules : AllZip AsksRule (values_of (codes "rule") rows) ask.rules.items
  pub clock : IsClock (first_of (codes "offset") rows) ask.clock
  pub labels : ask.labels ≡ is_on (codes "labels") rows
  pub sizes : ask.sizes ≡ is_on (codes "sizes") rows
  pub title : ask.title.items ≡ unwrap_or (first_of (codes "title") rows) []
  pub others : ask.others.items ≡ []
  pub keep : AsksKept rows ask.keep
  pub form : IsForm rows ask.form
  pub fit : Fits rows ask.form (length (values_of (codes "policy") rows)) (length (values_of (codes "at") rows)) (length (values_of (codes "rule") rows))
  pub labelled : (is_on (codes "labels") rows || not (list_any needs_labels (values_of (codes "rule") rows))) ≡ true
