-- Which versions are due at moments, and what their removal frees.
use Rattle.std.specs.Prelude.{◌≡◌, ℕ, Bool, true, false, List, [], ◌∷◌, ◌++◌, codes, decimal, length, map}
use Rattle.std.specs.List.{AllZip, flat_map, join_with_byte}
use Rattle.ele_forecast.specs.declared.forecast.Forecast.{Forecast}
use Rattle.ele_forecast_text.specs.Details.{bytes_of}
use Rattle.ele_forecast_text.specs.Labels.{listed_at}
use Rattle.ele_forecast_text.specs.Stamp.{stamp_of}
use Rattle.ele_forecast_text.specs.declared.details.Details.{Details}
use Rattle.ele_forecast_text.specs.declared.plan.Plan.{Plan}
use Rattle.ele_forecast_text.specs.declared.staying.Staying.{Staying}
use Rattle.ele_forecast_forms.specs.Json.{policy_field, staying_text}
use Rattle.ele_space.specs.declared.removals.Removals.{Removals}

-- the versions that have closed by the moment at which those of `staying` stay, and are due then
pub record IsDueThen (forecasts : List Forecast) (staying due : Staying) : Type 0 where
  pub at : due.at ≡ staying.at
  pub numbers : due.numbers.items ≡ listed_at false forecasts staying

-- those under the policy of a plan, at each of its moments
pub record AreRemovals (plan : Plan) (removals : Removals) : Type 0 where
  pub word : removals.word.items ≡ plan.word.items
  pub due : AllZip (IsDueThen plan.forecasts.items) plan.stayings.items removals.due.items

-- how many versions are due, the bytes that their removal frees, and their numbers
abbrev pub bytes_words : Details → List ℕ → List ℕ
bytes_words details numbers =
    (codes " free " ++ decimal (length numbers)) ++ (codes " with " ++ (decimal (bytes_of details.sizes.items numbers) ++ (codes " bytes:"
    ++ (flat_map (λ number. 32 ∷ decimal number) numbers ++ codes "\n"))))

-- a space (32) and the word of the policy, if it is named
abbrev pub policy_part : Bool → List ℕ → List ℕ
policy_part false word = []
policy_part true word = 32 ∷ word

-- the line of a moment
abbrev pub due_line : Bool → Details → List ℕ → Staying → List ℕ
due_line named details word due = codes "at " ++ (stamp_of due.at ++ (policy_part named word ++ bytes_words details due.numbers.items))

abbrev pub removals_text : Bool → Details → List Removals → List ℕ
removals_text named details removals =
    flat_map (λ removal. flat_map (due_line named details removal.word.items) removal.due.items) removals

-- the versions that are due under a policy, as an object of JSON
abbrev pub removal_json : Details → Removals → List ℕ
removal_json details removal =
    10 ∷ (policy_field removal.word.items ++ (codes ",\"at\":[" ++ (join_with_byte 44 (map (staying_text details) removal.due.items) ++ codes "]}")))

-- these, as a member of an object that others follow
abbrev pub removals_member : Details → List Removals → List ℕ
removals_member details removals =
    codes "\"removals\":[" ++ (join_with_byte 44 (map (removal_json details) removals) ++ codes "\n],\n")
