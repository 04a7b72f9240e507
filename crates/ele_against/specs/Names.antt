-- Names to look up. No public clause cites this module.
use Rattle.std.specs.Prelude.{ℕ, Bool, List, filter, bytes_eq}
use Rattle.std.specs.List.{list_any}
use Rattle.ele_forecast_text.specs.Labels.{name_of}
use Rattle.ele_forecast_text.specs.declared.label.Label.{Label}
use Rattle.ele_against.specs.Compared.{is_wanted}
use Rattle.ele_against.specs.declared.names.Names.{Names}

-- the name is there
abbrev pub has : Names → List ℕ → Bool
has names text = list_any (λ name. bytes_eq text name.now) names.names.keys

-- of the versions with these numbers, those whose labels are there, or aren't if `named` is false
abbrev pub chosen_in : Bool → Names → List Label → List ℕ → List ℕ
chosen_in named names labels numbers = filter (λ number. is_wanted named (has names (name_of labels number))) numbers
