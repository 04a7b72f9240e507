-- What a finished pass leaves, by what the scan keeps.
use Rattle.ele_model.proofs.Basics.{ap, sym, ◌∙◌, not, filter}
use Rattle.ele_forecast.specs.Stays.{numbers_of}
use Rattle.ele_headline.specs.PassLeavesKept.{PassLeavesKept}
use Rattle.ele_world.specs.PlainEvents.{is_clean}
use Rattle.ele_model.specs.Run.{run_of}
use Rattle.ele_world.specs.Schedule.{Schedule}
use Rattle.ele_forecast_laws.specs.Whenever.{CleanedWhenever, PassLeavesStaying}

pub pass_leaves_staying : PassLeavesKept → PassLeavesStaying
pass_leaves_staying law policy closings at numbers kept w file formed now is removed after pass =
    kept w file now is ∙ ap (numbers_of file) (sym (law w removed after formed pass))

pub cleaned_whenever : Schedule → CleanedWhenever
cleaned_whenever law policy closings at numbers kept w events file formed groups plain now is removed after pass =
    kept (run_of w (filter (λ event. not (is_clean event)) events)) file now is ∙ ap (numbers_of file) (sym ((law w events formed groups plain).1 removed after pass))
