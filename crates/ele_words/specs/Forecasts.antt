-- How the program ends after a forecast: what its reader and its two writers hold then, and its exit status.
use Rattle.std.specs.Prelude.{◌≡◌, ℕ, Bool, true, false, List, [], Option, Result, Ok, Err, codes}
use Rattle.ele_output.specs.Outlet.{Outlet, Reports}
use Rattle.ele_run_options.specs.declared.fault.ShellFault.TheVariants as shell
use Rattle.ele_outlook.specs.Foretold.{Foretells}
use Rattle.ele_outlook.specs.Input.{bad_line_text}
use Rattle.ele_outlook.specs.declared.options.ForecastOptions.{ForecastOptions}
use Rattle.ele_outlook.specs.declared.fault.ForecastFault.{ForecastFault}
use Rattle.ele_outlook.specs.declared.fault.ForecastFault.TheVariants.{ReadFault, BadInput, TooLong, WriteFault, NoMemory}
use Rattle.ele_words.specs.Status.{fault_line}

abbrev pub forecast_status : ForecastFault → ℕ
forecast_status ReadFault = 1
forecast_status (BadInput number why) = 2
forecast_status TooLong = 2
forecast_status WriteFault = 1
forecast_status NoMemory = 3

-- the line of a fault of a forecast
abbrev pub forecast_line : ForecastFault → List ℕ
forecast_line ReadFault = fault_line shell.ReadFault
forecast_line (BadInput number why) = bad_line_text number why
forecast_line TooLong = codes "elephant: more than 400 moments; --every takes a longer step\n"
forecast_line WriteFault = fault_line shell.WriteFault
forecast_line NoMemory = fault_line shell.NoMemory

-- the line that says as what times without an offset were read
abbrev pub warning : Bool → List ℕ
warning false = []
warning true = codes "elephant: times without an offset are read as UTC; --offset gives another clock\n"

-- a forecast without a fault has status 0, and may have a warning; a fault was printed, and has its own status
abbrev pub TellsForecast : Result Bool ForecastFault → Outlet → Outlet → ℕ → Type 0
TellsForecast (Ok unplaced) before after status = Reports before after (warning unplaced) × (status ≡ 0)
TellsForecast (Err fault) before after status = Reports before after (forecast_line fault) × (status ≡ forecast_status fault)

-- the forecast of the closings was written, or a fault ended it
pub record ForecastEnds (ask : ForecastOptions) (input rest old new : Option (List ℕ)) (before after : Outlet) (status : ℕ) : Type 0 where
  pub ended : Result Bool ForecastFault
  pub foretold : Foretells ask input rest old new ended
  pub told : TellsForecast ended before after status
