-- Forecasts of lines, from forecasts of their closings.
use Rattle.std.proofs.Common.{◌≢◌, ℕ, List, [], ◌∷◌, map, Option, Result, Ok, Err, inl, inr, refl, subst}
use Rattle.std.specs.Prelude.{decimal}
use Rattle.ele_outlook.specs.Foretold.{IsToldOf, TellsForecast}
use Rattle.ele_outlook.specs.Input.{SpellRows, closings_of, labels_of, lines_of}
use Rattle.ele_outlook.specs.Reading.{AreRead, IsOfForm, TellsRead}
use Rattle.ele_outlook.specs.Parts.{texts_of}
use Rattle.ele_outlook.specs.Told.{IsForecastText, line_form}
use Rattle.ele_rule_parts.specs.declared.row.Row.{Row}
use Rattle.ele_outlook.specs.declared.input.ReadLines.{ReadLines}
use Rattle.ele_outlook.specs.declared.options.ForecastOptions.{ForecastOptions}
use Rattle.ele_outlook.specs.declared.options.LineForm.{LineForm}
use Rattle.ele_outlook.specs.declared.fault.ForecastFault.{ForecastFault}
use Rattle.ele_outlook.specs.declared.fault.ForecastFault.TheVariants.{ReadFault, BadInput, TooLong, WriteFault, NoMemory}

-- rows come from bytes
some_given : (form : LineForm) (given : List ℕ) (rows : List Row) → SpellRows form (lines_of given) rows → closings_of rows ≢ [] → given ≢ []
some_given form [] [] spell some = λ e. some refl
some_given form [] (row ∷ rows) spell some = λ e. absurd spell.spelled
some_given form (byte ∷ given) rows spell some = λ e. absurd cc

-- a text about what was read is one about the lines
of_lines : (options : ForecastOptions) (given text : List ℕ) (read : ReadLines) → AreRead (line_form options) given read → IsForecastText options read.rows.items (texts_of read.details.labels.items) (map decimal read.details.sizes.items) text → IsToldOf options given text
of_lines options given text read are told =
    record {
      rows = read.rows.items;
      spell = are.spell;
      told = subst (λ (words : List (List ℕ)). IsForecastText options read.rows.items (labels_of (line_form options) (lines_of given)) words text) are.detailed.sizes_are
          (subst (λ (labels : List (List ℕ)). IsForecastText options read.rows.items labels (map decimal read.details.sizes.items) text) are.detailed.labels_are told);
    }

-- a forecast of what was read is one of the lines
pub tells : {A : Type 0} (options : ForecastOptions) (given : List ℕ) (read : ReadLines) (old new : Option (List ℕ)) (r : Result A ForecastFault) → AreRead (line_form options) given read → TellsRead options read old new r → TellsForecast options given old new r
tells options given read old new (Ok x) are told = (told.0, of_lines options given told.0 read are told.1, told.2)
tells options given read old new (Err WriteFault) are told = (told.0, of_lines options given told.0 read are told.1, told.2)
tells options given read old new (Err TooLong) are told = (read.rows.items, are.spell, told.0, told.1)
tells options given read old new (Err NoMemory) are (inl some, same) =
    (inl (some_given (line_form options) given read.rows.items are.spell (subst (λ (closings : List ℕ). closings ≢ []) are.closings some)), same)
tells options given read old new (Err NoMemory) are (inr some, same) = (inr some, same)
tells options given read old new (Err ReadFault) are told = absurd told
tells options given read old new (Err (BadInput number why)) are told = absurd told

-- what was read of the lines has the fields that the options want
pub of_form : (options : ForecastOptions) (given : List ℕ) (read : ReadLines) → AreRead (line_form options) given read → IsOfForm options read
of_form options given read are = record { columns = are.detailed.columns_are; closings = are.closings }
