-- Whether times that name no offset were read as UTC for want of a clock.
use Rattle.std.specs.Prelude.{ℕ, ◌==◌, ◌&&◌, ◌||◌, nat_le, Bool, List, drop, is_none, length}
use Rattle.std.specs.Char.{is_ascii_digit}
use Rattle.std.specs.List.{list_all, list_any}
use Rattle.ele_outlook.specs.Input.{lines_of, time_of}
use Rattle.ele_outlook.specs.Told.{line_form}
use Rattle.ele_outlook.specs.declared.options.ForecastOptions.{ForecastOptions}
use Rattle.ele_outlook.specs.declared.options.LineForm.{LineForm}

-- a digit, or the point (46) before a fraction
abbrev pub is_fraction : ℕ → Bool
is_fraction byte = (byte == 46) || is_ascii_digit byte

-- a date and a time of day have 19 bytes; at most a fraction follows them, and no offset
abbrev pub lacks_offset : List ℕ → Bool
lacks_offset time = nat_le 19 (length time) && list_all is_fraction (drop 19 time)

abbrev pub line_lacks_offset : LineForm → List ℕ → Bool
line_lacks_offset form line = lacks_offset (time_of form line)

-- no clock is given, and the time of some line names no offset
abbrev pub is_unplaced : ForecastOptions → List ℕ → Bool
is_unplaced options input = is_none options.clock && list_any (line_lacks_offset (line_form options)) (lines_of input)
