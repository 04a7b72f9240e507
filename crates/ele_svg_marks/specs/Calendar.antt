-- The ticks at the bottom of a drawing: which moments they are, and what is written there.
use Rattle.std.specs.Prelude.{Bool, if◌then◌else◌, max, nat_le, nat_lt, true, ℕ, ◌%◌, ◌&&◌, ◌*◌, ◌+◌, ◌-◌, ◌/◌, ◌==◌}
use Rattle.ele_forecast_text.specs.Stamp.{date_of}
use Rattle.ele_svg_marks.specs.Places.{span_of}
use Rattle.ele_svg_marks.specs.declared.calendar.Step.{Step}
use Rattle.ele_svg_marks.specs.declared.calendar.Step.TheVariants as step
use Rattle.ele_svg_marks.specs.declared.mark.Words.{Words}
use Rattle.ele_svg_marks.specs.declared.mark.Words.TheVariants as words
use Rattle.ele_svg_marks.specs.declared.page.Page.{Page}

-- the step of some hours: the first round number of seconds of which seven cover the span
abbrev pub short_step : ℕ → ℕ
short_step span =
    if nat_le span 6 then 1 else (if nat_le span 30 then 5 else (if nat_le span 60 then 10 else (if nat_le span 180 then 30
    else (if nat_le span 360 then 60 else (if nat_le span 1800 then 300 else (if nat_le span 3600 then 600
    else (if nat_le span 10800 then 1800 else 3600)))))))

-- the step of some days
abbrev pub day_step : ℕ → Step
day_step span =
    if nat_le span 64800 then step.Seconds 10800 else (if nat_le span 129600 then step.Seconds 21600 else (if nat_le span 259200 then step.Seconds 43200
    else (if nat_le span 604800 then step.Seconds 86400 else (if nat_le span 1209600 then step.Seconds 172800 else step.Mondays))))

-- how many months are between ticks of longer spans: one, three, six, or round numbers of years
abbrev pub month_step : ℕ → ℕ
month_step span =
    if nat_le span 18748800 then 1 else (if nat_le span 55900800 then 3 else (if nat_le span 110678400 then 6 else (if nat_le span 220924800 then 12
    else (if nat_le span 441849600 then 24 else (if nat_le span 1104537600 then 60 else (if nat_le span 2209075200 then 120
    else (if nat_le span 11045376000 then 600 else (if nat_le span 22090752000 then 1200 else (if nat_le span 110453760000 then 6000 else 12000)))))))))

abbrev pub step_for : ℕ → Step
step_for span =
    if nat_le span 21600 then step.Seconds (short_step span) else (if nat_le span 5443200 then day_step span else step.Months (month_step span))

abbrev pub step_of : Page → Step
step_of page = step_for (span_of page)

-- each tick is a multiple of so many seconds
abbrev pub seconds_of : Step → ℕ
seconds_of (step.Seconds seconds) = max seconds 1
seconds_of step.Mondays = 86400
seconds_of (step.Months months) = 86400

-- the month of a moment, counted from the year 0
abbrev pub month_of : ℕ → ℕ
month_of moment = 12 * (date_of (moment / 86400)).0 + ((date_of (moment / 86400)).1 - 1)

-- the day of the month of a moment
abbrev pub day_of : ℕ → ℕ
day_of moment = (date_of (moment / 86400)).2

-- the multiples that are ticks: of seconds each, of days those that begin a week, or a month whose number so many months divide
abbrev pub begins : Step → ℕ → Bool
begins (step.Seconds seconds) moment = true
begins step.Mondays moment = (moment / 86400 + 3) % 7 == 0
begins (step.Months months) moment = (day_of moment == 1) && (month_of moment % max months 1 == 0)

-- what is written at a tick
abbrev pub date_words : Step → ℕ → Words
date_words (step.Seconds seconds) moment = if nat_lt seconds 86400 then words.Stamp moment else words.Date moment
date_words step.Mondays moment = words.Date moment
date_words (step.Months months) moment = if nat_lt months 12 then words.Month moment else words.Year moment

-- a moment is told by its seconds in a drawing of the first ten days, and else by its date
abbrev pub in_seconds : Page → ℕ → Words → Words
in_seconds page moment date = if nat_lt page.last 864000 then words.Seconds moment else date
