-- The date and time of day of a moment, as one word.
use Rattle.std.specs.Prelude.{ℕ, zero, suc, ◌+◌, ◌/◌, ◌%◌, nat_lt, pos, List, Option, Some, None, codes, if◌then◌else◌}
use Rattle.jiff_core.specs.Calendar.{days_in_month}
use Rattle.ele_moment.specs.Timestamp.{timestamp_text}

-- a year, a month and a day
abbrev pub Date : Type 0
Date = ℕ × ℕ × ℕ

-- the day after
abbrev pub day_after : Date → Date
day_after date =
    if nat_lt date.2 (days_in_month (pos date.0) date.1) then (date.0, date.1, date.2 + 1) else (if nat_lt date.1 12 then (date.0, date.1 + 1, 1) else (date.0 + 1, 1, 1))

-- the date that many days after 1970-01-01
unfoldable pub date_of : ℕ → Date
date_of zero = (1970, 1, 1)
date_of (suc days) = day_after (date_of days)

-- YYYY-MM-DDTHH:MM:SSZ; a day has 86,400 seconds
unfoldable pub stamp_of : ℕ → List ℕ
stamp_of moment =
    let date = date_of (moment / 86400) in
    let second = moment % 86400 in
    timestamp_text (record {
      year = date.0;
      month = date.1;
      day = date.2;
      hour = second / 3600;
      minute = second / 60 % 60;
      second = second % 60;
    })

-- a moment as a word, `-` for none
abbrev pub stamp_or : Option ℕ → List ℕ
stamp_or None = codes "-"
stamp_or (Some moment) = stamp_of moment
