-- Why a version becomes due or stays, in words.
use Rattle.std.specs.Prelude.{ℕ, ◌/◌, ◌%◌, ◌==◌, List, [], ◌∷◌, codes, decimal, if◌then◌else◌}
use Rattle.std.specs.List.{flat_map}
use Rattle.std.specs.Option.{option_map_or}
use Rattle.ele_policy.specs.Ladder.{Rung, rung_at}
use Rattle.ele_policy.specs.declared.cause.Cause.{Cause}
use Rattle.ele_policy.specs.declared.cause.Cause.TheVariants.{AtOnce, Age, Displaced}
use Rattle.ele_policy.specs.declared.policy.Policy.{Policy}
use Rattle.ele_policy.specs.declared.policy.Policy.TheVariants as policy
use Rattle.ele_forecast.specs.declared.forecast.Why.{Why}
use Rattle.ele_forecast.specs.declared.forecast.Why.TheVariants.{Current, Never, AfterLast, Goes}
use Rattle.ele_forecast_text.specs.declared.unit.TimeUnit.{TimeUnit}
use Rattle.ele_forecast_text.specs.declared.unit.TimeUnit.TheVariants.{Day, Hour, Minute, Second}

abbrev pub unit_seconds : TimeUnit → ℕ
unit_seconds Day = 86400
unit_seconds Hour = 3600
unit_seconds Minute = 60
unit_seconds Second = 1

abbrev pub one_word : TimeUnit → List ℕ
one_word Day = codes "day"
one_word Hour = codes "hour"
one_word Minute = codes "minute"
one_word Second = codes "second"

abbrev pub many_word : TimeUnit → List ℕ
many_word Day = codes "days"
many_word Hour = codes "hours"
many_word Minute = codes "minutes"
many_word Second = codes "seconds"

-- the largest unit of which the seconds are a multiple
abbrev pub unit_of : ℕ → TimeUnit
unit_of seconds =
    if seconds % 86400 == 0 then Day else (if seconds % 3600 == 0 then Hour else (if seconds % 60 == 0 then Minute else Second))

-- the seconds in that unit
abbrev pub count_of : ℕ → ℕ
count_of seconds = seconds / unit_seconds (unit_of seconds)

-- a length of time, as `1 day` and `90 minutes`
abbrev pub length_words : ℕ → List (List ℕ)
length_words seconds =
    let unit = unit_of seconds in
    decimal (count_of seconds) ∷ (if count_of seconds == 1 then one_word unit else many_word unit) ∷ []

-- a span, as in the same `day` and in the same `7 days`
abbrev pub span_words : ℕ → List (List ℕ)
span_words seconds = if count_of seconds == 1 then one_word (unit_of seconds) ∷ [] else length_words seconds

-- the width of the spans at a level of a ladder
abbrev pub width_of : List Rung → ℕ → ℕ
width_of rungs level = option_map_or (λ rung. rung.1) (rung_at rungs level) 0

abbrev pub width_at : Policy → ℕ → ℕ
width_at (policy.Landmarks rungs) level = width_of rungs level
width_at other level = 0

-- why the policy keeps a version at each age; Keep One keeps none that has ended
abbrev pub never_word : Policy → List ℕ
never_word policy.One = codes "kept"
never_word policy.All = codes "all are kept"
never_word (policy.Safe seconds floor) = codes "kept by the floor"
never_word (policy.Landmarks rungs) = codes "kept as a landmark"

-- why a version becomes due
abbrev pub cause_words : Policy → Cause → List (List ℕ)
cause_words policy AtOnce = codes "only the current one is kept" ∷ []
cause_words policy (Age seconds) = codes "ended for" ∷ length_words seconds
cause_words policy (Displaced level by) =
    codes "version" ∷ decimal by ∷ codes "closed in the same" ∷ span_words (width_at policy level)

abbrev pub why_words : Policy → Why → List (List ℕ)
why_words policy Current = codes "current" ∷ []
why_words policy Never = never_word policy ∷ []
why_words policy AfterLast = codes "not before the year 10000" ∷ []
why_words policy (Goes cause) = cause_words policy cause

-- a space (32) and the word, for each word
abbrev pub spaced : List (List ℕ) → List ℕ
spaced words = flat_map (λ word. 32 ∷ word) words
