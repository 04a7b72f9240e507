-- The policies among which the best is looked for.
use Rattle.std.specs.Prelude.{ℕ, max, min, nat_le, nat_lt, Bool, ◌&&◌, List, [], ◌∷◌, ◌++◌, length, if◌then◌else◌}
use Rattle.std.specs.List.{flat_map}
use Rattle.ele_moment.specs.Last.{last_moment}
use Rattle.ele_policy.specs.Ladder.{Rung, climbs, ground}
use Rattle.ele_policy.specs.declared.policy.Policy.{Policy}
use Rattle.ele_policy.specs.declared.policy.Policy.TheVariants.{One, All, Safe, Landmarks}
use Rattle.ele_suggest.specs.declared.grain.Grain.{Grain}
use Rattle.ele_suggest.specs.declared.grain.Grain.TheVariants.{Each, Hour, Day, Week, Month, Year}
use Rattle.ele_suggest.specs.declared.grain.Span.{Span}
use Rattle.ele_suggest.specs.declared.ladders.Widths.{Widths}

-- Keep Safe of that age, with floors from none to 16 versions; none if no interval is so long
abbrev pub safes_of : ℕ → List Policy
safes_of age =
    if nat_lt 0 age && nat_le age last_moment
    then Safe age 0 ∷ Safe age 1 ∷ Safe age 2 ∷ Safe age 4 ∷ Safe age 8 ∷ Safe age 16 ∷ []
    else []

-- the width of a rung for those periods: an hour, a day, a week, 4 weeks or 52 weeks, and no more than the greatest one
abbrev pub width_of : Widths → Grain → ℕ
width_of widths Each = 1
width_of widths Hour = min 3600 widths.short
width_of widths Day = min 86400 widths.short
width_of widths Week = min 604800 widths.long
width_of widths Month = min 2419200 widths.long
width_of widths Year = min 31449600 widths.long

-- the rung of a span that begins at that age; a span that asks for each version has none
abbrev pub rung_for : Widths → ℕ → Grain → List Rung
rung_for widths age Each = []
rung_for widths age Hour = (age, width_of widths Hour) ∷ []
rung_for widths age Day = (age, width_of widths Day) ∷ []
rung_for widths age Week = (age, width_of widths Week) ∷ []
rung_for widths age Month = (age, width_of widths Month) ∷ []
rung_for widths age Year = (age, width_of widths Year) ∷ []

-- from each age on the rung of the next span, and past the last one a width that no list exceeds: 8057 times 52 weeks
abbrev pub rungs_from : Widths → ℕ → List Span → List Rung
rungs_from widths age [] = (age, 253389427200) ∷ []
rungs_from widths age (span ∷ spans) = rung_for widths age span.grain ++ rungs_from widths span.age spans

-- the ladder of these rungs, if they are one
abbrev pub ladder_of : List Rung → List Policy
ladder_of rungs = if nat_lt 0 (length rungs) && nat_le (length rungs) 8 && climbs ground rungs then Landmarks rungs ∷ [] else []

-- the widths, made as great as those of rungs for the periods
abbrev pub wider : Widths → Grain → Widths
wider widths Each = widths
wider widths Hour = record { short = max widths.short 3600; long = widths.long }
wider widths Day = record { short = max widths.short 86400; long = widths.long }
wider widths Week = record { short = widths.short; long = max widths.long 604800 }
wider widths Month = record { short = widths.short; long = max widths.long 2419200 }
wider widths Year = record { short = widths.short; long = max widths.long 31449600 }

-- the widths, made as great as those of rungs for the spans
abbrev pub widest_from : Widths → List Span → Widths
widest_from widths [] = widths
widest_from widths (span ∷ spans) = widest_from (wider widths span.grain) spans

-- the least of the greatest widths that are tried: 15 minutes and a day
abbrev pub narrowest : Widths
narrowest = record { short = 900; long = 86400 }

-- no width is greater than the spans need; greater ones make the same ladder as smaller ones
abbrev pub is_tried : List Span → Widths → Bool
is_tried spans widths =
    let widest = widest_from narrowest spans in
    nat_le widths.short widest.short && nat_le widths.long widest.long

-- the ladder of the spans with these widths
abbrev pub ladders_of : List Span → Widths → List Policy
ladders_of spans widths = if is_tried spans widths then ladder_of (rungs_from widths 1 spans) else []

-- the greatest widths of rungs for hours and days, and of rungs for weeks, months and years: 24 hours, 12 hours, an hour and 15 minutes, and
-- 52 weeks, 4 weeks, 2 weeks, a week and a day
abbrev pub short_widths : List ℕ
short_widths = 86400 ∷ 43200 ∷ 3600 ∷ 900 ∷ []

abbrev pub long_widths : List ℕ
long_widths = 31449600 ∷ 2419200 ∷ 1209600 ∷ 604800 ∷ 86400 ∷ []

-- the ladders of the spans with that greatest width for hours and days
abbrev pub long_ladders : List Span → ℕ → List Policy
long_ladders spans short = flat_map (λ long. ladders_of spans (record { short = short; long = long })) long_widths

-- one, all, the ladders of the spans, and Keep Safe of a second, which keeps the last few, and of each span's age
abbrev pub candidates_of : List Span → List Policy
candidates_of spans =
    One ∷ All ∷ (flat_map (long_ladders spans) short_widths ++ (safes_of 1 ++ flat_map (λ span. safes_of span.age) spans))
