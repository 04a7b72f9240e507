-- What is asked of a list: which of its versions are kept. A list of kept versions is that of their numbers.
use Rattle.std.specs.Prelude.{ℕ, ◌+◌, ◌-◌, ◌/◌, ◌==◌, nat_le, nat_lt, Bool, true, false, not, ◌&&◌, ◌||◌, List, [], ◌∷◌, length, slice_get, sum_by, Option, Some, None}
use Rattle.std.specs.Option.{option_map_or}
use Rattle.std.specs.List.{list_all, list_any}
use Rattle.ele_suggest.specs.declared.asked.Asked.{Asked}
use Rattle.ele_suggest.specs.declared.grain.Grain.{Grain}
use Rattle.ele_suggest.specs.declared.grain.Grain.TheVariants.{Each, Hour, Day, Week, Month, Year}
use Rattle.ele_suggest.specs.declared.grain.Span.{Span}
use Rattle.ele_suggest.specs.declared.version.Version.{Version}

-- the age of each span is greater than that of the one before it, and that of the first than this one
abbrev pub rise_from : ℕ → List Span → Bool
rise_from age [] = true
rise_from age (span ∷ spans) = nat_lt age span.age && rise_from span.age spans

-- the week of a time that a clock showed; a week begins on Monday, and 1970-01-01 was a Thursday
abbrev pub week_of : ℕ → ℕ
week_of local = (local / 86400 + 3) / 7

-- the two closed in one period by the list's clock
abbrev pub same_period : Grain → Version → Version → Bool
same_period Each a b = a.number == b.number
same_period Hour a b = a.local / 3600 == b.local / 3600
same_period Day a b = a.local / 86400 == b.local / 86400
same_period Week a b = week_of a.local == week_of b.local
same_period Month a b = a.month == b.month
same_period Year a b = a.month / 12 == b.month / 12

-- at the moment the version has closed, and isn't older than the span
abbrev pub is_within : ℕ → Span → Version → Bool
is_within at span version = nat_le version.closed at && nat_le (at - version.closed) span.age

-- the version of that number closed in the same period; versions are counted from 1
abbrev pub shares_period : Grain → List Version → Version → ℕ → Bool
shares_period grain versions version number = option_map_or (same_period grain version) (slice_get versions (number - 1)) false

-- the span asks nothing of the version, or a version of its period is kept
abbrev pub is_covered : ℕ → List Version → List ℕ → Span → Version → Bool
is_covered at versions numbers span version =
    not (is_within at span version) || list_any (shares_period span.grain versions version) numbers

-- of each period of the span that has a version, one is kept
abbrev pub keeps_span : ℕ → List Version → List ℕ → Span → Bool
keeps_span at versions numbers span = list_all (is_covered at versions numbers span) versions

-- the bytes of the version of that number
abbrev pub bytes_at : List Version → ℕ → ℕ
bytes_at versions number = option_map_or (λ version. version.bytes) (slice_get versions (number - 1)) 0

-- the bytes of the versions of these numbers together
abbrev pub bytes_of : List Version → List ℕ → ℕ
bytes_of versions numbers = sum_by (bytes_at versions) numbers

-- so many are no more than the bound, if there is one
abbrev pub is_in_bound : Option ℕ → ℕ → Bool
is_in_bound None n = true
is_in_bound (Some most) n = nat_le n most

-- the kept versions are what is asked at the moment: one of each period of each span, and no more versions and bytes than the bounds
abbrev pub keeps_asked : Asked → ℕ → List Version → List ℕ → Bool
keeps_asked asked at versions numbers =
    is_in_bound asked.most_versions (length numbers) && is_in_bound asked.most_bytes (bytes_of versions numbers)
    && list_all (keeps_span at versions numbers) asked.spans.items
