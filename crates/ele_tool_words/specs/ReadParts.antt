-- How the parts of a time are read, step by step. No public clause cites this module.
use Rattle.std.specs.Prelude.{ℕ, ◌+◌, ◌*◌, ◌==◌, ◌&&◌, ◌||◌, nat_lt, Bool, true, false, List, [], ◌∷◌, ◌++◌, take, drop, codes, Option, Some, None, if◌then◌else◌}
use Rattle.std.specs.Char.{is_ascii_digit}
use Rattle.ele_moment.specs.Pair.{pair_at}
use Rattle.ele_moment.specs.ReadFields.{◌>>=◌}
use Rattle.ele_tool_words.specs.declared.zone.Offset.{Offset}
use Rattle.ele_tool_words.specs.declared.zone.Offset.TheVariants.{Ahead, Behind}

-- the rest after the separator, or all
abbrev pub without : ℕ → List ℕ → List ℕ
without mark [] = []
without mark (c ∷ rest) = if c == mark then rest else c ∷ rest

-- the minutes, if the rest is empty and a clock has them
abbrev pub clock_at_end : ℕ → ℕ → List ℕ → Option ℕ
clock_at_end hour minute [] = if nat_lt hour 24 && nat_lt minute 60 then Some (60 * hour + minute) else None
clock_at_end hour minute (c ∷ rest) = None

-- the minutes that hours and minutes make
unfoldable pub clock_of : List ℕ → Option ℕ
clock_of word = do
  hour ← pair_at word
  minute ← pair_at (without 58 hour.1)
  clock_at_end hour.0 minute.0 minute.1

-- the offset of so many minutes after `+` (43) or `-` (45)
abbrev pub with_sign : ℕ → ℕ → Option Offset
with_sign sign minutes =
    if sign == 43 then Some (Ahead minutes) else if sign == 45 then Some (Behind minutes) else None

-- the offset that a sign, hours and minutes spell
unfoldable pub offset_of : List ℕ → Option Offset
offset_of [] = None
offset_of (sign ∷ clock) = clock_of clock >>= with_sign sign

-- nothing, `Z` (90) or `z` (122)
abbrev pub is_utc : List ℕ → Bool
is_utc [] = true
is_utc (c ∷ []) = c == 90 || c == 122
is_utc (c ∷ d ∷ rest) = false

-- the offset of a zone; a space (32) may precede it
abbrev pub zone_of : List ℕ → Option Offset
zone_of zone = if is_utc zone then Some (Ahead 0) else offset_of (without 32 zone)

-- the rest after digits
abbrev pub after_digits : List ℕ → List ℕ
after_digits [] = []
after_digits (c ∷ rest) = if is_ascii_digit c then after_digits rest else c ∷ rest

-- the rest after at least one digit
abbrev pub after_some_digits : List ℕ → Option (List ℕ)
after_some_digits [] = None
after_some_digits (c ∷ rest) = if is_ascii_digit c then Some (after_digits rest) else None

-- the rest after a fraction, or all
abbrev pub after_fraction : List ℕ → Option (List ℕ)
after_fraction [] = Some []
after_fraction (c ∷ rest) = if c == 46 then after_some_digits rest else Some (c ∷ rest)

-- the offset after a time of day, without its fraction
unfoldable pub rest_of : List ℕ → Option Offset
rest_of rest = do
  zone ← after_fraction rest
  zone_of zone

-- the date and the time of day at the start of a word, as a time in UTC
abbrev pub stamp_of : List ℕ → List ℕ
stamp_of word = take 10 word ++ (84 ∷ take 8 (drop 11 word) ++ 90 ∷ [])

-- the text after the date in a midnight in UTC: `T` (84) and the time of day
abbrev pub midnight_text : List ℕ
midnight_text = 84 ∷ codes "00:00:00Z"

-- a date's midnight, as a time in UTC
abbrev pub midnight_of : List ℕ → List ℕ
midnight_of date = date ++ midnight_text

-- the offset of a zone; that of the place if it is empty
abbrev pub zone_by : Offset → List ℕ → Option Offset
zone_by home [] = Some home
zone_by home (c ∷ rest) = zone_of (c ∷ rest)
