-- The dates of the moments of an answer, behind its lines.
use Rattle.std.specs.Prelude.{◌≡◌, ℕ, ◌==◌, ◌||◌, Bool, true, false, List, [], ◌∷◌, ◌++◌, codes, Option, Some, None}
use Rattle.std.specs.List.{AllZip, flat_map, slice_split}
use Rattle.ele_dialog.specs.Places.{columns_behind, columns_of}
use Rattle.ele_dialog.specs.declared.places.Places.{Places}
use Rattle.ele_moment.specs.Spelled.{SpellsMoment, SpellsTimestamp}

-- ---- moments

-- the parts of a word between slashes (47) and commas (44): a mark is its moment, a slash and its end
abbrev pub parts_of : List ℕ → List (List ℕ)
parts_of word = slice_split (λ byte. byte == 47 || byte == 44) word

-- the words that are moments, by these columns of the first ones; behind them those that the words of a fate name
abbrev pub dated_words : List Bool → List (List ℕ) → List (List ℕ)
dated_words columns [] = []
dated_words [] (word ∷ words) = dated_words (columns_behind word) words
dated_words (true ∷ columns) (word ∷ words) = word ∷ dated_words columns words
dated_words (false ∷ columns) (word ∷ words) = dated_words columns words

-- the parts of these words, of the words between the spaces (32) of a line
abbrev pub moments_in : List Bool → List ℕ → List (List ℕ)
moments_in columns line = flat_map parts_of (dated_words columns (slice_split (λ byte. byte == 32) line))

-- ---- dates

-- the date of a word that spells a moment; none of another, as `-`. A moment is at most the last one, so its year has four digits
abbrev pub IsDated : List ℕ → List (List ℕ) → Type 0
IsDated word [] = (moment : ℕ) → SpellsMoment word moment → ⊥
IsDated word (date ∷ []) = (moment : ℕ) × SpellsMoment word moment × SpellsTimestamp date moment
IsDated word dates = ⊥

-- the dates of words, in order
abbrev pub AreDates : List (List ℕ) → List (List ℕ) → Type 0
AreDates [] dates = dates ≡ []
AreDates (word ∷ words) dates =
    (first others : List (List ℕ)) × IsDated word first × AreDates words others × (dates ≡ first ++ others)

-- texts, with this before the first, and that before each other one
abbrev pub joined : List ℕ → List ℕ → List (List ℕ) → List ℕ
joined first next [] = []
joined first next (text ∷ texts) = first ++ (text ++ joined next next texts)

-- what stands before the first date of a line, and before each other one
abbrev pub before_dates : List ℕ
before_dates = codes "  # "

abbrev pub between_dates : List ℕ
between_dates = codes " "

-- the dates of the moments of a line with these columns
abbrev pub IsDatesText : List Bool → List ℕ → List ℕ → Type 0
IsDatesText columns line text =
    (dates : List (List ℕ)) × AreDates (moments_in columns line) dates × (text ≡ joined before_dates between_dates dates)

-- ---- lines

-- nothing of a line without columns
abbrev pub IsBehind : Option (List Bool) → List ℕ → List ℕ → Type 0
IsBehind None line text = text ≡ []
IsBehind (Some columns) line text = IsDatesText columns line text

-- a line as it was, and the dates of its moments behind it
abbrev pub IsDatedLine : Places → List ℕ → List ℕ → Type 0
IsDatedLine places line shown = (behind : List ℕ) × IsBehind (columns_of places line) line behind × (shown ≡ line ++ behind)

-- a text whose lines, between its line feeds (10), are so
abbrev pub IsDatedText : Places → List ℕ → List ℕ → Type 0
IsDatedText places text shown =
    (lines : List (List ℕ)) × AllZip (IsDatedLine places) (slice_split (λ byte. byte == 10) text) lines × (shown ≡ joined [] (10 ∷ []) lines)

-- what is shown of the text of an answer; it is the text if no moments stand in it
abbrev pub IsShown : Option Places → List ℕ → List ℕ → Type 0
IsShown None text shown = shown ≡ text
IsShown (Some places) text shown = IsDatedText places text shown
