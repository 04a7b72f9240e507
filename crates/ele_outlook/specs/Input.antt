-- The closings in an input, a moment a line, and its first bad line.
use Rattle.std.specs.Prelude.{◌≡◌, ◌≢◌, ℕ, Bool, true, false, map, ◌+◌, ◌-◌, ◌<◌, ◌≤◌, ◌*◌, ◌==◌, ◌||◌, ◌&&◌, List, [], ◌∷◌, ◌++◌, length, slice_get, IfSome, codes, decimal, if◌then◌else◌}
use Rattle.std.specs.List.{AllZip, after_first, before_first, slice_split}
use Rattle.std.specs.Str.{IsUtf8}
use Rattle.ele_lists.specs.Lists.{AllLater}
use Rattle.ele_moment.specs.Last.{last_moment}
use Rattle.ele_moment.specs.Number.{SpellsNumber}
use Rattle.ele_tool_words.specs.ByClock.{SpellsBy}
use Rattle.ele_tool_words.specs.declared.zone.Offset.{Offset}
use Rattle.ele_tool_words.specs.declared.zone.Offset.TheVariants.{Ahead, Behind}
use Rattle.ele_rule_parts.specs.Kinds.{kind_of}
use Rattle.ele_rule_parts.specs.Shown.{IsRow, IsShown}
use Rattle.ele_rule_parts.specs.declared.row.Offset.{Offset as InSeconds}
use Rattle.ele_rule_parts.specs.declared.row.Offset.TheVariants as seconds
use Rattle.ele_rule_parts.specs.declared.row.Row.{Row}
use Rattle.ele_rule_parts.specs.declared.span.Span.{Span}
use Rattle.ele_rule_parts.specs.declared.span.Span.TheVariants.{Each}
use Rattle.ele_output.specs.Line.{line_text}
use Rattle.ele_outlook.specs.declared.fault.BadLine.{BadLine}
use Rattle.ele_outlook.specs.declared.fault.BadLine.TheVariants.{NotMoment, NoSize, NoLabel, NotUtf8, NotShown, OutOfOrder}
use Rattle.ele_outlook.specs.declared.options.LineForm.{LineForm}

-- the parts without the last, if that is empty
abbrev pub without_empty_last : List (List ℕ) → List (List ℕ)
without_empty_last [] = []
without_empty_last ([] ∷ []) = []
without_empty_last ((byte ∷ bytes) ∷ []) = (byte ∷ bytes) ∷ []
without_empty_last (part ∷ next ∷ parts) = part ∷ without_empty_last (next ∷ parts)

-- the lines of an input, each ended by a line feed (10); the last may lack it unless it is empty
abbrev pub lines_of : List ℕ → List (List ℕ)
lines_of input = without_empty_last (slice_split (λ byte. byte == 10) input)

abbrev pub is_tab : ℕ → Bool
is_tab byte = byte == 9

-- a text, or the part before its first tab (9)
abbrev pub before_tab_if : Bool → List ℕ → List ℕ
before_tab_if false text = text
before_tab_if true text = before_first is_tab text

-- a text, or the part after its first tab
abbrev pub after_tab_if : Bool → List ℕ → List ℕ
after_tab_if false text = text
after_tab_if true text = after_first is_tab text

-- the time of a line: all of it, or the part before its first tab if lines have other fields
abbrev pub time_of : LineForm → List ℕ → List ℕ
time_of form line = before_tab_if (form.columns.labels || form.columns.sizes) line

-- the size of a line, as a word: the part after its first tab, until the next one if lines have labels
abbrev pub size_word : LineForm → List ℕ → List ℕ
size_word form line = before_tab_if form.columns.labels (after_first is_tab line)

-- the label of a line: the part after its first tab, or after its second if lines have sizes
abbrev pub label_of : LineForm → List ℕ → List ℕ
label_of form line = after_tab_if form.columns.sizes (after_first is_tab line)

-- the word of each line, if lines have it
abbrev pub words_of : Bool → (List ℕ → List ℕ) → List (List ℕ) → List (List ℕ)
words_of false word lines = []
words_of true word lines = map word lines

-- the labels of lines, and the words of their sizes
abbrev pub labels_of : LineForm → List (List ℕ) → List (List ℕ)
labels_of form lines = words_of form.columns.labels (label_of form) lines

abbrev pub size_words_of : LineForm → List (List ℕ) → List (List ℕ)
size_words_of form lines = words_of form.columns.sizes (size_word form) lines

-- a property, if it is wanted
abbrev pub Asked : Bool → Type 0 → Type 0
Asked false A = Unit {0}
Asked true A = A

-- a line has a size, if lines have sizes
abbrev pub HasSize : LineForm → List ℕ → Type 0
HasSize form line = Asked form.columns.sizes ((size : ℕ) × SpellsNumber (size_word form line) size)

-- a line has a label, if lines have labels
abbrev pub HasLabel : LineForm → List ℕ → Type 0
HasLabel form line = Asked form.columns.labels (label_of form line ≢ [])

-- its label is UTF-8, if labels must be
abbrev pub HasText : LineForm → List ℕ → Type 0
HasText form line = Asked (form.columns.labels && form.texts) (IsUtf8 (label_of form line))

-- a line has the fields that it must have besides its time
pub record HasFields (form : LineForm) (line : List ℕ) : Type 0 where
  pub size : HasSize form line
  pub label : HasLabel form line
  pub text : HasText form line

-- an offset in seconds
abbrev pub in_seconds : Offset → InSeconds
in_seconds (Ahead minutes) = seconds.Ahead (60 * minutes)
in_seconds (Behind minutes) = seconds.Behind (60 * minutes)

-- the kind that the label of a line tells, if lines have labels
abbrev pub kind_in : LineForm → List ℕ → Span
kind_in form line = if form.columns.labels then kind_of (label_of form line) else Each

-- the line's time, what its clock shows then, and its kind
pub record SpellsRow (form : LineForm) (line : List ℕ) (row : Row) : Type 0 where
  pub offset : Offset
  pub time : SpellsBy form.clock (time_of form line) row.moment offset
  pub row_is : IsRow row.moment (in_seconds offset) (kind_in form line) row

pub record SpellsLine (form : LineForm) (line : List ℕ) (row : Row) : Type 0 where
  pub fields : HasFields form line
  pub spells : SpellsRow form line row

-- the closings of rows
abbrev pub closings_of : List Row → List ℕ
closings_of rows = map (λ row. row.moment) rows

-- each line spells its closing, and none is before the previous one
pub record SpellRows (form : LineForm) (lines : List (List ℕ)) (rows : List Row) : Type 0 where
  pub spelled : AllZip (SpellsLine form) lines rows
  pub rise : AllLater ◌≤◌ (closings_of rows)

-- the first field besides the time that a line lacks
abbrev pub LacksField : LineForm → List ℕ → BadLine → Type 0
LacksField form line NoSize = ¬ HasSize form line
LacksField form line NoLabel = HasSize form line × (¬ HasLabel form line)
LacksField form line NotUtf8 = HasSize form line × HasLabel form line × (¬ HasText form line)
LacksField form line NotMoment = ⊥
LacksField form line NotShown = ⊥
LacksField form line OutOfOrder = ⊥

-- its time is none, or one that a clock shows before 1970 or after the year 9999
abbrev pub LacksRow : LineForm → List ℕ → BadLine → Type 0
LacksRow form line NotMoment = (moment : ℕ) (offset : Offset) → ¬ SpellsBy form.clock (time_of form line) moment offset
LacksRow form line NotShown =
    (moment : ℕ) × (offset : Offset) × SpellsBy form.clock (time_of form line) moment offset × ((local : ℕ) → local ≤ last_moment → ¬ IsShown moment (in_seconds offset) local)
LacksRow form line NoSize = ⊥
LacksRow form line NoLabel = ⊥
LacksRow form line NotUtf8 = ⊥
LacksRow form line OutOfOrder = ⊥

-- what is wrong with the line after those that spell these closings
abbrev pub IsBad : LineForm → List ℕ → List ℕ → BadLine → Type 0
IsBad form closings line NoSize = LacksField form line NoSize
IsBad form closings line NoLabel = LacksField form line NoLabel
IsBad form closings line NotUtf8 = LacksField form line NotUtf8
IsBad form closings line NotMoment = HasFields form line × LacksRow form line NotMoment
IsBad form closings line NotShown = HasFields form line × LacksRow form line NotShown
IsBad form closings line OutOfOrder =
    (row : Row) × SpellsLine form line row × IfSome (slice_get closings (length closings - 1)) (λ last. row.moment < last)

-- the lines before this one spell closings, and it is bad; lines are counted from 1
pub record IsFirstBad (form : LineForm) (input : List ℕ) (number : ℕ) (why : BadLine) : Type 0 where
  pub before : List (List ℕ)
  pub line : List ℕ
  pub behind : List (List ℕ)
  pub rows : List Row
  pub lines : lines_of input ≡ before ++ line ∷ behind
  pub number_is : number ≡ length before + 1
  pub spell : SpellRows form before rows
  pub bad : IsBad form (closings_of rows) line why

-- the end of the message for a bad line
abbrev pub bad_word : BadLine → List ℕ
bad_word NotMoment = codes "is not a moment"
bad_word NoSize = codes "has no size"
bad_word NoLabel = codes "has no label"
bad_word NotUtf8 = codes "has a label that is not UTF-8"
bad_word NotShown = codes "is before 1970 or after 9999 by its clock"
bad_word OutOfOrder = codes "comes before the line ahead of it"

abbrev pub bad_line_text : ℕ → BadLine → List ℕ
bad_line_text number why = line_text (codes "elephant: line" ∷ decimal number ∷ bad_word why ∷ [])
