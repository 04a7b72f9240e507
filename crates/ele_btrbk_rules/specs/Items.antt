-- Which words mean options of btrbk. Its option `snapshot_preserve` has several words, of which each may be one of its own.
use Rattle.std.specs.Prelude.{◌≡◌, ℕ, ◌<◌, ◌==◌, Bool, true, false, List, [], ◌∷◌, ◌++◌, codes, Option, Some, None, if◌then◌else◌}
use Rattle.std.specs.Option.{option_or}
use Rattle.std.specs.List.{after_first, before_first, list_any}
use Rattle.std.specs.Str.{bytes_eq}
use Rattle.ele_moment.specs.Number.{SpellsNumber}
use Rattle.ele_btrbk_rules.specs.declared.items.Item.{Item}
use Rattle.ele_btrbk_rules.specs.declared.items.Item.TheVariants.{Keep, Least, Weekday, HourOfDay}
use Rattle.ele_rule_parts.specs.declared.part.Limit.{Limit}
use Rattle.ele_rule_parts.specs.declared.part.Limit.TheVariants.{Number, All, Within, Ago, Begin}
use Rattle.ele_rule_parts.specs.declared.part.Part.{Part}
use Rattle.ele_rule_parts.specs.declared.span.Span.{Span}
use Rattle.ele_rule_parts.specs.declared.span.Span.TheVariants.{Each, Hour, Day, Week, Month, Year}
use Rattle.ele_rule_parts.specs.Marked.{is_mark}

-- an option that is named
abbrev pub item_named : List ℕ → Option Item
item_named name =
    if bytes_eq name (codes "snapshot_preserve") then Some Keep
    else (if bytes_eq name (codes "snapshot_preserve_min") then Some Least
    else (if bytes_eq name (codes "preserve_day_of_week") then Some Weekday
    else (if bytes_eq name (codes "preserve_hour_of_day") then Some HourOfDay else None)))

-- a word without an equals sign (61) is one of `snapshot_preserve`
abbrev pub item_of : List ℕ → Option Item
item_of word = if list_any (is_mark 61) word then item_named (before_first (is_mark 61) word) else Some Keep

abbrev pub value_of : List ℕ → List ℕ
value_of word = if list_any (is_mark 61) word then after_first (is_mark 61) word else word

-- the letters of spans: `h` (104), `d` (100), `w` (119), `m` (109) and `y` (121)
abbrev pub unit_of : ℕ → Option Span
unit_of letter =
    if letter == 104 then Some Hour else (if letter == 100 then Some Day else (if letter == 119 then Some Week else (if letter == 109 then Some Month else (if letter == 121 then Some Year else None))))

-- the same in capitals
abbrev pub capital_of : ℕ → Option Span
capital_of letter =
    if letter == 72 then Some Hour else (if letter == 68 then Some Day else (if letter == 87 then Some Week else (if letter == 77 then Some Month else (if letter == 89 then Some Year else None))))

abbrev pub any_unit_of : ℕ → Option Span
any_unit_of letter = option_or (unit_of letter) (capital_of letter)

-- how many spans: a number, or all by a star
abbrev pub SpellsCountIf : Bool → List ℕ → Limit → Type 0
SpellsCountIf true digits limit = limit ≡ All
SpellsCountIf false digits (Number n) = SpellsNumber digits n
SpellsCountIf false digits All = ⊥
SpellsCountIf false digits (Within reach) = ⊥
SpellsCountIf false digits (Ago n) = ⊥
SpellsCountIf false digits (Begin n) = ⊥

-- the first rows of so many spans, as 14d or *m
pub record SpellsKeep (value : List ℕ) (part : Part) : Type 0 where
  pub digits : List ℕ
  pub letter : ℕ
  pub text : value ≡ digits ++ letter ∷ []
  pub unit : any_unit_of letter ≡ Some part.span
  pub count : SpellsCountIf (bytes_eq digits (codes "*")) digits part.limit

-- all rows of the last spans, as 2d
pub record SpellsAgo (value : List ℕ) (part : Part) : Type 0 where
  pub digits : List ℕ
  pub letter : ℕ
  pub number : ℕ
  pub text : value ≡ digits ++ letter ∷ []
  pub unit : unit_of letter ≡ Some part.span
  pub count : SpellsNumber digits number
  pub some : 0 < number
  pub limit : part.limit ≡ Ago number

-- all rows, or the newest
abbrev pub plain_least : List ℕ → Option Part
plain_least value =
    if bytes_eq value (codes "all") then Some (record { span = Each; limit = All })
    else (if bytes_eq value (codes "latest") then Some (record { span = Each; limit = Number 1 }) else None)

abbrev pub SpellsLeastIf : Option Part → List ℕ → Part → Type 0
SpellsLeastIf None value part = SpellsAgo value part
SpellsLeastIf (Some plain) value part = part ≡ plain

abbrev pub weekday_of : List ℕ → Option ℕ
weekday_of value =
    if bytes_eq value (codes "sunday") then Some 0
    else (if bytes_eq value (codes "monday") then Some 1
    else (if bytes_eq value (codes "tuesday") then Some 2
    else (if bytes_eq value (codes "wednesday") then Some 3
    else (if bytes_eq value (codes "thursday") then Some 4
    else (if bytes_eq value (codes "friday") then Some 5
    else (if bytes_eq value (codes "saturday") then Some 6 else None))))))

-- the day on which weeks begin, and the hour at which days do
pub record SpellsWeekday (value : List ℕ) (part : Part) : Type 0 where
  pub day : ℕ
  pub day_is : weekday_of value ≡ Some day
  pub part_is : part ≡ record { span = Week; limit = Begin day }

pub record SpellsHour (value : List ℕ) (part : Part) : Type 0 where
  pub hour : ℕ
  pub hour_is : SpellsNumber value hour
  pub of_day : hour < 24
  pub part_is : part ≡ record { span = Day; limit = Begin hour }

abbrev pub SpellsValue : Item → List ℕ → Part → Type 0
SpellsValue Keep value part = SpellsKeep value part
SpellsValue Least value part = SpellsLeastIf (plain_least value) value part
SpellsValue Weekday value part = SpellsWeekday value part
SpellsValue HourOfDay value part = SpellsHour value part

pub record SpellsItem (word : List ℕ) (part : Part) : Type 0 where
  pub item : Item
  pub item_is : item_of word ≡ Some item
  pub value : SpellsValue item (value_of word) part
