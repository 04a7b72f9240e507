-- Which words mean a rule, in the tools' own options.
use Rattle.std.specs.Prelude.{◌≡◌, ℕ, ◌+◌, ◌*◌, ◌^◌, ◌<◌, ◌≤◌, ◌==◌, ◌||◌, Bool, true, false, List, [], ◌∷◌, ◌++◌, length, codes, Option, Some, None, if◌then◌else◌}
use Rattle.std.specs.Option.{option_or}
use Rattle.std.specs.List.{AllZip, after_first, before_first, list_any, slice_split}
use Rattle.std.specs.Str.{bytes_eq}
use Rattle.ele_moment.specs.Number.{SpellsNumber}
use Rattle.ele_rule_parts.specs.declared.part.Limit.{Limit}
use Rattle.ele_rule_parts.specs.declared.part.Limit.TheVariants.{Number, All, Within, Ago, Begin}
use Rattle.ele_rule_parts.specs.declared.part.Reach.{Reach}
use Rattle.ele_rule_parts.specs.declared.part.Part.{Part}
use Rattle.ele_peer_rules.specs.declared.tool.Tool.{Tool}
use Rattle.ele_peer_rules.specs.declared.tool.Tool.TheVariants.{Restic, OldRestic, Borg, Snapper, Sanoid, Btrbk}
use Rattle.ele_peer_rules.specs.declared.names.Slot.{Slot}
use Rattle.ele_rule_parts.specs.declared.span.Span.TheVariants.{Each, Second, Minute, Hour, Day, Week, Month, Year}
use Rattle.ele_rule_parts.specs.Marked.{is_mark}
use Rattle.ele_btrbk_rules.specs.Items.{SpellsItem}
use Rattle.ele_peer_rules.specs.declared.ways.Ways.{Ways}
use Rattle.ele_peer_rules.specs.Kept.{rank_of}
use Rattle.ele_peer_rules.specs.Ways.{ways_of}

abbrev pub tool_of : List ℕ → Option Tool
tool_of name =
    if bytes_eq name (codes "restic") then Some Restic
    else (if bytes_eq name (codes "restic-0.15") then Some OldRestic
    else (if bytes_eq name (codes "borg") then Some Borg
    else (if bytes_eq name (codes "snapper") then Some Snapper
    else (if bytes_eq name (codes "sanoid") then Some Sanoid
    else (if bytes_eq name (codes "btrbk") then Some Btrbk else None)))))

-- options of restic and borg
abbrev pub shared_slot : List ℕ → Option Slot
shared_slot name =
    if bytes_eq name (codes "keep-within") then Some (record { span = Each; within = true })
    else (if bytes_eq name (codes "keep-hourly") then Some (record { span = Hour; within = false })
    else (if bytes_eq name (codes "keep-daily") then Some (record { span = Day; within = false })
    else (if bytes_eq name (codes "keep-weekly") then Some (record { span = Week; within = false })
    else (if bytes_eq name (codes "keep-monthly") then Some (record { span = Month; within = false })
    else (if bytes_eq name (codes "keep-yearly") then Some (record { span = Year; within = false }) else None)))))

abbrev pub restic_slot : List ℕ → Option Slot
restic_slot name =
    if bytes_eq name (codes "keep-last") then Some (record { span = Each; within = false })
    else (if bytes_eq name (codes "keep-within-hourly") then Some (record { span = Hour; within = true })
    else (if bytes_eq name (codes "keep-within-daily") then Some (record { span = Day; within = true })
    else (if bytes_eq name (codes "keep-within-weekly") then Some (record { span = Week; within = true })
    else (if bytes_eq name (codes "keep-within-monthly") then Some (record { span = Month; within = true })
    else (if bytes_eq name (codes "keep-within-yearly") then Some (record { span = Year; within = true }) else None)))))

-- to borg the last ones are those of the last seconds
abbrev pub borg_slot : List ℕ → Option Slot
borg_slot name =
    if bytes_eq name (codes "keep-last") then Some (record { span = Second; within = false })
    else (if bytes_eq name (codes "keep-secondly") then Some (record { span = Second; within = false })
    else (if bytes_eq name (codes "keep-minutely") then Some (record { span = Minute; within = false }) else None))

abbrev pub snapper_slot : List ℕ → Option Slot
snapper_slot name =
    if bytes_eq name (codes "TIMELINE_MIN_AGE") then Some (record { span = Each; within = true })
    else (if bytes_eq name (codes "TIMELINE_LIMIT_HOURLY") then Some (record { span = Hour; within = false })
    else (if bytes_eq name (codes "TIMELINE_LIMIT_DAILY") then Some (record { span = Day; within = false })
    else (if bytes_eq name (codes "TIMELINE_LIMIT_WEEKLY") then Some (record { span = Week; within = false })
    else (if bytes_eq name (codes "TIMELINE_LIMIT_MONTHLY") then Some (record { span = Month; within = false })
    else (if bytes_eq name (codes "TIMELINE_LIMIT_YEARLY") then Some (record { span = Year; within = false }) else None)))))

abbrev pub sanoid_slot : List ℕ → Option Slot
sanoid_slot name =
    if bytes_eq name (codes "frequently") then Some (record { span = Minute; within = false })
    else (if bytes_eq name (codes "hourly") then Some (record { span = Hour; within = false })
    else (if bytes_eq name (codes "daily") then Some (record { span = Day; within = false })
    else (if bytes_eq name (codes "weekly") then Some (record { span = Week; within = false })
    else (if bytes_eq name (codes "monthly") then Some (record { span = Month; within = false })
    else (if bytes_eq name (codes "yearly") then Some (record { span = Year; within = false }) else None)))))

-- the spans that an option of the tool is about, and whether its value is a length of time
abbrev pub slot_of : Tool → List ℕ → Option Slot
slot_of Restic name = option_or (shared_slot name) (restic_slot name)
slot_of OldRestic name = option_or (shared_slot name) (restic_slot name)
slot_of Borg name = option_or (shared_slot name) (borg_slot name)
slot_of Snapper name = snapper_slot name
slot_of Sanoid name = sanoid_slot name
slot_of Btrbk name = None

-- the value for all rows
abbrev pub is_all : List ℕ → Bool
is_all text = bytes_eq text (codes "unlimited") || bytes_eq text (codes "-1")

-- which snapper and sanoid haven't
abbrev pub means_all : Tool → List ℕ → Bool
means_all Restic text = is_all text
means_all OldRestic text = is_all text
means_all Borg text = is_all text
means_all Snapper text = false
means_all Sanoid text = false
means_all Btrbk text = false

-- a number from 1 on
pub record SpellsSome (text : List ℕ) (n : ℕ) : Type 0 where
  pub number : SpellsNumber text n
  pub some : 0 < n

-- how many rows are kept, which snapper and sanoid may set to 0
abbrev pub SpellsRows : Tool → List ℕ → ℕ → Type 0
SpellsRows Restic text n = SpellsSome text n
SpellsRows OldRestic text n = SpellsSome text n
SpellsRows Borg text n = SpellsSome text n
SpellsRows Snapper text n = SpellsNumber text n
SpellsRows Sanoid text n = SpellsNumber text n
SpellsRows Btrbk text n = SpellsNumber text n

-- the number before a letter, and the rest behind it, or 0 where the letter isn't there
abbrev pub SpellsCount : Bool → ℕ → List ℕ → ℕ → List ℕ → Type 0
SpellsCount false letter word n rest = (n ≡ 0) × (rest ≡ word)
SpellsCount true letter word n rest = SpellsNumber (before_first (is_mark letter) word) n × (rest ≡ after_first (is_mark letter) word)

abbrev pub SpellsUnit : ℕ → List ℕ → ℕ → List ℕ → Type 0
SpellsUnit letter word n rest = SpellsCount (list_any (is_mark letter) word) letter word n rest

-- restic's length of time: years (121 is `y`), months (109, `m`), days (100, `d`) and hours (104, `h`), as in 1y5m7d2h
pub record SpellsRestic (word : List ℕ) (reach : Reach) : Type 0 where
  pub years : ℕ
  pub months : ℕ
  pub days : ℕ
  pub hours : ℕ
  pub past_years : List ℕ
  pub past_months : List ℕ
  pub past_days : List ℕ
  pub years_are : SpellsUnit 121 word years past_years
  pub months_are : SpellsUnit 109 past_years months past_months
  pub days_are : SpellsUnit 100 past_months days past_days
  pub hours_are : SpellsUnit 104 past_days hours []
  pub worth_months : reach.months ≡ 12 * years + months
  pub worth_seconds : reach.seconds ≡ 86400 * days + 3600 * hours
  pub months_fit : reach.months < 2 ^ 64
  pub seconds_fit : reach.seconds < 2 ^ 64
  pub some : 0 < reach.months + reach.seconds

-- the seconds of borg's units: `H` (72), `d` (100), `w` (119), `m` (109), which is 31 days, and `y` (121), which is 365 days
abbrev pub borg_unit : ℕ → Option ℕ
borg_unit letter =
    if letter == 72 then Some 3600 else (if letter == 100 then Some 86400 else (if letter == 119 then Some 604800 else (if letter == 109 then Some 2678400 else (if letter == 121 then Some 31536000 else None))))

-- borg's length of time: a number of one unit
pub record SpellsBorg (word : List ℕ) (reach : Reach) : Type 0 where
  pub number : List ℕ
  pub letter : ℕ
  pub unit : ℕ
  pub count : ℕ
  pub text : word ≡ number ++ letter ∷ []
  pub unit_is : borg_unit letter ≡ Some unit
  pub count_is : SpellsSome number count
  pub months : reach.months ≡ 0
  pub worth : reach.seconds ≡ count * unit
  pub fits : reach.seconds < 2 ^ 64

-- snapper's length of time: a number of seconds
pub record SpellsSeconds (word : List ℕ) (reach : Reach) : Type 0 where
  pub months : reach.months ≡ 0
  pub seconds : SpellsNumber word reach.seconds

abbrev pub SpellsReach : Tool → List ℕ → Reach → Type 0
SpellsReach Restic word reach = SpellsRestic word reach
SpellsReach OldRestic word reach = SpellsRestic word reach
SpellsReach Borg word reach = SpellsBorg word reach
SpellsReach Snapper word reach = SpellsSeconds word reach
SpellsReach Sanoid word reach = ⊥
SpellsReach Btrbk word reach = ⊥

-- the value of an option: a length of time, or how many rows
abbrev pub SpellsLimit : Tool → Bool → List ℕ → Limit → Type 0
SpellsLimit tool true text (Number n) = ⊥
SpellsLimit tool true text All = ⊥
SpellsLimit tool true text (Within reach) = SpellsReach tool text reach
SpellsLimit tool true text (Ago n) = ⊥
SpellsLimit tool true text (Begin n) = ⊥
SpellsLimit tool false text (Number n) = (means_all tool text ≡ false) × SpellsRows tool text n
SpellsLimit tool false text All = means_all tool text ≡ true
SpellsLimit tool false text (Within reach) = ⊥
SpellsLimit tool false text (Ago n) = ⊥
SpellsLimit tool false text (Begin n) = ⊥

-- an option of the tool, an equals sign (61) and its value
pub record SpellsOption (tool : Tool) (word : List ℕ) (part : Part) : Type 0 where
  pub slot : Slot
  pub equals : list_any (is_mark 61) word ≡ true
  pub slot_is : slot_of tool (before_first (is_mark 61) word) ≡ Some slot
  pub span : part.span ≡ slot.span
  pub limit : SpellsLimit tool slot.within (after_first (is_mark 61) word) part.limit

-- an option of btrbk is in words of its own
abbrev pub SpellsPartBy : Option Ways → Tool → List ℕ → Part → Type 0
SpellsPartBy (Some ways) tool word part = SpellsOption tool word part
SpellsPartBy None tool word part = SpellsItem word part

abbrev pub SpellsPart : Tool → List ℕ → Part → Type 0
SpellsPart tool word part = SpellsPartBy (ways_of tool) tool word part

-- a part of the rank is among them
abbrev pub has_rank : ℕ → List Part → Bool
has_rank rank parts = list_any (λ part. rank_of part == rank) parts

-- none of the parts has the rank of one before it
abbrev pub AreApart : List Part → List Part → Type 0
AreApart before [] = Unit {0}
AreApart before (part ∷ parts) = (has_rank (rank_of part) before ≡ false) × AreApart (before ++ part ∷ []) parts

-- options with a comma (44) between each two, none twice
pub record SpellsParts (tool : Tool) (text : List ℕ) (parts : List Part) : Type 0 where
  pub each : AllZip (SpellsPart tool) (slice_split (is_mark 44) text) parts
  pub once : AreApart [] parts
  pub few : length parts ≤ 18

-- a tool's name, a colon (58), and options
pub record MeansRule (word : List ℕ) (tool : Tool) (parts : List Part) : Type 0 where
  pub colon : list_any (is_mark 58) word ≡ true
  pub tool_is : tool_of (before_first (is_mark 58) word) ≡ Some tool
  pub parts_are : SpellsParts tool (after_first (is_mark 58) word) parts
