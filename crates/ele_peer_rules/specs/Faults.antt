-- What is wrong with a word that means no rule.
use Rattle.std.specs.Prelude.{◌≡◌, ℕ, ◌+◌, ◌<◌, Bool, true, false, List, [], length, take, get_or, Option, Some, None, ◌⊎◌, if◌then◌else◌}
use Rattle.std.specs.List.{AllZip, after_first, before_first, list_any, slice_split}
use Rattle.ele_peer_rules.specs.declared.names.Slot.{Slot}
use Rattle.ele_rule_parts.specs.declared.part.Part.{Part}
use Rattle.ele_peer_rules.specs.declared.tool.Tool.{Tool}
use Rattle.ele_peer_rules.specs.declared.reading.RuleFault.{RuleFault}
use Rattle.ele_peer_rules.specs.declared.reading.Wrong.{Wrong}
use Rattle.ele_peer_rules.specs.declared.reading.Wrong.TheVariants.{NoTool, UnknownTool, NoValue, UnknownOption, BadNumber, BadLength, BadSchedule, Twice}
use Rattle.ele_peer_rules.specs.Kept.{rank_of}
use Rattle.ele_peer_rules.specs.Words.{AreApart, SpellsPart, has_rank, slot_of, tool_of}
use Rattle.ele_peer_rules.specs.Ways.{ways_of}
use Rattle.ele_peer_rules.specs.declared.ways.Ways.{Ways}
use Rattle.ele_rule_parts.specs.Marked.{is_mark}
use Rattle.ele_btrbk_rules.specs.declared.items.Item.{Item}
use Rattle.ele_btrbk_rules.specs.Items.{item_of}

-- a value that isn't one of its option
abbrev pub wrong_value : Option Slot → Wrong
wrong_value None = UnknownOption
wrong_value (Some slot) = if slot.within then BadLength else BadNumber

abbrev pub wrong_option : Tool → List ℕ → Wrong
wrong_option tool word = if list_any (is_mark 61) word then wrong_value (slot_of tool (before_first (is_mark 61) word)) else NoValue

abbrev pub wrong_item : Option Item → Wrong
wrong_item None = UnknownOption
wrong_item (Some item) = BadSchedule

-- an option that spells no part
abbrev pub wrong_by : Option Ways → Tool → List ℕ → Wrong
wrong_by (Some ways) tool word = wrong_option tool word
wrong_by None tool word = wrong_item (item_of word)

abbrev pub wrong_of : Tool → List ℕ → Wrong
wrong_of tool word = wrong_by (ways_of tool) tool word

-- the option spells no part, or one of a rank that a part before it has; after 18 parts no rank is left
pub record IsUnspelled (tool : Tool) (word : List ℕ) (wrong : Wrong) : Type 0 where
  pub none : (part : Part) → SpellsPart tool word part → ⊥
  pub wrong_is : wrong ≡ wrong_of tool word

pub record IsRepeated (tool : Tool) (before : List Part) (word : List ℕ) (wrong : Wrong) : Type 0 where
  pub part : Part
  pub spelled : SpellsPart tool word part
  pub again : (has_rank (rank_of part) before ≡ true) ⊎ (length before ≡ 18)
  pub wrong_is : wrong ≡ Twice

-- the options before it spell parts, none of them twice
pub record IsFirstWrong (tool : Tool) (words : List (List ℕ)) (fault : RuleFault) : Type 0 where
  pub before : List Part
  pub word : List ℕ
  pub number : fault.option ≡ length before + 1
  pub in_words : length before < length words
  pub word_is : word ≡ get_or words (length before) word
  pub spelled : AllZip (SpellsPart tool) (take (length before) words) before
  pub once : AreApart [] before
  pub bad : IsUnspelled tool word fault.wrong ⊎ IsRepeated tool before word fault.wrong

-- the fault of a word that may have a colon, and the tool before it
abbrev pub IsFaultOf : Bool → Option Tool → List ℕ → RuleFault → Type 0
IsFaultOf false tool word fault = fault ≡ record { option = 0; wrong = NoTool }
IsFaultOf true None word fault = fault ≡ record { option = 0; wrong = UnknownTool }
IsFaultOf true (Some tool) word fault = IsFirstWrong tool (slice_split (is_mark 44) (after_first (is_mark 58) word)) fault

-- the first fault of the word
abbrev pub IsFault : List ℕ → RuleFault → Type 0
IsFault word fault = IsFaultOf (list_any (is_mark 58) word) (tool_of (before_first (is_mark 58) word)) word fault
