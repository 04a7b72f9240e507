-- Why a word is no path with a tag: the first fault from the left.
use Rattle.std.specs.Prelude.{◌≡◌, ℕ, List, ◌∷◌, drop, Some}
use Rattle.std.specs.List.{before_first, position_or_len}
use Rattle.ele_moment.specs.Number.{SpellsNumber}
use Rattle.ele_moment.specs.Spelled.{SpellsMoment}
use Rattle.ele_path.specs.Path.{SpellsPath}
use Rattle.ele_path.specs.FirstFault.{path_fault}
use Rattle.ele_path.specs.Tagged.{is_mark}
use Rattle.ele_path.specs.declared.fault.PathFault.{PathFault}
use Rattle.ele_path.specs.declared.fault.PathFault.TheVariants.{BadMoment, BadPath}

-- the text before the first mark of a tag, or all
abbrev pub path_part : List ℕ → List ℕ
path_part word = before_first is_mark word

-- the first mark of a tag, and the text after it, or nothing
abbrev pub tag_part : List ℕ → List ℕ
tag_part word = drop (position_or_len is_mark word) word

-- the fault of the text of a tag: no moment follows `@` (64), or no number `#` (35)
pub data IsTagFault (text : List ℕ) (fault : PathFault) : Type 0 where
  no_moment : (rest : List ℕ) → text ≡ 64 ∷ rest → ((moment : ℕ) → ¬ SpellsMoment rest moment) → fault ≡ BadMoment → IsTagFault text fault
  no_number : (rest : List ℕ) → text ≡ 35 ∷ rest → ((number : ℕ) → ¬ SpellsNumber rest number) → fault ≡ BadPath → IsTagFault text fault

-- the first fault of the word: that of its path, or else that of its tag
pub data IsTaggedFault (word : List ℕ) (fault : PathFault) : Type 0 where
  of_path : path_fault (path_part word) ≡ Some fault → IsTaggedFault word fault
  of_tag : (names : List (List ℕ)) → SpellsPath (path_part word) names → IsTagFault (tag_part word) fault → IsTaggedFault word fault
