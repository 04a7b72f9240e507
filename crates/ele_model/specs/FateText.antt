-- Fates and marks in text: the words that `why` prints.
use Rattle.std.specs.Prelude.{ℕ, List, [], ◌∷◌, ◌++◌, codes, Option, Some, None}
use Rattle.std.specs.Fmt.{decimal}
use Rattle.std.specs.Option.{option_map_or}
use Rattle.ele_policy.specs.CauseText.{cause_words}
use Rattle.ele_model.specs.declared.fate.Fate.{Fate}
use Rattle.ele_model.specs.declared.fate.Fate.TheVariants.{Current, Open, Marked, Kept, Due}
use Rattle.ele_model.specs.declared.rows.MarkRow.{MarkRow}

-- the word of a mark: its moment, and its end after a slash (47), if it has one
abbrev pub mark_word : MarkRow → List ℕ
mark_word mark = decimal mark.at ++ option_map_or (λ end. 47 ∷ decimal end) mark.until []

-- the words of a moment until which something is kept
abbrev pub until_words : Option ℕ → List (List ℕ)
until_words None = []
until_words (Some moment) = codes "until" ∷ decimal moment ∷ []

-- and of a level
abbrev pub level_words : Option ℕ → List (List ℕ)
level_words None = []
level_words (Some level) = codes "level" ∷ decimal level ∷ []

-- the words of a fate
abbrev pub fate_words : Fate → List (List ℕ)
fate_words Current = codes "current" ∷ []
fate_words Open = codes "open" ∷ []
fate_words (Marked group mark) = codes "marked" ∷ group ∷ mark_word mark ∷ []
fate_words (Kept until level) = codes "kept" ∷ until_words until ++ level_words level
fate_words (Due since cause) = codes "due" ∷ decimal since ∷ cause_words cause
