-- Which words spell a path at a moment, and why a word is none.
use Rattle.std.specs.Prelude.{◌≡◌, ℕ, List, ◌∷◌, Option, Some, None}
use Rattle.ele_path.specs.Path.{SpellsPath}
use Rattle.ele_path.specs.Tagged.{SpellsTaggedPath}
use Rattle.ele_path.specs.TaggedFault.{path_part, tag_part, IsTagFault, IsTaggedFault}
use Rattle.ele_path.specs.declared.fault.PathAtFault.{PathAtFault}
use Rattle.ele_path.specs.declared.fault.PathAtFault.TheVariants.{Path, Numbered}
use Rattle.ele_path.specs.declared.path_at.PathAt.{PathAt}
use Rattle.ele_path.specs.declared.tagged.Tag.{Tag}
use Rattle.ele_path.specs.declared.tagged.Tag.TheVariants.{Now, At}

-- the tag with the same meaning
abbrev pub tag_at : Option ℕ → Tag
tag_at None = Now
tag_at (Some moment) = At moment

-- the word is a path, followed by nothing for now, or by `@` and a moment
abbrev pub SpellsPathAt : List ℕ → PathAt → Type 0
SpellsPathAt word value = SpellsTaggedPath word (record { path = value.path; tag = tag_at value.moment })

-- the word is a path, followed by `#` (35)
pub record IsNumbered (word : List ℕ) : Type 0 where
  pub names : List (List ℕ)
  pub rest : List ℕ
  pub path : SpellsPath (path_part word) names
  pub tag : tag_part word ≡ 35 ∷ rest

-- the fault of the text of a tag: it begins with `#`, or no moment follows `@` (64)
abbrev pub IsMomentFault : List ℕ → PathAtFault → Type 0
IsMomentFault text Numbered = (rest : List ℕ) × (text ≡ 35 ∷ rest)
IsMomentFault text (Path fault) = (rest : List ℕ) × (text ≡ 64 ∷ rest) × IsTagFault text fault

-- `#` follows a path; or it doesn't, and the fault is that of the word as a path with a tag
abbrev pub IsPathAtFault : List ℕ → PathAtFault → Type 0
IsPathAtFault word Numbered = IsNumbered word
IsPathAtFault word (Path fault) = IsTaggedFault word fault × ¬ IsNumbered word
