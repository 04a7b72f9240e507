-- Which words spell a path followed by a tag.
use Rattle.std.specs.Prelude.{◌≡◌, ℕ, ◌==◌, ◌||◌, Bool, List, [], ◌∷◌, ◌++◌}
use Rattle.ele_moment.specs.Number.{SpellsNumber}
use Rattle.ele_moment.specs.Spelled.{SpellsMoment}
use Rattle.ele_path.specs.Path.{SpellsPath}
use Rattle.ele_path.specs.declared.tagged.Tag.{Tag}
use Rattle.ele_path.specs.declared.tagged.Tag.TheVariants.{Now, At, Number}
use Rattle.ele_path.specs.declared.tagged.TaggedPath.{TaggedPath}

-- `@` (64) or `#` (35), the first byte of a tag
abbrev pub is_mark : ℕ → Bool
is_mark byte = byte == 64 || byte == 35

-- no text for now, `@` and a moment, or `#` and the number of a version
abbrev pub SpellsTag : List ℕ → Tag → Type 0
SpellsTag [] Now = Unit {0}
SpellsTag (mark ∷ text) (At moment) = (mark ≡ 64) × SpellsMoment text moment
SpellsTag (mark ∷ text) (Number number) = (mark ≡ 35) × SpellsNumber text number
SpellsTag text tag = ⊥

-- the word is the text of a path, followed by the text of a tag
pub record SpellsTaggedPath (word : List ℕ) (value : TaggedPath) : Type 0 where
  pub path_text : List ℕ
  pub tag_text : List ℕ
  pub are : word ≡ path_text ++ tag_text
  pub path : SpellsPath path_text value.path
  pub tag : SpellsTag tag_text value.tag
