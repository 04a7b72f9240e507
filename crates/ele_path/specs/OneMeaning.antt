-- What is true of every word: it spells at most one path and has at most one fault, and no fault if it spells a path.
use Rattle.std.specs.Prelude.{◌≡◌, ℕ, List, None}
use Rattle.ele_path.specs.Path.{SpellsPath}
use Rattle.ele_path.specs.FirstFault.{path_fault}
use Rattle.ele_path.specs.Tagged.{SpellsTag, SpellsTaggedPath}
use Rattle.ele_path.specs.TaggedFault.{path_part, tag_part, IsTaggedFault}
use Rattle.ele_path.specs.PathAt.{SpellsPathAt, IsPathAtFault}
use Rattle.ele_path.specs.declared.fault.PathFault.{PathFault}
use Rattle.ele_path.specs.declared.fault.PathAtFault.{PathAtFault}
use Rattle.ele_path.specs.declared.path_at.PathAt.{PathAt}
use Rattle.ele_path.specs.declared.tagged.TaggedPath.{TaggedPath}

pub record OneMeaning : Type 0 where
  -- two paths that a word spells are one
  pub one_path : (word : List ℕ) (a b : List (List ℕ)) → SpellsPath word a → SpellsPath word b → a ≡ b
  -- a word that spells a path has no fault
  pub faultless_path : (word : List ℕ) (names : List (List ℕ)) → SpellsPath word names → path_fault word ≡ None
  -- of a word that spells a path with a tag, the text before the first mark spells the path, and the rest the tag
  pub tagged_parts : (word : List ℕ) (value : TaggedPath) → SpellsTaggedPath word value → SpellsPath (path_part word) value.path × SpellsTag (tag_part word) value.tag
  -- it has no fault as a path with a tag
  pub faultless_tagged : (word : List ℕ) (value : TaggedPath) (fault : PathFault) → SpellsTaggedPath word value → IsTaggedFault word fault → ⊥
  -- two faults of a word as a path with a tag are one
  pub one_tagged_fault : (word : List ℕ) (a b : PathFault) → IsTaggedFault word a → IsTaggedFault word b → a ≡ b
  -- a word that spells a path at a moment has no fault as one
  pub faultless_at : (word : List ℕ) (value : PathAt) (fault : PathAtFault) → SpellsPathAt word value → IsPathAtFault word fault → ⊥
  -- two faults of a word as a path at a moment are one
  pub one_at_fault : (word : List ℕ) (a b : PathAtFault) → IsPathAtFault word a → IsPathAtFault word b → a ≡ b
