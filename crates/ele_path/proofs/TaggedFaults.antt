-- The faults of words of paths with tags: none if one is spelled, and else one.
use Rattle.ele_path.proofs.Basics.{◌≡◌, ℕ, ◌∷◌, List, subst, arith, nat_tests, Some}
use Rattle.ele_path.proofs.Words.{PathFault, Tag, Now, At, Number, TaggedPath, path_fault, SpellsPath, SpellsTag, SpellsTaggedPath, path_part, tag_part, IsTagFault, IsTaggedFault, of_path, of_tag, no_moment, no_number}
use Rattle.ele_path.proofs.Spelled.{spelled_faultless}
use Rattle.ele_path.proofs.Tags.{spelled_parts}

faultless_tag : (text : List ℕ) (tag : Tag) (fault : PathFault) → SpellsTag text tag → IsTagFault text fault → ⊥
faultless_tag text tag fault h (no_moment rest is none bad) = behind tag (subst (λ text. SpellsTag text tag) is h) where
  behind : (tag : Tag) → SpellsTag (64 ∷ rest) tag → ⊥
  behind Now h = h
  behind (At m) h = none m h.1
  behind (Number n) h = absurd (omega (arith, h.0))
faultless_tag text tag fault h (no_number rest is none bad) = behind tag (subst (λ text. SpellsTag text tag) is h) where
  behind : (tag : Tag) → SpellsTag (35 ∷ rest) tag → ⊥
  behind Now h = h
  behind (At m) h = absurd (omega (arith, h.0))
  behind (Number n) h = none n h.1

faultless_path : {P : Type 0} (word : List ℕ) (names : List (List ℕ)) (fault : PathFault) → SpellsPath word names → path_fault word ≡ Some fault → P
faultless_path word names fault h bad = absurd (let none = spelled_faultless word names h in cc)

-- a word that spells a path with a tag has no fault
pub tagged_faultless : (word : List ℕ) (value : TaggedPath) (fault : PathFault) → SpellsTaggedPath word value → IsTaggedFault word fault → ⊥
tagged_faultless word value fault h (of_path bad) = faultless_path (path_part word) value.path fault (spelled_parts word value h).0 bad
tagged_faultless word value fault h (of_tag names path bad) = faultless_tag (tag_part word) value.tag fault (spelled_parts word value h).1 bad

one_tag_fault : (text : List ℕ) (a b : PathFault) → IsTagFault text a → IsTagFault text b → a ≡ b
one_tag_fault text a b x y = grind (arith, nat_tests)

-- and a word has one fault
pub one_tagged_fault : (word : List ℕ) (a b : PathFault) → IsTaggedFault word a → IsTaggedFault word b → a ≡ b
one_tagged_fault word a b x y = grind (arith, nat_tests, spelled_faultless, one_tag_fault)
