-- Words of paths with tags or at a moment, and of sources: each one value, or one fault.
use Rattle.ele_script.proofs.Basics.{nat_tests, ◌≡◌, ◌==◌, ℕ, Bool, true, false, true≢false, List, [], ◌∷◌, ◌++◌, refl, sym, ap, subst, ◌∙◌, arith, Option, AllDigits, eqb-true, decimal_is_IsNumeral}
use Rattle.ele_script.proofs.Prelude.{SpellsNumber, path_part, tag_part, OneMeaning, LineFault, fault_of_path, IsTaggedWordFault, begins_path, IsSourceFault, SpellsSource}
use Rattle.ele_path.specs.declared.path_at.PathAt.{PathAt}
use Rattle.ele_path.specs.declared.tagged.Tag.{Tag}
use Rattle.ele_path.specs.declared.tagged.Tag.TheVariants.{At, Number}
use Rattle.ele_path.specs.declared.tagged.TaggedPath.{TaggedPath}
use Rattle.ele_path.specs.Tagged.{SpellsTag, SpellsTaggedPath}
use Rattle.ele_path.specs.Path.{SpellsPath}
use Rattle.ele_path.specs.PathAt.{tag_at, SpellsPathAt}
use Rattle.ele_model.specs.declared.event.Source.{Source}
use Rattle.ele_model.specs.declared.event.Source.TheVariants.{Tagged, Of}
use Rattle.ele_script.proofs.Moments.{one_number, one_moment}

one_tag : (text : List ℕ) (a b : Tag) → SpellsTag text a → SpellsTag text b → a ≡ b
one_tag (mark ∷ text) (At m) (At n) x y = ap At (one_moment text m n x.1 y.1)
one_tag (mark ∷ text) (Number m) (Number n) x y = ap Number (one_number text m n x.1 y.1)
one_tag text a b x y = grind (arith, nat_tests)

moment_is : (a b : Option ℕ) → tag_at a ≡ tag_at b → a ≡ b
moment_is x0 x1 h = grind (arith, nat_tests)

-- a path begins with a slash
begins : (text tag : List ℕ) (names : List (List ℕ)) → SpellsPath text names → begins_path (text ++ tag) ≡ true
begins text tag [] is = grind (arith, nat_tests)
begins text tag (name ∷ names) is = grind (arith, nat_tests)

begins_tagged : (word : List ℕ) (value : TaggedPath) → SpellsTaggedPath word value → begins_path word ≡ true
begins_tagged word value h = ap begins_path h.are ∙ begins h.path_text h.tag_text value.path h.path

-- and a number does not
no_slash : (byte : ℕ) (digits : List ℕ) → AllDigits 10 (byte ∷ digits) → (b : Bool) → (byte == 47) ≡ b → b ≡ false
no_slash byte digits all x3 is = grind (arith, nat_tests, eqb-true)

digits_plain : (word : List ℕ) → AllDigits 10 word → begins_path word ≡ false
digits_plain [] all = refl
digits_plain (byte ∷ digits) all = no_slash byte digits all (byte == 47) refl

begins_number : (word : List ℕ) (n : ℕ) → SpellsNumber word n → begins_path word ≡ false
begins_number word n h = digits_plain word (subst (AllDigits 10) (sym h.digits) (decimal_is_IsNumeral n h.fits).0.1)

either : {P : Type 0} {b : Bool} → b ≡ true → b ≡ false → P
either is other = absurd (true≢false (sym is ∙ other))

module _ (law : OneMeaning) where
  -- a word spells at most one path with a tag
  pub one_tagged : (word : List ℕ) (a b : TaggedPath) → SpellsTaggedPath word a → SpellsTaggedPath word b → a ≡ b
  one_tagged word a b x y = grind (arith, nat_tests, law.tagged_parts word a x, law.tagged_parts word b y, law.one_path (path_part word) a.path b.path, one_tag (tag_part word) a.tag b.tag)

  -- and at most one path at a moment
  pub one_timed : (word : List ℕ) (a b : PathAt) → SpellsPathAt word a → SpellsPathAt word b → a ≡ b
  one_timed word a b x y = grind (arith, nat_tests, one_tagged word _ _ x y, moment_is a.moment b.moment)

  -- and at most one source
  pub one_source : (word : List ℕ) (a b : Source) → SpellsSource word a → SpellsSource word b → a ≡ b
  one_source word x1 x2 x y = grind (arith, nat_tests, one_tagged, either, begins_tagged, begins_number, one_number)

  pub faultless_tagged : (word : List ℕ) (value : TaggedPath) (fault : LineFault) → SpellsTaggedPath word value → IsTaggedWordFault word fault → ⊥
  faultless_tagged word value fault is bad = law.faultless_tagged word value bad.0 is bad.1

  pub one_tagged_word : (word : List ℕ) (a b : LineFault) → IsTaggedWordFault word a → IsTaggedWordFault word b → a ≡ b
  one_tagged_word word a b x y = x.2 ∙ ap fault_of_path (law.one_tagged_fault word x.0 y.0 x.1 y.1) ∙ sym y.2

  -- a word that spells a source has no fault of one
  pub faultless_source : (word : List ℕ) (value : Source) (fault : LineFault) → SpellsSource word value → IsSourceFault word fault → ⊥
  faultless_source word (Tagged value) fault is bad = let slash = begins_tagged word value is in let none = faultless_tagged word value fault is in grind arith
  faultless_source word (Of handle) fault is bad = let plain = begins_number word handle is in grind arith

  -- and a word has at most one
  pub one_source_fault : (word : List ℕ) (a b : LineFault) → IsSourceFault word a → IsSourceFault word b → a ≡ b
  one_source_fault word a b x y = grind (arith, one_tagged_word word a b)
