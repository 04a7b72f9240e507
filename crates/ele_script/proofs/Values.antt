-- Words and their values: each has at most one of a kind.
use Rattle.ele_script.proofs.Basics.{nat_tests, arith, ◌≡◌, ℕ, List, refl, sym, ap, subst, ◌∙◌, Ok, Err, Result, codes, IfErr, ok_or, decode_of, option_map, same_Some}
use Rattle.ele_script.proofs.Prelude.{SpellsMoment, OneMeaning, LineFault, BadMoment, WordKind, NumberWord, HandleWord, VersionWord, MomentWord, EndWord, NameWord, PathWord, TaggedWord, TimedWord, SourceWord, BytesWord}
use Rattle.ele_script.proofs.Prelude.{PolicyWord, Value, Moment, Name, Path, Timed, Bytes, word_kind, SpellsBytes, SpellsValue, fault_of_path, fault_of_path_at, IsOfKind, IsWordFault}
use Rattle.std.specs.Result.{result_ok}
use Rattle.ele_script.proofs.Moments.{one_number, one_moment}
use Rattle.ele_script.proofs.PathWords.{one_tagged, one_timed, one_source, faultless_tagged, faultless_source, one_tagged_word, one_source_fault}
use Rattle.ele_script.proofs.Policies.{one_policy}
use Rattle.ele_script.specs.Value.{Number, Handle, Version, End, Tagged, Source, Policy}
use Rattle.std.proofs.lemmas.Option.{none-some}

absurd_ok : {A E : Type 0} {x : A} {e : E} → ◌≡◌ {A = Result A E} (Err e) (Ok x) → ⊥
absurd_ok h = cc

-- a dash is no digit
no_dash : (word bytes : List ℕ) → word ≡ codes "-" → decode_of word ≡ Ok bytes → ⊥
no_dash word bytes dash digits = absurd_ok (sym (ap decode_of dash) ∙ digits)

one_bytes : (word : List ℕ) (a b : List ℕ) → SpellsBytes word a → SpellsBytes word b → a ≡ b
one_bytes word a b x3 x4 = grind (arith, nat_tests, no_dash)

module _ (law : OneMeaning) where
  -- a word spells at most one value of a kind
  pub one_value : (word : List ℕ) (a b : Value) → word_kind a ≡ word_kind b → SpellsValue word a → SpellsValue word b → a ≡ b
  one_value word (Number m) (Number n) k a b = ap Number (one_number word m n a b)
  one_value word (Handle m) (Handle n) k a b = ap Handle (one_number word m n a b)
  one_value word (Version m) (Version n) k a b = ap Version (one_number word m n a b)
  one_value word (Moment m) (Moment n) k a b = ap Moment (one_moment word m n a b)
  one_value word (End m) (End n) k a b = ap End (one_moment word m n a b)
  one_value word (Name m) (Name n) k a b = ap Name (a.0 ∙ sym b.0)
  one_value word (Path m) (Path n) k a b = ap Path (law.one_path word m n a b)
  one_value word (Tagged x) (Tagged y) k a b = ap Tagged (one_tagged law word x y a b)
  one_value word (Timed x) (Timed y) k a b = ap Timed (one_timed law word x y a b)
  one_value word (Source x) (Source y) k a b = ap Source (one_source law word x y a b)
  one_value word (Bytes m) (Bytes n) k a b = ap Bytes (one_bytes word m n a b)
  one_value word (Policy m) (Policy n) k a b = let same = one_policy word (Ok m) (Ok n) a b in cc
  one_value word _ _ k a b = absurd cc

  -- a word that spells a value of its kind has no fault
  pub faultless_word : (kind : WordKind) (word : List ℕ) (fault : LineFault) → IsOfKind kind word → IsWordFault kind word fault → ⊥
  faultless_word HandleWord word fault (Handle n, k, is) bad = bad.1 (Number n, refl, is)
  faultless_word VersionWord word fault (Version n, k, is) bad = bad.1 (Number n, refl, is)
  faultless_word EndWord word fault (End m, k, is) bad = bad.1 (Moment m, refl, is)
  faultless_word PathWord word fault (Path names, k, is) bad = none-some _ (ap (λ o. option_map fault_of_path o) (sym (law.faultless_path word names is)) ∙ bad)
  faultless_word TaggedWord word fault (Tagged value, k, is) bad = faultless_tagged law word value fault is bad
  faultless_word TimedWord word fault (Timed value, k, is) bad = law.faultless_at word value bad.0 is bad.1
  faultless_word SourceWord word fault (Source value, k, is) bad = faultless_source law word value fault is bad
  faultless_word PolicyWord word fault (Policy policy, k, is) bad = let same = one_policy word (Ok policy) (Err fault) is bad in cc
  faultless_word kind word fault is bad = grind arith

  -- a word has at most one fault of its kind
  pub one_word_fault : (kind : WordKind) (word : List ℕ) (a b : LineFault) → IsWordFault kind word a → IsWordFault kind word b → a ≡ b
  one_word_fault NumberWord word a b x y = x.0 ∙ sym y.0
  one_word_fault HandleWord word a b x y = x.0 ∙ sym y.0
  one_word_fault VersionWord word a b x y = x.0 ∙ sym y.0
  one_word_fault MomentWord word a b x y = x.0 ∙ sym y.0
  one_word_fault EndWord word a b x y = x.0 ∙ sym y.0
  one_word_fault NameWord word a b x y = x.0 ∙ sym y.0
  one_word_fault PathWord word a b x y = same_Some _ _ (sym x ∙ y)
  one_word_fault TaggedWord word a b x y = one_tagged_word law word a b x y
  one_word_fault TimedWord word a b x y = x.2 ∙ ap fault_of_path_at (law.one_at_fault word x.0 y.0 x.1 y.1) ∙ sym y.2
  one_word_fault SourceWord word a b x y = one_source_fault law word a b x y
  one_word_fault BytesWord word a b x y = x.0 ∙ sym y.0
  one_word_fault PolicyWord word a b x y = let same = one_policy word (Err a) (Err b) x y in cc

pub moment_of : (word : List ℕ) → IsOfKind MomentWord word → (m : ℕ) × SpellsMoment word m
moment_of word (Moment m, k, is) = (m, is)
moment_of word (value, k, is) = absurd cc

-- the fault of a word that was read as no moment
pub moment_fault : {E : Type 0} (word : List ℕ) (read : Result ℕ E) (r : Result ℕ LineFault) → ((m : ℕ) → SpellsMoment word m → read ≡ Ok m) → r ≡ ok_or (result_ok read) BadMoment → IfErr r (IsWordFault MomentWord word)
moment_fault word (Ok m) r only is = subst (λ r. IfErr r (IsWordFault MomentWord word)) (sym is) tt
moment_fault word (Err e) r only is =
    let no : IsOfKind MomentWord word → ⊥ = λ h. let m = moment_of word h in absurd_ok (only m.0 m.1) in
    subst (λ r. IfErr r (IsWordFault MomentWord word)) (sym is) (refl, no)
