-- Words of policies: each is read as one policy or with one fault.
use Rattle.ele_script.proofs.Basics.{nat_tests, ◌≡◌, ℕ, false, true≢false, List, Option, Some, None, IfNone, drop, ap, inl, inr, sym, subst, ◌∙◌, arith, codes, bytes_decides, take_all, Result, Err}
use Rattle.ele_script.proofs.Prelude.{One, KeepAll, Safe, Landmarks, Rung, IsLadder, LineFault, BadLadder, KeepsLadder, SpellsNumber, SpellsPair, SpellsSafe, IsSafeWord, IsLadderWord, HasForm, ReadsPolicy}
use Rattle.std.specs.Str.{bytes_eq}
use Rattle.ele_policy.specs.declared.policy.Policy.{Policy}
use Rattle.ele_script.proofs.Moments.{one_number}
use Rattle.ele_script.proofs.Decided.{same_behind}
use Rattle.ele_script.proofs.PairWords.{number_unmarked, one_pair, one_pairs, slashed}
use Rattle.std.proofs.lemmas.Option.{none-some}

-- a number is no pair
no_both : (text : List ℕ) (seconds : ℕ) (pair : Rung) → SpellsNumber text seconds → SpellsPair text pair → ⊥
no_both text seconds pair number is = slashed text pair is (number_unmarked 47 (omega arith) text seconds number)

-- a text has at most one number of seconds and one floor
one_safe : (text : List ℕ) (s f t g : ℕ) → SpellsSafe text s f → SpellsSafe text t g → (s ≡ t) × (f ≡ g)
one_safe text s f t g a b = elim a [
  | inl number ↦ elim b [ inl other ↦ (one_number text s t number.0 other.0, number.1 ∙ sym other.1) | inr pair ↦ absurd (no_both text s (t, g) number.0 pair) ]
  | inr pair ↦ elim b [ inl number ↦ absurd (no_both text t (s, f) number.0 pair) | inr other ↦ let same = one_pair text (s, f) (t, g) pair other in (ap (λ (p : Rung). p.0) same, ap (λ (p : Rung). p.1) same) ]
]

one_safe_word : (word : List ℕ) (s f t g : ℕ) → IsSafeWord word s f → IsSafeWord word t g → (s ≡ t) × (f ≡ g)
one_safe_word word s f t g a b = one_safe a.text s f t g a.spelled (subst (λ w. SpellsSafe w t g) (same_behind (codes "safe:") b.text a.text (sym b.are ∙ a.are)) b.spelled)

-- a text after `safe:` that isn't of these makes its word none
pub unsafe : (word text : List ℕ) (r : Option (ℕ × ℕ)) → text ≡ drop 5 word → IfNone r ((seconds floor : ℕ) → ¬ SpellsSafe text seconds floor)
    → IfNone r ((seconds floor : ℕ) → ¬ IsSafeWord word seconds floor)
unsafe word text (Some numbers) cut none = tt
unsafe word text None cut none = λ seconds floor is. none seconds floor (subst (λ w. SpellsSafe w seconds floor) (sym (cut ∙ ap (λ (bytes : List ℕ). drop 5 bytes) is.are)) is.spelled)

-- a text that is no number and no pair
pub neither : (text : List ℕ) (r : Option (ℕ × ℕ)) → ((n : ℕ) → SpellsNumber text n → ◌≡◌ {A = Option ℕ} None (Some n)) → IfNone r ((pair : Rung) → ¬ SpellsPair text pair)
    → IfNone r ((seconds floor : ℕ) → ¬ SpellsSafe text seconds floor)
neither text (Some numbers) unnumbered unpaired = tt
neither text None unnumbered unpaired = λ seconds floor is. elim is [ inl number ↦ none-some _ (unnumbered seconds number.0) | inr pair ↦ unpaired (seconds, floor) pair ]

-- a word has the form of at most one policy
one_form : (word : List ℕ) (a b : Policy) → HasForm word a → HasForm word b → a ≡ b
one_form word a b x y = grind (arith, nat_tests, one_safe_word, one_pairs)

-- and is read as one result
pub one_policy : (word : List ℕ) (a b : Result Policy LineFault) → ReadsPolicy word a → ReadsPolicy word b → a ≡ b
one_policy word a b x y = grind (arith, nat_tests, one_form)

pub differs : (word text : List ℕ) → bytes_eq word text ≡ false → word ≡ text → ⊥
differs word text other is = true≢false (sym ((bytes_decides word text).1 is) ∙ other)

-- a word of none of the four forms
pub formless_word : (word : List ℕ) → ¬ (word ≡ codes "one") → ¬ (word ≡ codes "all") → ((seconds floor : ℕ) → ¬ IsSafeWord word seconds floor) → ((pairs : List Rung) → ¬ IsLadderWord word pairs)
    → (policy : Policy) → ¬ HasForm word policy
formless_word word not_one not_all no_safe no_pairs One is = not_one is
formless_word word not_one not_all no_safe no_pairs KeepAll is = not_all is
formless_word word not_one not_all no_safe no_pairs (Safe seconds floor) is = no_safe seconds floor is
formless_word word not_one not_all no_safe no_pairs (Landmarks pairs) is = no_pairs pairs is

-- if the pairs are a ladder, the first nine are all of them
pub whole_ladder : (word : List ℕ) (kept : List Rung) → (keeps : KeepsLadder word kept) → IsLadder keeps.pairs → keeps.pairs ≡ kept
whole_ladder word kept keeps is = sym (keeps.first ∙ take_all 9 keeps.pairs (omega (arith, is.short)))

-- if the first nine pairs are no ladder, neither are all pairs
pub refused_ladder : (word : List ℕ) (kept : List Rung) → KeepsLadder word kept → ¬ IsLadder kept → ReadsPolicy word (Err BadLadder)
refused_ladder word kept keeps none =
    (Landmarks keeps.pairs, keeps.is, λ is. none (subst IsLadder (whole_ladder word kept keeps is) is))
