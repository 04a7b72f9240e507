-- The word behind `help`.
use Rattle.ele_dialog.proofs.Basics.{AllByRecursion, List, None, Some, [], ap, drop, false, ne_eqb, refl, sym, take, ℕ, ◌+◌, ◌++◌, ◌==◌, ◌∙◌, ◌∷◌, ◌≡◌, ◌≢◌}
use Rattle.ele_dialog.proofs.Lines.{first_cut, first_none, never}
use Rattle.ele_dialog.specs.Help.{first_word}
use Rattle.memchr.specs.Find.{IsFirstByte, is_byte}

word_before : (word rest : List ℕ) → AllByRecursion (λ b. b ≢ 32) word → first_word (word ++ 32 ∷ rest) ≡ word
word_before [] rest whole = refl
word_before (b ∷ bs) rest whole =
    let other : (b == 32) ≡ false = ne_eqb b 32 whole.0 in
    rw other (ap (λ (t : List ℕ). b ∷ t) (word_before bs rest whole.1))

word_alone : (word : List ℕ) → AllByRecursion (λ b. b ≢ 32) word → first_word word ≡ word
word_alone [] whole = refl
word_alone (b ∷ bs) whole =
    let other : (b == 32) ≡ false = ne_eqb b 32 whole.0 in
    rw other (ap (λ (t : List ℕ). b ∷ t) (word_alone bs whole.1))

pub word_at : (words : List ℕ) (at : ℕ) → IsFirstByte (is_byte 32) words (Some at) → take at words ≡ first_word words
word_at words at first =
    sym (ap first_word (first_cut 32 words at first) ∙ word_before (take at words) (drop (at + 1) words) (first_none 32 words at first))

pub word_never : (words : List ℕ) → IsFirstByte (is_byte 32) words None → words ≡ first_word words
word_never words none = sym (word_alone words (never 32 words none))
