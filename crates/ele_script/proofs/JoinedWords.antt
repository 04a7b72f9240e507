-- Plain words with a space between each two are a line of these words.
use Rattle.ele_script.proofs.Basics.{◌≡◌, ℕ, ◌<◌, ◌==◌, ◌&&◌, Bool, true, false, List, [], ◌∷◌, length, refl, ap, ◌∙◌, arith, nat_tests, list_all, join_with_byte, slice_split_none, slice_split_at}
use Rattle.ele_script.proofs.Prelude.{is_plain, is_worded, words_of}
use Rattle.std.specs.Prelude.{All}
use Rattle.std.proofs.lemmas.List.Elements.{All-weaker}
use Rattle.std.proofs.lemmas.List.Sums.{AllPass-from_list_all}
use Rattle.ele_script.proofs.PlainWords.{all_so, is_inner, is_word, joined_all}
use Rattle.ele_script.proofs.Words.{has_byte}

both : (a b : Bool) → (a && b) ≡ true → (a ≡ true) × (b ≡ true)
both true b is = (refl, is)
both false b is = absurd cc

no_space : (byte : ℕ) → is_inner byte ≡ true → (byte == 32) ≡ false
no_space byte inner = grind (arith, nat_tests)

inner_plain : (byte : ℕ) → is_inner byte ≡ true → is_plain byte ≡ true
inner_plain byte inner = grind (arith, nat_tests)

word_some : (word : List ℕ) → is_word word ≡ true → has_byte word ≡ true
word_some word is = (both (has_byte word) (list_all is_inner word) is).0

word_plain : (word : List ℕ) → is_word word ≡ true → list_all is_plain word ≡ true
word_plain word is = all_so is_inner is_plain inner_plain word (both (has_byte word) (list_all is_inner word) is).1

unspaced : (word : List ℕ) → is_word word ≡ true → All (λ byte. (byte == 32) ≡ false) word
unspaced word is =
    All-weaker _ _ no_space word (AllPass-from_list_all is_inner word (both (has_byte word) (list_all is_inner word) is).1)

-- the line is cut into these words
pub joined_words : (words : List (List ℕ)) → 0 < length words → list_all is_word words ≡ true → words_of (join_with_byte 32 words) ≡ words
joined_words [] some are = absurd (omega (arith, some))
joined_words (first ∷ []) some are = slice_split_none _ first (unspaced first (both (is_word first) _ are).0)
joined_words (first ∷ next ∷ words) some are =
    let parts = both (is_word first) (list_all is_word (next ∷ words)) are in
    slice_split_at (λ byte. byte == 32) first 32 (join_with_byte 32 (next ∷ words)) (unspaced first parts.0) refl
    ∙ ap (λ (words : List (List ℕ)). first ∷ words) (joined_words (next ∷ words) (omega arith) parts.1)

pub joined_worded : (words : List (List ℕ)) → 0 < length words → list_all is_word words ≡ true → is_worded (join_with_byte 32 words) ≡ true
joined_worded words some are =
    rw (joined_words words some are, joined_all is_plain 32 refl words (all_so is_word (list_all is_plain) word_plain words are)) (all_so is_word has_byte word_some words are)
