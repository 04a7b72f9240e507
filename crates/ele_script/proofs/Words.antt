-- The words of a line, cut off one after another.
use Rattle.ele_script.proofs.Basics.{◌≡◌, ◌≢◌, ℕ, zero, suc, ◌+◌, ◌<◌, ◌≤◌, ◌==◌, ◌&&◌, Bool, true, false, List, [], ◌∷◌, ◌++◌, length, take, drop, get_or, Some, None, refl, sym, ap, ◌∙◌, arith, append_assoc, length-append, map, Bor}
use Rattle.ele_script.proofs.Basics.{◌⊎◌, nat_lt, subst, list_all, position, ltb-false, lt-ltb, nat_tests, map-append, length-map, length-take-le, drop_more, take-append-drop, position-Some, length-slice_split}
use Rattle.ele_script.proofs.Prelude.{Syntax, IsFirstFault, longest_line, words_of, is_plain, is_worded, ends_word}
use Rattle.std.proofs.Math.Bool.{and-false}
use Rattle.std.proofs.lemmas.List.Folds.{list_all-append, list_all_at}
use Rattle.std.proofs.lemmas.List.Sums.{prefix_len_passes}

abbrev is_space : ℕ → Bool
is_space byte = byte == 32

-- a byte of a word is plain and no space
plain_byte : (x : ℕ) → ends_word x ≡ false → is_plain x ≡ true
plain_byte x word = grind (arith, nat_tests)

pub no_space : (x : ℕ) → ends_word x ≡ false → is_space x ≡ false
no_space x word = grind (arith, nat_tests)

-- the first n bytes are of words
abbrev pub AreOfWords : List ℕ → ℕ → Type 0
AreOfWords text n = (k : ℕ) → k < n → ends_word (get_or text k 0) ≡ false

pub later : (x : ℕ) (xs : List ℕ) (n : ℕ) → AreOfWords (x ∷ xs) (suc n) → AreOfWords xs n
later x xs n h k lt = h (suc k) (omega (arith, lt))

-- a space follows a word
pub word_before : (n : ℕ) (xs ys : List ℕ) → n ≤ length xs → AreOfWords xs n → words_of (take n xs ++ 32 ∷ ys) ≡ take n xs ∷ words_of ys
word_before zero xs ys le h = refl
word_before (suc n) [] ys le h = absurd (omega (arith, le))
word_before (suc n) (x ∷ xs) ys le h =
    rw (no_space x (h 0 (omega arith)), word_before n xs ys (omega (arith, le)) (later x xs n h)) refl

pub plain_before : (n : ℕ) (xs : List ℕ) → n ≤ length xs → AreOfWords xs n → list_all is_plain (take n xs) ≡ true
plain_before zero xs le h = refl
plain_before (suc n) [] le h = absurd (omega (arith, le))
plain_before (suc n) (x ∷ xs) le h = rw (plain_byte x (h 0 (omega arith))) (plain_before n xs (omega (arith, le)) (later x xs n h))

-- a text with no end of a word is one plain word
pub whole_word : (xs : List ℕ) → AreOfWords xs (length xs) → (words_of xs ≡ xs ∷ []) × (list_all is_plain xs ≡ true)
whole_word [] h = (refl, refl)
whole_word (x ∷ xs) h = grind (arith, nat_tests, no_space x, plain_byte x, h 0, whole_word xs (later x xs (length xs) h))

pub no_end : (text : List ℕ) → position ends_word text ≡ None → AreOfWords text (length text)
no_end text none k lt = grind (arith, nat_tests, ltb-false, prefix_len_passes)

-- a word has a byte
abbrev pub has_byte : List ℕ → Bool
has_byte word = nat_lt 0 (length word)

positive : (n : ℕ) → (n == 0) ≡ false → 0 < n
positive x0 some = grind (arith, nat_tests)

-- these words precede the rest, none is empty, and the bytes before the rest are plain
pub record AreCut (line : List ℕ) (front : List (List ℕ)) (rest : List ℕ) : Type 0 where
  pub words : words_of line ≡ front ++ words_of rest
  pub plain : list_all is_plain line ≡ list_all is_plain rest
  pub spaced : list_all has_byte front ≡ true

map_push : {A : Type 0} (v : A → List ℕ) (front now : List A) (x : A) → now ≡ front ++ x ∷ [] → map v now ≡ map v front ++ v x ∷ []
map_push {A} v front now x pushed = ap (λ (xs : List A). map v xs) pushed ∙ map-append v front (x ∷ [])

-- with one more word none is empty
push_spaced : {A : Type 0} (v : A → List ℕ) (front now : List A) (x : A) → now ≡ front ++ x ∷ [] → list_all has_byte (map v front) ≡ true → 0 < length (v x) → list_all has_byte (map v now) ≡ true
push_spaced {A} v front now x pushed before some =
    let one : has_byte (v x) ≡ true = lt-ltb 0 (length (v x)) some in
    ap (list_all has_byte) (map_push v front now x pushed) ∙ list_all-append has_byte (map v front) (v x ∷ []) ∙ rw (before, one) refl

-- one more word is cut off
pub cut_more : (line : List ℕ) (front now : List (Bor (List ℕ))) (word : Bor (List ℕ)) (rest behind : List ℕ) (at : ℕ) → AreCut line (map (λ word. word.now) front) rest → position ends_word rest ≡ Some at
    → get_or rest at 0 ≡ 32 → 0 < at → word.now ≡ take at rest → behind ≡ drop 1 (drop at rest) → now ≡ front ++ word ∷ [] → AreCut line (map (λ word. word.now) now) behind
cut_more line front now word rest behind at are found space some here there pushed =
    let f = position-Some ends_word rest at 0 found in
    let next : drop at rest ≡ 32 ∷ drop (at + 1) rest = cc (drop_more rest at 0 f.0, space) in
    let parts : rest ≡ take at rest ++ 32 ∷ behind = cc (take-append-drop at rest, rw next at there) in
    let le : at ≤ length rest = omega (arith, f.0) in
    let words : words_of rest ≡ word.now ∷ words_of behind = cc (ap words_of parts, word_before at rest behind le f.2) in
    record {
      words = cc (are.words, words, append_assoc (map (λ word. word.now) front) (word.now ∷ []) (words_of behind), map_push (λ (word : Bor (List ℕ)). word.now) front now word pushed);
      plain = are.plain ∙ ap (list_all is_plain) parts ∙ list_all-append is_plain (take at rest) (32 ∷ behind) ∙ rw (plain_before at rest le f.2) refl;
      spaced = push_spaced (λ (word : Bor (List ℕ)). word.now) front now word pushed are.spaced (omega (arith, some, ap length here, length-take-le at rest le));
    }

words_unspaced : (line : List ℕ) (front behind : List (List ℕ)) → words_of line ≡ front ++ [] ∷ behind → is_worded line ≡ false
words_unspaced line front behind are = grind (arith, nat_tests, list_all-append, and-false)

-- a rest that begins with a space begins with an empty word
pub cut_empty : (line : List ℕ) (front : List (List ℕ)) (rest : List ℕ) (at : ℕ) → AreCut line front rest → position ends_word rest ≡ Some at → get_or rest at 0 ≡ 32 → at ≡ 0 → is_worded line ≡ false
cut_empty line front [] at are found space none = absurd (let f = position-Some ends_word [] at 0 found in omega (arith, f.0))
cut_empty line front (x ∷ xs) at are found space none =
    let first : x ≡ 32 = subst (λ n. get_or (x ∷ xs) n 0 ≡ 32) none space in
    let words : words_of (x ∷ xs) ≡ [] ∷ words_of xs = ap (λ b. words_of (b ∷ xs)) first in
    words_unspaced line front (words_of xs) (are.words ∙ ap (λ (ws : List (List ℕ)). front ++ ws) words)

-- and an empty rest is one
pub cut_none : (line : List ℕ) (front : List (List ℕ)) (rest : List ℕ) → AreCut line front rest → (length rest == 0) ≡ true → is_worded line ≡ false
cut_none line front [] are none = words_unspaced line front [] are.words
cut_none line front (x ∷ xs) are none = grind (arith, nat_tests)

-- a byte that isn't plain ends a word
pub cut_unplain : (line : List ℕ) (front : List (List ℕ)) (rest : List ℕ) (at : ℕ) → AreCut line front rest → position ends_word rest ≡ Some at → get_or rest at 0 ≢ 32 → list_all is_plain line ≡ false
cut_unplain line front rest at are found other = grind (arith, nat_tests, position-Some, list_all_at)

-- a rest without an end of a word is the last word
pub cut_last : (line : List ℕ) (front now : List (Bor (List ℕ))) (last : Bor (List ℕ)) → AreCut line (map (λ word. word.now) front) (last.now) → position ends_word (last.now) ≡ None → now ≡ front ++ last ∷ []
    → map (λ word. word.now) now ≡ words_of line
cut_last line front now last are none pushed = grind (arith, nat_tests, whole_word last.now, no_end last.now none, map_push (λ (word : Bor (List ℕ)). word.now) front now last pushed, append_assoc)

-- with it the line is worded
pub cut_worded : (line : List ℕ) (front now : List (Bor (List ℕ))) (last : Bor (List ℕ)) → AreCut line (map (λ word. word.now) front) (last.now) → position ends_word (last.now) ≡ None → now ≡ front ++ last ∷ []
    → (length (last.now) == 0) ≡ false → is_worded line ≡ true
cut_worded line front now last are none pushed some =
    let one = whole_word (last.now) (no_end (last.now) none) in
    let spaced = push_spaced (λ (word : Bor (List ℕ)). word.now) front now last pushed are.spaced (positive (length (last.now)) some) in
    rw (are.plain ∙ one.1) (ap (list_all has_byte) (sym (cut_last line front now last are none pushed)) ∙ spaced)

-- there are more words than were cut off
pub cut_some : (line : List ℕ) (front : List (Bor (List ℕ))) (rest : List ℕ) → AreCut line (map (λ word. word.now) front) rest → length front < length (words_of line)
cut_some line front rest are = omega (arith, ap length are.words, length-append (map (λ word. word.now) front) (words_of rest), length-map front (λ (word : Bor (List ℕ)). word.now), length-slice_split)

pub unworded : (line : List ℕ) → list_all is_plain line ≡ false → is_worded line ≡ false
unworded line broken = ap (λ b. b && list_all (λ word. nat_lt 0 (length word)) (words_of line)) broken

-- a line that isn't worded or has more than four words has a fault
pub unfit_line : {explains : Bool} (line : List ℕ) → length line ≤ longest_line → (is_worded line ≡ false) ⊎ (4 < length (words_of line)) → IsFirstFault explains line Syntax
unfit_line line short x2 = grind (arith, nat_tests, length-append)
