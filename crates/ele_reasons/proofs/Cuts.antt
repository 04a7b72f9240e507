-- The first words of a line, or its first word that isn't fit.
use Rattle.ele_reasons.proofs.Basics.{◌≡◌, ◌≢◌, ℕ, zero, suc, ◌+◌, ◌<◌, ◌≤◌, ◌==◌, Bool, true, false, List, [], ◌∷◌, ◌++◌, length, take, drop, get_or, Some, None, refl, sym, ap, ◌∙◌, arith, append_assoc}
use Rattle.ele_reasons.proofs.Basics.{list_all, position, nat_tests, length-take-le, drop_more, take-append-drop, position-Some, subst}
use Rattle.ele_reasons.proofs.Prelude.{words_of, is_plain, is_worded, ends_word}
use Rattle.ele_script.proofs.Words.{AreCut, AreOfWords, has_byte, later, no_end, no_space, plain_before, whole_word, word_before}
use Rattle.ele_reasons.specs.Reason.{HasUnfit, is_fit}
use Rattle.ele_reasons.specs.declared.reasons.Reason.TheVariants.{Byte, Empty}
use Rattle.std.specs.Prelude.{not}
use Rattle.std.specs.List.{find}
use Rattle.std.proofs.lemmas.List.Folds.{list_all-append}

-- the first items of a list, and more, have the same first items as the whole list and these
pub take_kept : {A : Type 0} (n : ℕ) (xs ys : List A) → take n (take n xs ++ ys) ≡ take n (xs ++ ys)
take_kept zero xs ys = refl
take_kept (suc n) [] ys = refl
take_kept (suc n) (x ∷ xs) ys = ap (λ zs. x ∷ zs) (take_kept n xs ys)

-- a full list stays as it is
pub take_full : {A : Type 0} (n : ℕ) (xs ys : List A) → length xs ≡ n → take n (xs ++ ys) ≡ xs
take_full zero [] ys is = refl
take_full zero (x ∷ xs) ys is = absurd (omega (arith, is))
take_full (suc n) [] ys is = absurd (omega (arith, is))
take_full (suc n) (x ∷ xs) ys is = ap (λ zs. x ∷ zs) (take_full n xs ys (omega (arith, is)))

-- the bytes of a word are fit
all_fit : (n : ℕ) (xs : List ℕ) → n ≤ length xs → AreOfWords xs n → list_all (λ b. not (ends_word b)) (take n xs) ≡ true
all_fit zero xs le h = refl
all_fit (suc n) [] le h = absurd (omega (arith, le))
all_fit (suc n) (x ∷ xs) le h = rw (h 0 (omega arith)) (all_fit n xs (omega (arith, le)) (later x xs n h))

fit_of : (word : List ℕ) → 0 < length word → list_all (λ b. not (ends_word b)) word ≡ true → is_fit word ≡ true
fit_of [] some all = absurd (omega (arith, some))
fit_of (x ∷ xs) some all = all

has_byte_of : (word : List ℕ) → is_fit word ≡ true → has_byte word ≡ true
has_byte_of [] fit = absurd cc
has_byte_of (x ∷ xs) fit = grind (arith, nat_tests)

spaced_of : (front : List (List ℕ)) → list_all is_fit front ≡ true → list_all has_byte front ≡ true
spaced_of [] fit = refl
spaced_of (word ∷ front) fit = grind (arith, has_byte_of word, spaced_of front)

-- these words precede the rest, each is fit, and the bytes before the rest are plain
pub record AreFit (line : List ℕ) (front : List (List ℕ)) (rest : List ℕ) : Type 0 where
  pub words : words_of line ≡ front ++ words_of rest
  pub plain : list_all is_plain line ≡ list_all is_plain rest
  pub fit : list_all is_fit front ≡ true

pub fit_cut : (line : List ℕ) (front : List (List ℕ)) (rest : List ℕ) → AreFit line front rest → AreCut line front rest
fit_cut line front rest are = record { words = are.words; plain = are.plain; spaced = spaced_of front are.fit }

-- one more fit word is cut off
pub fit_more : (line : List ℕ) (front : List (List ℕ)) (word rest behind : List ℕ) (at : ℕ) → AreFit line front rest → position ends_word rest ≡ Some at → get_or rest at 0 ≡ 32 → 0 < at → word ≡ take at rest → behind ≡ drop 1 (drop at rest)
    → AreFit line (front ++ word ∷ []) behind
fit_more line front word rest behind at are found space some here there =
    let f = position-Some ends_word rest at 0 found in
    let next : drop at rest ≡ 32 ∷ drop (at + 1) rest = cc (drop_more rest at 0 f.0, space) in
    let parts : rest ≡ take at rest ++ 32 ∷ behind = cc (take-append-drop at rest, rw next at there) in
    let le : at ≤ length rest = omega (arith, f.0) in
    let words : words_of rest ≡ word ∷ words_of behind = cc (ap words_of parts, word_before at rest behind le f.2) in
    let fits : is_fit word ≡ true = fit_of word (omega (arith, some, ap length here, length-take-le at rest le)) (rw here (all_fit at rest le f.2)) in
    record {
      words = cc (are.words, words, append_assoc front (word ∷ []) (words_of behind));
      plain = are.plain ∙ ap (list_all is_plain) parts ∙ list_all-append is_plain (take at rest) (32 ∷ behind) ∙ rw (plain_before at rest le f.2) refl;
      fit = list_all-append is_fit front (word ∷ []) ∙ rw (are.fit, fits) refl;
    }

-- the first word of a text has this as its first byte that no word may have
record BeginsUnfit (text : List ℕ) (byte : ℕ) : Type 0 where
  word : List ℕ
  behind : List (List ℕ)
  are : words_of text ≡ word ∷ behind
  first : find ends_word word ≡ Some byte

words_some : (text : List ℕ) → (word : List ℕ) × (behind : List (List ℕ)) × (words_of text ≡ word ∷ behind)
words_some [] = ([], [], refl)
words_some (x ∷ xs) = let more = words_some xs in grow x xs more.0 more.1 more.2 (x == 32) refl where
  grow : (x : ℕ) (xs word : List ℕ) (behind : List (List ℕ)) → words_of xs ≡ word ∷ behind → (test : Bool) → (x == 32) ≡ test → (w : List ℕ) × (b : List (List ℕ)) × (words_of (x ∷ xs) ≡ w ∷ b)
  grow x xs word behind are true is = ([], words_of xs, rw is refl)
  grow x xs word behind are false is = (x ∷ word, behind, rw (is, are) refl)

not_32 : (b : ℕ) → b ≢ 32 → (b == 32) ≡ false
not_32 b h = grind (arith, nat_tests)

begins_unfit : (at : ℕ) (text : List ℕ) → at < length text → AreOfWords text at → ends_word (get_or text at 0) ≡ true → get_or text at 0 ≢ 32 → BeginsUnfit text (get_or text at 0)
begins_unfit at [] lt h ends other = absurd (omega (arith, lt))
begins_unfit zero (x ∷ xs) lt h ends other =
    let some = words_some xs in
    record { word = x ∷ some.0; behind = some.1; are = rw (not_32 x other, some.2) refl; first = rw ends refl }
begins_unfit (suc n) (x ∷ xs) lt h ends other =
    let word : ends_word x ≡ false = h 0 (omega arith) in
    let more = begins_unfit n xs (omega (arith, lt)) (later x xs n h) ends other in
    record { word = x ∷ more.word; behind = more.behind; are = rw (no_space x word, more.are) refl; first = rw word more.first }

-- a byte that is no space and that no word may have makes its word the first unfit one
pub unfit_byte : (line : List ℕ) (front : List (List ℕ)) (rest : List ℕ) (at number byte : ℕ) → AreFit line front rest → position ends_word rest ≡ Some at → get_or rest at 0 ≢ 32 → number ≡ length front + 1 → byte ≡ get_or rest at 0
    → HasUnfit (words_of line) (Byte number byte)
unfit_byte line front rest at number byte are found other count is =
    let f = position-Some ends_word rest at 0 found in
    let bad = begins_unfit at rest f.0 f.2 f.1 other in
    record { front = front; word = bad.word; behind = bad.behind; are = are.words ∙ ap (λ (ws : List (List ℕ)). front ++ ws) bad.are; fit = are.fit; unfit = (count, bad.first ∙ ap Some (sym is)) }

-- a rest that begins with a space begins with an empty word
pub unfit_empty : (line : List ℕ) (front : List (List ℕ)) (rest : List ℕ) (at number : ℕ) → AreFit line front rest → position ends_word rest ≡ Some at → get_or rest at 0 ≡ 32 → at ≡ 0 → number ≡ length front + 1 → HasUnfit (words_of line) (Empty number)
unfit_empty line front [] at number are found space none count = absurd (let f = position-Some ends_word [] at 0 found in omega (arith, f.0))
unfit_empty line front (x ∷ xs) at number are found space none count =
    let first : x ≡ 32 = subst (λ n. get_or (x ∷ xs) n 0 ≡ 32) none space in
    let words : words_of (x ∷ xs) ≡ [] ∷ words_of xs = ap (λ b. words_of (b ∷ xs)) first in
    record { front = front; word = []; behind = words_of xs; are = are.words ∙ ap (λ (ws : List (List ℕ)). front ++ ws) words; fit = are.fit; unfit = (count, refl) }

-- and an empty rest is one
pub unfit_none : (line : List ℕ) (front : List (List ℕ)) (rest : List ℕ) (number : ℕ) → AreFit line front rest → (length rest == 0) ≡ true → number ≡ length front + 1 → HasUnfit (words_of line) (Empty number)
unfit_none line front [] number are none count = record { front = front; word = []; behind = []; are = are.words; fit = are.fit; unfit = (count, refl) }
unfit_none line front (x ∷ xs) number are none count = grind (arith, nat_tests)

-- a rest without an end of a word is the last word
pub fit_last : (line : List ℕ) (front : List (List ℕ)) (rest : List ℕ) → AreFit line front rest → position ends_word rest ≡ None → (length rest == 0) ≡ false → (words_of line ≡ front ++ rest ∷ []) × (is_worded line ≡ true)
fit_last line front rest are none some =
    let one = whole_word rest (no_end rest none) in
    let words : words_of line ≡ front ++ rest ∷ [] = are.words ∙ ap (λ (ws : List (List ℕ)). front ++ ws) one.0 in
    let byte : has_byte rest ≡ true = grind (arith, nat_tests, some) in
    (words, rw (are.plain ∙ one.1) (ap (list_all has_byte) words ∙ list_all-append has_byte front (rest ∷ []) ∙ rw (spaced_of front are.fit, byte) refl))

-- the kept words are the first ones, with one more too
pub first_kept : (front kept now : List (List ℕ)) (word : List ℕ) → now ≡ take 5 (kept ++ word ∷ []) → kept ≡ take 5 front → now ≡ take 5 (front ++ word ∷ [])
first_kept front kept now word is are = is ∙ ap (λ (ws : List (List ℕ)). take 5 (ws ++ word ∷ [])) are ∙ take_kept 5 front (word ∷ [])
