-- Words of pairs: each one pair, cut at its slash.
use Rattle.ele_script.proofs.Basics.{nat_tests, subst, true≢false, ◌≡◌, ℕ, zero, suc, ◌+◌, ◌<◌, ◌≤◌, ◌==◌, Bool, false, List, [], ◌∷◌, ◌++◌, length, take, drop, refl, sym, ap, ◌∙◌, arith, length-append, Option, Some, None, IfNone, get_or, AllZip, position, same_Some}
use Rattle.ele_script.proofs.Basics.{position_or_len, slice_split, decimal, AllDigits, digits_value, eqb-true, lt-ltb, digits_decimal, drop_more, take-append-drop, position-Some, All-nil, All-cons, All-head, All-tail}
use Rattle.ele_script.proofs.Prelude.{SpellsNumber, Rung, Keeps, SpellsPair, parts_of}
use Rattle.std.specs.Prelude.{All}
use Rattle.std.specs.Char.{digit_value}
use Rattle.std.proofs.Math.Seq.{take-append_seam, drop-append_seam}
use Rattle.std.proofs.lemmas.Str.Parse.{IsNumeralModel}
use Rattle.ele_script.proofs.Moments.{one_number}
use Rattle.std.proofs.lemmas.Option.{none-some}

abbrev pub is_slash : ℕ → Bool
is_slash byte = byte == 47

own : IsNumeralModel (AllDigits 10) (digits_value 10)
own = record { to = λ ds h. h; from = λ ds h. h; same = λ ds h. refl }

unmarked : (mark : ℕ) → 10 ≤ digit_value mark → (ds : List ℕ) → AllDigits 10 ds → All (λ c. (c == mark) ≡ false) ds
unmarked mark high [] digits = All-nil (λ c. (c == mark) ≡ false)
unmarked mark high (c ∷ cs) digits = grind (arith, nat_tests, All-cons, eqb-true, unmarked mark high cs digits.1)

pub number_unmarked : (mark : ℕ) → 10 ≤ digit_value mark → (word : List ℕ) (n : ℕ) → SpellsNumber word n → All (λ c. (c == mark) ≡ false) word
number_unmarked mark high word n is = rw is.digits (unmarked mark high (decimal n) (digits_decimal own n is.fits))

slash_behind : (front rest : List ℕ) → All (λ c. (c == 47) ≡ false) front → position_or_len is_slash (front ++ 47 ∷ rest) ≡ length front
slash_behind [] rest none = refl
slash_behind (c ∷ front) rest none = grind (arith, All-head, slash_behind front rest (All-tail (λ c. (c == 47) ≡ false) c front none))

-- the slash of a pair follows its age
slash_at : (word : List ℕ) (pair : Rung) → (is : SpellsPair word pair) → position is_slash word ≡ Some (length is.age)
slash_at word pair is = grind (arith, nat_tests, slash_behind, number_unmarked, lt-ltb, length-append)

slash_there : (front rest : List ℕ) → All (λ c. (c == 47) ≡ false) (front ++ 47 ∷ rest) → ⊥
slash_there [] rest none = true≢false (All-head (λ c. (c == 47) ≡ false) 47 rest none)
slash_there (c ∷ front) rest none = slash_there front rest (All-tail (λ c. (c == 47) ≡ false) c (front ++ 47 ∷ rest) none)

-- a pair has a slash
pub slashed : (word : List ℕ) (pair : Rung) → SpellsPair word pair → All (λ c. (c == 47) ≡ false) word → ⊥
slashed word pair is none = slash_there is.age is.width (subst (All (λ c. (c == 47) ≡ false)) is.are none)

-- the age precedes the first slash, and the width follows it
pub parts_at : (word : List ℕ) (pair : Rung) (at : ℕ) → SpellsPair word pair → position is_slash word ≡ Some at → SpellsNumber (take at word) pair.0 × SpellsNumber (drop 1 (drop at word)) pair.1
parts_at word pair at is found =
    let place : at ≡ length is.age = same_Some _ _ (sym found ∙ slash_at word pair is) in
    let age : take at word ≡ is.age = rw (place, is.are) (take-append_seam is.age (47 ∷ is.width)) in
    let width : drop 1 (drop at word) ≡ is.width = rw (place, is.are, drop-append_seam is.age (47 ∷ is.width)) refl in
    (rw age is.age_is, rw width is.width_is)

-- a word without a slash is no pair
pub unslashed : (word : List ℕ) (r : Option Rung) → None ≡ position is_slash word → r ≡ None → IfNone r ((pair : Rung) → ¬ SpellsPair word pair)
unslashed word r none is = rw is (λ pair spelled. none-some _ (none ∙ slash_at word pair spelled))

-- nor is one without a number before the slash
pub bad_age : (word front : List ℕ) (at : ℕ) (r : Option Rung) → Some at ≡ position is_slash word → front ≡ take at word → ((n : ℕ) → SpellsNumber front n → ◌≡◌ {A = Option ℕ} None (Some n)) → r ≡ None
    → IfNone r ((pair : Rung) → ¬ SpellsPair word pair)
bad_age word front at r found before none is = grind (arith, nat_tests, none-some, parts_at)

-- or after it
pub bad_width : (word behind rest : List ℕ) (at : ℕ) (r : Option Rung) → Some at ≡ position is_slash word → behind ≡ drop at word → rest ≡ drop 1 behind → ((n : ℕ) → SpellsNumber rest n → ◌≡◌ {A = Option ℕ} None (Some n)) → r ≡ None
    → IfNone r ((pair : Rung) → ¬ SpellsPair word pair)
bad_width word behind rest at r found after more none is =
    rw is (λ pair spelled. none-some _ (none pair.1 (rw (more, after) (parts_at word pair at spelled (sym found)).1)))

-- the numbers around the slash are the pair
pub made_pair : (word front behind rest : List ℕ) (at m n : ℕ) → Some at ≡ position is_slash word → front ≡ take at word → behind ≡ drop at word → rest ≡ drop 1 behind → SpellsNumber front m → SpellsNumber rest n
    → SpellsPair word (m, n)
made_pair word front behind rest at m n found before after more age width =
    let f = position-Some is_slash word at 0 (sym found) in
    let slash = eqb-true (get_or word at 0) 47 f.1 in
    let next = drop_more word at 0 f.0 ∙ ap (λ (x : ℕ). x ∷ drop (at + 1) word) slash in
    let last : rest ≡ drop (at + 1) word = more ∙ ap (λ (xs : List ℕ). drop 1 xs) (after ∙ next) in
    record {
      age = front;
      width = rest;
      are = sym (take-append-drop at word) ∙ ap (λ (xs : List ℕ). take at word ++ xs) next ∙ rw (before, last) refl;
      age_is = age;
      width_is = width;
    }

-- a word is at most one pair
pub one_pair : (word : List ℕ) (p q : Rung) → SpellsPair word p → SpellsPair word q → p ≡ q
one_pair word (age, width) (other, wide) a b =
    let found = slash_at word (other, wide) b in
    let x = parts_at word (age, width) (length b.age) a found in
    let y = parts_at word (other, wide) (length b.age) b found in
    ap (λ n. (n, width)) (one_number _ age other x.0 y.0) ∙ ap (λ n. (other, n)) (one_number _ width wide x.1 y.1)

pub one_pairs : (words : List (List ℕ)) (ps qs : List Rung) → AllZip SpellsPair words ps → AllZip SpellsPair words qs → ps ≡ qs
one_pairs (word ∷ words) (p ∷ ps) (q ∷ qs) a b = cc (one_pair word p q a.0 b.0, one_pairs words ps qs a.1 b.1)
one_pairs words ps qs a b = grind arith

-- if the words are pairs, each is one
pub all_pairs : (words : List (List ℕ)) (ps : List Rung) (i : ℕ) (word : List ℕ) → AllZip SpellsPair words ps → i < length words → word ≡ get_or words i word → ((p : Rung) → ¬ SpellsPair word p) → ⊥
all_pairs (w ∷ words) (p ∷ ps) zero word all lt here bad = bad p (rw here all.0)
all_pairs (w ∷ words) (p ∷ ps) (suc i) word all lt here bad = all_pairs words ps i word all.1 (omega (arith, lt)) here bad
all_pairs words ps i word all lt here bad = grind arith

-- a text with a byte is cut at its commas
pub parts_are : (text : List ℕ) → (length text == 0) ≡ false → parts_of text ≡ slice_split (λ b. b == 44) text
parts_are [] some = absurd cc
parts_are (c ∷ cs) some = refl

pairs_push : (words : List (List ℕ)) (ps : List Rung) (word : List ℕ) (p : Rung) → AllZip SpellsPair words ps → SpellsPair word p → AllZip SpellsPair (words ++ word ∷ []) (ps ++ p ∷ [])
pairs_push (w ∷ words) (q ∷ ps) word p all is = (all.0, pairs_push words ps word p all.1 is)
pairs_push words ps word p all is = grind arith

-- a pair is kept unless nine are
take_more : (n : ℕ) (ps : List Rung) (p : Rung) → length (take n ps) < n → take n (ps ++ p ∷ []) ≡ take n ps ++ p ∷ []
take_more zero ps p few = absurd (omega (arith, few))
take_more (suc zero) [] p few = refl
take_more (suc (suc n)) [] p few = refl
take_more (suc n) (q ∷ ps) p few = ap (λ (rs : List Rung). q ∷ rs) (take_more n ps p (omega (arith, few)))

take_full : (n : ℕ) (ps : List Rung) (p : Rung) → n ≤ length (take n ps) → take n (ps ++ p ∷ []) ≡ take n ps
take_full zero ps p full = refl
take_full (suc n) [] p full = absurd (omega (arith, full))
take_full (suc n) (q ∷ ps) p full = ap (λ (rs : List Rung). q ∷ rs) (take_full n ps p (omega (arith, full)))

pub keeps_more : (words : List (List ℕ)) (kept : List Rung) (word : List ℕ) (p : Rung) → Keeps words kept → SpellsPair word p → length kept < 9 → Keeps (words ++ word ∷ []) (kept ++ p ∷ [])
keeps_more words kept word p k is few =
    record {
      pairs = k.pairs ++ p ∷ [];
      spelled = pairs_push words k.pairs word p k.spelled is;
      first = ap (λ (rs : List Rung). rs ++ p ∷ []) k.first ∙ sym (take_more 9 k.pairs p (omega (arith, few, ap length k.first)));
    }

pub keeps_first : (words : List (List ℕ)) (kept : List Rung) (word : List ℕ) (p : Rung) → Keeps words kept → SpellsPair word p → 9 ≤ length kept → Keeps (words ++ word ∷ []) kept
keeps_first words kept word p k is full =
    record {
      pairs = k.pairs ++ p ∷ [];
      spelled = pairs_push words k.pairs word p k.spelled is;
      first = k.first ∙ sym (take_full 9 k.pairs p (omega (arith, full, ap length k.first)));
    }
