-- Words of numbers, names and paths are plain.
use Rattle.ele_script.proofs.Basics.{◌≡◌, ℕ, ◌^◌, ◌<◌, ◌&&◌, nat_lt, Bool, true, List, [], ◌∷◌, length, refl, ◌∙◌, arith, length-append, nat_tests, lt-ltb, AllDigits, decimal, decimal_is_IsNumeral, list_all, join_with_byte, All-head, All-tail}
use Rattle.std.specs.Prelude.{All, nat_le}
use Rattle.std.specs.Char.{digit_value}
use Rattle.std.proofs.lemmas.List.Elements.{All-weaker}
use Rattle.std.proofs.lemmas.List.Folds.{list_all-append}
use Rattle.std.proofs.lemmas.List.Sums.{AllPass-from_list_all, list_all-from_AllPass}
use Rattle.ele_moment.specs.Name.{IsName, is_name_byte}
use Rattle.ele_path.specs.Path.{IsPath, path_text}
use Rattle.ele_path.specs.declared.tagged.Tag.{Tag}
use Rattle.ele_path.specs.declared.tagged.Tag.TheVariants.{Now, At, Number as Numbered}
use Rattle.ele_commands.specs.EventText.{IsTag}
use Rattle.ele_path.specs.PathText.{path_word, tag_text, tagged_word}
use Rattle.ele_script.proofs.Words.{has_byte}

-- a byte that a word may have
abbrev pub is_inner : ℕ → Bool
is_inner byte = nat_lt 32 byte && nat_le byte 126

abbrev pub is_word : List ℕ → Bool
is_word word = has_byte word && list_all is_inner word

pub all_so : {A : Type 0} (p q : A → Bool) → ((x : A) → p x ≡ true → q x ≡ true) → (xs : List A) → list_all p xs ≡ true → list_all q xs ≡ true
all_so p q so xs all = list_all-from_AllPass q xs (All-weaker _ _ so xs (AllPass-from_list_all p xs all))

pub word_is : (word : List ℕ) → 0 < length word → list_all is_inner word ≡ true → is_word word ≡ true
word_is word some inner = rw (lt-ltb 0 (length word) some, inner) refl

-- words joined by a mark have the bytes of the words and the mark
pub joined_all : (p : ℕ → Bool) (mark : ℕ) → p mark ≡ true → (words : List (List ℕ)) → list_all (list_all p) words ≡ true → list_all p (join_with_byte mark words) ≡ true
joined_all p mark is [] all = refl
joined_all p mark is (first ∷ []) all = grind (arith, nat_tests)
joined_all p mark is (first ∷ next ∷ words) all =
    list_all-append p first (mark ∷ join_with_byte mark (next ∷ words))
    ∙ rw (is, joined_all p mark is (next ∷ words) (grind (arith, nat_tests))) (grind (arith, nat_tests))

digit_inner : (c : ℕ) → digit_value c < 10 → is_inner c ≡ true
digit_inner c low = grind (arith, nat_tests)

digits_inner : (ds : List ℕ) → AllDigits 10 ds → list_all is_inner ds ≡ true
digits_inner [] all = refl
digits_inner (c ∷ cs) all = rw (digit_inner c all.0, digits_inner cs all.1) refl

pub number_inner : (n : ℕ) → n < 2 ^ 64 → list_all is_inner (decimal n) ≡ true
number_inner n fits = digits_inner (decimal n) (decimal_is_IsNumeral n fits).0.1

pub number_is : (n : ℕ) → n < 2 ^ 64 → is_word (decimal n) ≡ true
number_is n fits = word_is (decimal n) (decimal_is_IsNumeral n fits).0.0 (number_inner n fits)

name_inner : (byte : ℕ) → is_name_byte byte ≡ true → is_inner byte ≡ true
name_inner byte is = grind (arith, nat_tests)

pub name_plain : (name : List ℕ) → IsName name → list_all is_inner name ≡ true
name_plain name is = all_so is_name_byte is_inner name_inner name is.plain

names_inner : (names : List (List ℕ)) → All IsName names → list_all is_inner (path_text names) ≡ true
names_inner [] named = refl
names_inner (name ∷ names) named =
    list_all-append is_inner name (path_text names)
    ∙ rw (name_plain name (All-head IsName name names named), names_inner names (All-tail IsName name names named)) refl

pub path_inner : (names : List (List ℕ)) → IsPath names → list_all is_inner (path_word names) ≡ true
path_inner [] is = refl
path_inner (name ∷ names) is = names_inner (name ∷ names) is.named

pub path_some : (names : List (List ℕ)) → 0 < length (path_word names)
path_some [] = omega arith
path_some (name ∷ names) = omega arith

tag_inner : (tag : Tag) → IsTag tag → list_all is_inner (tag_text tag) ≡ true
tag_inner Now is = refl
tag_inner (At moment) is = number_inner moment (omega (arith, is))
tag_inner (Numbered number) is = number_inner number is

pub tagged_is : (names : List (List ℕ)) (tag : Tag) → IsPath names → IsTag tag → is_word (tagged_word names tag) ≡ true
tagged_is names tag is of_tag =
    let some : 0 < length (tagged_word names tag) = omega (arith, path_some names, length-append (path_word names) (tag_text tag)) in
    word_is (tagged_word names tag) some (list_all-append is_inner (path_word names) (tag_text tag) ∙ rw (path_inner names is, tag_inner tag of_tag) refl)
