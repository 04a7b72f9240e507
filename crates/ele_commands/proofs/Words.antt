-- The words of an event, one after another.
use Rattle.ele_commands.proofs.Basics.{nat_tests, arith, rules, true, false, ◌==◌, ◌≡◌, ℕ, ◌<◌, List, [], ◌∷◌, ◌++◌, length, map, refl, sym, ap, ◌∙◌, append_assoc, drop_more, join_with_byte, flat_map, take, drop, get_or, ◌/◌, ◌%◌, take-append-drop, IsFirstAndRest, AllByRecursion, ◌+◌, encode_lower, lower_digits}
use Rattle.ele_commands.specs.Command.{command_words, name_of}
use Rattle.ele_commands.specs.EventText.{bytes_word}
use Rattle.ele_output.proofs.Lists.{joined_are}
use Rattle.ele_path.specs.Path.{path_text}
use Rattle.ele_path.specs.PathText.{path_word}
use Rattle.ele_commands.specs.Pieces.{pieces_or_dash}
use Rattle.hex.specs.Hex.{encode_with}
use Rattle.ele_commands.specs.Word.{word_text}
use Rattle.ele_commands.specs.declared.word.Word.{Word}
use Rattle.ele_commands.specs.declared.command.Command.{Command}

-- a command has a word
pub some_word : (command : Command) → 0 < length (command_words command)
some_word command = search rules

-- joined words, and then a space and a word for each other word
pub joined_more : (first : List (List ℕ)) (words : List Word) → 0 < length first → join_with_byte 32 (first ++ map word_text words) ≡ join_with_byte 32 first ++ flat_map (λ (word : Word). 32 ∷ word_text word) words
joined_more [] words some = absurd (omega (arith, some))
joined_more (first ∷ []) words some = joined_are 32 word_text first words
joined_more (first ∷ second ∷ rest) words some =
    ap (λ (more : List ℕ). first ++ 32 ∷ more) (joined_more (second ∷ rest) words (omega arith)) ∙ sym (append_assoc first (32 ∷ join_with_byte 32 (second ∷ rest)) (flat_map (λ (word : Word). 32 ∷ word_text word) words))

-- if P follows from Q of the elements from i on, it follows from Q of those from i + 1 on, since x has Q
pub so_more : {A P : Type 0} (Q : A → Type 0) (xs : List A) (i : ℕ) (x : A) → i < length xs → x ≡ get_or xs i x → (AllByRecursion Q (drop i xs) → P) → Q x → AllByRecursion Q (drop (i + 1) xs) → P
so_more Q xs i x lt is all own rest = all (rw (drop_more xs i x lt, ← is) (own, rest))

-- a name of one word, or of two
pub one_word : (first second : List ℕ) → (length second == 0) ≡ true → join_with_byte 32 (name_of first second) ≡ first
one_word first [] none = refl
one_word first (byte ∷ bytes) none = grind (arith, nat_tests)

pub two_words : (first second : List ℕ) → (length second == 0) ≡ false → name_of first second ≡ first ∷ second ∷ []
two_words first [] some = grind (arith, nat_tests)
two_words first (byte ∷ bytes) some = refl

-- a path with names has a slash before each
pub steps_are : (names : List (List ℕ)) → (length names == 0) ≡ false → path_word names ≡ flat_map (λ (name : List ℕ). 47 ∷ name) names
steps_are [] some = grind (arith, nat_tests)
steps_are (name ∷ names) some = refl

-- the word of a path is a slash if its text has no bytes, or else that text
pub slash_is : (names : List (List ℕ)) (text : List ℕ) → text ≡ path_text names → (length text == 0) ≡ true
    → 47 ∷ [] ≡ path_word names
slash_is [] text is none = refl
slash_is (name ∷ names) text is none = grind (arith, nat_tests)

pub text_is : (names : List (List ℕ)) (text : List ℕ) → text ≡ path_text names → (length text == 0) ≡ false
    → text ≡ path_word names
text_is [] text is some = grind (arith, nat_tests)
text_is (name ∷ names) text is some = is

-- the word of some bytes is their digits
pub digits_are : (bytes : List ℕ) → (length bytes == 0) ≡ false → bytes_word bytes ≡ encode_lower bytes
digits_are [] some = grind (arith, nat_tests)
digits_are (byte ∷ bytes) some = refl

-- pieces are the first, and a comma and a text for each other
pub pieces_are : {A : Type 0} (text : A → List ℕ) (pieces : List A) (first : A) (rest : List A) → IsFirstAndRest pieces first rest → join_with_byte 44 (map text pieces) ≡ text first ++ flat_map (λ piece. 44 ∷ text piece) rest
pieces_are text pieces first rest is = rw is.0 (joined_are 44 text (text first) rest)

-- the pieces, if there are some
pub pieces_some : {A : Type 0} (text : A → List ℕ) (pieces : List A) → (length pieces == 0) ≡ false → pieces_or_dash text pieces ≡ join_with_byte 44 (map text pieces)
pieces_some text [] some = grind (arith, nat_tests)
pieces_some text (piece ∷ pieces) some = refl

digits_append : (xs ys : List ℕ) → encode_lower (xs ++ ys) ≡ encode_lower xs ++ encode_lower ys
unfolding encode_with
digits_append [] ys = refl
digits_append (x ∷ xs) ys = ap (λ (w : List ℕ). get_or lower_digits (x / 16) 0 ∷ get_or lower_digits (x % 16) 0 ∷ w) (digits_append xs ys)

-- the digits of the first bytes, and then of the others
pub digits_split : (bytes piece behind : List ℕ) (n : ℕ) → piece ≡ take n bytes → behind ≡ drop n bytes → encode_lower bytes ≡ encode_lower piece ++ encode_lower behind
digits_split bytes piece behind n e f = rw (e, f) (ap encode_lower (sym (take-append-drop n bytes)) ∙ digits_append (take n bytes) (drop n bytes))

-- no bytes have no digits
pub digits_none : (bytes : List ℕ) → (length bytes == 0) ≡ true → encode_lower bytes ≡ []
unfolding encode_with
digits_none [] none = refl
digits_none (byte ∷ bytes) none = grind (arith, nat_tests)
