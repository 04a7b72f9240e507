-- The words of values, as they are printed, are plain and not empty.
use Rattle.ele_script.proofs.Basics.{◌≡◌, ℕ, zero, suc, ◌<◌, ◌≤◌, decimal, true, List, [], ◌∷◌, length, map, refl, ◌∙◌, arith, nat_tests, AllZip, list_all, All-head, All-tail}
use Rattle.ele_script.proofs.Prelude.{SpellsNumber, Rung, ground, SpellsPair, pair_word, Value, Moment, Name, Path, Timed, Bytes}
use Rattle.std.specs.Prelude.{All}
use Rattle.std.specs.List.{AllByRecursion}
use Rattle.std.proofs.lemmas.List.Folds.{list_all-append}
use Rattle.std.proofs.lemmas.List.Sums.{list_all-from_AllPass}
use Rattle.hex.specs.Hex.{IsBytes, encode_lower, is_hex_digit}
use Rattle.hex.proofs.HexLemmas.{decode_of-encode_lower, decode_of-ok}
use Rattle.ele_policy.specs.Policy.{IsPolicy}
use Rattle.ele_policy.specs.declared.policy.Policy.{Policy as AnyPolicy}
use Rattle.ele_policy.specs.declared.policy.Policy.TheVariants as policy
use Rattle.ele_path.specs.PathAt.{tag_at}
use Rattle.ele_model.specs.declared.event.Source.TheVariants as source
use Rattle.ele_commands.specs.EventText.{IsValue, value_word}
use Rattle.ele_commands.specs.EventText.{bytes_word}
use Rattle.ele_policy.specs.PolicyText.{floor_word, policy_word}
use Rattle.ele_path.specs.PathText.{path_word}
use Rattle.ele_script.specs.Value.{Number, Handle, Version, End, Tagged, Source, Policy}
use Rattle.ele_script.proofs.PolicyBack.{spelled_pairs}
use Rattle.ele_script.proofs.PlainWords.{all_so, is_inner, is_word, joined_all, name_plain, number_inner, number_is, path_inner, path_some, tagged_is, word_is}

pub are_bytes : (bytes : List ℕ) → All (λ byte. byte < 256) bytes → IsBytes bytes
are_bytes [] all zero = omega arith
are_bytes [] all (suc i) = omega arith
are_bytes (byte ∷ bytes) all zero = All-head (λ byte. byte < 256) byte bytes all
are_bytes (byte ∷ bytes) all (suc i) = are_bytes bytes (All-tail (λ byte. byte < 256) byte bytes all) i

hex_inner : (c : ℕ) → is_hex_digit c ≡ true → is_inner c ≡ true
hex_inner c is = grind (arith, nat_tests)

bytes_is : (bytes : List ℕ) → IsBytes bytes → is_word (bytes_word bytes) ≡ true
bytes_is [] are = refl
bytes_is (byte ∷ bytes) are =
    let text = encode_lower (byte ∷ bytes) in
    let read = decode_of-ok text (byte ∷ bytes) (decode_of-encode_lower (byte ∷ bytes) are) in
    word_is text (omega (arith, read.2)) (all_so is_hex_digit is_inner hex_inner text (list_all-from_AllPass is_hex_digit text read.1))

spelled_inner : (word : List ℕ) (n : ℕ) → SpellsNumber word n → list_all is_inner word ≡ true
spelled_inner word n is = rw is.digits (number_inner n is.fits)

pair_inner : (word : List ℕ) (rung : Rung) → SpellsPair word rung → list_all is_inner word ≡ true
pair_inner word rung is =
    rw is.are (list_all-append is_inner is.age (47 ∷ is.width) ∙ rw (spelled_inner is.age rung.0 is.age_is, spelled_inner is.width rung.1 is.width_is) refl)

pairs_inner : (words : List (List ℕ)) (rungs : List Rung) → AllZip SpellsPair words rungs → list_all (list_all is_inner) words ≡ true
pairs_inner [] [] are = refl
pairs_inner (word ∷ words) (rung ∷ rungs) are = rw (pair_inner word rung are.0, pairs_inner words rungs are.1) refl
pairs_inner words rungs are = absurd are

floor_inner : (floor : ℕ) → floor ≤ 16 → list_all is_inner (floor_word floor) ≡ true
floor_inner zero few = refl
floor_inner (suc n) few = number_inner (suc n) (omega (arith, few))

policy_is : (kept : AnyPolicy) → IsPolicy kept → is_word (policy_word kept) ≡ true
policy_is policy.One is = refl
policy_is policy.All is = refl
policy_is (policy.Safe seconds floor) is =
    let word = policy_word (policy.Safe seconds floor) in
    let some : 0 < length word = omega arith in
    let inner = number_inner seconds (omega (arith, is.0.fits)) in
    word_is word some (list_all-append is_inner (decimal seconds) (floor_word floor) ∙ rw (inner, floor_inner floor is.1) refl)
policy_is (policy.Landmarks rungs) is =
    let word = policy_word (policy.Landmarks rungs) in
    let some : 0 < length word = omega arith in
    word_is word some (joined_all is_inner 44 refl (map pair_word rungs) (pairs_inner (map pair_word rungs) rungs (spelled_pairs ground rungs is.climbing)))

value_is : (value : Value) → IsValue value → is_word (value_word value) ≡ true
value_is (Number n) is = number_is n is
value_is (Handle n) is = number_is n is
value_is (Version n) is = number_is n is
value_is (Moment m) is = number_is m (omega (arith, is))
value_is (End m) is = number_is m (omega (arith, is))
value_is (Name name) is = word_is name is.some (name_plain name is)
value_is (Path names) is = word_is (path_word names) (path_some names) (path_inner names is)
value_is (Tagged tagged) is = tagged_is tagged.path tagged.tag is.0 is.1
value_is (Timed timed) is = tagged_is timed.path (tag_at timed.moment) is.0 is.1
value_is (Source (source.Tagged tagged)) is = tagged_is tagged.path tagged.tag is.0 is.1
value_is (Source (source.Of handle)) is = number_is handle is
value_is (Bytes bytes) is = bytes_is bytes (are_bytes bytes is)
value_is (Policy kept) is = policy_is kept is

pub values_are : (values : List Value) → AllByRecursion IsValue values → list_all is_word (map value_word values) ≡ true
values_are [] are = refl
values_are (value ∷ values) are = rw (value_is value are.0, values_are values are.1) refl
