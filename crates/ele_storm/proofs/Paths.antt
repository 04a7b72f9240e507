-- The words that the events of a storm name spell the paths that they are to.
use Rattle.std.proofs.Common.{◌≡◌, ℕ, zero, suc, ◌+◌, ◌%◌, ◌<◌, ◌≤◌, ◌^◌, true, List, [], ◌∷◌, ◌++◌, length, refl, sym, arith, lit<, inl, inr}
use Rattle.std.specs.Prelude.{All, ◌⊎◌, Result, Ok, Err, IfOk}
use Rattle.std.specs.Result.{result_or}
use Rattle.std.specs.Prelude.{codes, decimal}
use Rattle.std.specs.List.{list_all}
use Rattle.std.proofs.lemmas.Bool.Decides.{nat_tests}
use Rattle.std.proofs.lemmas.Fmt.{decimal_by_steps, length-decimal-le}
use Rattle.std.proofs.lemmas.List.Folds.{list_all-append}
use mathlib.Core.List.{append-nil}
use Rattle.ele_moment.specs.Name.{IsName, is_name_byte}
use Rattle.ele_path.specs.Path.{SpellsPath}
use Rattle.ele_storm.specs.Rounds.{file_of}

digit_is_plain : (n : ℕ) → n < 10 → is_name_byte (48 + n) ≡ true
digit_is_plain n small = grind (arith, nat_tests)

digits_are_plain : (n : ℕ) → n < 2 ^ 64 → list_all is_name_byte (decimal n) ≡ true
digits_are_plain n small =
    decimal_by_steps (λ (m : ℕ) (ds : List ℕ). list_all is_name_byte ds ≡ true)
    (λ m few. rw (digit_is_plain m few) refl)
    (λ m ds many all. rw (list_all-append is_name_byte ds ((48 + m % 10) ∷ []), all, digit_is_plain (m % 10) (omega arith)) refl)
    n small

file_is_name : (n : ℕ) → n < 2 ^ 64 → IsName (codes "w" ++ decimal n)
file_is_name n small =
    let long : length (decimal n) ≤ 20 = length-decimal-le 20 n (lit< tt) (omega arith) small in
    record {
      some = omega arith;
      short = omega arith;
      plain = digits_are_plain n small;
      no_dot = λ e. absurd (grind arith);
      no_dots = λ e. absurd (grind arith);
    }

one_named : (name : List ℕ) → IsName name → All IsName (name ∷ [])
one_named name is zero d h = is
one_named name is (suc k) d h = absurd (omega arith)

pub spells_file : (n : ℕ) → n < 2 ^ 64 → SpellsPath (codes "/w" ++ decimal n) (file_of n)
spells_file n small = record {
  is = record { short = omega arith; named = one_named (codes "w" ++ decimal n) (file_is_name n small) };
  form = inr (omega arith, sym (append-nil (codes "/w" ++ decimal n)));
}

-- what was read is this value, or there was no memory
pub read_is : {A E F : Type 0} (r : Result A F) (v : A) (none : F) (refused : E) → ((r ≡ Ok v) ⊎ (r ≡ Err none)) → IfOk (result_or r (Err refused)) (λ x. x ≡ v)
read_is (Ok x) v none refused (inl e) = cc
read_is (Ok x) v none refused (inr e) = absurd cc
read_is (Err y) v none refused is = tt
