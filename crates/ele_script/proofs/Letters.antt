-- The command that words begin with, by its first letter.
use Rattle.ele_script.proofs.Basics.{nat_tests, arith, ◌≡◌, ◌≢◌, ℕ, List, [], ◌∷◌, refl, sym, drop, map, Bor, Some, None}
use Rattle.ele_script.proofs.Prelude.{Command, find_command}
use Rattle.std.proofs.lemmas.List.{drop-map}
use Rattle.ele_commands.specs.declared.command.When.{When}
use Rattle.ele_commands.specs.declared.kind.WordKind.{WordKind}
use Rattle.ele_script.specs.CommandOf.{command_of, commands, entry, first_letter, FindsAll, named}

abbrev pub Row : Type 0
Row = Command × Bor (List ℕ) × Bor (List ℕ) × Bor (List WordKind) × When

-- words without a first letter begin with no command
pub no_letter : (words : List (List ℕ)) → first_letter words ≡ None → command_of words ≡ None
unfolding command_of
no_letter [] none = refl
no_letter ([] ∷ words) none = refl
no_letter ((letter ∷ word) ∷ words) none = absurd cc

-- the rows of the letter give the command that all rows give
pub by_letter : (words : List (List ℕ)) (letter : ℕ) (table : List (List (List ℕ) × Command)) → first_letter words ≡ Some letter → FindsAll letter table → find_command table words ≡ command_of words
by_letter [] letter table some finds = absurd cc
by_letter ([] ∷ words) letter table some finds = absurd cc
by_letter ((first ∷ word) ∷ words) letter table some finds =
    let same : first ≡ letter = cc in
    rw same (finds word words)

-- no name begins with any other letter
pub none_begin : (letter : ℕ) → letter ≢ 97 → letter ≢ 99 → letter ≢ 100 → letter ≢ 101 → letter ≢ 103 → letter ≢ 104 → letter ≢ 108 → letter ≢ 109 → letter ≢ 110 → letter ≢ 111 → letter ≢ 112 → letter ≢ 114 → letter ≢ 115 → letter ≢ 116 → letter ≢ 117 → letter ≢ 118 → letter ≢ 119 → FindsAll letter []
unfolding command_of
none_begin letter a b c d e f g h i j k l m n o p q = λ word words. grind (arith, nat_tests)

-- the rows after some find what the commands after as many find
pub rows_find : (letter n : ℕ) (rows rest : List Row) → rest ≡ drop n rows → map entry rows ≡ map named commands → FindsAll letter (drop n (map named commands)) → FindsAll letter (map entry rest)
rows_find letter n rows rest is same finds = rw (is, sym (drop-map entry n rows), same) finds
