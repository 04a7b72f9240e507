-- The command that words begin with.
use Rattle.std.specs.Prelude.{if◌then◌else◌}
use Rattle.ele_script.proofs.Basics.{nat_tests, arith, ◌≡◌, ℕ, Bool, true, Option, List, [], ◌∷◌, ◌++◌, map, refl, ap, ◌∙◌, Some, None, Result, Ok, Err, ◌⊎◌, inl, inr, subst, IfOk, IfErr, bytes_decides, same_Some}
use Rattle.ele_script.proofs.Prelude.{Command, LineFault, Syntax, NoMemory, Line, SpellsWords, command_words, kinds_behind, TakesMemory, behind, commands, find_command, named, IsFaultOfKinds, miscounted, bad_word, ReadsLine, FitsCommand}
use Rattle.ele_script.proofs.Prelude.{IsFaultOfWords, no_command, of_word}
use Rattle.std.proofs.Common.{IfSome}
use Rattle.ele_script.specs.CommandOf.{command_in, command_of, if_allowed}
use Rattle.ele_script.specs.Spells.{line_parts}
use Rattle.ele_commands.specs.Command.{is_allowed}
use Rattle.std.specs.Option.{option_and_then}

-- the words of a command, and any words after them
pub command_of-words : (command : Command) (arguments : List (List ℕ)) → command_of (command_words command ++ arguments) ≡ Some (command, arguments)
unfolding command_of
command_of-words command arguments = grind arith

-- the words after a name follow it
behind_is : (name words : List (List ℕ)) → IfSome (behind name words) (λ rest. words ≡ name ++ rest)
behind_is [] words = refl
behind_is (word ∷ name) [] = tt
behind_is (word ∷ name) (first ∷ words) = let rest = behind_is name words in grind (arith, bytes_decides, rest)

-- the words begin with what is found
found_is : (cs : List Command) (words : List (List ℕ)) → IfSome (find_command (map named cs) words) (λ x. words ≡ command_words x.0 ++ x.1)
found_is [] words = tt
found_is (c ∷ cs) words = let here = behind_is (command_words c) words in let there = found_is cs words in grind (arith, here, there)

words_are : (words : List (List ℕ)) → IfSome (command_of words) (λ x. words ≡ command_words x.0 ++ x.1)
unfolding command_of
words_are words = found_is commands words

-- the same in a run that has the command
pub command_in-words : (explains : Bool) (command : Command) (arguments : List (List ℕ)) → is_allowed explains command ≡ true → command_in explains (command_words command ++ arguments) ≡ Some (command, arguments)
command_in-words explains command arguments allowed =
    ap (option_and_then (if_allowed explains)) (command_of-words command arguments) ∙ ap (λ (test : Bool). if test then Some (command, arguments) else None) allowed

-- and only in such a run
is_found : (explains : Bool) (found : Option (Command × List (List ℕ))) (command : Command) (arguments : List (List ℕ)) → option_and_then (if_allowed explains) found ≡ Some (command, arguments)
    → (found ≡ Some (command, arguments)) × (is_allowed explains command ≡ true)
is_found explains None command arguments is = absurd cc
is_found explains (Some (other, behind)) command arguments is = grind (arith, same_Some)

-- the command that words fit is found
fits_found : {explains : Bool} (words : List (List ℕ)) (command : Command) (arguments : List (List ℕ)) → FitsCommand explains words command arguments → command_in explains words ≡ Some (command, arguments)
fits_found {explains} words command arguments fits = ap (command_in explains) fits.are ∙ command_in-words explains command arguments fits.allowed

-- if no command is found, the words fit none
no_command_fits : {explains : Bool} (words : List (List ℕ)) → command_in explains words ≡ None → (command : Command) (arguments : List (List ℕ)) → FitsCommand explains words command arguments → ⊥
no_command_fits words none command arguments fits = let some = fits_found words command arguments fits in cc

-- the words are the command that is found, and the words after it
pub words_found : (explains : Bool) (words : List (List ℕ)) (command : Command) (arguments : List (List ℕ)) → command_in explains words ≡ Some (command, arguments) → words ≡ command_words command ++ arguments
words_found explains words command arguments found =
    subst (λ o. IfSome o (λ x. words ≡ command_words x.0 ++ x.1)) (is_found explains (command_of words) command arguments found).0 (words_are words)

-- the run has the command
pub allowed_found : (explains : Bool) (words : List (List ℕ)) (command : Command) (arguments : List (List ℕ)) → command_in explains words ≡ Some (command, arguments) → is_allowed explains command ≡ true
allowed_found explains words command arguments found = (is_found explains (command_of words) command arguments found).1

-- a fault of the words after the command is one of all words
pub fault_of_words : {explains : Bool} (words : List (List ℕ)) (command : Command) (arguments : List (List ℕ)) (fault : LineFault) → command_in explains words ≡ Some (command, arguments) → IsFaultOfKinds (kinds_behind command arguments) arguments fault → IsFaultOfWords explains words fault
fault_of_words words command arguments fault found (miscounted number is) = no_command (λ c xs fits. grind (arith, number, fits_found words c xs fits, fits.count, same_Some)) is
fault_of_words {explains} words command arguments fault found (bad_word count first) =
    of_word command arguments (record { allowed = allowed_found explains words command arguments found; are = words_found explains words command arguments found; count = count }) first

-- if no command is found, the words have a fault
pub unfit_words : {explains : Bool} (words : List (List ℕ)) → command_in explains words ≡ None → IsFaultOfWords explains words Syntax
unfit_words words none = no_command (no_command_fits words none) refl

-- what the words after the command spell, with it, all words spell
pub spelled_words : (explains : Bool) (words : List (List ℕ)) (command : Command) (arguments : List (List ℕ)) (r : Result Line LineFault) → command_in explains words ≡ Some (command, arguments) → ReadsLine command arguments r → IfOk r (SpellsWords words)
spelled_words explains words command arguments (Ok asked) found h = record { arguments = arguments; are = grind (arith, words_found explains words command arguments found, h.command_is); values = h.values }
spelled_words explains words command arguments (Err fault) found h = tt

-- the run has that command
pub allowed_words : (explains : Bool) (words : List (List ℕ)) (command : Command) (arguments : List (List ℕ)) (r : Result Line LineFault) → command_in explains words ≡ Some (command, arguments) → ReadsLine command arguments r
    → IfOk r (λ asked. is_allowed explains (line_parts asked).0 ≡ true)
allowed_words explains words command arguments (Ok asked) found h = ap (is_allowed explains) h.command_is ∙ allowed_found explains words command arguments found
allowed_words explains words command arguments (Err fault) found h = tt

-- if the words after the command take memory, all words do
pub memory_of_words : {explains : Bool} (words : List (List ℕ)) (command : Command) (arguments : List (List ℕ)) (r : Result Line LineFault) → command_in explains words ≡ Some (command, arguments) → ReadsLine command arguments r → r ≡ Err NoMemory → TakesMemory explains words
memory_of_words words command arguments (Ok asked) found h is = absurd cc
memory_of_words {explains} words command arguments (Err fault) found h is =
    record { command = command; allowed = allowed_found explains words command arguments found; arguments = arguments; are = words_found explains words command arguments found; takes = h.memory cc }

-- and if they are refused, all words are
pub faults_of_words : (explains : Bool) (words : List (List ℕ)) (command : Command) (arguments : List (List ℕ)) (r : Result Line LineFault) → command_in explains words ≡ Some (command, arguments) → ReadsLine command arguments r → IfErr r (λ fault. (fault ≡ NoMemory) ⊎ IsFaultOfWords explains words fault)
faults_of_words explains words command arguments (Ok asked) found h = tt
faults_of_words explains words command arguments (Err fault) found h =
    elim h.is [ inl memory ↦ inl memory | inr bad ↦ inr (fault_of_words words command arguments fault found bad) ]

-- words begin with at most one command
pub one_fit : (words : List (List ℕ)) (c d : Command) (xs ys : List (List ℕ)) → words ≡ command_words c ++ xs → words ≡ command_words d ++ ys → (c ≡ d) × (xs ≡ ys)
one_fit words c d xs ys a b = grind (arith, nat_tests, same_Some, command_of-words)
