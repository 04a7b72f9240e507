-- The program is one of which clap gives the matches.
use Rattle.std.proofs.Common.{◌≡◌, ℕ, codes, Bool, true, false, List, [], ◌∷◌, if◌then◌else◌, refl}
use Rattle.std.specs.Str.{bytes_eq}
use Rattle.std.proofs.lemmas.Slice.Eq.{bytes_eq-Decides}
use Rattle.clap.specs.Words.{Shape, Text, is_simple, is_simple_and_free}
use Rattle.ele_invocation.specs.Program.{all_commands, commands_for, forecast_shape, program_app, run_shape, storm_shape}

abbrev commands_by : Bool → Bool → Bool → List Shape
commands_by run storm forecast =
    if run then run_shape ∷ [] else (if storm then storm_shape ∷ [] else (if forecast then forecast_shape ∷ [] else all_commands))

free_by : (run storm forecast : Bool) → is_simple_and_free (program_app (commands_by run storm forecast)) ≡ true
free_by true storm forecast = refl
free_by false true forecast = refl
free_by false false true = refl
free_by false false false = refl

simple_by : (run storm forecast : Bool) → is_simple (program_app (commands_by run storm forecast)) ≡ true
simple_by true storm forecast = refl
simple_by false true forecast = refl
simple_by false false true = refl
simple_by false false false = refl

pub free_program : (word : Text) → is_simple_and_free (program_app (commands_for word)) ≡ true
free_program word = free_by _ _ _

pub simple_program : (word : Text) → is_simple (program_app (commands_for word)) ≡ true
simple_program word = simple_by _ _ _

never : (b : Bool) (P : Type 0) → (b ≡ true → P) → (P → ⊥) → b ≡ false
never true P holds refuted = absurd (refuted (holds refl))
never false P holds refuted = refl

differs : (xs ys : List ℕ) → ((xs ≡ ys) → ⊥) → bytes_eq xs ys ≡ false
differs xs ys refuted = never (bytes_eq xs ys) (xs ≡ ys) (bytes_eq-Decides xs ys).0 refuted

-- a word that names no command with arguments
pub other_word : (word : Text) → ((word ≡ codes "run") → ⊥) → ((word ≡ codes "storm") → ⊥) → ((word ≡ codes "forecast") → ⊥) → commands_for word ≡ all_commands
other_word word no_run no_storm no_forecast =
    rw (differs word (codes "run") no_run, differs word (codes "storm") no_storm, differs word (codes "forecast") no_forecast) refl
