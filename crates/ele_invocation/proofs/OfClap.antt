-- What clap makes of the words, as what they ask for.
use Rattle.std.proofs.Common.{ℕ, ◌≡◌, ◌∙◌, ◌⊎◌, List, [], ◌∷◌, Option, Some, None, MatchOption, Bor, option_map, slice_get, unwrap_or, ap, sym, subst, inl, inr, true}
use Rattle.clap.specs.Words.{App, HasMatchesOf, IsAmong, Kinds, Row, Text, fault_of, is_simple, is_simple_and_free, subcommand_of, subcommand_rows_of}
use Rattle.clap.specs.declared.error.kind.ErrorKind.{ErrorKind}
use Rattle.clap.specs.declared.error.kind.ErrorKind.TheVariants.{OutOfMemory}
use Rattle.clap.specs.declared.parser.matches.ArgMatches.{ArgMatches}
use Rattle.ele_invocation.specs.Invocation.{IsCommand, IsFound, IsRead, IsRefusal, IsShown, app_for, command_in, faults_in}
use Rattle.ele_invocation.specs.declared.invocation.Invocation.{Invocation}
use Rattle.ele_invocation.specs.declared.invocation.Invocation.TheVariants.{NoMemory}
use Rattle.ele_invocation.proofs.Simple.{free_program, simple_program}

shown : (now : Option ℕ) (kinds : Kinds) (found : Option (Text × List Row)) (kind : ErrorKind) (asked : Invocation) → IsAmong kind kinds → IsShown kind asked → IsFound now kinds found asked
shown now [] found kind asked among is = absurd among
shown now (k ∷ kinds) found kind asked among is = (kind, among, is)

-- clap has an error
pub read_error : (now : Option ℕ) (words : List Text) (app : App) (kind : ErrorKind) (asked : Invocation) → app ≡ app_for words
    → (is_simple_and_free app ≡ true → (kind ≡ OutOfMemory) ⊎ IsAmong kind (fault_of app words))
    → IsShown kind asked → (kind ≡ OutOfMemory → asked ≡ NoMemory) → IsRead now (faults_in words) (command_in words) asked
unfolding faults_in command_in
read_error now words app kind asked e kinds is memory =
    elim (kinds (ap is_simple_and_free e ∙ free_program (unwrap_or (slice_get words 1) []))) [
      | inl out ↦ inr (memory out)
      | inr among ↦ inl (shown now (fault_of (app_for words) words) _ kind asked (subst (λ (a : App). IsAmong kind (fault_of a words)) e among) is)
    ]

-- clap has matches
pub read_matches : (now : Option ℕ) (words : List Text) (app : App) (m : ArgMatches) (asked : Invocation) → app ≡ app_for words
    → (is_simple_and_free app ≡ true → fault_of app words ≡ []) → HasMatchesOf app words m
    → MatchOption (subcommand_rows_of m) (IsRefusal asked) (λ command. IsCommand now command.0 command.1 asked) → IsRead now (faults_in words) (command_in words) asked
unfolding faults_in command_in
read_matches now words app m asked e kinds matches is =
    let none : fault_of (app_for words) words ≡ [] = ap (λ (a : App). fault_of a words) (sym e) ∙ kinds (ap is_simple_and_free e ∙ free_program (unwrap_or (slice_get words 1) [])) in
    let found : subcommand_rows_of m ≡ subcommand_of (app_for words) words = (matches (ap is_simple e ∙ simple_program (unwrap_or (slice_get words 1) []))).1 ∙ ap (λ (a : App). subcommand_of a words) e in
    inl (subst (λ (k : Kinds). IsFound now k (subcommand_of (app_for words) words) asked) (sym none)
    (subst (λ (f : Option (Text × List Row)). MatchOption f (IsRefusal asked) (λ command. IsCommand now command.0 command.1 asked)) found is))

-- the first word, or an empty one
pub first_word : (o : Option (Bor Text)) (d r : Bor Text) (got : Option Text) → option_map (λ w. w.now) o ≡ got → r ≡ unwrap_or o d → r.now ≡ unwrap_or got d.now
first_word None d r got e f = ap (λ (b : Bor Text). b.now) f ∙ ap (λ (g : Option Text). unwrap_or g d.now) e
first_word (Some w) d r got e f = ap (λ (b : Bor Text). b.now) f ∙ ap (λ (g : Option Text). unwrap_or g d.now) e
