-- The word that makes words no command.
use Rattle.ele_reasons.proofs.Basics.{Bor, arith, ◌≡◌, ℕ, Bool, true, false, List, [], ◌∷◌, refl, sym, ap, ◌∙◌, inl, inr, true≢false, bytes_decides}
use Rattle.ele_reasons.proofs.Prelude.{Command, WordKind, command_words, commands}
use Rattle.std.specs.List.{list_any}
use Rattle.std.specs.Prelude.{◌&&◌}
use Rattle.std.specs.Str.{bytes_eq}
use Rattle.ele_commands.specs.Command.{is_allowed}
use Rattle.ele_commands.specs.declared.command.When.{When}
use Rattle.ele_reasons.specs.Reason.{BeginsCommand, IsUnknown}
use Rattle.ele_reasons.specs.ReasonFound.{begin_row}

abbrev Row : Type 0
Row = Command × Bor (List ℕ) × Bor (List ℕ) × Bor (List WordKind) × When

-- the word begins the name
abbrev begins : List ℕ → List (List ℕ) → Bool
begins word [] = false
begins word (first ∷ names) = bytes_eq word first

-- the name of a command that the run has
abbrev begins_so : Bool → List ℕ → Command → Bool
begins_so explains word command = begins word (command_words command) && is_allowed explains command

abbrev pub begin_some : Bool → List ℕ → Bool
begin_some explains word = list_any (begins_so explains word) commands

both : (a b : Bool) → (a && b) ≡ true → (a ≡ true) × (b ≡ true)
both true b e = (refl, e)
both false b e = absurd cc

begun_by : (word : List ℕ) (names : List (List ℕ)) → begins word names ≡ true → (rest : List (List ℕ)) × (names ≡ word ∷ rest)
begun_by word [] is = absurd cc
begun_by word (first ∷ rest) is = (rest, ap (λ (first : List ℕ). first ∷ rest) (sym ((bytes_decides word first).0 is)))

-- a word that begins one of these names begins the name of a command
begun_in : (explains : Bool) (word : List ℕ) (cs : List Command) → list_any (begins_so explains word) cs ≡ true → BeginsCommand explains word
begun_in explains word [] is = absurd cc
begun_in explains word (c ∷ cs) is = by_test (begins_so explains word c) refl (begun_in explains word cs) where
  by_test : (test : Bool) → begins_so explains word c ≡ test → (list_any (begins_so explains word) cs ≡ true → BeginsCommand explains word) → BeginsCommand explains word
  by_test true so others =
      let parts = both (begins word (command_words c)) (is_allowed explains c) so in
      let names = begun_by word (command_words c) parts.0 in record { command = c; allowed = parts.1; rest = names.0; are = names.1 }
  by_test false other others = others (rw other at is)

first_of : List (List ℕ) → List ℕ
first_of [] = []
first_of (word ∷ words) = word

-- each command is among them
listed : (explains : Bool) (command : Command) → is_allowed explains command ≡ true → begin_some explains (first_of (command_words command)) ≡ true
unfolding first_of
listed true command allowed = grind arith
listed false command allowed = grind arith

begun : (explains : Bool) (word : List ℕ) → BeginsCommand explains word → begin_some explains word ≡ true
unfolding first_of
begun explains word is = sym (ap (λ (names : List (List ℕ)). begin_some explains (first_of names)) is.are) ∙ listed explains is.command is.allowed

-- if the first word begins a name, the second is unknown
pub second_unknown : (explains : Bool) (words : List (List ℕ)) (rows : List Row) → ((word : List ℕ) → begin_row explains (word ∷ []) rows ≡ begin_some explains word) → begin_row explains words rows ≡ true → IsUnknown explains words 2
second_unknown explains [] rows all is = absurd cc
second_unknown explains (word ∷ words) rows all is = inl (begun_in explains word commands (sym (all word) ∙ is), refl)

-- if not, the first is
pub first_unknown : (explains : Bool) (words : List (List ℕ)) (rows : List Row) → ((word : List ℕ) → begin_row explains (word ∷ []) rows ≡ begin_some explains word) → begin_row explains words rows ≡ false → IsUnknown explains words 1
first_unknown explains [] rows all is = refl
first_unknown explains (word ∷ words) rows all is = inr ((λ names. true≢false (sym (all word ∙ begun explains word names) ∙ is)), refl)
