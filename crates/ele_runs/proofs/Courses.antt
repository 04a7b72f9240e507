-- What stays the same in a run, and which runs end at a line.
use Rattle.ele_runs.proofs.Basics.{◌≡◌, inl, inr, Bool, true, false, ℕ, List, [], ◌∷◌, Option, refl, sym, ap, ◌∙◌}
use Rattle.ele_runs.proofs.Words.{AreTold, RunState, IsTold, line_unless_long}
use Rattle.ele_runs.specs.Tally.{is_well, outcome_of}
use Rattle.std.specs.Prelude.{not, ◌&&◌}
use Rattle.ele_run_options.specs.declared.options.RunOptions.{RunOptions}
use Rattle.std.proofs.lemmas.Bool.{cases_Bool}

manner_after : (before after : RunState) (line : Option (List ℕ)) (told : List ℕ) → IsTold before line told after → after.options ≡ before.options
manner_after before after line told is = ap (λ (c : RunState). c.options) is.after_is

-- the options stay
pub manner_stays : (before after : RunState) (lines : List (List ℕ)) (text : List ℕ) → AreTold before lines text after → after.options ≡ before.options
manner_stays before after [] text are = ap (λ (c : RunState). c.options) are.1
manner_stays before after (line ∷ lines) text (told, rest, between, is, more, parts) =
    manner_stays between after lines rest more ∙ manner_after before between (line_unless_long line) told is

both : (a b : Bool) → (a && b) ≡ true → a ≡ true
both true b e = refl
both false b e = e

pub clash : {A : Type 0} (test : Bool) → test ≡ true → test ≡ false → A
clash true e f = absurd cc
clash false e f = absurd cc

-- only a strict run ends at a line
ends_strict : (before after : RunState) (line : Option (List ℕ)) (told : List ℕ) → IsTold before line told after → after.ended ≡ true → before.options.strict ≡ true
ends_strict before after line told is ended =
    both before.options.strict (not (is_well (outcome_of is.block))) (sym (ap (λ (c : RunState). c.ended) is.after_is) ∙ ended)

pub strict_run : (before after : RunState) (lines : List (List ℕ)) (text : List ℕ) → AreTold before lines text after → before.ended ≡ false → after.ended ≡ true
    → before.options.strict ≡ true
strict_run before after [] text are on ended = clash after.ended ended (ap (λ (c : RunState). c.ended) are.1 ∙ on)
strict_run before after (line ∷ lines) text (told, rest, between, is, more, parts) on ended = elim (cases_Bool between.ended) [
  | inl over ↦ ends_strict before between (line_unless_long line) told is over
  | inr goes_on ↦
      sym (ap (λ (m : RunOptions). m.strict) (manner_after before between (line_unless_long line) told is)) ∙ strict_run between after lines rest more goes_on ended
]
