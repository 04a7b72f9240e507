-- The tally of a run counts the answers to its lines.
use Rattle.ele_runs.proofs.Basics.{◌≡◌, ℕ, ◌+◌, List, [], ◌∷◌, length, Option, Some, None, refl, ap, ◌∙◌, arith}
use Rattle.ele_runs.proofs.Outcomes.{answer_outcome}
use Rattle.ele_runs.proofs.Words.{AreTold, IsTold, RunState, begun, last_reply, line_unless_long}
use Rattle.std.specs.Prelude.{filter, not}
use Rattle.std.specs.List.{position_from}
use Rattle.std.specs.Option.{option_or}
use Rattle.ele_runs.specs.Tally.{is_well, outcome_for, tallied}
use Rattle.ele_runs.specs.TallyCounts.{TallyCounts, first_bad_of, is_bad, is_refused, is_stopped, outcomes_of}
use Rattle.ele_runs.specs.declared.tally.Outcome.{Outcome}
use Rattle.ele_runs.specs.declared.tally.Outcome.TheVariants.{Well, Bad, Refused, Stopped}
use Rattle.ele_runs.specs.declared.tally.Tally.{Tally}

-- so the tally goes on by the answer
tally_next : (before after : RunState) (line : Option (List ℕ)) (told : List ℕ) (is : IsTold before line told after) → after.tally ≡ tallied before.tally (before.number + 1) line (outcome_for (last_reply is.past) is.is.0)
tally_next before after line told is =
    ap (λ (state : RunState). state.tally) is.after_is ∙ ap (tallied before.tally (before.number + 1) line) (answer_outcome (last_reply is.past) is.past.folded is.past.entries is.is.0 is.block is.is.2)

number_next : (before after : RunState) (line : Option (List ℕ)) (told : List ℕ) → IsTold before line told after → after.number ≡ before.number + 1
number_next before after line told is = ap (λ (state : RunState). state.number) is.after_is

-- the counts after one answer more
bad_next : (outcome : Outcome) (tally : Tally) (number : ℕ) (line : Option (List ℕ)) (rest : List Outcome)
    → (tallied tally number line outcome).bad + length (filter is_bad rest) ≡ tally.bad + length (filter is_bad (outcome ∷ rest))
bad_next Well tally number line rest = refl
bad_next Bad tally number line rest = omega arith
bad_next Refused tally number line rest = refl
bad_next Stopped tally number line rest = refl

refused_next : (outcome : Outcome) (tally : Tally) (number : ℕ) (line : Option (List ℕ)) (rest : List Outcome)
    → (tallied tally number line outcome).refused + length (filter is_refused rest) ≡ tally.refused + length (filter is_refused (outcome ∷ rest))
refused_next Well tally number line rest = refl
refused_next Bad tally number line rest = refl
refused_next Refused tally number line rest = omega arith
refused_next Stopped tally number line rest = refl

stopped_next : (outcome : Outcome) (tally : Tally) (number : ℕ) (line : Option (List ℕ)) (rest : List Outcome)
    → (tallied tally number line outcome).stopped + length (filter is_stopped rest) ≡ tally.stopped + length (filter is_stopped (outcome ∷ rest))
stopped_next Well tally number line rest = refl
stopped_next Bad tally number line rest = refl
stopped_next Refused tally number line rest = refl
stopped_next Stopped tally number line rest = omega arith

-- the first one stays
stays_first : {A : Type 0} (kept : Option A) (found : A) (later : Option A) → option_or (option_or kept (Some found)) later ≡ option_or kept (Some found)
stays_first None found later = refl
stays_first (Some first) found later = refl

first_next : (outcome : Outcome) (tally : Tally) (number : ℕ) (line : Option (List ℕ)) (rest : List Outcome)
    → option_or (tallied tally number line outcome).first (position_from (λ o. not (is_well o)) (number + 1) rest) ≡ option_or tally.first (position_from (λ o. not (is_well o)) number (outcome ∷ rest))
first_next Well tally number line rest = refl
first_next Bad tally number line rest = stays_first tally.first number _
first_next Refused tally number line rest = stays_first tally.first number _
first_next Stopped tally number line rest = stays_first tally.first number _

bad_line_next : (outcome : Outcome) (tally : Tally) (number : ℕ) (line : List ℕ) (lines : List (List ℕ)) (rest : List Outcome)
    → option_or (tallied tally number (line_unless_long line) outcome).first_bad (first_bad_of (number + 1) lines rest) ≡ option_or tally.first_bad (first_bad_of number (line ∷ lines) (outcome ∷ rest))
bad_line_next Well tally number line lines rest = refl
bad_line_next Bad tally number line lines rest = stays_first tally.first_bad _ _
bad_line_next Refused tally number line lines rest = refl
bad_line_next Stopped tally number line lines rest = refl

-- the counts, from any counts before
record CountsOn (before after : RunState) (lines : List (List ℕ)) (outcomes : List Outcome) : Type 0 where
  bad : after.tally.bad ≡ before.tally.bad + length (filter is_bad outcomes)
  refused : after.tally.refused ≡ before.tally.refused + length (filter is_refused outcomes)
  stopped : after.tally.stopped ≡ before.tally.stopped + length (filter is_stopped outcomes)
  first : after.tally.first ≡ option_or before.tally.first (position_from (λ o. not (is_well o)) (before.number + 1) outcomes)
  first_bad : after.tally.first_bad ≡ option_or before.tally.first_bad (first_bad_of (before.number + 1) lines outcomes)

none_more : {A : Type 0} (kept : Option A) → kept ≡ option_or kept None
none_more None = refl
none_more (Some first) = refl

counts_on : (before after : RunState) (lines : List (List ℕ)) (text : List ℕ) (are : AreTold before lines text after) → CountsOn before after lines (outcomes_of before lines text after are)
counts_on before after [] text are =
    let same : after.tally ≡ before.tally = ap (λ (state : RunState). state.tally) are.1 in
    record {
      bad = omega (arith, ap (λ (t : Tally). t.bad) same);
      refused = omega (arith, ap (λ (t : Tally). t.refused) same);
      stopped = omega (arith, ap (λ (t : Tally). t.stopped) same);
      first = ap (λ (t : Tally). t.first) same ∙ none_more before.tally.first;
      first_bad = ap (λ (t : Tally). t.first_bad) same ∙ none_more before.tally.first_bad;
    }
counts_on before after (line ∷ lines) text (told, rest, between, is, more, parts) =
    let others = counts_on between after lines rest more in
    let outcomes = outcomes_of between lines rest after more in
    let outcome = outcome_for (last_reply is.past) is.is.0 in
    let kept = line_unless_long line in
    let next : between.tally ≡ tallied before.tally (before.number + 1) kept outcome = tally_next before between kept told is in
    let number : between.number ≡ before.number + 1 = number_next before between kept told is in
    record {
      bad = others.bad ∙ ap (λ (t : Tally). t.bad + length (filter is_bad outcomes)) next ∙ bad_next outcome before.tally (before.number + 1) kept outcomes;
      refused = others.refused ∙ ap (λ (t : Tally). t.refused + length (filter is_refused outcomes)) next ∙ refused_next outcome before.tally (before.number + 1) kept outcomes;
      stopped = others.stopped ∙ ap (λ (t : Tally). t.stopped + length (filter is_stopped outcomes)) next ∙ stopped_next outcome before.tally (before.number + 1) kept outcomes;
      first = others.first ∙ ap (λ (t : Tally). option_or t.first (position_from (λ o. not (is_well o)) (between.number + 1) outcomes)) next
          ∙ ap (λ (n : ℕ). option_or (tallied before.tally (before.number + 1) kept outcome).first (position_from (λ o. not (is_well o)) (n + 1) outcomes)) number
          ∙ first_next outcome before.tally (before.number + 1) kept outcomes;
      first_bad = others.first_bad ∙ ap (λ (t : Tally). option_or t.first_bad (first_bad_of (between.number + 1) lines outcomes)) next
          ∙ ap (λ (n : ℕ). option_or (tallied before.tally (before.number + 1) kept outcome).first_bad (first_bad_of (n + 1) lines outcomes)) number
          ∙ bad_line_next outcome before.tally (before.number + 1) line lines outcomes;
    }

pub tally_counts : TallyCounts
tally_counts options start notes lines text state are =
    let counts = counts_on (begun options start notes) state lines text are in
    record { bad = omega (arith, counts.bad); refused = omega (arith, counts.refused); stopped = omega (arith, counts.stopped); first = counts.first; first_bad = counts.first_bad }
