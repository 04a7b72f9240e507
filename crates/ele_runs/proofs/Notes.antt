-- The reason beside a block.
use Rattle.ele_runs.proofs.Basics.{◌≡◌, ℕ, List, Option, Some, None, true, false, sym, ◌∙◌, inl, inr, Ok, Err}
use Rattle.std.specs.Prelude.{◌≢◌}
use Rattle.ele_runs.proofs.Outcomes.{answer_outcome}
use Rattle.ele_output.specs.Outlet.{Reports}
use Rattle.ele_runs.proofs.Words.{IsTextIn, Outlet, Past, Reply, IsNoted, last_reply, tells_reasons}
use Rattle.ele_printer.specs.declared.fault.LineFault.{LineFault}
use Rattle.ele_printer.specs.Printed.{bad_text}
use Rattle.ele_model.specs.declared.pass.PassEnd.TheVariants as pass
use Rattle.ele_model.specs.declared.reply.Reply.TheVariants as reply
use Rattle.ele_runs.specs.Note as note
use Rattle.ele_runs.specs.Tally.{outcome_for, reply_outcome}
use Rattle.ele_runs.specs.WhyBad.{IsToldReason, IsUntold, why_line}
use Rattle.ele_runs.specs.declared.said.Said.{Said}
use Rattle.ele_runs.specs.declared.said.Said.TheVariants as said
use Rattle.ele_runs.specs.declared.tally.Outcome.TheVariants.{Bad}
use Rattle.ele_run_options.specs.declared.options.RunOptions.{RunOptions}
use Rattle.ele_reasons.specs.declared.reasons.Reason.{Reason}

-- the reason of a bad line was printed
pub noted_bad : (options : RunOptions) (number : ℕ) (line : Option (List ℕ)) (fault : LineFault) (why : Reason) (old new : Outlet) → tells_reasons options ≡ true
    → IsToldReason options line why → Reports old new (why_line number (Some why)) → (text : List ℕ) → text ≡ bad_text fault → IsNoted options number line text old new
noted_bad options number line fault why old new tells is told text said = note.reason tells fault said why is told

-- nothing was printed, as no reason was found
pub noted_untold : (options : RunOptions) (number : ℕ) (line : Option (List ℕ)) (old new : Outlet) → IsUntold options line → new ≡ old → (text : List ℕ) → IsNoted options number line text old new
noted_untold options number line old new untold same text = note.nothing (inr (inr untold)) same

-- or as reasons aren't printed
pub noted_quiet : (options : RunOptions) (number : ℕ) (line : Option (List ℕ)) (old new : Outlet) → tells_reasons options ≡ false → new ≡ old → (text : List ℕ) → IsNoted options number line text old new
noted_quiet options number line old new quiet same text = note.nothing (inl quiet) same

-- a line that is heard as something else isn't bad
abbrev IsGood : Said → Type 0
IsGood (said.Bad fault) = ⊥
IsGood told = Unit {0}

last_good : (last : Option Reply) → reply_outcome last ≢ Bad
last_good None = λ bad. absurd cc
last_good (Some (reply.Refused why)) = λ bad. absurd cc
last_good (Some told) = λ bad. absurd cc

good_outcome : (last : Option Reply) (told : Said) → IsGood told → outcome_for last told ≢ Bad
good_outcome last said.Replied good = last_good last
good_outcome last (said.Bad fault) good = absurd good
good_outcome last (said.Passed (pass.Finished removed)) good = λ bad. absurd cc
good_outcome last (said.Passed (pass.Budget removed)) good = λ bad. absurd cc
good_outcome last (said.Passed (pass.Stopped stop removed)) good = λ bad. absurd cc
good_outcome last (said.Why (Ok fate)) good = λ bad. absurd cc
good_outcome last (said.Why (Err why)) good = λ bad. absurd cc
good_outcome last (said.Ahead (Ok keys)) good = λ bad. absurd cc
good_outcome last (said.Ahead (Err why)) good = λ bad. absurd cc
good_outcome last (said.Story (Ok story)) good = λ bad. absurd cc
good_outcome last (said.Story (Err why)) good = λ bad. absurd cc
good_outcome last (said.Changes (Ok found)) good = λ bad. absurd cc
good_outcome last (said.Changes (Err why)) good = λ bad. absurd cc
good_outcome last (said.Expiring (Ok found)) good = λ bad. absurd cc
good_outcome last (said.Expiring (Err why)) good = λ bad. absurd cc
good_outcome last told good = λ bad. absurd cc

-- or the line isn't bad
pub noted_good : (options : RunOptions) (number : ℕ) (line : Option (List ℕ)) (past : Past) (told : Said) (old new : Outlet) → IsGood told → new ≡ old
    → (text : List ℕ) → IsTextIn past told text → IsNoted options number line text old new
noted_good options number line past told old new good same text is =
    note.nothing (inr (inl (λ bad. good_outcome (last_reply past) told good (sym (answer_outcome (last_reply past) past.folded past.entries told text is) ∙ bad)))) same
