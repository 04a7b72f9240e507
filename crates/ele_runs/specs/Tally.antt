-- The numbers of lines that were not answered by `ok`, and the first of them.
use Rattle.std.specs.Prelude.{ℕ, ◌+◌, ◌==◌, Bool, false, true, List, [], ◌∷◌, Option, Some, None, Err, if◌then◌else◌}
use Rattle.std.specs.Option.{option_and_then, option_or}
use Rattle.ele_model.specs.declared.pass.PassEnd.TheVariants as pass
use Rattle.ele_model.specs.declared.reply.Reply.{Reply}
use Rattle.ele_model.specs.declared.reply.Reply.TheVariants as reply
use Rattle.ele_runs.specs.LineLength.{line_unless_long}
use Rattle.ele_runs.specs.declared.said.Said.{Said}
use Rattle.ele_runs.specs.declared.said.Said.TheVariants as said
use Rattle.ele_runs.specs.declared.tally.BadLine.{BadLine}
use Rattle.ele_runs.specs.declared.tally.Outcome.{Outcome}
use Rattle.ele_runs.specs.declared.tally.Outcome.TheVariants.{Well, Bad, Refused, Stopped}
use Rattle.ele_runs.specs.declared.tally.Tally.{Tally}

-- the outcome of a line, by the first letter of its block: that of `bad` (98), of `no` (110), of `stop` (115), or another
abbrev pub outcome_of : List ℕ → Outcome
outcome_of [] = Well
outcome_of (first ∷ rest) =
    if first == 98 then Bad else if first == 110 then Refused else if first == 115 then Stopped else Well

-- the outcome of a reply, if there is one
abbrev pub reply_outcome : Option Reply → Outcome
reply_outcome (Some (reply.Refused why)) = Refused
reply_outcome last = Well

-- the outcome of an answer, with the last reply: a line that is not a command is bad; a command may be refused or stopped
abbrev pub outcome_for : Option Reply → Said → Outcome
outcome_for last (said.Bad fault) = Bad
outcome_for last said.Replied = reply_outcome last
outcome_for last (said.Stopped stop) = Stopped
outcome_for last (said.Passed (pass.Stopped stop removed)) = Stopped
outcome_for last (said.Why (Err why)) = Refused
outcome_for last (said.Ahead (Err why)) = Refused
outcome_for last (said.Story (Err why)) = Refused
outcome_for last (said.Changes (Err why)) = Refused
outcome_for last (said.Expiring (Err why)) = Refused
outcome_for last told = Well

abbrev pub is_well : Outcome → Bool
is_well Well = true
is_well outcome = false

-- before the first line
abbrev pub fresh_tally : Tally
fresh_tally = record { bad = 0; refused = 0; stopped = 0; first = None; first_bad = None }

-- the tally with one more bad line
abbrev pub with_bad : Tally → BadLine → Tally
with_bad tally line = record tally { bad = tally.bad + 1; first_bad = option_or tally.first_bad (Some line) }

-- the line with this number is the first, unless there was one before
abbrev pub with_first : Tally → ℕ → Tally
with_first tally number = record tally { first = option_or tally.first (Some number) }

-- a bad line, unless it is too long
abbrev pub whole_bad : ℕ → Option (List ℕ) → BadLine
whole_bad number line = record { number = number; line = option_and_then line_unless_long line; is_cut = false }

-- the tally with the line of this number and this outcome
abbrev pub tallied : Tally → ℕ → Option (List ℕ) → Outcome → Tally
tallied tally number line Well = tally
tallied tally number line Bad = with_first (with_bad tally (whole_bad number line)) number
tallied tally number line Refused = with_first (record tally { refused = tally.refused + 1 }) number
tallied tally number line Stopped = with_first (record tally { stopped = tally.stopped + 1 }) number

-- the tally with a last line without its line feed, which is bad unless it is empty
abbrev pub cut_tallied : Tally → ℕ → Option (List ℕ) → Tally
cut_tallied tally number (Some []) = tally
cut_tallied tally number last =
    with_first (with_bad tally (record { number = number; line = last; is_cut = true })) number
