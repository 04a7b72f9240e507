-- The outcome of an answer is that of its text.
use Rattle.ele_runs.proofs.Basics.{◌≡◌, ℕ, List, Option, Some, None, Ok, Err, refl}
use Rattle.ele_printer.specs.Printed.{IsReplyText}
use Rattle.ele_printer.specs.Why.{why_text}
use Rattle.ele_model.specs.declared.entry.Entry.{Entry}
use Rattle.ele_model.specs.declared.fate.Fate.{Fate}
use Rattle.ele_model.specs.declared.fate.Fate.TheVariants as fate
use Rattle.ele_model.specs.declared.pass.PassEnd.TheVariants as pass
use Rattle.ele_model.specs.declared.reply.Reply.{Reply}
use Rattle.ele_model.specs.declared.reply.Reply.TheVariants as reply
use Rattle.ele_runs.specs.Said.{IsLastText, IsText}
use Rattle.ele_runs.specs.Tally.{outcome_for, outcome_of, reply_outcome}
use Rattle.ele_runs.specs.declared.said.Said.{Said}
use Rattle.ele_runs.specs.declared.said.Said.TheVariants as said
use Rattle.ele_runs.specs.declared.tally.Outcome.TheVariants.{Well}

-- a refusal is known by its first letter
told_outcome : (told : Reply) (text : List ℕ) → IsReplyText told text → outcome_of text ≡ reply_outcome (Some told)
told_outcome (reply.Now moment) text is = rw is.2 refl
told_outcome (reply.Closed None) text is = rw is refl
told_outcome (reply.Closed (Some number)) text is = rw is refl
told_outcome told text is = rw is refl

last_outcome : (last : Option Reply) (text : List ℕ) → IsLastText last text → outcome_of text ≡ reply_outcome last
last_outcome None text is = rw is refl
last_outcome (Some told) text is = told_outcome told text is

fate_outcome : (fate : Fate) (text : List ℕ) → text ≡ why_text (Ok fate) → outcome_of text ≡ Well
fate_outcome fate.Current text is = rw is refl
fate_outcome fate.Open text is = rw is refl
fate_outcome (fate.Marked group mark) text is = rw is refl
fate_outcome (fate.Kept until level) text is = rw is refl
fate_outcome (fate.Due since cause) text is = rw is refl

-- and so is the outcome of any answer
pub answer_outcome : (last : Option Reply) (folded : ℕ) (entries : List Entry) (told : Said) (text : List ℕ) → IsText last folded entries told text → outcome_of text ≡ outcome_for last told
answer_outcome last folded entries said.Replied text is = last_outcome last text is
answer_outcome last folded entries (said.Passed (pass.Finished removed)) text is = rw is refl
answer_outcome last folded entries (said.Passed (pass.Budget removed)) text is = rw is refl
answer_outcome last folded entries (said.Passed (pass.Stopped stop removed)) text is = rw is refl
answer_outcome last folded entries (said.Why (Ok found)) text is = fate_outcome found text is
answer_outcome last folded entries (said.Why (Err why)) text is = rw is refl
answer_outcome last folded entries (said.Ahead (Ok keys)) text is = rw is refl
answer_outcome last folded entries (said.Ahead (Err why)) text is = rw is refl
answer_outcome last folded entries (said.Story (Ok story)) text is = rw is refl
answer_outcome last folded entries (said.Story (Err why)) text is = rw is refl
answer_outcome last folded entries (said.Changes (Ok found)) text is = rw is refl
answer_outcome last folded entries (said.Changes (Err why)) text is = rw is refl
answer_outcome last folded entries (said.Expiring (Ok found)) text is = rw is refl
answer_outcome last folded entries (said.Expiring (Err why)) text is = rw is refl
answer_outcome last folded entries said.Answers text is = rw is.2 refl
answer_outcome last folded entries told text is = rw is refl
