-- The answer to a typed line.
use Rattle.std.specs.Prelude.{◌≡◌, ◌≢◌, ◌⊎◌, ℕ, Bool, true, false, List, [], ◌++◌, Option, Some, None, MatchBool}
use Rattle.std.specs.Str.{IsUtf8}
use Rattle.ele_dialog.specs.Dates.{IsShown}
use Rattle.ele_dialog.specs.Heading.{headed, heading_of}
use Rattle.ele_dialog.specs.Help.{IsHelp, IsTopic}
use Rattle.ele_dialog.specs.Places.{places_of}
use Rattle.ele_history.specs.Past.{Past}
use Rattle.ele_model.specs.declared.reply.Reply.{Reply}
use Rattle.ele_reasons.specs.declared.reasons.Reason.{Reason}
use Rattle.ele_run_options.specs.declared.options.RunOptions.{RunOptions}
use Rattle.ele_runs.specs.Kept.{Recorded, last_reply}
use Rattle.ele_runs.specs.LineLength.{line_unless_long}
use Rattle.ele_runs.specs.Said.{HearsKept, IsText}
use Rattle.ele_runs.specs.WhyBad.{IsBadReason, why_line}
use Rattle.ele_runs.specs.declared.said.Said.{Said}
use Rattle.ele_runs.specs.declared.said.Said.TheVariants.{Bad}

-- remarks are passed over, and questions answered; lines have no numbers
abbrev pub dialog_options : RunOptions
dialog_options = record { strict = false; numbers = false; remarks = true; explain = true }

-- the line is no command
abbrev pub is_bad : Said → Bool
is_bad (Bad fault) = true
is_bad said = false

-- why the line with this number is bad; nothing if it isn't
abbrev pub IsReasonText : ℕ → List ℕ → Said → List ℕ → Type 0
IsReasonText number line said text =
    MatchBool (is_bad said) ((why : Option Reason) × IsBadReason dialog_options (line_unless_long line) why × (text ≡ why_line number why)) (text ≡ [])

-- the line was answered as by a run with these options; the text is the reason of a bad line, and the answer with the dates of its moments
-- behind its lines and a heading above its rows
pub record IsHeard (number : ℕ) (before : Past) (line text : List ℕ) (after : Past) : Type 0 where
  pub said : Said
  pub reason : List ℕ
  pub answer : List ℕ
  pub shown : List ℕ
  pub hears : HearsKept dialog_options (Recorded before) (line_unless_long line) said (Recorded after)
  pub reason_is : IsReasonText number line said reason
  pub answer_is : IsText (last_reply after) after.folded after.entries said answer
  pub shown_is : IsShown (places_of said (last_reply after)) answer shown
  pub text_is : text ≡ reason ++ headed (heading_of said (last_reply after)) shown

-- the text answers the line with this number: help, which changes nothing, or as a run does
pub data IsAnswered (number : ℕ) (before : Past) (line text : List ℕ) (after : Past) : Type 0 where
  help : (topic : List ℕ) → IsTopic line (Some topic) → IsHelp topic text → after ≡ before → IsAnswered number before line text after
  heard : IsTopic line None → IsHeard number before line text after → IsAnswered number before line text after

-- ---- without memory

-- the text of the answer is made before any of it is printed: dates or a heading go into it
abbrev pub IsMadeFirst : Said → Option Reply → Type 0
IsMadeFirst said last = (places_of said last ≢ None) ⊎ (heading_of said last ≢ [])

-- the line was heard as by a run with these options, and led to this history; but memory for the text that answers it was refused
pub record IsHeardOnly (before : Past) (line : List ℕ) (after : Past) : Type 0 where
  pub said : Said
  pub hears : HearsKept dialog_options (Recorded before) (line_unless_long line) said (Recorded after)
  pub made_first : IsMadeFirst said (last_reply after)

-- a line whose text was refused memory: help, which changes nothing, or one that was heard
pub data IsUnanswered (before : Past) (line : List ℕ) (after : Past) : Type 0 where
  help : (topic : List ℕ) → IsTopic line (Some topic) → IsUtf8 topic → after ≡ before → IsUnanswered before line after
  heard : IsTopic line None → IsHeardOnly before line after → IsUnanswered before line after
