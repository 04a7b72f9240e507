-- One line of a dialog.
use Rattle.ele_dialog.proofs.Basics.{Err, List, Ok, [], Option, Result, false, inl, inr, refl, true, ℕ}
use Rattle.std.specs.Prelude.{Bool}
use Rattle.ele_dialog.specs.Answer.{IsAnswered}
use Rattle.ele_dialog.specs.Dialog.{cut_text}
use Rattle.ele_dialog.specs.Input.{ReadsLine}
use Rattle.ele_dialog.specs.Next.{AnswersLast, AnswersNext, AnswersWhole, HandsOn}
use Rattle.ele_history.specs.Past.{Past}
use Rattle.ele_output.proofs.Known.{outputs_no_more, outputs_of}
use Rattle.ele_output.specs.Outlet.{Outlet, Puts}
use Rattle.ele_run_options.specs.declared.fault.ShellFault.{ShellFault}
use Rattle.ele_run_options.specs.declared.fault.ShellFault.TheVariants.{ReadFault, WriteFault, TooManyLines, NoMemory}

-- the answer to a last line was handed over
pub last_handed : (line : List ℕ) (a b c : Outlet) (r : Result Bool ShellFault) → Puts a b (cut_text line) → HandsOn false b c r → AnswersLast line a c r
last_handed line a b c (Ok more) put on = (on.0, outputs_no_more (outputs_of put) on.1, on.2)
last_handed line a b c (Err WriteFault) put on = outputs_no_more (outputs_of put) on
last_handed line a b c (Err ReadFault) put on = absurd on
last_handed line a b c (Err NoMemory) put on = absurd on
last_handed line a b c (Err TooManyLines) put on = absurd on

-- the answer to a whole line was handed over
pub whole_handed : (number : ℕ) (before : Past) (line : List ℕ) (after : Past) (a b c : Outlet) (r : Result Bool ShellFault) → (text : List ℕ) × IsAnswered number before line text after × Puts a b text → HandsOn true b c r
    → AnswersWhole number before line after a c r
whole_handed number before line after a b c (Ok more) (text, is, put) on =
    (on.0, record { text = text; is = is; put = outputs_no_more (outputs_of put) on.1 }, on.2)
whole_handed number before line after a b c (Err WriteFault) (text, is, put) on = record { text = text; is = is; put = outputs_no_more (outputs_of put) on }
whole_handed number before line after a b c (Err ReadFault) answered on = absurd on
whole_handed number before line after a b c (Err NoMemory) answered on = absurd on
whole_handed number before line after a b c (Err TooManyLines) answered on = absurd on

-- a whole line was read, and answered
pub next_whole : (number : ℕ) (before : Past) (input rest : Option (List ℕ)) (line : List ℕ) (after : Past) (a b : Outlet) (r : Result Bool ShellFault) → ReadsLine input rest line (Ok true) → AnswersWhole number before line after a b r
    → AnswersNext number before input rest after a b r
next_whole number before input rest line after a b (Ok true) read is = (record { line = line; whole = read.0; taken = read.1; answered = is.1 }, is.2)
next_whole number before input rest line after a b (Ok false) read is = absurd cc
next_whole number before input rest line after a b (Err WriteFault) read is = inl (record { line = line; whole = read.0; taken = read.1; answered = is })
next_whole number before input rest line after a b (Err NoMemory) read is = inr (record { line = line; whole = read.0; taken = read.1; unanswered = is.0; put = is.1 })
next_whole number before input rest line after a b (Err ReadFault) read is = absurd is
next_whole number before input rest line after a b (Err TooManyLines) read is = absurd is

-- a last line was read, and answered
pub next_last : (number : ℕ) (before : Past) (input rest : Option (List ℕ)) (line : List ℕ) (after : Past) (a b : Outlet) (r : Result Bool ShellFault) → ReadsLine input rest line (Ok false) → AnswersLast line a b r
    → AnswersNext number before input rest after a b r
next_last number before input rest line after a b (Ok false) read is = (record { line = line; whole = read.0; taken = read.1; at_end = read.2; put = is.1 }, is.2)
next_last number before input rest line after a b (Ok true) read is = absurd cc
next_last number before input rest line after a b (Err WriteFault) read is = inr (record { line = line; whole = read.0; taken = read.1; at_end = read.2; put = is })
next_last number before input rest line after a b (Err NoMemory) read is = absurd is
next_last number before input rest line after a b (Err ReadFault) read is = absurd is
next_last number before input rest line after a b (Err TooManyLines) read is = absurd is

-- the reader failed, or there was no memory for the line
pub next_failed : (number : ℕ) (before : Past) (input rest : Option (List ℕ)) (line : List ℕ) (after : Past) (a : Outlet) (fault : ShellFault) → ReadsLine input rest line (Err fault)
    → AnswersNext number before input rest after a a (Err fault)
next_failed number before input rest line after a ReadFault read = (line, read.0, read.1, refl)
next_failed number before input rest line after a NoMemory read = inl (record { part = read.0; some = read.1; whole = read.2; taken = read.3; same = refl })
next_failed number before input rest line after a WriteFault read = absurd read
next_failed number before input rest line after a TooManyLines read = absurd read
