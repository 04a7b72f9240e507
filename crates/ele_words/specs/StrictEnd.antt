-- The report of the line that ended a strict run, and why it is no command.
use Rattle.std.specs.Prelude.{◌≡◌, ℕ, Bool, true, false, List, [], ◌∷◌, ◌++◌, codes, decimal, Option, Some, None}
use Rattle.ele_output.specs.Outlet.{Outlet, Reports}
use Rattle.ele_output.specs.Line.{line_text}
use Rattle.ele_runs.specs.WhyBad.{IsBadReason, cut_reason, why_line}
use Rattle.ele_runs.specs.declared.end.EndLine.{EndLine}
use Rattle.ele_run_options.specs.declared.options.RunOptions.{RunOptions}
use Rattle.ele_reasons.specs.declared.reasons.Reason.{Reason}

-- 0 if all lines were answered, 5 if one ended a strict run
abbrev pub end_status : Option EndLine → ℕ
end_status None = 0
end_status (Some end) = 5

-- what is shown of the line that ended a run: its text, unless that is too long to be kept
abbrev pub shown : Option (List ℕ) → List ℕ
shown None = codes "more than 8192 bytes"
shown (Some line) = line

-- the report of the line that ended a run: its number and its text
abbrev pub end_line : ℕ → Option (List ℕ) → List ℕ
end_line number line = line_text (codes "elephant: line" ∷ decimal number ∷ codes "ended the run:" ∷ shown line ∷ [])

-- why a last line without its line feed was not run, or why another line is no command
abbrev pub IsWhyEnded : Bool → RunOptions → Option (List ℕ) → Option Reason → Type 0
IsWhyEnded true options line why = why ≡ cut_reason line
IsWhyEnded false options line why = IsBadReason options line why

-- the line that ended the run was printed with why it is no command
abbrev pub TellsStrictEnd : RunOptions → ℕ → EndLine → Outlet → Outlet → Type 0
TellsStrictEnd options number end before after =
    (why : Option Reason) × IsWhyEnded end.is_cut options end.line why × Reports before after (end_line number end.line ++ why_line number why)
