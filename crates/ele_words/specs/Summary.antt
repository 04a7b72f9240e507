-- The summary at the end of a run: how many of its lines were not answered by `ok`.
use Rattle.std.specs.Prelude.{◌≡◌, ℕ, Bool, true, false, List, [], ◌++◌, codes, decimal, Option, Some, None}
use Rattle.ele_output.specs.Outlet.{Outlet, Reports}
use Rattle.ele_run_options.specs.declared.options.RunOptions.{RunOptions}
use Rattle.ele_runs.specs.declared.tally.BadLine.{BadLine}
use Rattle.ele_runs.specs.declared.tally.Tally.{Tally}
use Rattle.ele_reasons.specs.ReasonText.{reason_text}
use Rattle.ele_reasons.specs.declared.reasons.Reason.{Reason}
use Rattle.ele_words.specs.StrictEnd.{IsWhyEnded}
use Rattle.ele_words.specs.declared.summary.First.{First}
use Rattle.ele_words.specs.declared.summary.First.TheVariants.{Answered, Bad, BadFor}

-- which line was the first, and why it is no command if it is a bad one whose reason is known
abbrev pub first_text : First → List ℕ
first_text (Answered number) = codes "the first is line " ++ decimal number
first_text (Bad number) = codes "the first bad one is line " ++ decimal number
first_text (BadFor number why) = codes "the first bad one is line " ++ (decimal number ++ (codes ", " ++ reason_text why))

-- the summary: how many of the lines were not answered by `ok`, and which was the first
abbrev pub summary_line : ℕ → Tally → First → List ℕ
summary_line lines tally first =
    codes "elephant: " ++ (decimal tally.bad ++ (codes " bad, " ++ (decimal tally.refused ++ (codes " refused and " ++ (decimal tally.stopped
    ++ (codes " stopped of " ++ (decimal lines ++ (codes " lines; " ++ (first_text first ++ codes "; --numbers shows each\n")))))))))

abbrev pub bad_first : ℕ → Option Reason → First
bad_first number None = Bad number
bad_first number (Some why) = BadFor number why

-- the first bad line, or else the first of the others, if there is one
abbrev pub IsFirstOf : RunOptions → Option BadLine → Option ℕ → Option First → Type 0
IsFirstOf options (Some bad) number first =
    (why : Option Reason) × IsWhyEnded bad.is_cut options bad.line why × (first ≡ Some (bad_first bad.number why))
IsFirstOf options None (Some number) first = first ≡ Some (Answered number)
IsFirstOf options None None first = first ≡ None

-- a run with numbers names none: it has reported each
abbrev pub IsNamed : Bool → RunOptions → Tally → Option First → Type 0
IsNamed true options tally first = first ≡ None
IsNamed false options tally first = IsFirstOf options tally.first_bad tally.first first

abbrev pub IsFirst : RunOptions → Tally → Option First → Type 0
IsFirst options tally first = IsNamed options.numbers options tally first

-- the summary was printed; nothing if it would name no line
abbrev pub TellsFirst : ℕ → Tally → Option First → Outlet → Outlet → Type 0
TellsFirst lines tally None before after = Reports before after []
TellsFirst lines tally (Some first) before after = Reports before after (summary_line lines tally first)

-- the summary was printed, unless all lines were answered by `ok` or the run has numbers
abbrev pub TellsSummary : RunOptions → ℕ → Tally → Outlet → Outlet → Type 0
TellsSummary options lines tally before after =
    (first : Option First) × IsFirst options tally first × TellsFirst lines tally first before after
