-- The text of a verdict.
use Rattle.std.specs.Prelude.{ℕ, List, ◌++◌, codes}
use Rattle.std.specs.Fmt.{decimal}
use Rattle.ele_evidence.specs.declared.verdict.Fault.{Fault}
use Rattle.ele_evidence.specs.declared.verdict.Fault.TheVariants.{Answer, Hash, NoRow, TooMany}
use Rattle.ele_evidence.specs.declared.verdict.Verdict.{Verdict}
use Rattle.ele_evidence.specs.declared.verdict.Verdict.TheVariants.{NoHead, Whole, Wrong}

-- why a line is the first that is wrong
abbrev pub fault_text : Fault → List ℕ
fault_text NoRow = codes ": it is neither an event nor the last line\n"
fault_text TooMany = codes ": it is an event more than the limit\n"
fault_text Answer = codes ": the event, as it is printed, has another answer\n"
fault_text Hash = codes ": it isn't the hash of the rows above\n"

-- the line of a verdict: how many entries there are and the last hash line; or which line is wrong, and why
abbrev pub verdict_text : Verdict → List ℕ
verdict_text (Whole count last) = codes "ok verified " ++ (decimal count ++ (codes " " ++ last))
verdict_text NoHead = codes "elephant: line 1: it isn't the first row of evidence with the largest limits, or below it isn't its hash\n"
verdict_text (Wrong line fault) = codes "elephant: line " ++ (decimal line ++ fault_text fault)
