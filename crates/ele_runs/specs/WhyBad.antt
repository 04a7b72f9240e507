-- Why a line is not a command under the options of the run, and the text of that.
use Rattle.std.specs.Prelude.{◌≡◌, ℕ, List, [], ◌∷◌, ◌++◌, codes, decimal, Option, Some, None, ◌⊎◌}
use Rattle.ele_printer.specs.declared.fault.LineFault.{LineFault}
use Rattle.ele_run_options.specs.declared.options.RunOptions.{RunOptions}
use Rattle.ele_script.specs.FirstFault.{IsFirstFault}
use Rattle.ele_script.specs.Memory.{WordTakesMemory}
use Rattle.ele_reasons.specs.Reason.{IsReason}
use Rattle.ele_reasons.specs.ReasonText.{reason_text}
use Rattle.ele_script.specs.Words.{words_of}
use Rattle.ele_reasons.specs.declared.reasons.Reason.{Reason}
use Rattle.ele_reasons.specs.declared.reasons.Reason.TheVariants.{Cut, TooLong}

-- the reason for a bad line, under the options of the run
abbrev pub IsToldReason : RunOptions → Option (List ℕ) → Reason → Type 0
IsToldReason options None why = why ≡ TooLong
IsToldReason options (Some line) why = IsReason options.explain line why

-- there is no reason if the line is a command, or if memory to read it may have been refused
abbrev pub IsUntold : RunOptions → Option (List ℕ) → Type 0
IsUntold options None = ⊥
IsUntold options (Some line) = ((fault : LineFault) → ¬ IsFirstFault options.explain line fault) ⊎ WordTakesMemory options.explain (words_of line)

-- the reason, or none
abbrev pub IsBadReason : RunOptions → Option (List ℕ) → Option Reason → Type 0
IsBadReason options line None = IsUntold options line
IsBadReason options line (Some why) = IsToldReason options line why

-- why a last line without its line feed is never run, unless it is empty
abbrev pub cut_reason : Option (List ℕ) → Option Reason
cut_reason None = Some TooLong
cut_reason (Some []) = None
cut_reason (Some (byte ∷ bytes)) = Some Cut

-- the message: the number of the line, and the bad word and why it is bad
abbrev pub why_line : ℕ → Option Reason → List ℕ
why_line number None = []
why_line number (Some why) = codes "elephant: line " ++ (decimal number ++ (codes ", " ++ (reason_text why ++ codes "\n")))
