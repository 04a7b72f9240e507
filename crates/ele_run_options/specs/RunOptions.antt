-- The options of a run.
use Rattle.std.specs.Prelude.{ℕ, Bool, true, false, not, ◌==◌, ◌&&◌, List, [], ◌∷◌, ◌++◌, decimal, Option, Some, if◌then◌else◌}
use Rattle.ele_run_options.specs.declared.options.RunOptions.{RunOptions}

-- each option is off
abbrev pub plain : RunOptions
plain = record { strict = false; numbers = false; remarks = false; explain = false }

-- a remark begins with `#` (35)
abbrev pub is_remark : Option (List ℕ) → Bool
is_remark (Some (byte ∷ bytes)) = byte == 35
is_remark line = false

-- the line that is run: an empty one in place of a remark, if remarks are allowed
abbrev pub heard : RunOptions → Option (List ℕ) → Option (List ℕ)
heard options line = if options.remarks && is_remark line then Some [] else line

-- the bytes before a block: the line's number and a space, if lines are numbered and there is
-- a block
abbrev pub front_of : RunOptions → ℕ → Option (List ℕ) → List ℕ
front_of options number (Some []) = []
front_of options number line = if options.numbers then decimal number ++ 32 ∷ [] else []

-- a block begins with `ok` (111 and 107), or there is none
abbrev pub is_well : List ℕ → Bool
is_well [] = true
is_well (first ∷ []) = false
is_well (first ∷ second ∷ rest) = (first == 111) && (second == 107)

-- the reasons for bad lines are written beside their blocks if lines are numbered; a strict run reports its bad line
-- at its end instead
abbrev pub tells_reasons : RunOptions → Bool
tells_reasons options = options.numbers && not options.strict
