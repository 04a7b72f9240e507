-- What a store answers to a line of the script language, and the state after it.
use Rattle.std.specs.Prelude.{ℕ, true, false, List}
use Rattle.ele_embed.specs.Embedding.{State}
use Rattle.ele_run_options.specs.declared.options.RunOptions.{RunOptions}
use Rattle.ele_runs.specs.LineLength.{line_unless_long}
use Rattle.ele_runs.specs.Said.{HearsKept}
use Rattle.ele_runs.specs.declared.said.Said.{Said}

-- the options of a run that explains, and no others
abbrev pub explaining : RunOptions
explaining = record { strict = false; numbers = false; remarks = false; explain = true }

-- a line was run, as a run runs it
abbrev pub Hears : State → List ℕ → Said → State → Type 0
Hears before line said after = HearsKept explaining before (line_unless_long line) said after
