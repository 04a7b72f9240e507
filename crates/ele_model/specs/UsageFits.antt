-- In a well-formed world what the files of each kind use fits in 64 bits, so `Flat::usage` may be called.
use Rattle.std.specs.List.{AllByRecursion}
use Rattle.ele_usage.specs.Sums.{Fits}
use Rattle.ele_model.specs.Usage.{usages}
use Rattle.ele_model.specs.WellFormed.{IsWellFormed}
use Rattle.ele_model.specs.World.{World}

abbrev pub UsageFits : Type 0
UsageFits = (w : World) → IsWellFormed w → AllByRecursion Fits (usages w)
