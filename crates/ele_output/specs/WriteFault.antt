-- The number and the name of a writer's fault.
use Rattle.std.specs.Prelude.{ℕ, List, codes}

abbrev pub write_fault_number : ℕ
write_fault_number = 35

abbrev pub write_fault_name : List ℕ
write_fault_name = codes "WriteFault"
