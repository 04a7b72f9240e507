-- No word is read as two policies, as two faults, or as a policy and a fault.
use Rattle.std.specs.Prelude.{◌≡◌, ℕ, List, Result}
use Rattle.ele_policy.specs.declared.policy.Policy.{Policy}
use Rattle.ele_printer.specs.declared.fault.LineFault.{LineFault}
use Rattle.ele_script.specs.PolicyWord.{ReadsPolicy}

abbrev pub OnePolicy : Type 0
OnePolicy = (word : List ℕ) (a b : Result Policy LineFault) → ReadsPolicy word a → ReadsPolicy word b → a ≡ b
