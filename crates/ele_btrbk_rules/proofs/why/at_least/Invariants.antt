use Rattle.std.specs.Prelude.{◌≡◌, drop}
use Rattle.ele_btrbk_rules.specs.Why.{at_least}
use Rattle.ele_btrbk_rules.proofs.why.at_least.Given as goal

-- no option so far keeps the row at least
abbrev pub invariant-loop-part : goal.invariant-loop-part
invariant-loop-part l =
    at_least l.begins l.present l.newest l.row (drop l.part-index l.parts) ≡ at_least l.begins l.present l.newest l.row l.parts
