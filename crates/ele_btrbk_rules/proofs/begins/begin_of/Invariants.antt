use Rattle.std.specs.Prelude.{◌≡◌, drop}
use Rattle.ele_btrbk_rules.specs.Numbers.{begin_of}
use Rattle.ele_btrbk_rules.proofs.begins.begin_of.Given as goal

-- no option so far lets them begin elsewhere
abbrev pub invariant-loop-part : goal.invariant-loop-part
invariant-loop-part l = begin_of l.span (drop l.part-index l.parts) ≡ begin_of l.span l.parts
