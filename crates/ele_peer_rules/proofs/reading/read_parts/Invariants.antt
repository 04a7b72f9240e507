use Rattle.std.specs.Prelude.{◌≤◌, [], length, map}
use Rattle.std.specs.List.{AllZip}
use Rattle.ele_peer_rules.specs.Words.{AreApart}
use Rattle.ele_peer_rules.proofs.RuleParts.{IsOnly}
use Rattle.ele_peer_rules.proofs.reading.read_parts.Given as goal

-- the options so far spell the parts, of which none is there twice
abbrev pub invariant-loop-option : goal.invariant-loop-option
invariant-loop-option l = record {
  each : AllZip (IsOnly l.tool) (map (λ option. option.now) l.yielded) l.parts.items;
  once : AreApart [] l.parts.items;
  few : length l.parts.items ≤ 18;
}
