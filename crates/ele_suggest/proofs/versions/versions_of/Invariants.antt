use Rattle.std.specs.Prelude.{◌≡◌, ◌++◌, ◌+◌, drop, map}
use Rattle.std.specs.List.{AllByRecursion}
use Rattle.ele_suggest.specs.Versions.{IsRow, number_and_closing, numbered_from}
use Rattle.ele_suggest.proofs.versions.versions_of.Given as goal

-- the versions so far, and the closings of the others
abbrev pub invariant-loop-place : goal.invariant-loop-place
invariant-loop-place l = (map number_and_closing l.versions.items ++ numbered_from (l.place + 1) (drop l.place l.closings) ≡ numbered_from 1 l.closings) × AllByRecursion (IsRow l.clock l.sizes) l.versions.items
