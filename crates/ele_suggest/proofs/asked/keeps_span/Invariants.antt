use Rattle.std.specs.Prelude.{◌≡◌, ◌≤◌, length, take, true}
use Rattle.std.specs.List.{list_all}
use Rattle.ele_suggest.specs.Asked.{is_covered}
use Rattle.ele_suggest.proofs.asked.keeps_span.Given as goal

-- the versions so far are covered
abbrev pub invariant-loop-version : goal.invariant-loop-version
invariant-loop-version l = (list_all (is_covered l.at l.versions l.numbers l.span) (take l.version-index l.versions) ≡ true) × (l.place ≤ length l.numbers)
