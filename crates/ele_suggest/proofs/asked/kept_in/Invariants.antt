use Rattle.std.specs.Prelude.{◌≡◌, take, false}
use Rattle.std.specs.List.{list_any}
use Rattle.ele_suggest.specs.Asked.{shares_period}
use Rattle.ele_suggest.proofs.asked.kept_in.Given as goal

-- none so far is of the version's period
abbrev pub invariant-loop-place : goal.invariant-loop-place
invariant-loop-place l = list_any (shares_period l.grain l.versions l.version) (take l.place l.numbers) ≡ false
