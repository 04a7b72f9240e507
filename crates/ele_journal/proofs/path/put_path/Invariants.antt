use Rattle.std.proofs.Common.{◌≡◌, ◌++◌}
use Rattle.std.specs.List.{flat_map}
use Rattle.ele_checkpoint.specs.Values.{string_text}
use Rattle.ele_journal.specs.Events.{names_text}
use Rattle.ele_journal.proofs.path.put_path.Given as goal

-- the names so far are written, and the others are left
abbrev pub invariant-loop-name : goal.invariant-loop-name
invariant-loop-name l = l.out.items ++ flat_map string_text l.name-iterator ≡ l.fn.out.items ++ names_text l.path
