use Rattle.std.proofs.Common.{◌≡◌, ◌++◌, drop}
use Rattle.std.specs.Option.{option_copied}
use Rattle.ele_checkpoint.specs.Contents.{each_version, versions_text}
use Rattle.ele_checkpoint.proofs.version.put_versions.Given as goal

-- the versions so far are written, and the others are left
abbrev pub invariant-loop-row : goal.invariant-loop-row
invariant-loop-row l = l.out.items ++ each_version (option_copied l.before) (drop l.row-index l.rows) ≡ l.fn.out.items ++ versions_text l.rows
