use Rattle.ele_audit.proofs.Basics.{arith, nat_tests}
use Rattle.ele_audit.proofs.Numbered.{no_rows_from}
use Rattle.ele_audit.proofs.stories.removed_versions.Goals as goal

pub returns-then-not-removes_any : goal.returns-then-not-removes_any
returns-then-not-removes_any g c =
    no_rows_from c.args.history.now.base c.args.file c.args.history.now.entries c.new.result.items (grind (arith, nat_tests, c.entries.ensures.value, c.removes_any.ensures, c.if-not-removes_any.true)) c.new.ensures.items
