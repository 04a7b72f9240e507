use Rattle.ele_audit.proofs.Basics.{arith, nat_tests}
use Rattle.ele_audit.proofs.Numbered.{no_version, row_means}
use Rattle.ele_audit.proofs.version.numbered.Goals as goal

pub returns-then-not-removes_any-clause-ok : goal.returns-then-not-removes_any-clause-ok
returns-then-not-removes_any-clause-ok g c =
    no_version c.args.history.now c.args.tagged.now c.args.number c.requires (grind (arith, nat_tests, c.entries.ensures.value, c.removes_any.ensures, c.if-not-removes_any.true))

pub returns-clause-ok : goal.returns-clause-ok
returns-clause-ok g c =
    row_means c.args.history.now c.args.tagged.now c.in_ok-rows.rows.items c.file_at-file.result c.args.number c.row_in.result c.in_ok-rows.ensures.ok
    (grind (arith, nat_tests, c.file_at-file.ensures, c.deref.ensures.value, c.in_ok-names.ensures, c.core.ensures, c.path.ensures)) c.requires c.row_in.ensures
