use Rattle.ele_files.proofs.Lemmas.{AllByRecursion, LogLives, all_place, arith, logs_live, subst, sym}
use Rattle.ele_files.proofs.files.Files.version_rows.Goals as goal
use Rattle.std.proofs.lemmas.Grind.{common_steps}

pub copy_log-requires-clause-lives : goal.copy_log-requires-clause-lives
copy_log-requires-clause-lives c =
    let all : AllByRecursion (LogLives c.self.inside.store) c.deref-file-items.result.now = rw c.deref-file-items.ensures.value (logs_live _ _ _ c.self.invariant) in
    let at = all_place (LogLives c.self.inside.store) c.deref-file-items.result.now c.loop-file.file-index c.file-item.result all c.loop-file-test.true in
    rw c.get.ensures (subst (LogLives c.self.inside.store) (sym c.file-item.is) at)

pub loop-file-preserved : goal.loop-file-preserved
loop-file-preserved c = grind (arith, common_steps)

pub returns : goal.returns
returns c = grind (arith, common_steps)
