use Rattle.ele_files.proofs.Lemmas.{arith}
use Rattle.ele_files.proofs.files.Files.file_rows.Goals as goal
use Rattle.std.proofs.lemmas.Grind.{common_steps}

pub loop-file-preserved : goal.loop-file-preserved
loop-file-preserved c = grind (arith, common_steps)

pub returns : goal.returns
returns c = grind (arith, common_steps)
