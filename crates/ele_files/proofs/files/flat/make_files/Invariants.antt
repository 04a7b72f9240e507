use Rattle.ele_files.specs.Adding.{IsMadeUpTo}
use Rattle.ele_files.proofs.files.flat.make_files.Given as goal

abbrev pub invariant-loop-file : goal.invariant-loop-file
invariant-loop-file l = IsMadeUpTo l.files l.versions l.drafts l.file-index l.version l.draft l.made
