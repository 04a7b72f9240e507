use Rattle.std.proofs.lemmas.Bool.Decides.{Decides-eqb}
use Rattle.std.proofs.lemmas.Slice.Eq.{strip_prefix_is}
use Rattle.ele_dialog.proofs.help.behind_help.Goals as goal

pub returns : goal.returns
returns c = rw c.as_slice.ensures at (strip_prefix_is Decides-eqb c.args.line.now _ c.strip_prefix.result c.strip_prefix.ensures.cases)
