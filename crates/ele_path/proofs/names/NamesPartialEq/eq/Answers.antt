use Rattle.std.proofs.Common.{◌∙◌}
use Rattle.ele_path.proofs.Texts.{same_names}
use Rattle.ele_path.proofs.names.NamesPartialEq.eq.Goals as goal

pub returns : goal.returns
returns c = rw (← c.self.view_is, ← c.other.view_is) (c.eq.ensures ∙ same_names _ _ c.self.invariant c.other.invariant)
