use Rattle.ele_audit.proofs.Basics.{sym, ◌∙◌}
use Rattle.ele_lists.proofs.Places.{remove_first-none}
use Rattle.ele_model.specs.World.{is_version}
use Rattle.ele_audit.proofs.cleaned.take_version.Goals as goal

pub returns-in_default : goal.returns-in_default
returns-in_default c =
    sym (remove_first-none (is_version c.args.file c.args.number) c.args.rows.now.items (rw c.deref.ensures.value at (sym c.version_place.ensures ∙ c.in_default.is)))
