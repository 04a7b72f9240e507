use Rattle.ele_audit.proofs.Basics.{sym, ◌∙◌}
use Rattle.ele_lists.proofs.Places.{remove_first-none}
use Rattle.ele_model.specs.World.{is_file}
use Rattle.ele_audit.proofs.cleaned.take_file.Goals as goal

pub returns-in_default : goal.returns-in_default
returns-in_default c =
    sym (remove_first-none (is_file c.args.file) c.args.rows.now.items (rw c.deref.ensures.value at (sym c.file_place.ensures ∙ c.in_default.is)))
