use Rattle.std.proofs.Common.{rules}
use Rattle.std.proofs.lemmas.Fn.{filter_same}
use Rattle.std.specs.Prelude.{not}
use Rattle.ele_model.specs.World.{is_target_file}
use Rattle.ele_audit.proofs.cleaned.take_names.Goals as goal

pub returns : goal.returns
returns c = filter_same _ (λ row. not (is_target_file c.args.file row.target)) _ (λ x b f k. search rules) _ _ c.retain.ensures.filtered
