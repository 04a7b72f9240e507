use Rattle.ele_state.proofs.Words.{Shown, ap, arith, last_dead, ◌∙◌, rules, tests}
use Rattle.std.proofs.lemmas.Fn.{filter_same}
use Rattle.ele_model.specs.Restorable.{may_return}
use Rattle.ele_model.proofs.Newest.{restorable_kept}
use Rattle.ele_state.proofs.State.restorable.Goals as goal

pub returns : goal.returns
returns c =
    let w = c.args.self.now.world in
    let kept = filter_same _ (λ lost. may_return w lost.2) _ (λ x b f k. search (rules, tests)) _ _ c.retain.ensures.filtered in
    grind (arith, c.deleted_names.ensures, c.as_slice.ensures, kept, restorable_kept w c.in_ok-names.names.items c.in_ok-names.ensures.sorted (λ directory name. c.in_ok-names.ensures.found directory name ∙ ap (λ (s : Shown). last_dead s.world.names directory name) c.self.view_is))
