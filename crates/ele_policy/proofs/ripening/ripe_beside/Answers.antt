use Rattle.std.proofs.Common.{sym, ap, ◌∙◌}
use Rattle.std.specs.Option.{option_map_or}
use Rattle.std.specs.Prelude.{nat_le, false}
use Rattle.ele_policy.proofs.Waits.{due_from, ripe_is}
use Rattle.ele_policy.proofs.ripening.ripe_beside.Goals as goal

pub returns-clause-value : goal.returns-clause-value
returns-clause-value c =
    c.ripe_after.ensures.value ∙ sym (ripe_is c.args.policy.now c.args.closed c.args.ended (record { newer = c.args.newer.now; live = c.args.is_live }) c.ripe_after.ensures.given)

pub returns-clause-due : goal.returns-clause-due
returns-clause-due c at fits =
    due_from c.args.policy.now c.args.closed c.args.ended at (record { newer = c.args.newer.now; live = c.args.is_live }) c.ripe_after.ensures.given fits
    ∙ ap (λ o. option_map_or (λ m. nat_le m at) o false) (sym (returns-clause-value c))
