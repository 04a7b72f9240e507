use Rattle.std.proofs.Common.{[], ◌∷◌, ◌++◌, ◌∙◌, ◌≤◌, length, List, Option, ap, arith}
use Rattle.ele_rule_parts.specs.declared.reason.Reason.{Reason}
use Rattle.ele_btrbk_rules.specs.Schedule.{is_last}
use Rattle.ele_btrbk_rules.proofs.KeptRows.{kept_more, kept_whole}
use Rattle.ele_btrbk_rules.proofs.schedule.kept_by.Goals as goal

pub loop-at-preserved : goal.loop-at-preserved
loop-at-preserved c =
    let newest = c.is_last-newest.ensures ∙ ap is_last c.split_at.ensures.back in
    let made = c.in_ok-push.ensures.items ∙ ap (λ (mark : Option Reason). c.loop-at.marks.items ++ mark ∷ []) c.why.ensures in
    kept_more c.begins_of-begins.result c.args.parts.now c.args.present.now c.args.rows.now c.loop-at.at c.index-rows-at.result c.loop-at.begun _ _ _ _ _ _ c.loop-at-test.true c.index-rows-at.is c.depth-deep.ensures newest made c.begun_after-begun.ensures c.loop-at.invariant

pub returns : goal.returns
returns c =
    let past : length c.args.rows.now ≤ c.loop-at.at = omega (arith, c.loop-at-test.false) in
    kept_whole c.begins_of-begins.result c.args.parts.now c.args.present.now c.args.rows.now c.loop-at.at c.loop-at.begun c.loop-at.marks.items c.begins_of-begins.ensures past c.loop-at.invariant
