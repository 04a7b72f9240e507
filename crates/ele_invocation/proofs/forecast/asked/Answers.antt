use Rattle.std.proofs.Common.{◌∙◌, Some, ap, codes}
use Rattle.std.proofs.lemmas.Result.{IfOk-weaker}
use Rattle.clap.specs.Words.{Rule, new_rule, rule_of}
use Rattle.clap.specs.declared.builder.arg.Arg.{Arg}
use Rattle.clap.specs.declared.builder.action.ArgAction.TheVariants.{Append}
use Rattle.ele_invocation.specs.Built.{HasRule}
use Rattle.ele_invocation.specs.Program.{repeated_rule}
use Rattle.ele_invocation.proofs.Builders.{adds_arg}
use Rattle.ele_invocation.proofs.forecast.asked.Goals as goal

pub returns : goal.returns
returns c =
    let file : HasRule (new_rule (codes "file")) c.hide-file.result = record {
      rule_is = ap rule_of c.hide-file.ensures ∙ c.new.ensures.rule;
      local = ap (λ (a : Arg). a.global) c.hide-file.ensures ∙ c.new.ensures.optional.1;
    } in
    let policy : HasRule (repeated_rule (codes "policy")) c.action-policy.result = record {
      rule_is = ap rule_of c.action-policy.ensures ∙ ap (λ (r : Rule). record r { action = Some Append }) c.option.ensures.rule_is;
      local = ap (λ (a : Arg). a.global) c.action-policy.ensures ∙ c.option.ensures.local;
    } in
    let at : HasRule (repeated_rule (codes "at")) c.action-at.result = record {
      rule_is = ap rule_of c.action-at.ensures ∙ ap (λ (r : Rule). record r { action = Some Append }) c.option-2.ensures.rule_is;
      local = ap (λ (a : Arg). a.global) c.action-at.ensures ∙ c.option-2.ensures.local;
    } in
    let rule : HasRule (repeated_rule (codes "rule")) c.action-rule.result = record {
      rule_is = ap rule_of c.action-rule.ensures ∙ ap (λ (r : Rule). record r { action = Some Append }) c.option-3.ensures.rule_is;
      local = ap (λ (a : Arg). a.global) c.action-rule.ensures ∙ c.option-3.ensures.local;
    } in
    let one = adds_arg c.command_of.ensures file c.in_ok-arg.ensures in
    let two = adds_arg one policy c.in_ok-arg-2.ensures in
    let three = adds_arg two at c.in_ok-arg-3.ensures in
    let four = adds_arg three c.option-4.ensures c.in_ok-arg-4.ensures in
    let five = adds_arg four rule c.in_ok-arg-5.ensures in
    IfOk-weaker c.arg-6.result _ _ (λ command added. adds_arg five c.option-5.ensures added) c.arg-6.ensures
