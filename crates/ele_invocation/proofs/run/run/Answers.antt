use Rattle.std.proofs.Common.{◌∙◌, ap, codes}
use Rattle.std.proofs.lemmas.Result.{IfOk-weaker}
use Rattle.clap.specs.Words.{new_rule, rule_of}
use Rattle.clap.specs.declared.builder.arg.Arg.{Arg}
use Rattle.ele_invocation.specs.Built.{HasRule}
use Rattle.ele_invocation.proofs.Builders.{adds_arg}
use Rattle.ele_invocation.proofs.run.run.Goals as goal

pub returns : goal.returns
returns c =
    let file : HasRule (new_rule (codes "file")) c.hide-file.result = record {
      rule_is = ap rule_of c.hide-file.ensures ∙ c.new.ensures.rule;
      local = ap (λ (a : Arg). a.global) c.hide-file.ensures ∙ c.new.ensures.optional.1;
    } in
    let one = adds_arg c.command_of.ensures c.number.ensures c.in_ok-arg.ensures in
    let two = adds_arg one file c.in_ok-arg-2.ensures in
    let three = adds_arg two c.flag.ensures c.in_ok-arg-3.ensures in
    let four = adds_arg three c.flag-2.ensures c.in_ok-arg-4.ensures in
    let five = adds_arg four c.flag-3.ensures c.in_ok-arg-5.ensures in
    IfOk-weaker c.arg-6.result _ _ (λ command added. adds_arg five c.flag-4.ensures added) c.arg-6.ensures
