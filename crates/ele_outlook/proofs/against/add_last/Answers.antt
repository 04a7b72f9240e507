use Rattle.std.proofs.Common.{◌<◌, ◌++◌, ◌∙◌, ℕ, List, length, ap, sym, arith}
use Rattle.std.proofs.lemmas.Bool.Decides.{nat_tests}
use Rattle.ele_outlook.specs.Parts.{texts_of}
use Rattle.ele_outlook.proofs.Lines.{only_line}
use Rattle.ele_outlook.proofs.OtherLines.{none_last}
use Rattle.ele_outlook.proofs.against.add_last.Goals as goal

pub returns-then-is_empty : goal.returns-then-is_empty
returns-then-is_empty c = none_last (texts_of c.args.labels.items) c.args.rest.now (sym c.is_empty.ensures ∙ c.if-is_empty.true)

pub returns : goal.returns
returns c =
    let some : 0 < length c.args.rest.now = grind (arith, nat_tests) in
    c.in_ok-add_label.ensures ∙ ap (λ (lines : List (List ℕ)). texts_of c.args.labels.items ++ lines) (sym (only_line c.args.rest.now c.requires some))
