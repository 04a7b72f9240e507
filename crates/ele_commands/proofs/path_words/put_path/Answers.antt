use Rattle.ele_commands.proofs.Basics.{List, ℕ, ◌∷◌, sym, ap, ◌∙◌}
use Rattle.ele_commands.proofs.Words.{slash_is, text_is}
use Rattle.ele_output.proofs.Known.{puts_as, puts_then}
use Rattle.ele_commands.proofs.path_words.put_path.Goals as goal

pub returns-then-is_empty : goal.returns-then-is_empty
returns-then-is_empty g c =
    let is = slash_is c.args.path.now c.text-text.result.now c.text-text.ensures (sym c.is_empty.ensures ∙ c.if-is_empty.true) in
    puts_as (ap (λ (word : List ℕ). 32 ∷ word) is) (puts_then c.put.ensures c.put-then-is_empty.ensures)

pub returns : goal.returns
returns g c =
    let is = text_is c.args.path.now c.text-text.result.now c.text-text.ensures (sym c.is_empty.ensures ∙ c.if-is_empty.false) in
    puts_as (ap (λ (word : List ℕ). 32 ∷ word) is) (puts_then c.put.ensures c.put-2.ensures)
