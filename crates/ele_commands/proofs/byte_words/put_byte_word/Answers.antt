use Rattle.ele_commands.proofs.Basics.{List, ℕ, ◌∷◌, sym, ap, ◌∙◌}
use Rattle.ele_commands.proofs.Words.{digits_are}
use Rattle.ele_output.proofs.Known.{puts_as, puts_then}
use Rattle.ele_commands.proofs.byte_words.put_byte_word.Goals as goal

pub returns-else-is_empty : goal.returns-else-is_empty
returns-else-is_empty g c =
    let digits = digits_are c.args.bytes.now (sym c.is_empty.ensures ∙ c.if-is_empty.false) in
    puts_as (sym (ap (λ (word : List ℕ). 32 ∷ word) digits)) (puts_then c.put-else-is_empty.ensures c.put_hexadecimal.ensures)
