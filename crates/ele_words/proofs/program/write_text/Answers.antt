use Rattle.ele_words.proofs.program.write_text.Goals as goal

pub returns : goal.returns
returns g c = rw c.as_bytes.ensures.value at c.write_bytes.ensures
