use Rattle.std.proofs.Common.{◌≡◌, ◌∙◌}
use Rattle.ele_words.specs.Storms.{storm_line}
use Rattle.ele_words.proofs.Told.{as_told, line_is}
use Rattle.ele_words.proofs.storming.write_line.Goals as goal

pub returns : goal.returns
returns g c =
    let text : c.as_str.result.now ≡ storm_line c.args.events c.args.equal = c.as_str.ensures.value ∙ c.in-Ok.ensures.ok ∙ rw c.audit_word-word.ensures (line_is c.args.events c.args.equal) in
    as_told _ _ _ _ (rw text at c.write_text.ensures)
