use Rattle.std.proofs.Common.{◌∙◌, sym}
use Rattle.ele_tool_words.proofs.Lengths.{in_units, no_length}
use Rattle.ele_tool_words.proofs.length.read_length.Goals as goal

pub returns-in_default-clause-only : goal.returns-in_default-clause-only
returns-in_default-clause-only c seconds is = absurd (no_length c.args.word.now seconds c.in_default.ensures.cases is)

pub returns-in-Some-unit_of-clause-only : goal.returns-in-Some-unit_of-clause-only
returns-in-Some-unit_of-clause-only c =
    in_units c.args.word.now c.in-Some.number.now c.in-Some.letter.now c.in-Some-unit_of.unit c.read_units.result c.in-Some.ensures.cases.0 (sym c.unit_of.ensures ∙ c.in-Some-unit_of.is) c.read_units.ensures.only
