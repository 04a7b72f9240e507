use Rattle.ele_tool_words.proofs.Clocks.{offset_only, offset_read}
use Rattle.ele_tool_words.proofs.clock.read_offset.Goals as goal

pub returns-clause-found : goal.returns-clause-found
returns-clause-found c = offset_read c.args.word.now c.read_zone.result c.read_zone.ensures

pub returns-clause-only : goal.returns-clause-only
returns-clause-only c = λ offset h. offset_only c.args.word.now c.read_zone.result offset c.read_zone.ensures h
