use Rattle.std.proofs.Common.{◌∙◌}
use Rattle.ele_output.proofs.Known.{puts_as}
use Rattle.ele_reasons.proofs.reasons.put_cause.Goals as goal

pub returns-in-TooLong : goal.returns-in-TooLong
returns-in-TooLong g c = rw c.in-TooLong.is c.put.ensures

pub returns-in-Cut : goal.returns-in-Cut
returns-in-Cut g c = rw c.in-Cut.is c.put-in-Cut.ensures

pub returns-in-ByteOrderMark : goal.returns-in-ByteOrderMark
returns-in-ByteOrderMark g c = rw c.in-ByteOrderMark.is c.put-in-ByteOrderMark.ensures

pub returns-in-Empty : goal.returns-in-Empty
returns-in-Empty g c = rw c.in-Empty.is c.put-in-Empty.ensures

pub returns-in-Word : goal.returns-in-Word
returns-in-Word g c = rw c.in-Word.is (puts_as (c.as_bytes.ensures.value ∙ c.word_why.ensures) c.put-in-Word.ensures)
