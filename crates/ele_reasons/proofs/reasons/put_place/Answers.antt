use Rattle.ele_reasons.proofs.reasons.put_place.Goals as goal

pub returns-in-TooLong : goal.returns-in-TooLong
returns-in-TooLong g c = rw c.in-TooLong.is c.put.ensures

pub returns-in-Cut : goal.returns-in-Cut
returns-in-Cut g c = rw c.in-Cut.is c.put-in-Cut.ensures

pub returns-in-ByteOrderMark : goal.returns-in-ByteOrderMark
returns-in-ByteOrderMark g c = rw c.in-ByteOrderMark.is c.put-in-ByteOrderMark.ensures

pub returns-in-Words : goal.returns-in-Words
returns-in-Words g c = rw c.in-Words.is c.put-in-Words.ensures
