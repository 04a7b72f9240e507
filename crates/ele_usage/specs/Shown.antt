-- The sums in the fields of a book. No public clause cites this module.
use Rattle.ele_usage.specs.declared.book.UsageBook.TheInside.{Inside}
use Rattle.ele_usage.specs.Book.{Book}

-- the book of the fields
abbrev pub shown : Inside → Book
shown b = record { one = b.one; all = b.all; safe = b.safe; landmarks = b.landmarks }

-- the fields of the book
abbrev pub fields_of : Book → Inside
fields_of b = record { one = b.one; all = b.all; safe = b.safe; landmarks = b.landmarks }
