-- Output that is written and flushed.
use Rattle.std.proofs.Common.{◌≡◌, [], Result, Ok, Err, is_err, sym}
use Rattle.ele_output.specs.Outlet.{HandsOver, Outlet, Reports}

-- the buffer was written and the writer flushed, or it failed
pub checked : {A E : Type 0} {b c : Outlet} (r : Result A E) → Reports b c [] → is_err r ≡ c.has_failed → HandsOver b c [] r
checked (Ok x) h e = (h.0, (h.1, sym e))
checked (Err x) h e = h.0
