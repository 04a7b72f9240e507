-- A row among others, and whose version a reply removed. No public clause cites this module.
use Rattle.std.specs.Prelude.{ℕ, Bool, false, ◌==◌, ◌&&◌}
use Rattle.ele_model.specs.declared.reply.Reply.{Reply}
use Rattle.ele_model.specs.declared.reply.Reply.TheVariants as reply
use Rattle.ele_audit.specs.declared.row.Removed.{Removed}

-- the row of the file's version with that number
abbrev pub is_row_of : ℕ → ℕ → Removed → Bool
is_row_of file number row = (row.key.file == file) && (row.key.number == number)

-- the reply removed a version of the file
abbrev pub removes_from : ℕ → Reply → Bool
removes_from file (reply.Removed key) = key.file == file
removes_from file reply = false
