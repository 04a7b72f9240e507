use Rattle.std.proofs.Common.{◌≡◌, ◌≤◌, ◌*◌, length, take}
use Rattle.ele_path.proofs.Basics.{All}
use Rattle.ele_path.proofs.Words.{IsName, path_text}
use Rattle.ele_path.proofs.path.text_length.Given as goal

-- the bytes of the names so far, at most 65 for each
abbrev pub invariant-loop-name : goal.invariant-loop-name
invariant-loop-name l = (l.length ≡ length (path_text (take l.name-index l.names))) × (l.length ≤ 65 * l.name-index) × All IsName (take l.name-index l.names)
