use Rattle.ele_path.proofs.Basics.{◌≡◌, take}
use Rattle.ele_path.specs.Path.{path_text}
use Rattle.ele_path.specs.Text.{bytes_of}
use Rattle.ele_path.proofs.path.text_of_names.Given as goal

-- the text of the names so far
abbrev pub invariant-loop-name : goal.invariant-loop-name
invariant-loop-name l = bytes_of l.text ≡ path_text (take l.name-index l.names)
