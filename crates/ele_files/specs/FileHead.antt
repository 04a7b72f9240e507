-- The head of a file.
use Rattle.std.specs.Prelude.{◌≡◌, ℕ, Some}
use Rattle.std.specs.Option.{option_map}
use Rattle.ele_files.specs.declared.files.neighbours.FileHead.{FileHead}
use Rattle.ele_files.specs.Held.{Held}
use Rattle.ele_model.specs.Neighbours.{newest_of}
use Rattle.ele_model.specs.Told.{info_of}
use Rattle.ele_model.specs.World.{next_of, policy_of}

-- the file is there, with that policy, and its next and its newest version are those of the head
pub record Stands (h : Held) (file : ℕ) (head : FileHead) : Type 0 where
  pub policy : policy_of h.files file ≡ Some head.policy
  pub next : next_of h.files file ≡ head.next
  pub newest : option_map info_of (newest_of h.versions file) ≡ head.newest
