-- A file that was seen in a world, with its names. No public clause cites this module.
use Rattle.std.specs.Prelude.{◌≡◌, ℕ, Option, Some, None}
use Rattle.ele_model.specs.World.{World}
use Rattle.ele_audit.specs.Story.{AreNames}
use Rattle.ele_audit.specs.declared.seen.Seen.{Seen}

-- the file, and its names in that world
pub record IsSeenIn (there : World × ℕ) (seen : Seen) : Type 0 where
  pub file : seen.file ≡ there.1
  pub names : AreNames there.0.names there.1 seen.names.items

-- if there is one
abbrev pub IsSeen : Option (World × ℕ) → Option Seen → Type 0
IsSeen None None = Unit {0}
IsSeen (Some there) (Some seen) = IsSeenIn there seen
IsSeen there seen = ⊥
