-- Where a new name may be, and what it may mean.
use Rattle.std.specs.Prelude.{◌≡◌, ℕ, true}
use Rattle.ele_model.specs.declared.rows.Target.{Target}
use Rattle.ele_model.specs.WellFormed.{IsThere, IsDirectoryThere, has_directory, is_reached}
use Rattle.ele_model.specs.World.{World}

-- the directory is there, and has a live name or is the root
pub record IsHome (w : World) (directory : ℕ) : Type 0 where
  pub there : has_directory w.directories directory ≡ true
  pub reached : is_reached w.names directory ≡ true

-- the file or the directory is there
pub record IsPresent (w : World) (target : Target) : Type 0 where
  pub file : IsThere w.files target
  pub directory : IsDirectoryThere w.directories target
