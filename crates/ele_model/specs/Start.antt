-- The worlds that a run may begin in.
use Rattle.ele_model.specs.Bounds.{Bounds, AreBounds}
use Rattle.ele_model.specs.NoIdleStays.{HasNoIdle}
use Rattle.ele_model.specs.OneContent.{HasOneContent}
use Rattle.ele_model.specs.OneTree.{IsOneTree}
use Rattle.ele_model.specs.WellFormed.{IsWellFormed}
use Rattle.ele_model.specs.World.{World, fresh_world}
use Rattle.ele_model.specs.Writers.{HaveWriters}

-- the world is well formed, so its limits are allowed, and has what every event leaves so beside it
pub record IsStart (w : World) : Type 0 where
  pub formed : IsWellFormed w
  pub idle : HasNoIdle w
  pub tree : IsOneTree w.names
  pub writers : HaveWriters w
  pub contents : HasOneContent w

-- the fresh world is one
abbrev pub FreshIsStart : Type 0
FreshIsStart = (limits : Bounds) → AreBounds limits → IsStart (fresh_world limits)
