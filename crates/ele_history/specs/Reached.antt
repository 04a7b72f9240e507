-- Which worlds so many events lead to.
use Rattle.std.specs.Prelude.{◌≡◌, ℕ, ◌+◌, length}
use Rattle.ele_model.specs.Reached.{IsReached}
use Rattle.ele_model.specs.World.{World, fresh_world}

-- the world after so many events: the last of them led there from a world that a run may begin in, so the headline, and all laws of runs,
-- are true of it; the earlier ones are those before rows of which a history was made. Without earlier ones the run began in the fresh world
pub record IsReachedBy (count : ℕ) (w : World) : Type 0 where
  pub reached : IsReached w
  pub earlier : ℕ
  pub long : earlier + length reached.run.events ≡ count
  pub fresh : earlier ≡ 0 → reached.start ≡ fresh_world reached.start.limits
