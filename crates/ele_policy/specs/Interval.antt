-- Which numbers of seconds are an interval.
use Rattle.std.specs.Prelude.{ℕ, ◌≤◌}
use Rattle.ele_moment.specs.Last.{last_moment}

-- at least one second, and no longer than from the first moment to the last
pub record IsInterval (seconds : ℕ) : Type 0 where
  pub some : 1 ≤ seconds
  pub fits : seconds ≤ last_moment
