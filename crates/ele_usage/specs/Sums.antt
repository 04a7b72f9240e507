-- Sums of usage.
use Rattle.std.specs.Prelude.{◌^◌, ◌<◌}
use Rattle.ele_usage.specs.declared.usage.Usage.{Usage}

-- each number is within 64 bits
pub record Fits (usage : Usage) : Type 0 where
  pub files : usage.files < 2 ^ 64
  pub versions : usage.versions < 2 ^ 64
  pub bytes : usage.bytes < 2 ^ 64
  pub blocks : usage.blocks < 2 ^ 64
