-- How many of each kind were made, as the limits count them.
use Rattle.ele_model.specs.Step.{versions_made}
use Rattle.ele_model.specs.World.{World}
use Rattle.ele_model.specs.declared.limits.Counts.{Counts}

-- open drafts count as versions
abbrev pub counts_of : World → Counts
counts_of w = record w.made { versions = versions_made w }
