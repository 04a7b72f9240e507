-- Which names a file has. No public clause cites this module.
use Rattle.std.specs.Prelude.{ℕ, Bool, List, []}
use Rattle.std.specs.Bool.{nat_eq}
use Rattle.std.specs.HashMap.{get}
use Rattle.std.specs.List.{list_any}
use Rattle.std.specs.Option.{option_map_or}
use Rattle.std.specs.Str.{bytes_eq}
use Rattle.ele_groups.specs.declared.memberships.Membership.{Membership}
use Rattle.ele_groups.specs.declared.memberships.Memberships.{Memberships}

-- the groups that have the file
abbrev pub memberships_of : Memberships → ℕ → List Membership
memberships_of memberships file = option_map_or (λ these. these.items) (get nat_eq memberships.by_file file) []

-- the file has the name
abbrev pub has : Memberships → ℕ → List ℕ → Bool
has memberships file name = list_any (λ other. bytes_eq other.name name) (memberships_of memberships file)
