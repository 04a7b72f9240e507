-- Which versions a mark may have held until they became due. No public clause cites this module.
use Rattle.std.specs.Prelude.{ℕ, ◌==◌, Bool, false, List}
use Rattle.std.specs.List.{list_any}
use Rattle.std.specs.Option.{option_map_or}
use Rattle.ele_model.specs.declared.fate.Fate.{Fate}
use Rattle.ele_model.specs.declared.fate.Fate.TheVariants.{Due}
use Rattle.ele_model.specs.declared.rows.GroupRow.{GroupRow}
use Rattle.ele_model.specs.declared.rows.MarkRow.{MarkRow}

-- the mark ends at the moment
abbrev pub ends_at : ℕ → MarkRow → Bool
ends_at at mark = option_map_or (λ until. until == at) mark.until false

-- some mark of some group does
abbrev pub any_ends : List GroupRow → ℕ → Bool
any_ends groups at = list_any (λ group. list_any (ends_at at) group.marks) groups

-- the version is due, and some mark ended as it became due
abbrev pub may_be_held : List GroupRow → Fate → Bool
may_be_held groups (Due since cause) = any_ends groups since
may_be_held groups fate = false
