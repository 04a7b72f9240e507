-- The mark that held a version after its policy had let it go.
use Rattle.std.specs.Prelude.{ℕ, ◌==◌, nat_lt, Bool, false, ◌&&◌, List, Option, None, filter, find, if◌then◌else◌}
use Rattle.std.specs.List.{list_any}
use Rattle.std.specs.Option.{option_and_then, option_map, option_map_or}
use Rattle.ele_policy.specs.Ripe.{Beside}
use Rattle.ele_policy.specs.RipeCase.{ripe_by}
use Rattle.ele_model.specs.declared.rows.GroupRow.{GroupRow}
use Rattle.ele_model.specs.declared.rows.MarkRow.{MarkRow}
use Rattle.ele_model.specs.declared.rows.VersionRow.{VersionRow}
use Rattle.ele_model.specs.FileView.{closings}
use Rattle.ele_model.specs.GroupRows.{covers_moment, is_member}
use Rattle.ele_model.specs.Neighbours.{is_newer_of}
use Rattle.ele_model.specs.World.{World, is_live, policy_of}
use Rattle.ele_holds.specs.declared.hold.Hold.{Hold}

-- ---- marks

-- the mark was made while the version was current, and ended at the moment
abbrev pub is_last : VersionRow → ℕ → MarkRow → Bool
is_last row at mark = covers_moment row.closed row.ended mark.at && option_map_or (λ until. until == at) mark.until false

-- the group has the version's file, and such a mark
abbrev pub has_last : VersionRow → ℕ → GroupRow → Bool
has_last row at group = is_member row.file group && list_any (is_last row at) group.marks

-- the first such mark of the group, with the group's name
abbrev pub hold_in : VersionRow → ℕ → GroupRow → Option Hold
hold_in row at group = option_map (λ mark. record { group = group.name; mark = mark }) (find (is_last row at) group.marks)

-- that of the first such group, in order of making
abbrev pub hold_until : List GroupRow → VersionRow → ℕ → Option Hold
hold_until groups row at = option_and_then (hold_in row at) (find (has_last row at) groups)

-- ---- the policy

-- what the policy sees beside the version: when the newer held versions of its file closed, and whether the file is live
abbrev pub beside_in : World → VersionRow → Beside
beside_in w row = record { newer = closings (filter (is_newer_of row.file row.number) w.versions); live = is_live w row.file }

-- when the version would be due by its policy alone, if no mark and no handle held it
abbrev pub policy_moment : World → VersionRow → Option ℕ
policy_moment w row = option_and_then (λ policy. option_and_then (ripe_by policy row.closed (beside_in w row)) row.ended) (policy_of w.files row.file)

-- that is before the moment
abbrev pub lets_go_before : World → VersionRow → ℕ → Bool
lets_go_before w row since = option_map_or (λ own. nat_lt own since) (policy_moment w row) false

-- ---- the mark that held it

-- of a version that is due since that moment: the mark that ended then, if the policy had let the version go before
abbrev pub hold_of : World → VersionRow → ℕ → Option Hold
hold_of w row since = if lets_go_before w row since then hold_until w.groups row since else None
