-- The held versions next to one of a file, and the ripe moment that follows from them, as `ele_files` finds them.
use Rattle.std.specs.Prelude.{ℕ, ◌==◌, nat_lt, nat_le, Bool, false, ◌&&◌, List, Option, Some, find, option_and_then}
use Rattle.std.specs.List.{count_by}
use Rattle.std.specs.Option.{option_map, option_map_or}
use Rattle.ele_lists.specs.Last.{last_passing}
use Rattle.ele_policy.specs.declared.rule.Case.{Case}
use Rattle.ele_policy.specs.declared.rule.Rule.{Rule}
use Rattle.ele_policy.specs.RipeCase.{rule_in, case_of, ripe_case}
use Rattle.ele_model.specs.declared.cover.Cover.{Cover}
use Rattle.ele_model.specs.declared.rows.VersionRow.{VersionRow}
use Rattle.ele_model.specs.Cover.{ripe_past}
use Rattle.ele_model.specs.FileView.{is_version_of}
use Rattle.ele_model.specs.World.{World, is_live, is_version, policy_of}

-- whether it is this moment, if there is one
abbrev pub is_moment : ℕ → Option ℕ → Bool
is_moment at moment = option_map_or (λ m. m == at) moment false

-- a version of the file with a greater number
abbrev pub is_newer_of : ℕ → ℕ → VersionRow → Bool
is_newer_of file number row = (row.file == file) && nat_lt number row.number

-- when the file's next held version behind the number closed, if there is one
abbrev pub next_closing : List VersionRow → ℕ → ℕ → Option ℕ
next_closing versions file number = option_map (λ row. row.closed) (find (is_newer_of file number) versions)

-- how many held versions of the file have a greater number
abbrev pub newer_held : List VersionRow → ℕ → ℕ → ℕ
newer_held versions file number = count_by (is_newer_of file number) versions

-- the file's held version that has so many newer ones
abbrev pub with_newer : List VersionRow → ℕ → ℕ → Option VersionRow
with_newer versions file newer = find (λ row. is_version_of file row && (newer_held versions file row.number == newer)) versions

-- the file's newest held version
abbrev pub newest_of : List VersionRow → ℕ → Option VersionRow
newest_of versions file = last_passing (is_version_of file) versions

-- the policy in force in the file now, if the file is there
abbrev pub rule_of : World → ℕ → Option Rule
rule_of w file = option_map (λ policy. rule_in policy (is_live w file)) (policy_of w.files file)

-- the case under the rule of the file's version with that number, which closed then
abbrev pub case_in : Rule → List VersionRow → ℕ → ℕ → ℕ → Case
case_in rule versions file number closed =
    case_of rule.policy closed (next_closing versions file number) (nat_le rule.newer (newer_held versions file number))

-- when a version of that case ripens if no handle reads it and it ended then: not before the end of the cover of the time from its closing
-- until its end
abbrev pub case_moment : (ℕ → Option ℕ → Cover) → Case → ℕ → Option ℕ
case_moment cover case ended = option_and_then (ripe_past (cover case.closed (Some ended))) (ripe_case case ended)

-- when the file's version with that number ripens under the rule, if it is held and has ended
abbrev pub moment_under : (ℕ → Option ℕ → Cover) → Rule → List VersionRow → ℕ → ℕ → Option ℕ
moment_under cover rule versions file number =
    option_and_then (λ row. option_and_then (case_moment cover (case_in rule versions file number row.closed)) row.ended) (find (is_version file number) versions)

-- when it ripens under the file's own rule
abbrev pub free_moment : World → (ℕ → Option ℕ → Cover) → ℕ → ℕ → Option ℕ
free_moment w cover file number = option_and_then (λ rule. moment_under cover rule w.versions file number) (rule_of w file)
