-- Answers in numbers, in the order of the columns that C has. Those after the last column are 0.
use Rattle.std.specs.Prelude.{ℕ, ℤ, pos, List, length, slice_get, Option, Some, None, Result, Ok, Err}
use Rattle.ele_c_values.specs.Codes.{never}
use Rattle.ele_c_values.specs.declared.numbers.Numbers.{Numbers}
use Rattle.ele_due.specs.declared.key.Key.{Key}
use Rattle.ele_model.specs.declared.fate.Fate.{Fate}
use Rattle.ele_model.specs.declared.fate.Fate.TheVariants as fate
use Rattle.ele_model.specs.declared.pass.PassEnd.{PassEnd}
use Rattle.ele_model.specs.declared.pass.PassEnd.TheVariants.{Finished, Budget, Stopped}
use Rattle.ele_model.specs.declared.rows.DeletedName.{DeletedName}
use Rattle.ele_model.specs.declared.rows.DirectoryRow.{DirectoryRow}
use Rattle.ele_model.specs.declared.rows.FileStat.{FileStat}
use Rattle.ele_model.specs.declared.rows.GroupRow.{GroupRow}
use Rattle.ele_model.specs.declared.rows.MarkRow.{MarkRow}
use Rattle.ele_model.specs.declared.rows.Target.{Target}
use Rattle.ele_model.specs.declared.rows.Target.TheVariants as target
use Rattle.ele_model.specs.declared.rows.VersionInfo.{VersionInfo}
use Rattle.ele_policy.specs.declared.cause.Cause.{Cause}
use Rattle.ele_policy.specs.declared.cause.Cause.TheVariants as cause
use Rattle.ele_policy.specs.declared.policy.Policy.{Policy}
use Rattle.ele_policy.specs.declared.policy.Policy.TheVariants as policy
use Rattle.ele_usage.specs.declared.usage.Usage.{Usage}

-- a moment or a level, if there is one
abbrev pub or_never : Option ℕ → ℕ
or_never None = never
or_never (Some number) = number

abbrev pub zeros : Numbers
zeros = record {
  first = 0;
  second = 0;
  third = 0;
  fourth = 0;
  fifth = 0;
  sixth = 0;
  seventh = 0;
  eighth = 0;
  ninth = 0;
  tenth = 0;
  eleventh = 0;
}

-- one number, two, and three
abbrev pub single : ℕ → Numbers
single number = record zeros { first = number }

abbrev pub pair : ℕ → ℕ → Numbers
pair one other = record zeros { first = one; second = other }

abbrev pub triple : ℕ → ℕ → ℕ → Numbers
triple one other last = record zeros { first = one; second = other; third = last }

-- a version: number, opened, closed, ended, length
abbrev pub version_numbers : VersionInfo → Numbers
version_numbers info =
    record zeros { first = info.number; second = info.opened; third = info.closed; fourth = or_never info.ended; fifth = info.length }

-- a key: since, file, number
abbrev pub key_numbers : Key → Numbers
key_numbers key = triple key.ripe key.file key.number

-- what the files of a kind of policy use: files, versions, bytes, blocks
abbrev pub usage_numbers : Usage → Numbers
usage_numbers usage = record zeros { first = usage.files; second = usage.versions; third = usage.bytes; fourth = usage.blocks }

-- a name: directory, whether it means a directory, the number of that or of its file, and how many bytes the name has
abbrev pub target_numbers : ℕ → List ℕ → Target → Numbers
target_numbers directory name (target.File file) = record zeros { first = directory; third = file; fourth = length name }
target_numbers directory name (target.Directory id) = record zeros { first = directory; second = 1; third = id; fourth = length name }

-- the directory of a restorable name is said, and that of a list isn't
abbrev pub named_numbers : List ℕ × Target → Numbers
named_numbers named = target_numbers 0 named.0 named.1

abbrev pub dead_numbers : DeletedName → Numbers
dead_numbers dead = target_numbers dead.directory dead.name dead.target

-- a group: how many bytes its name has, members, marks
abbrev pub group_numbers : GroupRow → Numbers
group_numbers group = triple (length group.name) (length group.members) (length group.marks)

-- a mark: its moment and its end
abbrev pub mark_numbers : MarkRow → Numbers
mark_numbers mark = pair mark.at (or_never mark.until)

-- a policy: its kind, seconds, floor, and how many rungs
abbrev pub kind_number : Policy → ℕ
kind_number policy.One = 0
kind_number policy.All = 1
kind_number (policy.Safe interval floor) = 2
kind_number (policy.Landmarks ladder) = 3

abbrev pub policy_numbers : Policy → ℕ × ℕ × ℕ × ℕ
policy_numbers policy.One = (kind_number policy.One, 0, 0, 0)
policy_numbers policy.All = (kind_number policy.All, 0, 0, 0)
policy_numbers (policy.Safe interval floor) = (kind_number (policy.Safe interval floor), interval, floor, 0)
policy_numbers (policy.Landmarks ladder) = (kind_number (policy.Landmarks ladder), 0, 0, length ladder)

-- what a path means: whether that is a directory, its number; of a file version, opened, closed, ended and length; the policy
abbrev pub with_policy : Numbers → ℕ × ℕ × ℕ × ℕ → Numbers
with_policy numbers policy = record numbers { eighth = policy.0; ninth = policy.1; tenth = policy.2; eleventh = policy.3 }

abbrev pub file_numbers : FileStat → Numbers
file_numbers stat = with_policy (record zeros {
  second = stat.file;
  third = stat.info.number;
  fourth = stat.info.opened;
  fifth = stat.info.closed;
  sixth = or_never stat.info.ended;
  seventh = stat.info.length;
}) (policy_numbers stat.policy)

abbrev pub directory_numbers : DirectoryRow → Numbers
directory_numbers row = with_policy (pair 1 row.id) (policy_numbers row.default)

-- the fate of a version: fate, moment, until, level, cause, seconds, by
abbrev pub due_numbers : ℕ → Cause → Numbers
due_numbers since cause.AtOnce = record zeros { first = 4; second = since }
due_numbers since (cause.Age interval) = record zeros { first = 4; second = since; fifth = 1; sixth = interval }
due_numbers since (cause.Displaced level by) = record zeros { first = 4; second = since; fourth = level; fifth = 2; seventh = by }

abbrev pub fate_numbers : Fate → Numbers
fate_numbers fate.Current = zeros
fate_numbers fate.Open = single 1
fate_numbers (fate.Marked group mark) = triple 2 mark.at (or_never mark.until)
fate_numbers (fate.Kept until level) = record zeros { first = 3; third = or_never until; fourth = or_never level }
fate_numbers (fate.Due since cause) = due_numbers since cause

-- a pass: how many versions it removed, and 1 if nothing is due any more
abbrev pub pass_numbers : PassEnd → Numbers
pass_numbers (Finished removed) = pair removed 1
pass_numbers (Budget removed) = single removed
pass_numbers (Stopped stop removed) = single removed
