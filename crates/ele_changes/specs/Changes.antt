-- What changed between two moments: the difference of the names of both, and of the versions that their files had then.
use Rattle.std.specs.Prelude.{ℕ, ◌==◌, nat_lt, Bool, false, not, ◌&&◌, List, Option, Some, None, is_none, find, if◌then◌else◌}
use Rattle.std.specs.List.{filter_map}
use Rattle.std.specs.Option.{option_map}
use Rattle.ele_model.specs.declared.refusal.Refusal.{Refusal}
use Rattle.ele_model.specs.declared.refusal.Refusal.TheVariants.{Future, NotAhead}
use Rattle.ele_model.specs.declared.rows.NameRow.{NameRow}
use Rattle.ele_model.specs.declared.rows.Target.{Target}
use Rattle.ele_model.specs.declared.rows.Target.TheVariants.{File, Directory}
use Rattle.ele_model.specs.declared.rows.VersionRow.{VersionRow}
use Rattle.ele_model.specs.NameRows.{covers}
use Rattle.ele_model.specs.Tagged.{had_life}
use Rattle.ele_model.specs.World.{World}
use Rattle.ele_changes.specs.Names.{first_name, gained_name, is_known_by, is_named_at, is_only_at, lost_name, only_at, other_name, second_name, target_of}
use Rattle.ele_changes.specs.declared.change.Change.{Change}
use Rattle.ele_changes.specs.declared.change.ChangeKind.{ChangeKind}
use Rattle.ele_changes.specs.declared.change.ChangeKind.TheVariants as kind
use Rattle.ele_changes.specs.declared.change.Span.{Span}
use Rattle.ele_changes.specs.declared.told.NameChange.{NameChange}
use Rattle.ele_changes.specs.declared.told.NameChange.TheVariants.{Gained, Kept, Lost, Moved}

-- ---- versions

-- the number of the held version that the file had at the moment, as a look-up with that moment finds it; a directory has none
abbrev pub number_at : List VersionRow → ℕ → Target → Option ℕ
number_at versions moment (File id) = option_map (λ row. row.number) (find (had_life id moment) versions)
number_at versions moment (Directory id) = None

-- it is known that both are one version
abbrev pub is_same_number : Option ℕ → Option ℕ → Bool
is_same_number (Some first) (Some second) = first == second
is_same_number first second = false

-- the target is a file, of which it isn't known that it had one version at both moments
abbrev pub may_differ : List VersionRow → Span → Target → Bool
may_differ versions span (File id) = not (is_same_number (number_at versions span.first (File id)) (number_at versions span.second (File id)))
may_differ versions span (Directory id) = false

-- ---- what changed

-- what the row of a name tells, beside the names that are lost between the moments and those that are gained: a name that is there at one of
-- the moments alone, two of these that belong together, or a file that has the name at both and may have changed
abbrev pub told : World → Span → (lost gained : List NameRow) → NameRow → Option NameChange
told w span lost gained row =
    if is_only_at span.first span.second w.names row then lost_name row (other_name lost gained row)
    else if is_only_at span.second span.first w.names row then gained_name row (other_name gained lost row)
    else if covers span.first row && may_differ w.versions span row.target then Some (Kept row)
    else None

-- a file of which neither version is held may have changed or not
abbrev pub kind_kept : Option ℕ → Option ℕ → ChangeKind
kind_kept before after = if is_none before && is_none after then kind.Forgotten else kind.Saved

-- a target without a name at the first moment is new, or had a name before and is back. One that has another name has one more
abbrev pub kind_gained : Span → List NameRow → NameRow → ChangeKind
kind_gained span rows row =
    if is_named_at span.first rows row.target then kind.Linked
    else if is_known_by span.first rows row.target then kind.Back
    else kind.Made

-- a target that keeps another name has one less
abbrev pub kind_lost : Span → List NameRow → NameRow → ChangeKind
kind_lost span rows row = if is_named_at span.second rows row.target then kind.Unlinked else kind.Deleted

abbrev pub kind_of : World → Span → NameChange → ChangeKind
kind_of w span (Gained row) = kind_gained span w.names row
kind_of w span (Lost row) = kind_lost span w.names row
kind_of w span (Moved old row) = kind.Renamed
kind_of w span (Kept row) = kind_kept (number_at w.versions span.first row.target) (number_at w.versions span.second row.target)

-- the change that the names tell, with the versions of both moments
abbrev pub change_of : World → Span → NameChange → Change
change_of w span names = record {
  kind = kind_of w span names;
  target = target_of names;
  before = number_at w.versions span.first (target_of names);
  after = number_at w.versions span.second (target_of names);
  from = first_name names;
  to = second_name names;
}

-- the change that the row of a name tells, if it tells one
abbrev pub change_by : World → Span → (lost gained : List NameRow) → NameRow → Option Change
change_by w span lost gained row = option_map (change_of w span) (told w span lost gained row)

-- the changes between the moments, in order of the making of names
abbrev pub changes_between : World → Span → List Change
changes_between w span =
    filter_map (change_by w span (only_at span.first span.second w.names) (only_at span.second span.first w.names)) w.names

-- why the moments are refused, if they are: the second is after now, or before the first
abbrev pub span_refusal : ℕ → Span → Option Refusal
span_refusal now span = if nat_lt now span.second then Some Future else if nat_lt span.second span.first then Some NotAhead else None
