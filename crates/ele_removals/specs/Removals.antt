-- The versions that the stored entries of a history removed, each with the name that its file had last and the mark that held it.
use Rattle.std.specs.Prelude.{◌≡◌, ℕ, nat_lt, Bool, true, false, not, List, Option, Some, None, filter, find}
use Rattle.std.specs.List.{AllZip, list_any}
use Rattle.std.specs.Option.{option_map_or}
use Rattle.ele_name_paths.specs.LivePath.{is_name_to}
use Rattle.ele_audit.specs.Removals.{removals}
use Rattle.ele_audit.specs.Story.{IsNameStory, IsVersionStory}
use Rattle.ele_audit.specs.declared.story_row.NameStory.{NameStory}
use Rattle.ele_due.specs.declared.key.Key.{Key}
use Rattle.ele_history.specs.Past.{Past}
use Rattle.ele_model.specs.declared.rows.NameRow.{NameRow}
use Rattle.ele_model.specs.declared.rows.Target.{Target}
use Rattle.ele_model.specs.declared.rows.Target.TheVariants.{File}
use Rattle.ele_model.specs.World.{World}
use Rattle.ele_removals.specs.declared.removal.Removal.{Removal}

-- ---- the last name

-- one moment is later than the other; none is the latest
abbrev pub is_later : Option ℕ → Option ℕ → Bool
is_later moment None = false
is_later None (Some other) = true
is_later (Some moment) (Some other) = nat_lt other moment

-- the other name lived longer
abbrev pub outlives : NameRow → NameRow → Bool
outlives row other = is_later other.death row.death

-- none of the names lived longer
abbrev pub is_latest : List NameRow → NameRow → Bool
is_latest names row = not (list_any (outlives row) names)

-- the name that leads to the target, or if none does, the last one that did. Of several it is the one that was made first
abbrev pub known_name : List NameRow → Target → Option NameRow
known_name rows target = find (is_latest (filter (is_name_to target) rows)) (filter (is_name_to target) rows)

-- what is known of a name; none of none
abbrev pub IsNameIf : List NameRow → Option NameRow → Option NameStory → Type 0
IsNameIf rows None None = Unit {0}
IsNameIf rows (Some row) (Some name) = IsNameStory rows row name
IsNameIf rows row name = ⊥

-- ---- the rows

-- what the world just before the removal knows of the version, with the moment of the removal; and the name of its file
pub record IsTold (removal : World × Key) (row : Removal) : Type 0 where
  pub file : row.file ≡ removal.1.file
  pub version : IsVersionStory removal.0 removal.1.file removal.1.number (Some removal.0.now) row.version
  pub name : IsNameIf removal.0.names (known_name removal.0.names (File removal.1.file)) row.name

-- the rows are those of the removals among the stored entries, in order
abbrev pub AreTold : Past → List Removal → Type 0
AreTold past rows = AllZip IsTold (removals past.base past.entries) rows
