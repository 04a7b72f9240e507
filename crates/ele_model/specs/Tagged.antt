-- Which version a tag means: the one with that number, or the one that lived at that moment, and no other.
use Rattle.std.specs.Prelude.{ℕ, ◌-◌, nat_lt, nat_le, Bool, ◌&&◌, List, Option, find, Result, Ok, Err, if◌then◌else◌}
use Rattle.std.specs.Option.{option_map, option_map_or, unwrap_or}
use Rattle.ele_lists.specs.Last.{last_passing}
use Rattle.ele_path.specs.declared.path_at.PathAt.{PathAt}
use Rattle.ele_path.specs.declared.tagged.Tag.{Tag}
use Rattle.ele_path.specs.declared.tagged.Tag.TheVariants as tag
use Rattle.ele_path.specs.declared.tagged.TaggedPath.{TaggedPath}
use Rattle.ele_model.specs.declared.refusal.Refusal.{Refusal}
use Rattle.ele_model.specs.declared.refusal.Refusal.TheVariants.{Forgotten, NoVersion}
use Rattle.ele_model.specs.declared.rows.FileRow.{FileRow}
use Rattle.ele_model.specs.declared.rows.Target.{Target}
use Rattle.ele_model.specs.declared.rows.VersionRow.{VersionRow}
use Rattle.ele_model.specs.FileView.{is_version_of}
use Rattle.ele_model.specs.GroupRows.{covers_moment}
use Rattle.ele_model.specs.Walk.{walk_now, file_at}
use Rattle.ele_model.specs.WalkAt.{walk_at}
use Rattle.ele_model.specs.World.{World, next_of, is_version}

-- the moment is in the version's life: it had closed by then, and ended later or not at all
abbrev pub lives_at : ℕ → VersionRow → Bool
lives_at moment row = covers_moment row.closed row.ended moment

-- a version of the file with a lesser number
abbrev pub is_before : ℕ → ℕ → VersionRow → Bool
is_before file number row = is_version_of file row && nat_lt row.number number

-- a version of the file that had closed by the moment
abbrev pub had_closed : ℕ → ℕ → VersionRow → Bool
had_closed file moment row = is_version_of file row && nat_le row.closed moment

-- a version of the file that lived at the moment
abbrev pub had_life : ℕ → ℕ → VersionRow → Bool
had_life file moment row = is_version_of file row && lives_at moment row

-- the number of the last version that passes the test: versions are ordered by number, so it is the greatest
abbrev pub last_number : (VersionRow → Bool) → List VersionRow → Option ℕ
last_number passes versions = option_map (λ row. row.number) (last_passing passes versions)

-- the version, or if it isn't held any more, the greatest held number before it
abbrev pub held_or_forgotten : Option VersionRow → Option ℕ → Result VersionRow Refusal
held_or_forgotten found before = option_map_or Ok found (Err (Forgotten before))

-- the file's version with that number, once it was made
abbrev pub version_numbered : List VersionRow → (file number : ℕ) → Result VersionRow Refusal
version_numbered versions file number =
    held_or_forgotten (find (is_version file number) versions) (last_number (is_before file number) versions)

-- the file's version that lived at the moment
abbrev pub version_living : List VersionRow → (file moment : ℕ) → Result VersionRow Refusal
version_living versions file moment =
    held_or_forgotten (find (had_life file moment) versions) (last_number (had_closed file moment) versions)

-- the file's version that the tag means; without a tag it is the current one
abbrev pub version_meant : List FileRow → List VersionRow → ℕ → Tag → Result VersionRow Refusal
version_meant files versions file tag.Now = version_numbered versions file (next_of files file - 1)
version_meant files versions file (tag.At moment) = version_living versions file moment
version_meant files versions file (tag.Number number) =
    if nat_lt 0 number && nat_lt number (next_of files file) then version_numbered versions file number else Err NoVersion

-- where the path leads by the names of the tag's moment; for a number by the names of now
abbrev pub walk_meant : World → List (List ℕ) → Tag → Result Target Refusal
walk_meant w path tag.Now = walk_now w.names path
walk_meant w path (tag.At moment) = walk_at w.names moment w.now path
walk_meant w path (tag.Number number) = walk_now w.names path

-- the file's version, once the file is found
abbrev pub version_found : World → Result ℕ Refusal → Tag → Result VersionRow Refusal
version_found w (Err refusal) tag = Err refusal
version_found w (Ok file) tag = version_meant w.files w.versions file tag

-- the version that the tagged path means
abbrev pub version_at : World → TaggedPath → Result VersionRow Refusal
version_at w tagged = version_found w (file_at (walk_meant w tagged.path tagged.tag)) tagged.tag

-- what the path led to at its moment, or leads to now
abbrev pub walk_then : World → PathAt → Result Target Refusal
walk_then w at = option_map_or (λ moment. walk_at w.names moment w.now at.path) at.moment (walk_now w.names at.path)

-- its moment, or now
abbrev pub moment_of : World → PathAt → ℕ
moment_of w at = unwrap_or at.moment w.now
