-- The replies of questions about versions, files, directories and names.
use Rattle.std.specs.Prelude.{ℕ, ◌==◌, ◌&&◌, Bool, List, [], fold, filter, length, Result, Ok, Err}
use Rattle.std.specs.BTreeMap.{insert_entry}
use Rattle.std.specs.Cmp.Lexicographic.{slice_cmp}
use Rattle.std.specs.Ordering.{nat_cmp}
use Rattle.ele_content.specs.Content.{content_of}
use Rattle.ele_path.specs.declared.tagged.Tag.{Tag}
use Rattle.ele_path.specs.declared.tagged.Tag.TheVariants as tag
use Rattle.ele_model.specs.declared.refusal.Refusal.{Refusal}
use Rattle.ele_model.specs.declared.refusal.Refusal.TheVariants.{IsDirectory}
use Rattle.ele_model.specs.declared.reply.Reply.{Reply}
use Rattle.ele_model.specs.declared.reply.Reply.TheVariants.{FileStat, DirStat}
use Rattle.ele_model.specs.declared.rows.NameRow.{NameRow}
use Rattle.ele_model.specs.declared.rows.VersionInfo.{VersionInfo}
use Rattle.ele_model.specs.declared.rows.Target.{Target}
use Rattle.ele_model.specs.declared.rows.Target.TheVariants.{File, Directory}
use Rattle.ele_model.specs.declared.rows.VersionRow.{VersionRow}
use Rattle.ele_model.specs.NameRows.{covers}
use Rattle.ele_model.specs.Tagged.{version_meant}
use Rattle.ele_model.specs.World.{World, default_of, policy_for}

-- a version's number, its moments, and its length in bytes
abbrev pub info_of : VersionRow → VersionInfo
info_of row = record {
  number = row.number;
  opened = row.opened;
  closed = row.closed;
  ended = row.ended;
  length = length (content_of row.cells);
}

-- the version, and the policy that governs its file now
abbrev pub file_stat : World → Result VersionRow Refusal → Result Reply Refusal
file_stat w (Err refusal) = Err refusal
file_stat w (Ok row) = Ok (FileStat (record { file = row.file; info = info_of row; policy = policy_for w.files row.file }))

-- the directory, and its default policy now; a directory has no numbered versions
abbrev pub stat_of : World → Target → Tag → Result Reply Refusal
stat_of w (Directory id) (tag.Number number) = Err IsDirectory
stat_of w (Directory id) other = Ok (DirStat (record { id = id; default = default_of w.directories id }))
stat_of w (File file) tag = file_stat w (version_meant w.files w.versions file tag)

-- a name that was in the directory at the moment
abbrev pub stood_in : ℕ → ℕ → NameRow → Bool
stood_in directory moment row = (row.directory == directory) && covers moment row

-- the names that were in the directory at the moment, and what they meant, by the bytes of the names
unfoldable pub listing : List NameRow → (directory moment : ℕ) → List (List ℕ × Target)
listing rows directory moment =
    fold (λ listed row. insert_entry (slice_cmp nat_cmp) listed row.name row.target) [] (filter (stood_in directory moment) rows)
