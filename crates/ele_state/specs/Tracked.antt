-- The sums that follow the rows. No public clause cites this module.
use Rattle.std.specs.Prelude.{◌≡◌, ℕ, ◌≤◌, List, if◌then◌else◌}
use Rattle.ele_content.specs.Place.{different, is_place}
use Rattle.ele_files.specs.Held.{Held}
use Rattle.ele_policy.specs.declared.policy.Kind.{Kind}
use Rattle.ele_usage.specs.declared.usage.Usage.{Usage}
use Rattle.ele_usage.specs.Book.{Book, sums_of}
use Rattle.ele_usage.specs.OnlyAt.{only_at}
use Rattle.ele_usage.specs.Adding.{nothing, plus}
use Rattle.ele_model.specs.declared.rows.FileRow.{FileRow}
use Rattle.ele_model.specs.declared.rows.VersionRow.{VersionRow}
use Rattle.ele_model.specs.Bounds.{largest_bounds}
use Rattle.ele_model.specs.declared.rows.DraftRow.{DraftRow}
use Rattle.ele_model.specs.Usage.{is_file_of, places, usage_of}
use Rattle.ele_model.specs.World.{World, fresh_world}

-- the world of these rows alone
abbrev pub rows_world : List FileRow → List VersionRow → List DraftRow → World
rows_world files versions drafts = record (fresh_world largest_bounds) { files = files; versions = versions; drafts = drafts }

abbrev pub held_world : Held → World
held_world h = rows_world h.files h.versions h.drafts

abbrev pub blocks_of : Held → ℕ
blocks_of h = different is_place (places h.versions h.drafts)

abbrev pub only_blocks : ℕ → Usage
only_blocks n = record { files = 0; versions = 0; bytes = 0; blocks = n }

-- one version of so many bytes, without its blocks
abbrev pub one_version : ℕ → Usage
one_version bytes = record { files = 0; versions = 1; bytes = bytes; blocks = 0 }

-- a file with its first version, which is empty
abbrev pub new_file : Usage
new_file = record { files = 1; versions = 1; bytes = 0; blocks = 0 }

-- what a kind may use, without its blocks
pub record IsFew (u : Usage) : Type 0 where
  pub files : u.files ≤ 100000
  pub versions : u.versions ≤ 1000000
  pub bytes : u.bytes ≤ 1048576000000

-- the usage, for the kind of the file
abbrev pub of_file : Held → ℕ → Usage → Kind → Usage
of_file h file usage k = if is_file_of h.files k file then usage else nothing

abbrev pub own : Held → ℕ → ℕ → Kind → Usage
own h file n k = of_file h file (only_blocks n) k

-- the book has the usage with so many blocks, and only the file has changed since
abbrev pub IsOwed : Held → Book → ℕ → ℕ → Type 0
IsOwed h book file before = (k : Kind) → plus (usage_of (held_world h) k) (own h file before k) ≡ plus (sums_of book k) (own h file (blocks_of h) k)

-- the same, if a file of the kind has changed
abbrev pub IsOwedBy : Held → Book → Kind → ℕ → Type 0
IsOwedBy h book kind before =
    (k : Kind) → plus (usage_of (held_world h) k) (only_at kind (only_blocks before) k) ≡ plus (sums_of book k) (only_at kind (only_blocks (blocks_of h)) k)

-- the book has what the files of each kind use
abbrev pub IsBooked : Held → Book → Type 0
IsBooked h book = (k : Kind) → sums_of book k ≡ usage_of (held_world h) k
