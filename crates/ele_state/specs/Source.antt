-- Where the content of a file's next version comes from. No public clause cites this module.
use Rattle.std.specs.Prelude.{◌≡◌, ℕ, Bool, ◌+◌, ◌≤◌, ◌<◌, ◌^◌, false, List, [], ◌∷◌, length, Some, Ok, IsSome, find}
use Rattle.std.specs.List.{AllByRecursion, list_any}
use Rattle.ele_content.specs.declared.cell.Cell.{Cell}
use Rattle.ele_content.specs.Content.{content_of, longest_content}
use Rattle.ele_fates.specs.declared.keys.KeyChange.{KeyChange}
use Rattle.ele_files.specs.Closing.{IsPast, finishing, opening_by}
use Rattle.ele_files.specs.Held.{Held, cells_of_draft, cells_of_version}
use Rattle.ele_lists.specs.Lists.{AllLater}
use Rattle.ele_policy.specs.declared.policy.Kind.{Kind}
use Rattle.ele_policy.specs.declared.policy.Policy.{Policy}
use Rattle.ele_sessions.specs.Found.{StandsAt}
use Rattle.ele_sessions.specs.declared.found_handle.FoundHandle.{FoundHandle}
use Rattle.ele_state.specs.Inside.{world_of}
use Rattle.ele_state.specs.Queued.{new_keys}
use Rattle.ele_state.specs.Tracked.{IsFew}
use Rattle.ele_state.specs.declared.append.Source.{Source}
use Rattle.ele_state.specs.declared.append.Source.TheVariants as source
use Rattle.ele_state.specs.declared.rows.Rows.{Rows}
use Rattle.ele_usage.specs.Book.{Book, sums_of}
use Rattle.ele_model.specs.Change.{Change, Append}
use Rattle.ele_model.specs.Step.{cells_by}
use Rattle.ele_model.specs.WellFormed.{ArePlaced}
use Rattle.ele_model.specs.World.{is_draft, is_live, is_version, next_of, reads_by}
use Rattle.ele_model.specs.declared.rows.Reads.TheVariants as reads

-- a draft with its last handle and its opening, a held version by its number, or bytes
pub data Origin : Type 0 where
  Draft : FoundHandle → ℕ → Origin
  Version : ℕ → Origin
  Bytes : List ℕ → Origin

-- that of the source, if these bytes are passed with it
abbrev pub origin : Source → List ℕ → Origin
origin (source.Draft handle opened) bytes = Draft handle opened
origin (source.Version number) bytes = Version number
origin source.Bytes bytes = Bytes bytes

-- the changes by which the file gets the version
abbrev pub appending : Held → ℕ → ℕ → Origin → List Change
appending h now file (Draft handle opened) = finishing h handle.row.number file opened
appending h now file (Version number) = Append file now (cells_of_version h file number) ∷ []
appending h now file (Bytes bytes) = Append file now (cells_by (next_of h.files file) bytes) ∷ []

-- the cells of the new version
abbrev pub source_cells : Held → ℕ → Origin → List Cell
source_cells h file (Draft handle opened) = cells_of_draft h file
source_cells h file (Version number) = cells_of_version h file number
source_cells h file (Bytes bytes) = cells_by (next_of h.files file) bytes

-- the last handle of a changed draft, or of a file without a draft a held version or bytes that aren't too many
pub record IsLast (h : Held) (file : ℕ) (handle : FoundHandle) (opened : ℕ) : Type 0 where
  pub stands : StandsAt h.handles handle
  pub reads : reads_by h.handles handle.row.number ≡ Ok (reads.Draft file)
  pub changed : opening_by h handle.row.number ≡ Some opened

pub record IsHeldAlone (h : Held) (file number : ℕ) : Type 0 where
  pub held : IsSome (find (is_version file number) h.versions)
  pub undrafted : list_any (is_draft file) h.drafts ≡ false

pub record IsGiven (h : Held) (file : ℕ) (bytes : List ℕ) : Type 0 where
  pub there : 0 < next_of h.files file
  pub undrafted : list_any (is_draft file) h.drafts ≡ false
  pub short : length bytes ≤ longest_content

abbrev pub IsSource : Held → ℕ → Origin → Type 0
IsSource h file (Draft handle opened) = IsLast h file handle opened
IsSource h file (Version number) = IsHeldAlone h file number
IsSource h file (Bytes bytes) = IsGiven h file bytes

-- the files can make the version, and the sums can take it
pub record IsReady (h : Held) (now file : ℕ) (source : Origin) : Type 0 where
  pub is : IsSource h file source
  pub few : length h.versions + length h.drafts ≤ 2 ^ 50
  pub numbered : AllByRecursion (λ row. row.next < 2 ^ 62) h.files
  pub past : AllByRecursion (IsPast now) h.versions
  pub short : length (content_of (source_cells h file source)) ≤ longest_content
  pub placed : AllLater ArePlaced h.versions

-- the limit and the sums have a place for one more
pub record IsRoomy (made : ℕ) (book : Book) : Type 0 where
  pub versions : made ≤ 1000000
  pub sums : (k : Kind) → IsFew (sums_of book k)

-- the keys that are added with it under the policy, if the file has a name again or had one
abbrev pub coming : Rows → Policy → ℕ → Bool → List KeyChange
coming rows policy file again = new_keys rows.groups rows.files policy (is_live (world_of rows) file) file rows.moment again
