-- The slots in the set, each with the version that wrote it. No public clause cites this module.
use Rattle.std.specs.Prelude.{◌≡◌, ℕ, ◌==◌, ◌&&◌, Bool, List, ◌++◌, length}
use Rattle.std.specs.List.{flat_map, list_any, sum_by}
use Rattle.ele_blocks.specs.Layout.{shown}
use Rattle.ele_blocks.specs.Store.{Store}
use Rattle.ele_content.specs.Place.{Place, different, is_place}
use Rattle.ele_inode_log.specs.declared.row.VersionRow as log
use Rattle.ele_model.specs.NewPlaces.{is_among}
use Rattle.ele_model.specs.Usage.{places_from}

abbrev pub is_key : ℕ → ℕ → ℕ × ℕ → Bool
is_key slot writer key = (slot == key.0) && (writer == key.1)

-- the keys are those of the file's places, and as many as these are different
pub record Counts (file : ℕ) (keys : List (ℕ × ℕ)) (places : List Place) : Type 0 where
  pub count : length keys ≡ different is_place places
  pub has : (slot writer : ℕ) → list_any (is_key slot writer) keys ≡ is_among places (record { file = file; slot = slot; writer = writer })

-- the file's places are added after those that are in the set
abbrev pub Meets : ℕ → List (ℕ × ℕ) → List (ℕ × ℕ) → List Place → Type 0
Meets file was now places = (before : List Place) → Counts file was before → Counts file now (before ++ places)

-- the places of the rows of the file's log
abbrev pub log_places : Store → List log.VersionRow → ℕ → List Place
log_places s rows file = flat_map (λ row. places_from file 0 (shown s row.cells)) rows

-- how many bytes the rows have; each row counts as a whole
abbrev pub log_bytes : List log.VersionRow → ℕ
log_bytes rows = sum_by (λ row. row.cells.size) rows
