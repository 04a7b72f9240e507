-- What the fate of a held version depends on: what protects it, and its next newer version.
use Rattle.ele_model.proofs.Basics.{◌≡◌, ℕ, ◌||◌, List, [], ◌∷◌, refl, ap, sym, ◌∙◌, arith, find, nat_tests, find-filter_both}
use Rattle.ele_model.proofs.Words.{VersionRow, file_view, is_newer, is_newer_of, is_protected, is_version_of, is_marked, World, is_open}
use Rattle.std.specs.Prelude.{filter, map, slice_get}
use Rattle.std.specs.Option.{option_map}
use Rattle.ele_model.proofs.GroupMarks.{marks_tell}
use Rattle.ele_model.proofs.Readers.{numbers_are}
use Rattle.ele_model.specs.Fate.{newer_version, newer_versions}

-- it is protected if a handle reads it, or a mark covers it
pub protected_told : (w : World) (row : VersionRow) (at : ℕ) → is_protected (file_view w row.file) row at ≡ (is_open w.handles row.file row.number || is_marked w.groups row.file row.closed row.ended at)
protected_told w row at = rw (numbers_are w.handles row.file row.number, marks_tell w.groups row.file row.closed row.ended at) refl

-- ---- the next held version of a held one

-- it is the file's next row after the number
newer_found : (w : World) (row : VersionRow) → find (is_newer_of row.file row.number) w.versions ≡ find (is_newer row) (file_view w row.file).rows
newer_found w row = sym (find-filter_both (is_newer row) (is_version_of row.file) w.versions)

-- and the first of the newer versions
first_newer : (rows : List VersionRow) (row : VersionRow) → slice_get (map newer_version (filter (is_newer row) rows)) 0 ≡ option_map newer_version (find (is_newer row) rows)
first_newer [] row = refl
first_newer (x ∷ xs) row = grind (arith, nat_tests, first_newer xs row)

pub nearest_newer : (w : World) (row : VersionRow) → slice_get (newer_versions (file_view w row.file) row) 0 ≡ option_map newer_version (find (is_newer_of row.file row.number) w.versions)
nearest_newer w row = first_newer (file_view w row.file).rows row ∙ ap (option_map newer_version) (sym (newer_found w row))
