-- Places that rows add to others. No public clause cites this module.
use Rattle.std.specs.Prelude.{ℕ, ◌==◌, Bool, false, not, List, length, filter, slice_get}
use Rattle.std.specs.List.{list_any}
use Rattle.std.specs.Option.{option_map_or}
use Rattle.ele_content.specs.declared.cell.Cell.{Cell}
use Rattle.ele_content.specs.Place.{Place, is_place, different}
use Rattle.ele_model.specs.declared.rows.VersionRow.{VersionRow}
use Rattle.ele_model.specs.declared.rows.DraftRow.{DraftRow}
use Rattle.ele_model.specs.Usage.{places}

-- the cells have that slot, written by that version
abbrev pub has_slot : List Cell → ℕ → ℕ → Bool
has_slot cells slot writer = option_map_or (λ cell. cell.writer == writer) (slice_get cells slot) false

-- the place is one of the list
abbrev pub is_among : List Place → Place → Bool
is_among places place = list_any (λ p. is_place p place) places

-- how many of the places aren't among the others
abbrev pub new_places : List Place → List Place → ℕ
new_places others places = length (filter (λ place. not (is_among others place)) places)

-- how many different places the rows of the files that pass have
abbrev pub different_of : (ℕ → Bool) → List VersionRow → List DraftRow → ℕ
different_of t versions drafts = different is_place (places (filter (λ row. t row.file) versions) (filter (λ row. t row.file) drafts))
