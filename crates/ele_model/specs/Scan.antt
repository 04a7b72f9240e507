-- The scan: the keys of all versions that are due, in order.
use Rattle.std.specs.Prelude.{ℕ, List, Option, None, slice_get, if◌then◌else◌}
use Rattle.std.specs.List.{filter_map}
use Rattle.std.specs.Option.{option_map}
use Rattle.ele_due.specs.declared.key.Key.{Key}
pub use Rattle.ele_due.specs.Key.{key_cmp}
pub use Rattle.ele_due.specs.InOrder.{in_order}
use Rattle.ele_model.specs.declared.rows.VersionRow.{VersionRow}
use Rattle.ele_model.specs.World.{World}
use Rattle.ele_model.specs.Due.{is_due_at, ripe_of}

abbrev pub key_of : VersionRow → ℕ → Key
key_of row ripe = record { ripe = ripe; file = row.file; number = row.number }

-- the key of the row, if it is due
unfoldable pub due_key : World → VersionRow → Option Key
due_key w row = if is_due_at w row w.now then option_map (key_of row) (ripe_of w row) else None

-- the keys of the rows that are due now
unfoldable pub scan : World → List Key
scan w = in_order (filter_map (due_key w) w.versions)

-- the first of them
abbrev pub first_due : World → Option Key
first_due w = slice_get (scan w) 0
