-- The scan has each key once, in order, and a key exactly if its version is held and due, and ripe at the key's moment.
use Rattle.std.specs.Prelude.{◌≡◌, ◌==◌, ◌&&◌, Bool, false, find}
use Rattle.std.specs.List.Sorted.{IsStrictlySortedBy}
use Rattle.std.specs.Option.{option_map_or}
use Rattle.ele_due.specs.declared.key.Key.{Key}
use Rattle.ele_due.specs.HasKey.{has_key}
use Rattle.ele_model.specs.declared.rows.VersionRow.{VersionRow}
use Rattle.ele_model.specs.Due.{is_due_at, ripe_of}
use Rattle.ele_model.specs.Scan.{key_cmp, scan}
use Rattle.ele_model.specs.WellFormed.{IsWellFormed}
use Rattle.ele_model.specs.World.{World, is_version}

abbrev pub is_due_from : World → Key → VersionRow → Bool
is_due_from w key row = is_due_at w row w.now && option_map_or (λ ripe. ripe == key.ripe) (ripe_of w row) false

pub record ListsDue (w : World) : Type 0 where
  pub in_order : IsStrictlySortedBy key_cmp (scan w)
  pub each : (key : Key) → has_key key (scan w) ≡ option_map_or (is_due_from w key) (find (is_version key.file key.number) w.versions) false

abbrev pub ScanLists : Type 0
ScanLists = (w : World) → IsWellFormed w → ListsDue w
