-- The scan is in order, and has a key exactly if its version is due from then on.
use Rattle.ele_model.proofs.Basics.{nat_tests, arith, ◌≡◌, ℕ, ◌==◌, ◌&&◌, ◌||◌, ◌∙◌, Bool, true, false, List, [], ◌∷◌, Option, Some, None, refl, cond, cons_option, option_map, find, AllByRecursion, AllLater, all-weaker, not_found, filter_map, option_map_or}
use Rattle.ele_model.proofs.Words.{World, Key, ArePlaced, Versions, has_key, is_key, is_version, key_of, HasParts}
use Rattle.std.proofs.Math.Bool.{or-false}
use Rattle.ele_model.specs.Due.{is_due_at, ripe_of}
use Rattle.ele_model.specs.Scan.{due_key, scan}
use Rattle.ele_headline.specs.ScanLists.{is_due_from, ListsDue}
use Rattle.ele_due.proofs.Members.{has_key-in_order}
use Rattle.ele_due.proofs.Ordered.{IsInOrder-in_order}
use Rattle.ele_headline.proofs.Words.{VersionRow}

-- ---- the keys of rows that are due

module _ (w : World) (key : Key) where
  -- the row's own key
  own_key : (row : VersionRow) → option_map_or (is_key key) (due_key w row) false ≡ (is_version key.file key.number row && is_due_from w key row)
  unfolding due_key
  own_key row = by (is_due_at w row w.now) (ripe_of w row) where
    by : (due : Bool) (ripe : Option ℕ) → option_map_or (is_key key) (cond due (option_map (key_of row) ripe) None) false ≡ (is_version key.file key.number row && (due && option_map_or (λ ripe. ripe == key.ripe) ripe false))
    by true (Some ripe) = grind (arith, nat_tests)
    by true None = grind (arith, nat_tests)
    by false ripe = grind (arith, nat_tests)

  has-cons : (found : Option Key) (keys : List Key) → has_key key (cons_option found keys) ≡ (option_map_or (is_key key) found false || has_key key keys)
  has-cons None keys = refl
  has-cons (Some k) keys = refl

  none_behind : (row : VersionRow) (rows : List VersionRow) → is_version key.file key.number row ≡ true → AllByRecursion (ArePlaced row) rows → find (is_version key.file key.number) rows ≡ None
  none_behind row rows is placed = not_found (is_version key.file key.number) rows (all-weaker (ArePlaced row) (λ later. is_version key.file key.number later ≡ false) rows (λ later after. grind (arith, nat_tests, is, after.after)) placed)

  keyed : (rows : List VersionRow) → AllLater ArePlaced rows → has_key key (filter_map (due_key w) rows) ≡ option_map_or (is_due_from w key) (find (is_version key.file key.number) rows) false
  keyed [] placed = refl
  keyed (row ∷ rows) placed = has-cons (due_key w row) (filter_map (due_key w) rows) ∙ rw (own_key row, keyed rows placed.1) (by (is_version key.file key.number row) refl) where
    by : (b : Bool) → is_version key.file key.number row ≡ b → ((b && is_due_from w key row) || option_map_or (is_due_from w key) (find (is_version key.file key.number) rows) false) ≡ option_map_or (is_due_from w key) (cond b (Some row) (find (is_version key.file key.number) rows)) false
    by true is = rw (none_behind row rows is placed.0) (or-false (is_due_from w key row))
    by false is = refl

pub scan_lists : (w : World) → HasParts w → ListsDue w
unfolding scan
scan_lists w k = record { in_order = IsInOrder-in_order (filter_map (due_key w) w.versions); each = λ key. has_key-in_order key (filter_map (due_key w) w.versions) ∙ keyed w key w.versions (k.holds Versions).placed }
