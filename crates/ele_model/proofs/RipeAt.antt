-- The ripe moment of a version that is found by its number, and the scan as the moments up to now.
use Rattle.ele_model.proofs.Basics.{◌≡◌, ℕ, ◌≤◌, Bool, true, false, ◌&&◌, ◌++◌, List, [], ◌∷◌, Option, Some, None, refl, ap, ◌∙◌, arith, find, nat_le, option_and_then, AllByRecursion, filter_map, list_any, option_map_or, nat_tests, AllLater, found_passes, find-filter_both}
use Rattle.ele_model.proofs.Words.{Time, after_change, Key, has_key, is_key, is_ripe_by, last_moment, MarkRow, Policy, candidates, earliest_of, ends_over, VersionRow, ripe_at, is_moment, FileView, file_view, is_version_of, is_numbered, due_in, ripe_in, IsDueFromRipe, ArePlaced, HasParts, World, is_version}
use Rattle.ele_model.specs.Due.{is_due, is_due_at, ripe_of}
use Rattle.ele_model.specs.RipeRows.{ripe_numbered}
use Rattle.ele_model.specs.Scan.{due_key}
use Rattle.ele_policy.proofs.Earliest.{earliest_same}
use Rattle.ele_model.proofs.RipeMoments.{ripens}
use Rattle.ele_model.proofs.Views.{now_of, placed_of}

pub ripe_at_is : (w : World) (file number : ℕ) → ripe_at w file number ≡ option_and_then (ripe_of w) (find (is_version file number) w.versions)
unfolding ripe_numbered ripe_of
ripe_at_is w file number = ap (option_and_then (ripe_in (file_view w file))) (find-filter_both (is_numbered number) (is_version_of file) w.versions) ∙ by (find (is_version file number) w.versions) refl where
  by : (o : Option VersionRow) → find (is_version file number) w.versions ≡ o → option_and_then (ripe_in (file_view w file)) o ≡ option_and_then (λ row. ripe_in (file_view w row.file) row) o
  by None e = refl
  by (Some row) e = let same : file ≡ row.file = grind (arith, nat_tests, found_passes (is_version file number) w.versions row e) in ap (λ f. ripe_in (file_view w f) row) same

-- a version without an end has none
pub unended : (v : FileView) (row : VersionRow) → row.ended ≡ None → ripe_in v row ≡ None
unended v row none = grind (arith, nat_tests)

-- a version is due from it on
pub is_due_is : (w : World) (file number : ℕ) → HasParts w → is_due w file number ≡ option_map_or (λ m. nat_le m w.now) (ripe_at w file number) false
unfolding is_due
is_due_is w file number k = grind (arith, nat_tests, ripe_at_is, ripens w k, now_of)

-- ---- the ripe moment is determined by the moments at which the version is due

-- the earliest of the moments that these parts name
abbrev by_parts : FileView → VersionRow → Option Policy → Option ℕ → List MarkRow → Option ℕ
by_parts v row p e marks = option_and_then (λ policy. option_and_then (λ ended. earliest_of (due_in v row) (candidates policy ended ++ ends_over row.closed row.ended marks)) e) p

pub ripe_same : (v u : FileView) (row : VersionRow) → u.policy ≡ v.policy → u.marks ≡ v.marks → ((at : ℕ) → at ≤ last_moment → due_in u row at ≡ due_in v row at) → ripe_in u row ≡ ripe_in v row
ripe_same v u row policy marks same =
    ap (λ p. by_parts u row p row.ended u.marks) policy ∙ ap (by_parts u row v.policy row.ended) marks ∙ by v.policy row.ended where
      by : (p : Option Policy) (e : Option ℕ) → by_parts u row p e v.marks ≡ by_parts v row p e v.marks
      by None e = refl
      by (Some policy) None = refl
      by (Some policy) (Some ended) = earliest_same (due_in u row) (due_in v row) same (candidates policy ended ++ ends_over row.closed row.ended v.marks)

-- ---- the keys of the scan

pub any-filter_map : {X Y : Type 0} (t : Y → Bool) (h : X → Option Y) (xs : List X) → list_any t (filter_map h xs) ≡ list_any (λ x. option_map_or t (h x) false) xs
any-filter_map t h [] = refl
any-filter_map {X} {Y} t h (x ∷ xs) = grind (arith, nat_tests, any-filter_map t h xs)

-- of rows apart at most one has the number
module _ (file number : ℕ) (g h : VersionRow → Bool) (same : (x : VersionRow) → h x ≡ (is_version file number x && g x)) where
  none-numbered : (x : VersionRow) (ys : List VersionRow) → is_version file number x ≡ true → AllByRecursion (ArePlaced x) ys → list_any h ys ≡ false
  none-numbered x [] e all = refl
  none-numbered x (y ∷ ys) e all = grind (arith, nat_tests, same y, all.0.after, none-numbered x ys e all.1)

  any-numbered : (xs : List VersionRow) → AllLater ArePlaced xs → list_any h xs ≡ option_map_or g (find (is_version file number) xs) false
  any-numbered [] placed = refl
  any-numbered (x ∷ xs) placed = grind (arith, nat_tests, same x, none-numbered x xs, any-numbered xs placed.1)

-- a row has the key if its number is the key's and its moment, up to now, is the key's too
has_due_key : (w : World) (k : Key) (row : VersionRow) → w.now ≤ last_moment → IsDueFromRipe w row → option_map_or (is_key k) (due_key w row) false ≡ (is_version k.file k.number row && (is_ripe_by w.now k && is_moment k.ripe (ripe_of w row)))
unfolding due_key
has_due_key w k row fits from = grind (arith, nat_tests)

-- the due rows have just the keys whose moment is up to now: each row is due from its ripe moment on
pub scan_members_from : (w : World) → w.now ≤ last_moment → ((row : VersionRow) → IsDueFromRipe w row) → AllLater ArePlaced w.versions → (k : Key)
    → has_key k (filter_map (due_key w) w.versions) ≡ (is_ripe_by w.now k && is_moment k.ripe (ripe_at w k.file k.number))
scan_members_from w fits from placed k =
    let rows = any-numbered k.file k.number (λ row. is_ripe_by w.now k && is_moment k.ripe (ripe_of w row)) (λ row. option_map_or (is_key k) (due_key w row) false) (λ row. has_due_key w k row fits (from row)) w.versions placed in
    grind (arith, nat_tests, any-filter_map (is_key k) (due_key w) w.versions, rows, ripe_at_is)

pub scan_members : (w : World) → HasParts w → (k : Key) → has_key k (filter_map (due_key w) w.versions) ≡ (is_ripe_by w.now k && is_moment k.ripe (ripe_at w k.file k.number))
scan_members w formed k = scan_members_from w (now_of w formed) (ripens w formed) (placed_of w formed) k

-- the same rows at any other moment: nothing but the moment decides
pub scan_members_at : (w : World) (at : ℕ) → HasParts w → at ≤ last_moment → (k : Key)
    → has_key k (filter_map (due_key (after_change w (Time at))) w.versions) ≡ (is_ripe_by at k && is_moment k.ripe (ripe_at w k.file k.number))
unfolding is_due_at ripe_of
scan_members_at w at formed fits k = scan_members_from (after_change w (Time at)) fits (λ row. ripens w formed row) (placed_of w formed) k
